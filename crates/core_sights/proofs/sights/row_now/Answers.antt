use Rattle.std.proofs.Common.{FitsSigned, ap, arith, w64, ◌∙◌}
use Rattle.std.proofs.lemmas.Int.{ints, to_z-of_z}
use Rattle.core_state.specs.State.{xid_of}
use Rattle.core_parts.specs.contracts.parts.CoreParts.{the_view}
use Rattle.core_sights.proofs.Looks.{assigned_by, now_by, stored_by}
use Rattle.core_sights.proofs.sights.row_now.Goals as goal

pub current_row-requires-clause-assigned : goal.current_row-requires-clause-assigned
current_row-requires-clause-assigned c = assigned_by c.args.core.now (the_view c.core.inside) c.args.session c.args.table c.table_at.result.now c.core.view_is c.requires c.table_at.ensures

pub current_row-requires-clause-stored : goal.current_row-requires-clause-stored
current_row-requires-clause-stored c = stored_by c.args.core.now c.args.session c.args.table c.table_at.result.now c.requires c.table_at.ensures

pub returns : goal.returns
returns c =
    let fits : FitsSigned w64 c.args.key.now = omega (arith, ints) in
    now_by c.args.core.now (the_view c.core.inside) c.args.session c.args.table c.table_at.result.now c.xid_of-own.result c.args.key.now _ c.current_row.result c.core.view_is c.requires c.table_at.ensures (c.xid_of-own.ensures ∙ ap xid_of c.state.ensures)
    (to_z-of_z w64 c.args.key.now fits) c.current_row.ensures
