use Rattle.std.proofs.Common.{FitsSigned, ap, arith, w64, ◌∙◌}
use Rattle.std.proofs.lemmas.Int.{ints, to_z-of_z}
use Rattle.core_state.specs.State.{xid_of}
use Rattle.core_parts.specs.contracts.parts.CoreParts.{the_view}
use Rattle.core_sights.proofs.Looks.{assigned_by, shown_by, stored_by}
use Rattle.core_sights.proofs.sights.row_shown.Goals as goal

pub seen_row-requires-clause-assigned : goal.seen_row-requires-clause-assigned
seen_row-requires-clause-assigned c = assigned_by c.args.core.now (the_view c.core.inside) c.args.session c.args.table c.table_at.result.now c.core.view_is c.requires.look c.table_at.ensures

pub seen_row-requires-clause-stored : goal.seen_row-requires-clause-stored
seen_row-requires-clause-stored c = stored_by c.args.core.now c.args.session c.args.table c.table_at.result.now c.requires.look c.table_at.ensures

pub returns : goal.returns
returns c =
    let fits : FitsSigned w64 c.args.key.now = omega (arith, ints) in
    shown_by c.args.core.now (the_view c.core.inside) c.args.session c.args.table c.args.snapshot c.table_at.result.now c.xid_of-own.result c.args.key.now _ c.seen_row.result c.core.view_is c.requires.look c.requires.snapshot c.table_at.ensures
    (c.xid_of-own.ensures ∙ ap xid_of c.state.ensures) (to_z-of_z w64 c.args.key.now fits) c.seen_row.ensures
