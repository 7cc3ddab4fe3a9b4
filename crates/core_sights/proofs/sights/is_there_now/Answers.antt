use Rattle.std.proofs.Common.{FitsSigned, ap, arith, w64, ◌∙◌}
use Rattle.std.proofs.lemmas.Int.{ints, to_z-of_z}
use Rattle.core_state.specs.State.{xid_of}
use Rattle.core_parts.specs.contracts.parts.CoreParts.{the_view}
use Rattle.core_sights.proofs.Looks.{assigned_by}
use Rattle.core_sights.proofs.There.{there_by}
use Rattle.core_sights.proofs.sights.is_there_now.Goals as goal

pub current_row-requires : goal.current_row-requires
current_row-requires c = assigned_by c.args.core.now (the_view c.core.inside) c.args.session c.args.table c.table_at.result.now c.core.view_is c.requires c.table_at.ensures

pub returns-in-Some : goal.returns-in-Some
returns-in-Some c =
    let fits : FitsSigned w64 c.args.key.now = omega (arith, ints) in
    c.eq.ensures
    ∙ there_by c.args.core.now (the_view c.core.inside) c.args.session c.args.table c.table_at.result.now c.xid_of-own.result c.args.key.now _ c.in-Some.row c.args.tid c.core.view_is c.requires c.table_at.ensures (c.xid_of-own.ensures ∙ ap xid_of c.state.ensures)
    (to_z-of_z w64 c.args.key.now fits) c.in-Some.ensures.there
