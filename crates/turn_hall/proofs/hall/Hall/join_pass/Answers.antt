use Rattle.std.proofs.Common.{◌≡◌, ap, ◌∙◌, arith, sym}
use Rattle.turn_hall.proofs.Moves.{settles}
use Rattle.turn_hall.proofs.hall.Hall.join_pass.Goals as goal

pub load-requires : goal.load-requires
load-requires g c =
    let shape = c.self.invariant in
    let same_table : c.pass.inside.seat.table_id ≡ c.self.inside.table.shared.table_id = ap (λ t. t.hall) c.pass.view_is ∙ c.requires.own.0.0 ∙ sym (ap (λ h. h.table) c.self.view_is) in
    (c.join_seat.ensures.0 ∙ same_table, omega (arith, shape.0), settles _ _ _ _ _ _)
