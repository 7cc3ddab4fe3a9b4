use Rattle.std.proofs.Common.{◌≡◌, rules, Some, ◌∙◌, arith, ap, sym}
use Rattle.turn_hall.proofs.Moves.{tries_at, front}
use Rattle.turn_hall.proofs.hall.Hall.try_take.Goals as goal

pub fetch_or-word-requires : goal.fetch_or-word-requires
fetch_or-word-requires g c =
    let shape = c.self.invariant in
    let same_table : c.pass.inside.seat.table_id ≡ c.self.inside.table.shared.table_id = ap (λ t. t.hall) c.pass.view_is ∙ c.requires.0 ∙ sym (ap (λ h. h.table) c.self.view_is) in
    (same_table, omega (arith, shape.0), tries_at _ _ _ _ _ _ shape.1)

pub exchange-requires : goal.exchange-requires
exchange-requires g c =
    let found = c.fetch_or-word.ensures in
    let won = found.2.1 (search rules) in
    let same_table : c.pass.inside.seat.table_id ≡ c.self.inside.table.shared.table_id = ap (λ t. t.hall) c.pass.view_is ∙ c.requires.0 ∙ sym (ap (λ h. h.table) c.self.view_is) in
    (found.0 ∙ same_table, (Some won.1, front _ _ _ won.3))
