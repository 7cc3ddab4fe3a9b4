use Rattle.std.proofs.Common.{◌≡◌, ◌∙◌, arith, ap, sym, subst, Some, List, true}
use Rattle.turn_hall.specs.Passes.{Entry, Extends}
use Rattle.turn_hall.proofs.Moves.{releases_at, one_slot}
use Rattle.turn_hall.proofs.hall.Hall.give.Goals as goal

pub store-requires : goal.store-requires
store-requires g c =
    let shape = c.self.invariant in
    let seat = c.pass.inside.seat in
    let is = c.pass.view_is in
    let put = c.exchange.ensures in
    let count = c.count-word.ensures in
    let same_table : seat.table_id ≡ c.self.inside.table.shared.table_id = ap (λ t. t.hall) is ∙ c.requires.own.0 ∙ sym (ap (λ h. h.table) c.self.view_is) in
    let turn : seat.me.0.turn ≡ true = ap (λ t. t.turn) is ∙ c.requires.turn in
    let slot = one_slot seat.me c.pass.invariant turn in
    let fixed : seat.me.0.fixed ≡ Some (g.V.Counted.fixed c.args.value) = ap (λ t. t.fixed) is ∙ c.requires.own.1 ∙ ap Some (sym c.requires.fixed) in
    let history = subst (λ (l : List Entry). Extends l (g.V.Counted.entries c.args.value)) (sym (ap (λ t. t.seen) is)) c.requires.history in
    (rw put.0 same_table, omega (arith, shape.0), releases_at _ _ _ _ c.exchange.new.seat.id seat.me c.exchange.new.seat.me _ c.args.value _ shape.1 slot put.3 count.count count.short turn fixed history)
