use Rattle.std.proofs.Common.{◌≡◌, [], ◌∷◌, Some, refl}
use Rattle.turn_hall.proofs.Moves.{begins}
use Rattle.turn_hall.proofs.hall.Hall.new.Goals as goal

pub new-requires : goal.new-requires
new-requires g c =
    let count = c.count-word.ensures in
    let pushed : c.push.new.self.items ≡ Some c.args.value ∷ [] = rw (c.in_ok-push.ensures.items, c.new-slots.ensures.items) refl in
    begins _ _ _ _ _ c.args.value count.count count.short pushed c.of-first.ensures
