use Rattle.std.proofs.Common.{◌≡◌, false}
use Rattle.turn_hall.specs.Passes.{IsPassOf}
use Rattle.turn_hall.proofs.tests.add_hundred.Given as goal

abbrev pub invariant-loop-number : goal.invariant-loop-number
invariant-loop-number g l = IsPassOf l.hall l.pass × (l.pass.turn ≡ false)
