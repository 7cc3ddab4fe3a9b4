use Rattle.std.proofs.Common.{◌≡◌, ℕ, ◌%◌, List, ◌++◌, false}
use Rattle.std.specs.List.{All}
use Rattle.turn_hall.specs.Passes.{IsPassOf}
use Rattle.turn_hall.proofs.hall.Hall.take.Given as goal

abbrev pub invariant-loop : goal.invariant-loop
invariant-loop g l = record {
  own : IsPassOf l.self l.pass;
  idle : l.pass.turn ≡ false;
  missed : (misses : List ℕ) × All (λ n. n % 2 ≡ 1) misses × (l.pass ≡ record l.initial.pass { tries = l.initial.pass.tries ++ misses });
}
