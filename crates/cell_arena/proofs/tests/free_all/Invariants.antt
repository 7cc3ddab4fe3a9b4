use Rattle.cell_arena.specs.Held.{AreHeld}
use Rattle.cell_arena.proofs.tests.free_all.Given as goal

abbrev pub invariant-loop-k : goal.invariant-loop-k
invariant-loop-k g l = AreHeld l.arena.cells l.ids
