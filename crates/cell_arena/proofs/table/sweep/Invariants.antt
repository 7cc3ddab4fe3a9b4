use Rattle.cell_arena.specs.Sweeps.{AreSwept}
use Rattle.cell_arena.proofs.table.sweep.Given as goal

abbrev pub invariant-loop-place : goal.invariant-loop-place
invariant-loop-place l = AreSwept l.fn.entries l.keep l.place l.swept l.entries
