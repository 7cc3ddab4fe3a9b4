use Rattle.heap_prune.specs.Prunes.{AreAssigned}
use Rattle.heap_prune.specs.declared.tests.Mark.{Mark}
use Rattle.heap_prune.proofs.tests.dead_slots.Given as goal

abbrev pub invariant-loop-inserter : goal.invariant-loop-inserter
invariant-loop-inserter g l = AreAssigned (λ (mark : Mark). mark.stamp) l.xacts l.pages
