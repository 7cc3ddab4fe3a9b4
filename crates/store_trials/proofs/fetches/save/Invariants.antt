use Rattle.xact_status.specs.Xacts.{Xacts, IsAssigned}
use Rattle.chunk_relation.specs.Relations.{AreAssigned}
use Rattle.store_trials.proofs.fetches.save.Given as goal

abbrev pub invariant-loop-seq : goal.invariant-loop-seq
invariant-loop-seq g l = (xacts : Xacts) → IsAssigned xacts 3 → AreAssigned xacts l.initial.store.rel.pages → AreAssigned xacts l.store.rel.pages
