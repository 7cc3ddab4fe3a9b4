use Rattle.xact_status.specs.Xacts.{Xacts}
use Rattle.read_trials.specs.Readers.{AreAlive, AreGiven}
use Rattle.read_trials.proofs.reads.two_leaves.Given as goal

abbrev pub invariant-loop-seq : goal.invariant-loop-seq
invariant-loop-seq g l = (xacts : Xacts) → AreGiven xacts → AreAlive xacts 16385 l.store
