use Rattle.std.proofs.Common.{◌≡◌, length}
use Rattle.read_trials.proofs.reads.value_of.Given as goal

abbrev pub invariant-loop-at : goal.invariant-loop-at
invariant-loop-at l = length l.value ≡ l.at
