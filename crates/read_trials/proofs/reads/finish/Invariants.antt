use Rattle.std.specs.Prelude.{IsSome}
use Rattle.read_steps.specs.Reads.{CanRead, read_left, reply_of}
use Rattle.read_trials.proofs.reads.finish.Given as goal

abbrev pub invariant-loop-read : goal.invariant-loop-read
invariant-loop-read g l = record {
  can : CanRead l.store l.read;
  comes : IsSome (reply_of l.store l.read);
}

abbrev pub decreases-loop-read : goal.decreases-loop-read
decreases-loop-read g l = read_left l.store.index.entries l.read
