use Rattle.std.proofs.Common.{◌≤◌, ◌-◌, length, take}
use Rattle.std.specs.Io.KnownBytes.{Appends}
use Rattle.toast_io.specs.Faults.{NeverFalls}
use Rattle.toast_io.proofs.whole.write_all.Given as goal

-- the bytes before `at` were written
abbrev pub invariant-loop-at : goal.invariant-loop-at
invariant-loop-at g l = record {
  within : l.at ≤ length l.bytes;
  written : Appends (g.K.Sink.written l.initial.sink) (g.K.Sink.written l.sink) (take l.at l.bytes);
  count : NeverFalls (g.K.Sink.faults l.initial.sink) (g.K.Sink.faults l.sink);
}

abbrev pub decreases-loop-at : goal.decreases-loop-at
decreases-loop-at g l = length l.bytes - l.at
