use Rattle.std.proofs.Common.{◌≡◌, ◌+◌, ◌<◌, length}
use Rattle.std.specs.Io.KnownBytes.{Consumes}
use Rattle.toast_io.specs.Faults.{NeverFalls}
use Rattle.toast_io.proofs.whole.read_by_pieces.Given as goal

-- `bytes` is what was taken, and `room` what may still be kept
abbrev pub invariant-loop-bytes : goal.invariant-loop-bytes
invariant-loop-bytes g l = record {
  taken : Consumes (g.S.Source.left l.initial.src) (g.S.Source.left l.src) l.bytes;
  room : length l.bytes + l.room ≡ l.limit;
  piece : 0 < length l.piece;
  count : NeverFalls (g.S.Source.faults l.initial.src) (g.S.Source.faults l.src);
}

abbrev pub decreases-loop-bytes : goal.decreases-loop-bytes
decreases-loop-bytes g l = l.room
