-- The entries so far are few, short and within their ranges.
use Rattle.std.proofs.Common.{◌≤◌, ◌*◌, length, sum_by}
use Rattle.std.specs.List.{All}
use Rattle.decode_stream.proofs.Bounds.{IsRanged, weight}
use Rattle.stream_trials.proofs.decodings.logged.Given as goal

abbrev pub invariant-loop-line : goal.invariant-loop-line
invariant-loop-line g l = record {
  ranged : All IsRanged l.log.entries;
  few : length l.log.entries ≤ 1000;
  short : sum_by weight l.log.entries ≤ 1000 * length l.log.entries;
}
