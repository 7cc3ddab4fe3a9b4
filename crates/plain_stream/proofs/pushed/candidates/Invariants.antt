use Rattle.std.proofs.Common.{◌≡◌, ◌≤◌, ◌+◌, drop, length}
use Rattle.tuple_toaster.specs.Pushed.{eligible_from, is_among}
use Rattle.plain_stream.proofs.Widths.{widths_from}
use Rattle.plain_stream.proofs.pushed.candidates.Given as goal

abbrev pub invariant-loop-at : goal.invariant-loop-at
invariant-loop-at l = record {
  within_schema : l.at ≤ length l.schema;
  within_row : l.at ≤ length l.row;
  so_far : l.all.items ≡ eligible_from (l.at + 1) (drop l.at l.schema) (widths_from (is_among l.kept) (l.at + 1) (drop l.at l.row));
}

abbrev pub decreases-loop-at : goal.decreases-loop-at
decreases-loop-at l = l.at
