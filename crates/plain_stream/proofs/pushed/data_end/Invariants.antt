use Rattle.std.proofs.Common.{◌≡◌, ◌≤◌, ◌+◌, ◌*◌, ◌^◌, drop}
use Rattle.tuple_layout.specs.Sizes.{data_end_from, widths}
use Rattle.tuple_toaster.specs.Pushed.{is_among, moved}
use Rattle.plain_stream.proofs.Widths.{besides_from}
use Rattle.plain_stream.proofs.pushed.data_end.Given as goal

abbrev pub invariant-loop-column : goal.invariant-loop-column
invariant-loop-column l = (l.at ≤ 8 + l.column * 2 ^ 65) × (data_end_from l.at (drop l.column l.schema) (besides_from (is_among l.kept) l.out (l.column + 1) (drop l.column l.row)) ≡ data_end_from 8 l.schema (moved l.out (widths l.row (is_among l.kept))))
