use Rattle.std.proofs.Common.{◌≡◌, ◌+◌, ℕ, Bool, drop}
use Rattle.std.specs.List.{list_any}
use Rattle.tuple_layout.specs.Sizes.{is_missing, widths}
use Rattle.tuple_toaster.specs.Pushed.{moved}
use Rattle.plain_stream.proofs.Widths.{besides_from}
use Rattle.plain_stream.proofs.pushed.has_null.Given as goal

abbrev pub invariant-loop-at : goal.invariant-loop-at
invariant-loop-at l = (kept : ℕ → Bool) → list_any is_missing (besides_from kept l.out (l.at + 1) (drop l.at l.row)) ≡ list_any is_missing (moved l.out (widths l.row kept))
