use Rattle.std.proofs.Common.{◌≡◌, ◌++◌, ℕ, drop, take}
use Rattle.tuple_toaster.specs.Pushed.{put_before}
use Rattle.plain_stream.proofs.pushed.place_for.Given as goal

abbrev pub invariant-loop-at : goal.invariant-loop-at
invariant-loop-at l = (column : ℕ) → put_before (column, l.size) l.candidates ≡ take l.at l.candidates ++ put_before (column, l.size) (drop l.at l.candidates)
