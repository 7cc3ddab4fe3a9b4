use Rattle.std.proofs.Common.{◌≡◌, ◌++◌, drop}
use Rattle.std.specs.Prelude.{map as mapped, nat_le}
use Rattle.tuple_layout.specs.Sizes.{widths}
use Rattle.tuple_toaster.specs.Pushed.{is_among, pushed, shortest, size_with, tuple_target}
use Rattle.plain_stream.proofs.pushed.pushed.Given as goal

abbrev pub invariant-loop-candidate : goal.invariant-loop-candidate
invariant-loop-candidate l =
    l.out ++ shortest (λ out. nat_le (size_with l.schema (widths l.row (is_among l.kept)) out) tuple_target) l.out (mapped (λ c. c.0) (drop l.candidate-index l.candidate-items))
    ≡ pushed l.schema (widths l.row (is_among l.kept)) tuple_target
