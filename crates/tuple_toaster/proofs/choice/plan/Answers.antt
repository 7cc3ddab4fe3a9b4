use Rattle.std.proofs.Common.{◌≡◌, ◌<◌, List, ℕ, ap, ◌∙◌, arith}
use Rattle.tuple_layout.specs.Tuples.{cell_widths}
use Rattle.tuple_toaster.specs.Pushed.{size_with, pushed}
use Rattle.tuple_toaster.proofs.Walks.{large_has_all}
use Rattle.tuple_toaster.proofs.choice.plan.Goals as goal

pub returns-then-size-gt-LARGEST_TUPLE-clause-all_out :
    goal.returns-then-size-gt-LARGEST_TUPLE-clause-all_out
returns-then-size-gt-LARGEST_TUPLE-clause-all_out c = λ small.
    let schema = c.args.schema.now.storages in
    let ws = cell_widths c.args.cells.now in
    let size : c.size_with-size.result ≡ size_with schema ws (pushed schema ws c.args.target) = c.size_with-size.ensures ∙ ap (λ (out : List ℕ). size_with schema ws out) c.choose-out.ensures in
    let large : c.args.target < size_with schema ws (pushed schema ws c.args.target) = omega (arith, size, c.if-size-gt-LARGEST_TUPLE.true) in
    size ∙ large_has_all schema ws c.args.target large
