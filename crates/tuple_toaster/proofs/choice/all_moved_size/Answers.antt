use Rattle.std.proofs.Common.{List, ℕ, ap, ◌∙◌}
use Rattle.tuple_layout.specs.Tuples.{cell_widths}
use Rattle.tuple_toaster.specs.Pushed.{size_with}
use Rattle.tuple_toaster.proofs.Walks.{pushed_all}
use Rattle.tuple_toaster.proofs.choice.all_moved_size.Goals as goal

pub returns : goal.returns
returns c =
    let schema = c.args.schema.now.storages in
    let ws = cell_widths c.args.cells.now in
    c.size_with.ensures ∙ ap (λ (out : List ℕ). size_with schema ws out) (c.choose-out.ensures ∙ pushed_all schema ws)
