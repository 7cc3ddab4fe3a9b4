use Rattle.std.proofs.Common.{ℕ, ◌+◌, List, sym, ap, ◌∙◌, subst}
use Rattle.std.specs.Prelude.{slice_index_or}
use Rattle.tuple_layout.specs.declared.cell.Cell.TheVariants.{Out}
use Rattle.tuple_layout.specs.declared.cell.Stored.{Stored}
use Rattle.write_steps.specs.Writes.{column_at, with_cell}
use Rattle.write_steps.specs.Standing.{CanPush}
use Rattle.write_steps.proofs.Plans.{push_with}
use Rattle.write_steps.proofs.job.pass_on.Goals as goal

pub saving_from-requires : goal.saving_from-requires
saving_from-requires c =
    let row =
    c.with_cell-new.ensures.row
    ∙ ap (λ (stored : Stored). with_cell stored (slice_index_or c.as_slice.result.now c.args.at 0) (Out c.args.pointer)) c.taken.ensures
    ∙ ap (λ (columns : List ℕ). with_cell c.args.new.now (slice_index_or columns c.args.at 0) (Out c.args.pointer)) c.as_slice.ensures.all in
    subst (λ (stored : Stored). CanPush stored c.args.plan (c.args.at + 1)) (sym row) (push_with c.args.new.now c.args.plan c.args.at (column_at c.args.plan c.args.at) (Out c.args.pointer) c.requires.here c.requires.there c.requires.later)
