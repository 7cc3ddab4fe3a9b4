use Rattle.std.proofs.Common.{sym, subst}
use Rattle.tuple_layout.specs.declared.cell.Stored.{Stored}
use Rattle.toast_store.specs.Saves.{Saving}
use Rattle.write_steps.specs.Writes.{new_save}
use Rattle.write_steps.specs.Standing.{IsSavingAt}
use Rattle.write_steps.proofs.Plans.{saving_at}
use Rattle.write_steps.proofs.next.saving_from.Goals as goal

pub returns-clause-own : goal.returns-clause-own
returns-clause-own c =
    subst (λ (s : Saving). IsSavingAt c.args.owner c.with_cell-new.result.0 c.args.plan c.args.at s) (sym c.new-save.ensures.save)
    (subst (λ (row : Stored). IsSavingAt c.args.owner row c.args.plan c.args.at (new_save c.args.owner c.bytes_of.result)) (sym c.with_cell-new.ensures.row)
    (saving_at c.args.owner c.args.new c.args.plan c.args.at c.in-Some.column c.bytes_of.result (sym c.in-Some.ensures) c.requires))
