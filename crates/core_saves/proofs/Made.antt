-- What a write's step has told of its parts is told of those that the core's line makes.
use Rattle.std.proofs.Common.{ap, refl, subst, ℕ, ◌∙◌}
use Rattle.change_log.specs.Logs.{LogState}
use Rattle.value_ids.specs.Ids.{Pool}
use Rattle.row_versions.specs.Relations.{Relation}
use Rattle.write_steps.specs.Steps.{IsWriteLeft, WriteSteps}
use Rattle.write_steps.specs.Writes.{Parts, Writing, answer_at, ids_at, parts_of, rows_at, write_after}
use Rattle.write_steps.specs.declared.stage.WriteStep.{WriteStep}
use Rattle.core_state.specs.Events.{write_told}
use Rattle.core_state.specs.Lines.{parts_at}
use Rattle.core_state.specs.State.{CoreState, table_at}
use Rattle.core_saves.specs.Made.{parts_made}

pub steps_made : (c : CoreState) (t : ℕ) (write : Writing) (later : Parts) (after : Writing) (step : WriteStep) → WriteSteps (parts_at c t) write later after step
    → WriteSteps (parts_at c t) write (parts_made c t write later.toast) (write_after (parts_at c t) write) (write_told c t write)
steps_made c t write later after step steps =
    let rows = rows_at (table_at c.tables t).rows write.owner write.stage in
    let ids = ids_at (table_at c.tables t).toast c.ids write.stage in
    let one = subst (λ (its : Relation). IsWriteLeft (parts_of its later.toast later.ids later.log) after step) steps.rows steps.left in
    let two = subst (λ (its : Pool). IsWriteLeft (parts_of rows later.toast its later.log) after step) steps.ids one in
    let three = subst (λ (its : LogState). IsWriteLeft (parts_of rows later.toast ids its) after step) steps.log two in
    let four = subst (λ (its : Writing). IsWriteLeft (parts_made c t write later.toast) its step) steps.write three in
    record {
      answer = refl;
      write = refl;
      rows = refl;
      toast = steps.toast;
      ids = refl;
      drawn = steps.drawn;
      log = refl;
      left = subst (λ (its : WriteStep). IsWriteLeft (parts_made c t write later.toast) (write_after (parts_at c t) write) its) (steps.answer ∙ ap (λ (its : Writing). answer_at its.stage) steps.write) four;
      marked = steps.marked;
    }
