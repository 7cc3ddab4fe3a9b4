use Rattle.std.proofs.Common.{◌≡◌, ◌+◌, ℕ, List, Option, refl, sym, ap, ◌∙◌, subst, arith}
use Rattle.external_pointer.specs.declared.external.Pointer.{Pointer}
use Rattle.tuple_layout.specs.declared.cell.Cell.TheVariants.{Out}
use Rattle.tuple_layout.specs.declared.cell.Stored.{Stored}
use Rattle.toast_store.specs.Saves as saves
use Rattle.toast_store.specs.Saves.{SaveSteps}
use Rattle.toast_store.specs.Marks.{MarkSteps}
use Rattle.toast_store.specs.declared.mark.MarkStep.{MarkStep}
use Rattle.toast_store.specs.declared.save.SaveStep.{SaveStep}
use Rattle.write_steps.specs.Writes.{Writing, column_at, marking_from, parts_of, saving_from, with_cell}
use Rattle.write_steps.specs.Standing.{IsWriteStage, WriteStands}
use Rattle.write_steps.specs.declared.stage.OldRow.{OldRow}
use Rattle.write_steps.specs.declared.stage.Owner.{Owner}
use Rattle.write_steps.specs.declared.stage.WriteStage.{WriteStage}
use Rattle.write_steps.specs.declared.stage.WriteStage.TheVariants as stages
use Rattle.write_steps.proofs.Stepping.{can_form, mark_ends, put_ends, remove_ends, save_ends, save_goes}
use Rattle.write_steps.proofs.job.WriteJob.step.Goals as goal

-- a write stands at a stage
at_stage : (owner : Owner) (stage at : WriteStage) (write : Writing) → stage ≡ at → record { owner = owner; stage = stage } ≡ write → record { owner = owner; stage = at } ≡ write
at_stage owner stage at write e is = subst (λ (s : WriteStage). record { owner = owner; stage = s } ≡ write) e is

pub returns-in_default-clause-ok : goal.returns-in_default-clause-ok
returns-in_default-clause-ok c =
    let owner : Owner = c.self.inside.owner in
    let old = parts_of c.args.rows.now c.args.toast.now c.args.ids.now c.args.log.now in
    let new = parts_of c.args.rows.now c.step.new.store c.step.new.ids c.step.new.log in
    let own = subst (λ (s : WriteStage). IsWriteStage owner s) c.in-Saving.is c.self.invariant in
    let steps = subst (λ (t : SaveStep). SaveSteps (saves.parts_of c.args.toast.now c.args.ids.now c.args.log.now) c.in-Saving.save (saves.parts_of c.step.new.store c.step.new.ids c.step.new.log) c.step.new.self t) c.in_default.is c.in_ok-pointer-in-Saving.ensures.ok in
    save_goes old new owner c.in-Saving.old c.in-Saving.new c.in-Saving.plan c.in-Saving.at c.in-Saving.save c.step.new.self c.args.self.now (at_stage owner _ _ _ c.in-Saving.is c.self.view_is) refl c.in_ok-pointer-in-Saving.ensures.was_sound own c.requires.stands steps

pub put-requires-clause-fits : goal.put-requires-clause-fits
put-requires-clause-fits c =
    let owner : Owner = c.self.inside.owner in
    let stands = subst (λ (w : Writing). WriteStands (parts_of c.args.rows.now c.args.toast.now c.args.ids.now c.args.log.now) w) (sym (at_stage owner _ (stages.Put c.in-Put.old c.in-Put.new c.in-Put.plan) _ c.in-Put.is c.self.view_is)) c.requires.stands in
    can_form c.args.rows.now c.in-Put.new c.in-Put.plan stands.fits

pub overflow_add-at : goal.overflow_add-at
overflow_add-at c =
    let own = subst (λ (s : WriteStage). IsWriteStage c.self.inside.owner s) c.in-Marking.is c.self.invariant in
    omega (arith, own.there, own.few)

pub returns-in-Done-clause-ok : goal.returns-in-Done-clause-ok
returns-in-Done-clause-ok c =
    let owner : Owner = c.self.inside.owner in
    let old = parts_of c.args.rows.now c.args.toast.now c.args.ids.now c.args.log.now in
    let new = parts_of c.args.rows.now c.step.new.store c.step.new.ids c.step.new.log in
    let own = subst (λ (s : WriteStage). IsWriteStage owner s) c.in-Saving.is c.self.invariant in
    let steps = subst (λ (t : SaveStep). SaveSteps (saves.parts_of c.args.toast.now c.args.ids.now c.args.log.now) c.in-Saving.save (saves.parts_of c.step.new.store c.step.new.ids c.step.new.log) c.step.new.self t) c.in-Done.is c.in_ok-pointer-in-Saving.ensures.ok in
    let at : ℕ = c.in-Saving.at in
    let row : Stored = c.in-Saving.new in
    let stage =
    c.pass_on-stage.ensures.stage
    ∙ ap (λ (o : Option OldRow). saving_from owner o (with_cell row (column_at c.replace-plan.result at) (Out c.in-Done.pointer)) c.replace-plan.result (at + 1)) c.take.ensures.value
    ∙ ap (λ (plan : List ℕ). saving_from owner c.in-Saving.old (with_cell row (column_at plan at) (Out c.in-Done.pointer)) plan (at + 1)) c.replace-plan.ensures.value in
    save_ends old new owner c.in-Saving.old row c.in-Saving.plan at c.in-Saving.save c.step.new.self c.in-Done.pointer c.args.self.now c.pass_on-stage.result (at_stage owner _ _ _ c.in-Saving.is c.self.view_is) stage refl c.in_ok-pointer-in-Saving.ensures.was_sound own c.requires.stands steps

pub returns-in_ok-dropped-in-Put-clause-ok : goal.returns-in_ok-dropped-in-Put-clause-ok
returns-in_ok-dropped-in-Put-clause-ok c =
    let owner : Owner = c.self.inside.owner in
    let old = parts_of c.args.rows.now c.args.toast.now c.args.ids.now c.args.log.now in
    let new = parts_of c.put.new.rows c.args.toast.now c.args.ids.now c.put.new.log in
    let told_by = c.in_ok-dropped-in-Put.ensures in
    put_ends old new owner c.in-Put.old c.in-Put.new c.in-Put.plan c.in_ok-dropped-in-Put.dropped c.args.self.now c.marking_from.result c.answer_at.result (at_stage owner _ (stages.Put c.in-Put.old c.in-Put.new c.in-Put.plan) _ c.in-Put.is c.self.view_is) c.requires.stands c.marking_from.ensures.stage c.answer_at.ensures told_by.dropped told_by.rows refl refl told_by.log

pub returns-in_ok-dropped-in-Remove-clause-ok : goal.returns-in_ok-dropped-in-Remove-clause-ok
returns-in_ok-dropped-in-Remove-clause-ok c =
    let owner : Owner = c.self.inside.owner in
    let old = parts_of c.args.rows.now c.args.toast.now c.args.ids.now c.args.log.now in
    let new = parts_of c.remove.new.rows c.args.toast.now c.args.ids.now c.remove.new.log in
    let told_by = c.in_ok-dropped-in-Remove.ensures in
    remove_ends old new owner c.in-Remove.old c.in_ok-dropped-in-Remove.dropped c.args.self.now c.marking_from-in-Remove.result c.answer_at-in-Remove.result (at_stage owner _ (stages.Remove c.in-Remove.old) _ c.in-Remove.is c.self.view_is) c.requires.stands c.marking_from-in-Remove.ensures.stage c.answer_at-in-Remove.ensures told_by.dropped told_by.rows refl refl told_by.log

pub returns-in-Done-2-clause-ok : goal.returns-in-Done-2-clause-ok
returns-in-Done-2-clause-ok c =
    let owner : Owner = c.self.inside.owner in
    let old = parts_of c.args.rows.now c.args.toast.now c.args.ids.now c.args.log.now in
    let new = parts_of c.args.rows.now c.step-in-Marking.new.store c.args.ids.now c.args.log.now in
    let own = subst (λ (s : WriteStage). IsWriteStage owner s) c.in-Marking.is c.self.invariant in
    let steps = subst (λ (t : MarkStep). MarkSteps c.args.toast.now c.in-Marking.mark c.step-in-Marking.new.store c.step-in-Marking.new.self t) c.in-Done-2.is c.in_ok-step-in-Marking.ensures.ok in
    let stage = c.marking_from-in-Marking.ensures.stage ∙ ap (λ (dropped : List Pointer). marking_from owner dropped (c.in-Marking.at + 1)) c.replace-dropped.ensures.value in
    mark_ends old new owner c.in-Marking.dropped c.in-Marking.at c.in-Marking.mark c.step-in-Marking.new.self c.args.self.now c.marking_from-in-Marking.result c.answer_at-in-Marking.result (at_stage owner _ (stages.Marking c.in-Marking.dropped c.in-Marking.at c.in-Marking.mark) _ c.in-Marking.is c.self.view_is) c.requires.stands own c.in_ok-step-in-Marking.ensures.sound stage c.answer_at-in-Marking.ensures refl refl refl steps
