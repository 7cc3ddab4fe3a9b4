use Rattle.std.proofs.Common.{sym, ◌∙◌}
use Rattle.std.specs.Prelude.{None, Some, [], ◌∷◌}
use Rattle.command_set.specs.Replies.{answers_if}
use Rattle.core_state.specs.Begun.{updated_row}
use Rattle.core_looks.proofs.Before.{table_in}
use Rattle.core_looks.specs.Due.{busy_due, too_big_due}
use Rattle.core_parts.specs.Found.{as_old}
use Rattle.core_writing.proofs.Asking.{asked_by, asks_both, asks_first, busy_second, cut_asked, cut_by, locked_both}
use Rattle.core_writing.proofs.Begun.{rekey_begun}
use Rattle.core_writing.proofs.Made.{memory_passed, stop_passed}
use Rattle.core_writing.proofs.Replies.{MayMove, due_big, due_okay, rekey_busy, rekey_changed, rekey_new, rekey_taken}
use Rattle.core_writing.proofs.Rows.{begins_by, columns_locked, updated_locked}
use Rattle.command_set.specs.declared.Command.TheVariants as commands
use Rattle.command_set.specs.declared.Reply.TheVariants as replies
use Rattle.core_writing.proofs.writes.begin_rekey.Goals as goal

pub returns-in_err-refuse_if-clause-err : goal.returns-in_err-refuse_if-clause-err
returns-in_err-refuse_if-clause-err c =
    let asked = asked_by c.args.core.now c.args.session _ _ c.in_ok-claim_first.ensures.ok (asks_first c.args.core.now c.args.session c.args.table c.args.from.now c.requires.ready.there c.requires.ready.sound) in
    stop_passed c.args.core.now c.args.session (commands.Rekey c.args.table c.args.from.now c.args.to.now c.args.sets.now) c.claim_first.new.core (answers_if c.has_changed-changed.result replies.Changed) _ c.from_residual-in_err-refuse_if.result c.from_residual-in_err-refuse_if.ensures.1 asked
    (λ reply e. rekey_changed c.args.core.now c.args.session c.args.table c.args.from.now c.args.to.now c.args.sets.now (as_old c.args.found) c.has_changed-changed.result reply c.requires.inside c.requires.seen c.in_ok-claim_first.ensures.free c.has_changed-changed.ensures e) c.in_err-refuse_if.ensures.err

pub returns-in_err-claim-clause-err : goal.returns-in_err-claim-clause-err
returns-in_err-claim-clause-err c =
    let asked = asked_by c.args.core.now c.args.session _ _ (c.in_err-claim.ensures.same ∙ c.in_ok-claim_first.ensures.ok) (asks_first c.args.core.now c.args.session c.args.table c.args.from.now c.requires.ready.there c.requires.ready.sound) in
    let may : MayMove c.args.core.now c.args.session c.args.table c.args.from.now (as_old c.args.found) = record { inside = c.requires.inside; seen = c.requires.seen; free = c.in_ok-claim_first.ensures.free; same = sym c.has_changed-changed.ensures ∙ c.in_ok-refuse_if.ensures.ok } in
    stop_passed c.args.core.now c.args.session (commands.Rekey c.args.table c.args.from.now c.args.to.now c.args.sets.now) c.claim.new.core (busy_due c.claim_first.new.core c.args.session c.args.table c.args.to.now) _ c.from_residual-in_err-claim.result c.from_residual-in_err-claim.ensures.1 asked
    (λ reply e. rekey_busy c.args.core.now c.args.session c.args.table c.args.from.now c.args.to.now c.args.sets.now (as_old c.args.found) reply may (busy_second c.args.core.now c.args.session c.args.table c.args.from.now c.args.to.now c.claim_first.new.core (Some reply) c.requires.ready.there c.requires.ready.sound c.in_ok-claim_first.ensures.ok e)) c.in_err-claim.ensures.err

pub returns-in_err-refuse_if-2-clause-err : goal.returns-in_err-refuse_if-2-clause-err
returns-in_err-refuse_if-2-clause-err c =
    let locked = locked_both c.args.core.now c.args.session c.args.table c.args.from.now c.args.to.now c.claim_first.new.core c.claim.new.core c.in_ok-claim_first.ensures.ok c.in_ok-claim.ensures.ok in
    let asked = asked_by c.args.core.now c.args.session _ _ locked (asks_both c.args.core.now c.args.session c.args.table c.args.from.now c.args.to.now c.requires.ready.there c.requires.ready.sound) in
    let may : MayMove c.args.core.now c.args.session c.args.table c.args.from.now (as_old c.args.found) = record { inside = c.requires.inside; seen = c.requires.seen; free = c.in_ok-claim_first.ensures.free; same = sym c.has_changed-changed.ensures ∙ c.in_ok-refuse_if.ensures.ok } in
    let free = busy_second c.args.core.now c.args.session c.args.table c.args.from.now c.args.to.now c.claim_first.new.core None c.requires.ready.there c.requires.ready.sound c.in_ok-claim_first.ensures.ok c.in_ok-claim.ensures.free in
    stop_passed c.args.core.now c.args.session (commands.Rekey c.args.table c.args.from.now c.args.to.now c.args.sets.now) c.claim.new.core (answers_if c.in_ok-taken.taken replies.Taken) _ c.from_residual-in_err-refuse_if-2.result c.from_residual-in_err-refuse_if-2.ensures.1 asked
    (λ reply e. rekey_taken c.args.core.now c.args.session c.args.table c.args.from.now c.args.to.now c.args.sets.now (as_old c.args.found) c.in_ok-taken.taken reply may free c.in_ok-taken.ensures e) c.in_err-refuse_if-2.ensures.err

pub returns-in_err-new-clause-err : goal.returns-in_err-new-clause-err
returns-in_err-new-clause-err c =
    let locked = locked_both c.args.core.now c.args.session c.args.table c.args.from.now c.args.to.now c.claim_first.new.core c.claim.new.core c.in_ok-claim_first.ensures.ok c.in_ok-claim.ensures.ok in
    let asked = asked_by c.args.core.now c.args.session _ _ locked (asks_both c.args.core.now c.args.session c.args.table c.args.from.now c.args.to.now c.requires.ready.there c.requires.ready.sound) in
    memory_passed c.args.core.now c.args.session (commands.Rekey c.args.table c.args.from.now c.args.to.now c.args.sets.now) c.claim.new.core c.from_residual-in_err-new.result c.from_residual-in_err-new.ensures.1 (cut_asked c.args.core.now c.args.session c.claim.new.core asked)

pub planned-requires-clause-columns : goal.planned-requires-clause-columns
planned-requires-clause-columns c =
    let locked = locked_both c.args.core.now c.args.session c.args.table c.args.from.now c.args.to.now c.claim_first.new.core c.claim.new.core c.in_ok-claim_first.ensures.ok c.in_ok-claim.ensures.ok in
    columns_locked c.args.core.now c.args.session c.args.table (c.args.from.now ∷ c.args.to.now ∷ []) c.claim.new.core c.requires.ready.parts (table_in c.args.core.now c.args.table c.requires.fits.0.of_table) locked

pub planned-requires-clause-can : goal.planned-requires-clause-can
planned-requires-clause-can c =
    let locked = locked_both c.args.core.now c.args.session c.args.table c.args.from.now c.args.to.now c.claim_first.new.core c.claim.new.core c.in_ok-claim_first.ensures.ok c.in_ok-claim.ensures.ok in
    updated_locked c.args.core.now c.args.session c.args.table (c.args.from.now ∷ c.args.to.now ∷ []) c.claim.new.core c.args.from.now c.args.to.now c.args.sets.now (as_old c.args.found) c.in_ok-new.new c.requires.ready.sound c.requires.seen c.requires.fits.0 locked c.in_ok-new.ensures

pub returns-in_err-plan-clause-err : goal.returns-in_err-plan-clause-err
returns-in_err-plan-clause-err c =
    let locked = locked_both c.args.core.now c.args.session c.args.table c.args.from.now c.args.to.now c.claim_first.new.core c.claim.new.core c.in_ok-claim_first.ensures.ok c.in_ok-claim.ensures.ok in
    let asked = asked_by c.args.core.now c.args.session _ _ locked (asks_both c.args.core.now c.args.session c.args.table c.args.from.now c.args.to.now c.requires.ready.there c.requires.ready.sound) in
    let may : MayMove c.args.core.now c.args.session c.args.table c.args.from.now (as_old c.args.found) = record { inside = c.requires.inside; seen = c.requires.seen; free = c.in_ok-claim_first.ensures.free; same = sym c.has_changed-changed.ensures ∙ c.in_ok-refuse_if.ensures.ok } in
    let free = busy_second c.args.core.now c.args.session c.args.table c.args.from.now c.args.to.now c.claim_first.new.core None c.requires.ready.there c.requires.ready.sound c.in_ok-claim_first.ensures.ok c.in_ok-claim.ensures.free in
    let due = rekey_new c.args.core.now c.args.session c.args.table c.args.from.now c.args.to.now c.args.sets.now (as_old c.args.found) c.in_ok-taken.taken may free c.in_ok-taken.ensures c.in_ok-refuse_if-2.ensures.ok in
    stop_passed c.args.core.now c.args.session (commands.Rekey c.args.table c.args.from.now c.args.to.now c.args.sets.now) c.claim.new.core (too_big_due c.claim.new.core c.args.table c.in_ok-new.new) _ c.from_residual-in_err-plan.result c.from_residual-in_err-plan.ensures.1 asked
    (λ reply e. due_big _ c.args.core.now c.args.session c.args.table (c.args.from.now ∷ c.args.to.now ∷ []) c.claim.new.core (updated_row c.args.found.stored c.args.to.now c.args.sets.now) c.in_ok-new.new reply due locked c.in_ok-new.ensures e) c.in_err-plan.ensures.err

pub begin_write-requires-clause-can : goal.begin_write-requires-clause-can
begin_write-requires-clause-can c =
    let locked = locked_both c.args.core.now c.args.session c.args.table c.args.from.now c.args.to.now c.claim_first.new.core c.claim.new.core c.in_ok-claim_first.ensures.ok c.in_ok-claim.ensures.ok in
    let can = updated_locked c.args.core.now c.args.session c.args.table (c.args.from.now ∷ c.args.to.now ∷ []) c.claim.new.core c.args.from.now c.args.to.now c.args.sets.now (as_old c.args.found) c.in_ok-new.new c.requires.ready.sound c.requires.seen c.requires.fits.0 locked c.in_ok-new.ensures in
    begins_by c.claim.new.core c.args.table (Some c.old_row.result) c.in_ok-new.new c.in_ok-plan.plan can c.in_ok-plan.ensures.plan

pub returns-in_err-begin_write-clause-err : goal.returns-in_err-begin_write-clause-err
returns-in_err-begin_write-clause-err c =
    let locked = locked_both c.args.core.now c.args.session c.args.table c.args.from.now c.args.to.now c.claim_first.new.core c.claim.new.core c.in_ok-claim_first.ensures.ok c.in_ok-claim.ensures.ok in
    let asked = asked_by c.args.core.now c.args.session _ _ locked (asks_both c.args.core.now c.args.session c.args.table c.args.from.now c.args.to.now c.requires.ready.there c.requires.ready.sound) in
    memory_passed c.args.core.now c.args.session (commands.Rekey c.args.table c.args.from.now c.args.to.now c.args.sets.now) c.begin_write.new.core c.from_residual-in_err-begin_write.result c.from_residual-in_err-begin_write.ensures.1 (cut_by c.args.core.now c.args.session c.claim.new.core c.begin_write.new.core asked c.in_err-begin_write.ensures.err)

pub returns-clause-ok : goal.returns-clause-ok
returns-clause-ok c =
    let locked = locked_both c.args.core.now c.args.session c.args.table c.args.from.now c.args.to.now c.claim_first.new.core c.claim.new.core c.in_ok-claim_first.ensures.ok c.in_ok-claim.ensures.ok in
    let may : MayMove c.args.core.now c.args.session c.args.table c.args.from.now (as_old c.args.found) = record { inside = c.requires.inside; seen = c.requires.seen; free = c.in_ok-claim_first.ensures.free; same = sym c.has_changed-changed.ensures ∙ c.in_ok-refuse_if.ensures.ok } in
    let free = busy_second c.args.core.now c.args.session c.args.table c.args.from.now c.args.to.now c.claim_first.new.core None c.requires.ready.there c.requires.ready.sound c.in_ok-claim_first.ensures.ok c.in_ok-claim.ensures.free in
    let due = rekey_new c.args.core.now c.args.session c.args.table c.args.from.now c.args.to.now c.args.sets.now (as_old c.args.found) c.in_ok-taken.taken may free c.in_ok-taken.ensures c.in_ok-refuse_if-2.ensures.ok in
    let okay = due_okay _ c.args.core.now c.args.session c.args.table (c.args.from.now ∷ c.args.to.now ∷ []) c.claim.new.core (updated_row c.args.found.stored c.args.to.now c.args.sets.now) c.in_ok-new.new due locked c.in_ok-new.ensures c.in_ok-plan.ensures.fits in
    rekey_begun c.args.core.now c.args.session c.args.table c.args.from.now c.args.to.now c.args.sets.now (as_old c.args.found) c.old_row.result c.in_ok-new.new c.in_ok-plan.plan c.claim.new.core c.begin_write.new.core c.requires.ready.there locked c.requires.seen c.old_row.ensures c.in_ok-new.ensures
    c.in_ok-begin_write.ensures.ok c.in_ok-plan.ensures.plan okay
