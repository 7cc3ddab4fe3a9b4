use Rattle.std.specs.Prelude.{None, [], ◌∷◌}
use Rattle.command_set.specs.Replies.{answers_if}
use Rattle.core_state.specs.Begun.{inserted_row}
use Rattle.core_looks.proofs.Before.{table_in}
use Rattle.core_looks.specs.Due.{too_big_due}
use Rattle.core_writing.proofs.Asking.{asked_by, asks_first, cut_asked, cut_by}
use Rattle.core_writing.proofs.Begun.{insert_begun}
use Rattle.core_writing.proofs.Made.{memory_passed, stop_passed}
use Rattle.core_writing.proofs.Replies.{due_big, due_okay, insert_new, insert_taken}
use Rattle.core_writing.proofs.Rows.{begins_by, columns_locked, inserted_locked}
use Rattle.command_set.specs.declared.Command.TheVariants as commands
use Rattle.command_set.specs.declared.Reply.TheVariants as replies
use Rattle.core_writing.proofs.writes.begin_insert.Goals as goal

pub returns-in_err-refuse_if-clause-err : goal.returns-in_err-refuse_if-clause-err
returns-in_err-refuse_if-clause-err c =
    let asked = asked_by c.args.core.now c.args.session _ _ c.in_ok-claim_first.ensures.ok (asks_first c.args.core.now c.args.session c.args.table c.args.key.now c.requires.ready.there c.requires.ready.sound) in
    stop_passed c.args.core.now c.args.session (commands.Insert c.args.table c.args.key.now c.args.row) c.claim_first.new.core (answers_if c.in_ok-taken.taken replies.Taken) _ c.from_residual-in_err-refuse_if.result c.from_residual-in_err-refuse_if.ensures.1 asked
    (λ reply e. insert_taken c.args.core.now c.args.session c.args.table c.args.key.now c.args.row c.in_ok-taken.taken reply c.requires.inside c.in_ok-claim_first.ensures.free c.in_ok-taken.ensures e) c.in_err-refuse_if.ensures.err

pub returns-in_err-new-clause-err : goal.returns-in_err-new-clause-err
returns-in_err-new-clause-err c =
    let asked = asked_by c.args.core.now c.args.session _ _ c.in_ok-claim_first.ensures.ok (asks_first c.args.core.now c.args.session c.args.table c.args.key.now c.requires.ready.there c.requires.ready.sound) in
    memory_passed c.args.core.now c.args.session (commands.Insert c.args.table c.args.key.now c.args.row) c.claim_first.new.core c.from_residual-in_err-new.result c.from_residual-in_err-new.ensures.1 (cut_asked c.args.core.now c.args.session c.claim_first.new.core asked)

pub planned-requires-clause-columns : goal.planned-requires-clause-columns
planned-requires-clause-columns c = columns_locked c.args.core.now c.args.session c.args.table (c.args.key.now ∷ []) c.claim_first.new.core c.requires.ready.parts (table_in c.args.core.now c.args.table c.requires.fits.0.of_table) c.in_ok-claim_first.ensures.ok

pub planned-requires-clause-can : goal.planned-requires-clause-can
planned-requires-clause-can c = inserted_locked c.args.core.now c.args.session c.args.table (c.args.key.now ∷ []) c.claim_first.new.core c.args.key.now c.args.row c.in_ok-new.new c.requires.fits.0 c.in_ok-claim_first.ensures.ok c.in_ok-new.ensures

pub returns-in_err-plan-clause-err : goal.returns-in_err-plan-clause-err
returns-in_err-plan-clause-err c =
    let asked = asked_by c.args.core.now c.args.session _ _ c.in_ok-claim_first.ensures.ok (asks_first c.args.core.now c.args.session c.args.table c.args.key.now c.requires.ready.there c.requires.ready.sound) in
    let due = insert_new c.args.core.now c.args.session c.args.table c.args.key.now c.args.row c.in_ok-taken.taken c.requires.inside c.in_ok-claim_first.ensures.free c.in_ok-taken.ensures c.in_ok-refuse_if.ensures.ok in
    stop_passed c.args.core.now c.args.session (commands.Insert c.args.table c.args.key.now c.args.row) c.claim_first.new.core (too_big_due c.claim_first.new.core c.args.table c.in_ok-new.new) _ c.from_residual-in_err-plan.result c.from_residual-in_err-plan.ensures.1 asked
    (λ reply e. due_big _ c.args.core.now c.args.session c.args.table (c.args.key.now ∷ []) c.claim_first.new.core (inserted_row c.args.key.now c.args.row) c.in_ok-new.new reply due c.in_ok-claim_first.ensures.ok c.in_ok-new.ensures e) c.in_err-plan.ensures.err

pub begin_write-requires-clause-can : goal.begin_write-requires-clause-can
begin_write-requires-clause-can c =
    let can = inserted_locked c.args.core.now c.args.session c.args.table (c.args.key.now ∷ []) c.claim_first.new.core c.args.key.now c.args.row c.in_ok-new.new c.requires.fits.0 c.in_ok-claim_first.ensures.ok c.in_ok-new.ensures in
    begins_by c.claim_first.new.core c.args.table None c.in_ok-new.new c.in_ok-plan.plan can c.in_ok-plan.ensures.plan

pub returns-in_err-begin_write-clause-err : goal.returns-in_err-begin_write-clause-err
returns-in_err-begin_write-clause-err c =
    let asked = asked_by c.args.core.now c.args.session _ _ c.in_ok-claim_first.ensures.ok (asks_first c.args.core.now c.args.session c.args.table c.args.key.now c.requires.ready.there c.requires.ready.sound) in
    memory_passed c.args.core.now c.args.session (commands.Insert c.args.table c.args.key.now c.args.row) c.begin_write.new.core c.from_residual-in_err-begin_write.result c.from_residual-in_err-begin_write.ensures.1
    (cut_by c.args.core.now c.args.session c.claim_first.new.core c.begin_write.new.core asked c.in_err-begin_write.ensures.err)

pub returns-clause-ok : goal.returns-clause-ok
returns-clause-ok c =
    let due = insert_new c.args.core.now c.args.session c.args.table c.args.key.now c.args.row c.in_ok-taken.taken c.requires.inside c.in_ok-claim_first.ensures.free c.in_ok-taken.ensures c.in_ok-refuse_if.ensures.ok in
    let okay = due_okay _ c.args.core.now c.args.session c.args.table (c.args.key.now ∷ []) c.claim_first.new.core (inserted_row c.args.key.now c.args.row) c.in_ok-new.new due c.in_ok-claim_first.ensures.ok c.in_ok-new.ensures c.in_ok-plan.ensures.fits in
    insert_begun c.args.core.now c.args.session c.args.table c.args.key.now c.args.row c.in_ok-new.new c.in_ok-plan.plan c.claim_first.new.core c.begin_write.new.core c.requires.ready.there c.in_ok-claim_first.ensures.ok c.in_ok-new.ensures c.in_ok-begin_write.ensures.ok c.in_ok-plan.ensures.plan okay
