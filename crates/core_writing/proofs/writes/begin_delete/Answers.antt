use Rattle.command_set.specs.Replies.{answers_if}
use Rattle.core_parts.specs.Found.{as_old}
use Rattle.core_writing.proofs.Asking.{asked_by, asks_first, cut_by}
use Rattle.core_writing.proofs.Begun.{delete_begun}
use Rattle.core_writing.proofs.Made.{memory_passed, stop_passed}
use Rattle.core_writing.proofs.Replies.{delete_changed, delete_okay}
use Rattle.command_set.specs.declared.Command.TheVariants as commands
use Rattle.command_set.specs.declared.Reply.TheVariants as replies
use Rattle.core_writing.proofs.writes.begin_delete.Goals as goal

pub returns-in_err-refuse_if-clause-err : goal.returns-in_err-refuse_if-clause-err
returns-in_err-refuse_if-clause-err c =
    let asked = asked_by c.args.core.now c.args.session _ _ c.in_ok-claim_first.ensures.ok (asks_first c.args.core.now c.args.session c.args.table c.args.key.now c.requires.ready.there c.requires.ready.sound) in
    stop_passed c.args.core.now c.args.session (commands.Delete c.args.table c.args.key.now) c.claim_first.new.core (answers_if c.has_changed-changed.result replies.Changed) _ c.from_residual-in_err-refuse_if.result c.from_residual-in_err-refuse_if.ensures.1 asked
    (λ reply e. delete_changed c.args.core.now c.args.session c.args.table c.args.key.now (as_old c.args.found) c.has_changed-changed.result reply c.requires.inside c.requires.seen c.in_ok-claim_first.ensures.free c.has_changed-changed.ensures e) c.in_err-refuse_if.ensures.err

pub returns-in_err-begin_write-clause-err : goal.returns-in_err-begin_write-clause-err
returns-in_err-begin_write-clause-err c =
    let asked = asked_by c.args.core.now c.args.session _ _ c.in_ok-claim_first.ensures.ok (asks_first c.args.core.now c.args.session c.args.table c.args.key.now c.requires.ready.there c.requires.ready.sound) in
    memory_passed c.args.core.now c.args.session (commands.Delete c.args.table c.args.key.now) c.begin_write.new.core c.from_residual-in_err-begin_write.result c.from_residual-in_err-begin_write.ensures.1
    (cut_by c.args.core.now c.args.session c.claim_first.new.core c.begin_write.new.core asked c.in_err-begin_write.ensures.err)

pub returns-clause-ok : goal.returns-clause-ok
returns-clause-ok c =
    let okay = delete_okay c.args.core.now c.args.session c.args.table c.args.key.now (as_old c.args.found) c.has_changed-changed.result c.requires.inside c.requires.seen c.in_ok-claim_first.ensures.free c.has_changed-changed.ensures c.in_ok-refuse_if.ensures.ok in
    delete_begun c.args.core.now c.args.session c.args.table c.args.key.now (as_old c.args.found) c.old_row.result c.new.result c.claim_first.new.core c.begin_write.new.core c.requires.ready.there c.in_ok-claim_first.ensures.ok c.requires.seen c.old_row.ensures
    c.in_ok-begin_write.ensures.ok c.new.ensures okay
