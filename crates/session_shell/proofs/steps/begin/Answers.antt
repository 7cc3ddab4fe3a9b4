use Rattle.std.proofs.lemmas.Result.{err_from_is_err_and}
use Rattle.session_shell.proofs.Cores.{began, failed_on, falls_on, there_on}
use Rattle.session_shell.proofs.steps.begin.Goals as goal

pub advance-requires : goal.advance-requires
advance-requires c = record { session = there_on c.args.core.now c.submit.new.self c.args.session c.args.command.now c.requires.session c.in_ok-submit.ensures.ok }

-- the want came after the submission
pub returns-in_err-made-clause-falls : goal.returns-in_err-made-clause-falls
returns-in_err-made-clause-falls c =
    let p = err_from_is_err_and c.from_residual-in_err-made.result c.from_residual-in_err-made.ensures.1 in
    rw p.1 (falls_on c.args.core.now c.submit.new.self c.advance.new.self c.args.session c.in_ok-submit.ensures.stands c.in_err-made.ensures.falls)

pub returns-clause-ok : goal.returns-clause-ok
returns-clause-ok c = began c.args.core.now c.submit.new.self c.advance.new.self c.args.session c.args.command.now _ c.requires.session c.in_ok-submit.ensures.ok c.in_ok-submit.ensures.stands c.in_ok-made.ensures.moved c.advance.ensures.sound c.in_ok-made.ensures.event

pub returns-in_err-made-clause-failed : goal.returns-in_err-made-clause-failed
returns-in_err-made-clause-failed c =
    let p = err_from_is_err_and c.from_residual-in_err-made.result c.from_residual-in_err-made.ensures.1 in
    rw p.1 (failed_on c.args.core.now c.submit.new.self c.advance.new.self c.args.session c.args.command.now c.in_ok-submit.ensures.ok c.in_err-made.ensures.err)

pub returns-in_err-submit-clause-kept : goal.returns-in_err-submit-clause-kept
returns-in_err-submit-clause-kept c = c.in_err-submit.ensures.kept

pub returns-in_err-made-clause-kept : goal.returns-in_err-made-clause-kept
returns-in_err-made-clause-kept c = c.in_err-made.ensures.kept

pub returns-clause-kept : goal.returns-clause-kept
returns-clause-kept c = c.in_ok-made.ensures.kept
