use Rattle.std.proofs.Common.{Err, ap, refl}
use Rattle.session_shell.proofs.Scripted.{script_is}
use Rattle.toast_program.specs.Runs.{HasRunFreely}
use Rattle.toast_program.proofs.Outcomes.{printed, unread}
use Rattle.toast_program.proofs.run.run.Goals as goal

-- no script was read
pub returns-in-Err-clause-outcome : goal.returns-in-Err-clause-outcome
returns-in-Err-clause-outcome g c = unread HasRunFreely _ c.in-Err.status c.in-Err.ensures.reads (λ is. c.in-Err.ensures.cause (ap Err is)) (record { same = refl; none = c.requires })

pub run_script-requires-after_bounds : goal.run_script-requires-after_bounds
run_script-requires-after_bounds g c κs within = script_is _ _ c.in-Ok.ensures.reads.spelled

-- the sessions took their turns, and the lines were printed
pub returns-in-Ok-run_script-clause-outcome : goal.returns-in-Ok-run_script-clause-outcome
returns-in-Ok-run_script-clause-outcome g c = printed HasRunFreely _ c.in-Ok.script c.in-Ok-run_script.hub c.print_hub-status.result c.in-Ok.ensures.reads c.in-Ok-run_script.ensures.run refl c.print_hub-status.ensures.prints
