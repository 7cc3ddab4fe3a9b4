use Rattle.session_shell.proofs.Headline.{has_run}
use Rattle.session_shell.proofs.replay.run_script.Goals as goal

pub returns-clause-run : goal.returns-clause-run
returns-clause-run c = has_run c.args.script c.in_ok-hub.hub c.run_schedule.new.self c.finish.new.self c.in_ok-hub.ensures.script c.in_ok-hub.ensures.journal c.in_ok-hub.ensures.places c.in_ok-hub.ensures.first c.run_schedule.ensures c.finish.ensures.ran c.finish.ensures.legal c.finish.ensures.complete c.finish.ensures.draws c.finish.ensures.idle
