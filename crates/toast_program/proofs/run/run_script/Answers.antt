use Rattle.std.proofs.Common.{◌∙◌}
use Rattle.toast_program.proofs.Outcomes.{has_run_freely}
use Rattle.toast_program.proofs.run.run_script.Goals as goal

pub returns-clause-run : goal.returns-clause-run
returns-clause-run g c =
    has_run_freely c.args.script c.close-hub.result c.finish.new.self (c.close-hub.ensures.script ∙ c.in_ok-store.ensures.fixed)
    c.finish.ensures.ran c.finish.ensures.follows c.finish.ensures.legal c.finish.ensures.complete c.finish.ensures.draws c.finish.ensures.idle
