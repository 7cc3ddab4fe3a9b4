use Rattle.session_shell.proofs.Finishing.{finishes}
use Rattle.session_shell.proofs.hub.Hub.finish.Goals as goal

pub returns-clause-ran : goal.returns-clause-ran
returns-clause-ran c = finishes c.args.self.now c.end_all.new.self c.empty_all.new.self c.end_all.ensures.ran c.empty_all.ensures.ran
