use Rattle.std.proofs.Common.{sym}
use Rattle.session_shell.proofs.Cores.{ended_other}
use Rattle.session_shell.proofs.steps.ended.Goals as goal

pub returns-in_default : goal.returns-in_default
returns-in_default c = sym (ended_other _ c.in_default.not-NoValueId)
