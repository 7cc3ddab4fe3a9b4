use Rattle.std.proofs.Common.{sym, subst, arith}
use Rattle.session_shell.specs.Hubs.{IsSessionOf}
use Rattle.session_shell.proofs.Scripted.{script_is}
use Rattle.interleavings.proofs.shell.hub_of.Goals as goal

pub new-requires : goal.new-requires
new-requires c = script_is _ c.in_ok-script.script c.in_ok-script.ensures
