use Rattle.session_shell.proofs.Finishing.{emptied_more, emptied_none}
use Rattle.session_shell.proofs.hub.Hub.empty_session.Goals as goal

pub commands-init : goal.commands-init
commands-init c = emptied_none c.args.self.now c.args.session c.requires.idle

pub commands-preserved : goal.commands-preserved
commands-preserved c = emptied_more c.args.self.now c.commands.self c.turn_until_ended.new.self c.args.session c.commands.invariant c.commands-test.ensures c.turn_until_ended.ensures
