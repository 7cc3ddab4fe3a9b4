use Rattle.std.proofs.Common.{sym, subst}
use Rattle.session_shell.specs.Hubs.{IsSessionOf}
use Rattle.interleavings.proofs.shell.first_turn.Goals as goal

pub turn-requires : goal.turn-requires
turn-requires c = c.requires

pub returns : goal.returns
returns c = subst (λ script. IsSessionOf script 1) (sym c.turn.ensures.made.ran.script) c.requires
