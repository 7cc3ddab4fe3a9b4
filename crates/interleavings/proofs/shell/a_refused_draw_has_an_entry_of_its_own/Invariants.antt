use Rattle.session_shell.specs.Hubs.{IsSessionOf}
use Rattle.interleavings.proofs.shell.a_refused_draw_has_an_entry_of_its_own.Given as goal

abbrev pub invariant-loop-turn : goal.invariant-loop-turn
invariant-loop-turn g l = IsSessionOf l.hub.script 1
