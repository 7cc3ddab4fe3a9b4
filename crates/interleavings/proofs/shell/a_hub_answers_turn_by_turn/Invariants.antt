use Rattle.session_shell.specs.Hubs.{IsSessionOf}
use Rattle.interleavings.proofs.shell.a_hub_answers_turn_by_turn.Given as goal

abbrev pub invariant-loop-turn : goal.invariant-loop-turn
invariant-loop-turn g l = IsSessionOf l.hub.script 1
