use Rattle.core_state.specs.Events.{left}
use Rattle.session_shell.proofs.Whole.{SoFar, turns_left}
use Rattle.session_shell.proofs.hub.Hub.turn_until_ended.Given as goal

abbrev pub invariant-loop-turn : goal.invariant-loop-turn
invariant-loop-turn l = SoFar l.fn.self l.session l.self l.turn

abbrev pub decreases-loop-turn : goal.decreases-loop-turn
decreases-loop-turn l = turns_left l.turn (left l.self.core l.session)
