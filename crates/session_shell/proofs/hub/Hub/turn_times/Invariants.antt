use Rattle.session_shell.proofs.Turning.{RunsTimes}
use Rattle.session_shell.proofs.hub.Hub.turn_times.Given as goal

abbrev pub invariant-loop-turn : goal.invariant-loop-turn
invariant-loop-turn l = RunsTimes l.initial.self l.self l.session l._turn
