use Rattle.session_shell.proofs.Finishing.{EmptiedAll}
use Rattle.session_shell.proofs.hub.Hub.empty_all.Given as goal

abbrev pub invariant-loop-at : goal.invariant-loop-at
invariant-loop-at l = EmptiedAll l.initial.self l.self l.at
