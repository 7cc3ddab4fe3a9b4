use Rattle.session_shell.proofs.Finishing.{EndedTo}
use Rattle.session_shell.proofs.hub.Hub.end_all.Given as goal

abbrev pub invariant-loop-at : goal.invariant-loop-at
invariant-loop-at l = EndedTo l.initial.self l.self l.at
