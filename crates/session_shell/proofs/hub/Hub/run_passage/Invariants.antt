use Rattle.session_shell.specs.Follows.{RunsItems, passage_at, repeated}
use Rattle.session_shell.proofs.hub.Hub.run_passage.Given as goal

abbrev pub invariant-loop-round : goal.invariant-loop-round
invariant-loop-round l = RunsItems l.initial.self l.self (repeated l._round (passage_at l.initial.self.script l.passage).items)
