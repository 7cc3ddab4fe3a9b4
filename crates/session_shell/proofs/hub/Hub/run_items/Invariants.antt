use Rattle.std.proofs.Common.{take}
use Rattle.session_shell.specs.Follows.{RunsItems, passage_at}
use Rattle.session_shell.proofs.hub.Hub.run_items.Given as goal

abbrev pub invariant-loop-at : goal.invariant-loop-at
invariant-loop-at l = RunsItems l.initial.self l.self (take l.at (passage_at l.initial.self.script l.passage).items)
