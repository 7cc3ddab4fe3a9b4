use Rattle.std.proofs.Common.{take}
use Rattle.session_shell.specs.Follows.{RunsItems, items_of}
use Rattle.session_shell.proofs.hub.Hub.run_schedule.Given as goal

abbrev pub invariant-loop-passage : goal.invariant-loop-passage
invariant-loop-passage l = RunsItems l.initial.self l.self (items_of (take l.passage l.initial.self.script.schedule))
