use Rattle.std.proofs.Common.{◌≡◌, ◌++◌}
use Rattle.made_script.specs.Made.{sessions_text}
use Rattle.made_script.proofs.put_writers.Given as goal

abbrev pub invariant-loop-done : goal.invariant-loop-done
invariant-loop-done l = l.out ≡ l.initial.out ++ sessions_text l.n l.done
