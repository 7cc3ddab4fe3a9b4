use Rattle.std.proofs.Common.{◌≡◌, ◌++◌}
use Rattle.made_script.specs.Made.{keys_text}
use Rattle.made_script.proofs.put_keys.Given as goal

abbrev pub invariant-loop-done : goal.invariant-loop-done
invariant-loop-done l = l.out ≡ l.initial.out ++ keys_text l.session l.done
