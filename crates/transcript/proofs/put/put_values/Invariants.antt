use Rattle.std.proofs.Common.{◌≡◌, ◌++◌, take}
use Rattle.transcript.specs.Lines.{values_text}
use Rattle.transcript.proofs.put.put_values.Given as goal

abbrev pub invariant-loop-value : goal.invariant-loop-value
invariant-loop-value l = l.out ≡ l.fn.out ++ values_text (take l.value-index l.values)
