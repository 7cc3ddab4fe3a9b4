use Rattle.std.proofs.Common.{◌≡◌, ◌+◌, sum_by, drop}
use Rattle.script_text.specs.Scripts.{value_bytes}
use Rattle.script_text.proofs.draft.row_bytes.Given as goal

abbrev pub invariant-loop-value : goal.invariant-loop-value
invariant-loop-value l = sum_by value_bytes l.row + l.room ≡ l.most + sum_by value_bytes (drop l.value-index l.row)
