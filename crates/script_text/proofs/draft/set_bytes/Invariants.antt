use Rattle.std.proofs.Common.{◌≡◌, ◌+◌, sum_by, drop}
use Rattle.script_text.specs.Scripts.{set_bytes}
use Rattle.script_text.proofs.draft.set_bytes.Given as goal

abbrev pub invariant-loop-set : goal.invariant-loop-set
invariant-loop-set l = sum_by set_bytes l.sets + l.room ≡ l.most + sum_by set_bytes (drop l.set-index l.sets)
