use Rattle.std.proofs.Common.{◌≡◌, drop}
use Rattle.command_set.specs.Changes.{fold_changes}
use Rattle.command_set.proofs.rows.RowMap.with_changes.Given as goal

abbrev pub invariant-loop-change : goal.invariant-loop-change
invariant-loop-change l = fold_changes (drop l.change-index l.changes) l.rows ≡ fold_changes l.changes l.initial.rows
