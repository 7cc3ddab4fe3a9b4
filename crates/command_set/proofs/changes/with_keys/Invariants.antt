use Rattle.std.proofs.Common.{◌≡◌, ◌++◌, drop}
use Rattle.command_set.specs.Changes.{keys_of}
use Rattle.command_set.proofs.changes.with_keys.Given as goal

abbrev pub invariant-loop-change : goal.invariant-loop-change
invariant-loop-change l = l.all ++ keys_of (drop l.change-index l.changes) ≡ l.initial.all ++ keys_of l.changes
