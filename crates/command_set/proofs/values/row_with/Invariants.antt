use Rattle.std.proofs.Common.{◌≡◌, ◌+◌, ◌++◌, drop}
use Rattle.command_set.proofs.Steps.{set_from}
use Rattle.command_set.proofs.values.row_with.Given as goal

abbrev pub invariant-loop-at : goal.invariant-loop-at
invariant-loop-at l = l.made ++ set_from (l.at + 1) (drop l.at l.values) l.sets ≡ set_from 1 l.values l.sets
