use Rattle.std.proofs.Common.{◌≡◌, drop}
use Rattle.read_steps.specs.Columns.{next_out, next_out_from}
use Rattle.read_steps.proofs.columns.next_out.Given as goal

-- the columns before are none
abbrev pub invariant-loop-at : goal.invariant-loop-at
invariant-loop-at l = next_out_from l.at (drop l.at l.cells) ≡ next_out l.cells
