use Rattle.std.proofs.Common.{◌≡◌, [], take}
use Rattle.decode_stream.specs.States.{found_in}
use Rattle.decode_stream.specs.Rows.{planned}
use Rattle.decode_stream.proofs.row.plan.Given as goal

-- the columns of the cells so far are planned
abbrev pub invariant-loop-i : goal.invariant-loop-i
invariant-loop-i l = l.columns ≡ planned (found_in l.values.entries) l.table [] (take l.i l.cells)
