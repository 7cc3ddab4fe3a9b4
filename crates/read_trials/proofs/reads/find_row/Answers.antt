use Rattle.std.proofs.Common.{arith}
use Rattle.read_trials.proofs.Reading.{row_there}
use Rattle.read_trials.proofs.reads.find_row.Goals as goal

pub loop-cell-init : goal.loop-cell-init
loop-cell-init c = record { free = c.unpin.ensures.free; there = λ k below. absurd (omega (arith, below)) }

pub returns-clause-comes : goal.returns-clause-comes
returns-clause-comes c = row_there c.loop-cell.store 5 c.args.cells.now (λ k below. c.loop-cell.invariant.there k (omega (arith, below)))
