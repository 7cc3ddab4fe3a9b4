-- The cells so far have no fault, and then the first that has one tells it.
use Rattle.std.proofs.Common.{sym}
use Rattle.decode_stream.specs.Decoding.{cell_fault}
use Rattle.decode_stream.specs.States.{found_in}
use Rattle.decode_stream.proofs.Lists.{first_found, none_more}
use Rattle.decode_stream.proofs.row.first_size_fault.Goals as goal

pub returns-in-Some : goal.returns-in-Some
returns-in-Some c = sym (first_found (cell_fault (found_in c.args.values.now.entries) c.args.table) c.args.cells.now c.loop-cell.cell-index c.cell-item.result _ c.loop-cell-test.true c.cell-item.is c.loop-cell.invariant (sym c.in-Some.ensures))

pub loop-cell-preserved : goal.loop-cell-preserved
loop-cell-preserved c = none_more (cell_fault (found_in c.args.values.now.entries) c.args.table) c.args.cells.now c.loop-cell.cell-index c.cell-item.result c.loop-cell-test.true c.cell-item.is c.loop-cell.invariant (sym c.in_default.ensures)
