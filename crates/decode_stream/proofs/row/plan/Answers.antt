-- One column more is planned.
use Rattle.std.proofs.Common.{take}
use Rattle.decode_stream.specs.States.{found_in}
use Rattle.decode_stream.proofs.Lists.{take_more}
use Rattle.decode_stream.proofs.Columns.{planned-push}
use Rattle.decode_stream.proofs.row.plan.Goals as goal

pub loop-i-preserved : goal.loop-i-preserved
loop-i-preserved c =
    let more = take_more c.args.cells.now c.loop-i.i c.index-cells-i.result c.loop-i-test.true c.index-cells-i.is in
    let step = planned-push (found_in c.args.values.now.entries) c.args.table (take c.loop-i.i c.args.cells.now) c.index-cells-i.result in
    cc (more, step, c.loop-i.invariant, c.in_ok-plan_cell.ensures, c.in_ok-push.ensures.ok)
