-- One column more is made of what is sent of it and of its old value.
use Rattle.std.proofs.Common.{◌<◌, length, arith}
use Rattle.replica_map.proofs.Columns.{row_more}
use Rattle.replica_map.proofs.merge.merged.Goals as goal

pub loop-i-preserved : goal.loop-i-preserved
loop-i-preserved c =
    let low : c.loop-i.i < length c.args.old.now = omega arith in
    cc (row_more _ _ _ _ _ low c.loop-i-test.true c.index-old-i.is c.index-columns-i.is, c.loop-i.invariant, c.in_ok-value_of.ensures, c.in_ok-push.ensures.ok)
