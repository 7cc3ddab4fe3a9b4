use Rattle.std.proofs.Common.{arith}
use Rattle.toast_io.proofs.Taken.{appends_more, written_within}
use Rattle.toast_io.proofs.whole.write_all.Goals as goal

pub loop-at-preserved : goal.loop-at-preserved
loop-at-preserved g c = record {
  within = written_within c.args.bytes.now c.loop-at.at c.in_ok-count.count c.loop-at.invariant.within c.in_ok-count.ensures.bound;
  written = appends_more _ _ _ c.args.bytes.now c.loop-at.at c.in_ok-count.count c.loop-at.invariant.written c.in_ok-count.ensures.bytes;
  count = omega (arith, c.in_ok-count.ensures.count);
}
