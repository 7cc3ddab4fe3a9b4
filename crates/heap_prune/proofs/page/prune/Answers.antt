use Rattle.std.proofs.Common.{◌<◌, length, arith}
use Rattle.slot_page.specs.declared.line.LinePointer.TheVariants.{Unused}
use Rattle.heap_prune.specs.Lines.{is_newly_dead, pruned}
use Rattle.slot_page.proofs.Loops.{mapped_more, unreached, counted_more, one_at_most}
use Rattle.heap_prune.proofs.page.prune.Goals as goal

pub loop-slot-preserved : goal.loop-slot-preserved
loop-slot-preserved g c =
    let page = c.args.page.now in
    let within : c.loop-slot.slot < length page = omega (arith, c.loop-slot-test.true, c.len-slot-end.ensures.count) in
    let so_far = c.loop-slot.invariant.page in
    let prunes = pruned g.T.Stamped.stamp_of c.args.xacts.now c.args.horizon in
    record {
      page = mapped_more prunes page c.loop-slot.page c.prune_slot.new.page c.loop-slot.slot Unused within so_far c.prune_slot.ensures.pruned;
      count = counted_more (is_newly_dead g.T.Stamped.stamp_of c.args.xacts.now c.args.horizon) page c.loop-slot.slot c.loop-slot.count c.from-count.result Unused _ c.prune_slot.result within c.loop-slot.invariant.count (unreached prunes page c.loop-slot.page c.loop-slot.slot Unused within so_far) c.prune_slot.ensures.newly c.from-count.ensures;
      few = one_at_most c.prune_slot.result c.loop-slot.count c.loop-slot.slot c.from-count.result c.loop-slot.invariant.few c.from-count.ensures;
    }
