use Rattle.std.proofs.Common.{◌≤◌, ◌+◌, ⊎_elim, length, Some, refl, ap, subst, arith}
use Rattle.cell_arena.specs.Entries.{AreFree}
use Rattle.cell_arena.proofs.Lists.{get_below}
use Rattle.cell_arena.proofs.Added.{added_none, added_one, free_front}
use Rattle.cell_arena.proofs.table.add_all.Goals as goal

pub overflow_add-from : goal.overflow_add-from
overflow_add-from c =
    let within : c.add-last.result ≤ length c.loop-block.entries.items = ⊎_elim (λ t. let b = get_below c.loop-block.entries.items c.add-last.result t.0.0 t.0.1 in omega (arith, b)) (λ t. let e = t.0 in omega (arith, e)) c.add-last.ensures.added in
    let long = c.loop-block.entries.ok.0 in
    let room = c.loop-block.entries.ok.1 in
    let small = c.loop-block.entries.small in
    record { fits = omega (arith, within, long, room, small) }

pub loop-block-preserved : goal.loop-block-preserved
loop-block-preserved c =
    let i = c.loop-block.invariant in
    let front = free_front c.pop.new.self.items c.in-Some.block (subst AreFree c.in-Some.ensures.items i.fresh) in
    let more = added_one c.args.entries.now.items i.count c.loop-block.entries.items c.loop-block.last c.add-last.result _ c.add-last.new.entries.items i.added c.add-last.ensures.added refl (ap Some front.1) in
    let longer = more.1 in
    let shorter = c.in-Some.ensures.len in
    let room = i.room in
    let same = c.add-last.ensures.capacity in
    let was = c.loop-block.entries.ok.0 in
    let is = c.add-last.new.entries.ok.0 in
    let counted = i.counted in
    record {
      room = omega (arith, longer, shorter, room, same, was, is);
      fresh = front.0;
      count = i.count + 1;
      counted = omega (arith, counted, shorter);
      added = more.0;
    }

pub loop-block-init : goal.loop-block-init
loop-block-init c = record {
  room = c.requires.room;
  fresh = c.requires.fresh;
  count = 0;
  counted = omega arith;
  added = added_none _ _ c.requires.table;
}
