use Rattle.std.proofs.Common.{◌≡◌, ◌++◌, drop, length, take}
use Rattle.heap_prune.specs.Lines.{pruned}
use Rattle.slot_page.specs.DeadSlots.{is_dead_line, tids_where}
use Rattle.heap_prune.proofs.page.gather.Given as goal

abbrev pub invariant-loop-slot : goal.invariant-loop-slot
invariant-loop-slot g l = record {
  gathered : l.dead ++ tids_where (λ line. is_dead_line (pruned g.T.Stamped.stamp_of l.xacts l.horizon line)) l.number l.slot (drop l.slot l.page) ≡ l.fn.dead ++ tids_where (λ line. is_dead_line (pruned g.T.Stamped.stamp_of l.xacts l.horizon line)) l.number 0 l.page;
  kept : take (length l.fn.dead) l.dead ≡ l.fn.dead;
}
