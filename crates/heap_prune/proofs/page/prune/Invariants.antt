use Rattle.std.proofs.Common.{◌≡◌, ◌++◌, ◌≤◌, drop, map, take, count_by}
use Rattle.heap_prune.specs.Lines.{is_newly_dead, pruned}
use Rattle.heap_prune.proofs.page.prune.Given as goal

abbrev pub invariant-loop-slot : goal.invariant-loop-slot
invariant-loop-slot g l = record {
  page : l.page ≡ map (pruned g.T.Stamped.stamp_of l.xacts l.horizon) (take l.slot l.fn.page) ++ drop l.slot l.fn.page;
  count : l.count ≡ count_by (is_newly_dead g.T.Stamped.stamp_of l.xacts l.horizon) (take l.slot l.fn.page);
  few : l.count ≤ l.slot;
}
