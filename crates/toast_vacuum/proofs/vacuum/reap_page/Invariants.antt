use Rattle.std.proofs.Common.{◌≡◌, ◌+◌, ◌-◌, drop, length}
use Rattle.toast_vacuum.specs.Machines.{AreReapable, on_page, reaped_all}
use Rattle.toast_vacuum.proofs.vacuum.reap_page.Given as goal

-- what is still to be freed makes of the target what all of it was to make, and may be freed
abbrev pub invariant-loop-tid : goal.invariant-loop-tid
invariant-loop-tid g l = record {
  rest : reaped_all g.T.Sweepable.ops (on_page l.page (drop l.at l.gathered)) l.target ≡ reaped_all g.T.Sweepable.ops (on_page l.page (drop l.from l.gathered)) l.fn.target;
  count : l.at + length (on_page l.page (drop l.at l.gathered)) ≡ l.from + length (on_page l.page (drop l.from l.gathered));
  ready : AreReapable g.T.Sweepable.ops (on_page l.page (drop l.at l.gathered)) l.target;
}

abbrev pub decreases-loop-tid : goal.decreases-loop-tid
decreases-loop-tid g l = length l.gathered - l.at
