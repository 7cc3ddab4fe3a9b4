use Rattle.std.proofs.Common.{◌≡◌}
use Rattle.toast_store.specs.Between.{Pins}
use Rattle.toast_store.specs.Walks.{CanStep, steps_left}
use Rattle.toast_store.specs.Fetches.{new_fetch, outcome}
use Rattle.read_trials.proofs.reads.find.Given as goal

abbrev pub invariant-loop-fetch : goal.invariant-loop-fetch
invariant-loop-fetch l = record {
  ready : CanStep l.store.index l.fetch.walk;
  same : outcome l.store l.fetch ≡ outcome l.fn.store (new_fetch l.fn.p l.fn.span 5);
  pins : Pins l.fn.store l.store;
}

abbrev pub decreases-loop-fetch : goal.decreases-loop-fetch
decreases-loop-fetch l = steps_left l.store.index.entries l.fetch.walk
