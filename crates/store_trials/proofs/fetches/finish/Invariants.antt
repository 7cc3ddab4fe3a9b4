use Rattle.std.proofs.Common.{◌≡◌}
use Rattle.toast_store.specs.Walks.{CanStep, steps_left}
use Rattle.toast_store.specs.Fetches.{outcome}
use Rattle.store_trials.proofs.fetches.finish.Given as goal

abbrev pub invariant-loop-fetch : goal.invariant-loop-fetch
invariant-loop-fetch l = record {
  ready : CanStep l.store.index l.fetch.walk;
  same : outcome l.store l.fetch ≡ outcome l.initial.store l.initial.fetch;
}

abbrev pub decreases-loop-fetch : goal.decreases-loop-fetch
decreases-loop-fetch l = steps_left l.store.index.entries l.fetch.walk
