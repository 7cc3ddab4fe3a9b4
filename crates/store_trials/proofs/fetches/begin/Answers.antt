use Rattle.std.proofs.Common.{◌≡◌, None, sym, ap, subst}
use Rattle.chunk_index.specs.Pinned.{pin_of}
use Rattle.chunk_index.proofs.PinFacts.{pin_dropped}
use Rattle.toast_store.specs.Stores.{Store}
use Rattle.toast_store.specs.Fetches.{Fetching}
use Rattle.toast_store.proofs.Walked.{begun}
use Rattle.store_trials.proofs.fetches.begin.Goals as goal

pub returns-clause-ready : goal.returns-clause-ready
returns-clause-ready g c = begun c.unpin.new.self.index _ _ _ _ 5 (ap (λ (f : Fetching). f.walk) c.in_ok-fetch.ensures.fetch) (subst (λ (s : Store). pin_of s.index.pins 5 ≡ None) (sym c.unpin.ensures.dropped) (pin_dropped c.args.store.now.index.pins 5))
