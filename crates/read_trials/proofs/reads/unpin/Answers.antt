use Rattle.std.proofs.Common.{◌≡◌, None, sym, subst}
use Rattle.chunk_index.specs.Pinned.{pin_of}
use Rattle.chunk_index.proofs.PinFacts.{pin_dropped}
use Rattle.toast_store.specs.Stores.{Store}
use Rattle.read_trials.proofs.reads.unpin.Goals as goal

pub returns-clause-free : goal.returns-clause-free
returns-clause-free c = subst (λ (s : Store). pin_of s.index.pins 5 ≡ None) (sym c.unpin.ensures.dropped) (pin_dropped c.args.store.now.index.pins 5)
