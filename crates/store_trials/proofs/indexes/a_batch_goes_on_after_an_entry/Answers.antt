use Rattle.chunk_index.proofs.PinFacts.{pin_dropped}
use Rattle.store_trials.proofs.indexes.a_batch_goes_on_after_an_entry.Goals as goal

pub batch-requires : goal.batch-requires
batch-requires g c = rw c.unpin.ensures.dropped (pin_dropped c.in_ok-index.index.pins 5)
