use Rattle.chunk_index.proofs.PinFacts.{pin_dropped}
use Rattle.store_trials.proofs.indexes.ask_on.Goals as goal

pub batch-requires : goal.batch-requires
batch-requires c = rw c.unpin.ensures.dropped (pin_dropped c.args.index.now.pins c.args.session)
