use Rattle.chunk_index.proofs.PinFacts.{pin_dropped}
use Rattle.write_trials.proofs.written.give_up.Goals as goal

pub returns : goal.returns
returns c = rw c.unpin.ensures.dropped (pin_dropped c.args.desk.now.toast.index.pins 1)
