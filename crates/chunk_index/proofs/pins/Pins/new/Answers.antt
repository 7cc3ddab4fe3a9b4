use Rattle.chunk_index.proofs.Sound.{pins_none}
use Rattle.chunk_index.proofs.pins.Pins.new.Goals as goal

pub invariant_of-result : goal.invariant_of-result
invariant_of-result c = rw c.new.ensures.items pins_none
