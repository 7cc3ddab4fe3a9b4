use Rattle.value_holders.proofs.Readers.{readers_are_safe}
use Rattle.value_holders.proofs.laws.readers_are_safe.Goals as goal

pub returns : goal.returns
returns c = readers_are_safe
