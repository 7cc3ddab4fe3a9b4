use Rattle.decode_stream.proofs.Growing.{fronts_stay}
use Rattle.decode_stream.proofs.laws.fronts_stay.Goals as goal

pub returns : goal.returns
returns c = fronts_stay
