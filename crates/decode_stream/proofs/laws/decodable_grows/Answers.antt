use Rattle.decode_stream.proofs.Growing.{decodable_grows}
use Rattle.decode_stream.proofs.laws.decodable_grows.Goals as goal

pub returns : goal.returns
returns c = decodable_grows
