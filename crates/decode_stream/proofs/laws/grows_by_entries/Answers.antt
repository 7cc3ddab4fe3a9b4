use Rattle.decode_stream.proofs.Growing.{grows_by_entries}
use Rattle.decode_stream.proofs.laws.grows_by_entries.Goals as goal

pub returns : goal.returns
returns c = grows_by_entries
