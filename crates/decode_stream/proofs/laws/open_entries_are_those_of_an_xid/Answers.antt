use Rattle.decode_stream.proofs.Growing.{open_entries_are}
use Rattle.decode_stream.proofs.laws.open_entries_are_those_of_an_xid.Goals as goal

pub returns : goal.returns
returns c = open_entries_are
