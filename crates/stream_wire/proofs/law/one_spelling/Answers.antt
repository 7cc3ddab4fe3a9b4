use Rattle.stream_wire.proofs.Only.{one_spelling_of}
use Rattle.stream_wire.proofs.law.one_spelling.Goals as goal

pub returns : goal.returns
returns c = one_spelling_of
