use Rattle.change_stream.proofs.Within.{stream_in_range}
use Rattle.change_stream.proofs.laws.messages_are_in_range.Goals as goal

pub returns : goal.returns
returns c = stream_in_range
