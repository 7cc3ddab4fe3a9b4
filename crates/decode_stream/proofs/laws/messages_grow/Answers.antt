use Rattle.decode_stream.proofs.Messages.{messages_grow}
use Rattle.decode_stream.proofs.laws.messages_grow.Goals as goal

pub returns : goal.returns
returns c = messages_grow
