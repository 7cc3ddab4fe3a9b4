-- Nothing is known of no entries.
use Rattle.std.proofs.Common.{refl}
use Rattle.decode_stream.proofs.Firsts.{fed_nothing}
use Rattle.decode_stream.proofs.decoder.Decoder.new.Goals as goal

pub returns : goal.returns
returns c = fed_nothing _ c.in_ok-table.ensures refl refl
