use Rattle.std.proofs.Common.{◌==◌}
use Rattle.script_words.proofs.Places.{first_place}
use Rattle.script_words.proofs.lines.find_byte.Goals as goal

pub returns : goal.returns
returns c = first_place (λ b. b == c.args.byte) c.args.bytes.now c.memchr.result c.memchr.ensures
