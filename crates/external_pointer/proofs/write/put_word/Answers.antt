use Rattle.std.proofs.Common.{arith, ◌+◌, ◌-◌}
use Rattle.external_pointer.proofs.Words.{word_put}
use Rattle.external_pointer.proofs.write.put_word.Goals as goal

pub returns : goal.returns
returns c = word_put c.args.at (c.args.at + 4 - c.args.at) c.args.out.now c.write_u32.new.buf c.args.word (omega arith) c.write_u32.ensures
