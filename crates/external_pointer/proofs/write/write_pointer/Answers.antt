use Rattle.std.proofs.Common.{arith}
use Rattle.external_pointer.proofs.Spelled.{written}
use Rattle.external_pointer.proofs.write.write_pointer.Goals as goal

pub returns : goal.returns
returns c =
    written c.args.out.now c.put_word.new.out c.put_word-2.new.out c.put_word-3.new.out c.put_word-4.new.out c.args.p.now (omega arith)
    c.put_word.ensures c.put_word-2.ensures c.put_word-3.ensures c.put_word-4.ensures
