use Rattle.script_words.specs.Lines.{is_blank}
use Rattle.script_words.proofs.Places.{first_place}
use Rattle.script_words.proofs.lines.find_blank.Goals as goal

pub returns : goal.returns
returns c = first_place is_blank c.args.text.now c.memchr2.result c.memchr2.ensures
