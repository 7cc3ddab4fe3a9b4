use Rattle.script_words.proofs.Cuts.{lines_cut}
use Rattle.script_words.proofs.lines.cut_line.Goals as goal

pub returns-clause-cut : goal.returns-clause-cut
returns-clause-cut c = rw (c.cut_at.ensures.front, c.cut_at.ensures.back) (lines_cut c.args.bytes.now c.requires)
