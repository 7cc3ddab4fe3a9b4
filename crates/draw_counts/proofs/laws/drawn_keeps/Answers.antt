use Rattle.draw_counts.proofs.Proved.{drawn_keeps}
use Rattle.draw_counts.proofs.laws.drawn_keeps.Goals as goal

pub returns : goal.returns
returns c = drawn_keeps
