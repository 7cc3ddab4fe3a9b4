use Rattle.rewrite_ends.proofs.Whole.{copies_are_whole}
use Rattle.rewrite_ends.proofs.laws.copies_are_whole.Goals as goal

pub returns : goal.returns
returns c = copies_are_whole
