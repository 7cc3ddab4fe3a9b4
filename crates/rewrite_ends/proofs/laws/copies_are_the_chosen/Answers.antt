use Rattle.rewrite_ends.proofs.Copied.{copies_are_the_chosen}
use Rattle.rewrite_ends.proofs.laws.copies_are_the_chosen.Goals as goal

pub returns : goal.returns
returns c = copies_are_the_chosen
