use Rattle.rewrite_ends.proofs.Worlds.{worlds_same}
use Rattle.rewrite_ends.proofs.laws.worlds_same.Goals as goal

pub returns : goal.returns
returns c = worlds_same
