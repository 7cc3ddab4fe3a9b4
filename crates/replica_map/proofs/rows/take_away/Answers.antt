-- The tree's own change is that of its map.
use Rattle.replica_map.proofs.Trees.{gone_is}
use Rattle.replica_map.proofs.rows.take_away.Goals as goal

pub returns : goal.returns
returns c = gone_is c.args.rows.now.entries c.remove.new.self.entries c.args.at.now c.remove.ensures.updates.0
