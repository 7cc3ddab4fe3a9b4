-- The tree's own change is that of its map.
use Rattle.replica_map.proofs.Trees.{put_is}
use Rattle.replica_map.proofs.rows.put.Goals as goal

pub returns-clause-ok : goal.returns-clause-ok
returns-clause-ok c = put_is c.args.rows.now.entries c.insert.new.self.entries c.args.at c.args.row c.in_ok-insert.ensures.updates.0
