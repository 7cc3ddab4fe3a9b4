-- The tree's own look-up is that of its map.
use Rattle.std.proofs.Common.{sym, ◌∙◌}
use Rattle.replica_map.proofs.Trees.{get_is}
use Rattle.replica_map.proofs.rows.row_at.Goals as goal

pub returns : goal.returns
returns c = c.get.ensures.value ∙ sym (get_is c.args.rows.now.entries c.args.at.now)
