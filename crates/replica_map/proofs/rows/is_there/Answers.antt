-- The tree's own look-up is that of its map.
use Rattle.std.proofs.Common.{is_some, sym, ap, ◌∙◌}
use Rattle.replica_map.proofs.Trees.{get_is}
use Rattle.replica_map.proofs.rows.is_there.Goals as goal

pub returns : goal.returns
returns c = c.contains_key.ensures ∙ ap is_some (sym (get_is c.args.rows.now.entries c.args.at.now))
