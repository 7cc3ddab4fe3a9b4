-- The tree's entries are those of its map.
use Rattle.replica_map.proofs.Trees.{entries_are}
use Rattle.replica_map.proofs.rows.nth_row.Goals as goal

pub returns-in_err-at : goal.returns-in_err-at
returns-in_err-at c = rw (entries_are c.args.rows.now.entries c.entry_at.ensures.ordered) (rw c.from_residual.ensures c.in_err-at.ensures.entry)

pub returns : goal.returns
returns c = rw (entries_are c.args.rows.now.entries c.entry_at.ensures.ordered) (rw c.with_place.ensures c.in_ok-at.ensures.entry)
