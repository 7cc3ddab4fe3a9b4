use Rattle.std.proofs.Common.{◌∙◌}
use Rattle.chunk_index.proofs.Ordered.{entry_total}
use Rattle.chunk_index.proofs.Searches.{insert_place}
use Rattle.chunk_index.proofs.node.put.Goals as goal

pub returns-clause-put : goal.returns-clause-put
returns-clause-put c = c.in_ok-insert-in-Err.ensures.items ∙ insert_place entry_total c.args.e c.args.entries.now.items c.in-Err.place c.requires.sorted (rw c.deref.ensures.value at c.in-Err.ensures.bound) (rw c.deref.ensures.value at c.in-Err.ensures.position)
