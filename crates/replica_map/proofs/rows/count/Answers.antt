-- The tree has as many entries as its map.
use Rattle.std.proofs.Common.{length, sym, ap, ◌∙◌}
use Rattle.std.specs.FinMap as finite
use Rattle.replica_map.specs.States.{rows_of}
use Rattle.replica_map.proofs.Trees.{entries_are}
use Rattle.replica_map.proofs.rows.count.Goals as goal

pub returns : goal.returns
returns c =
    let es = c.args.rows.now.entries in
    c.len.ensures.len ∙ sym (finite.len-entries (rows_of es) ∙ ap length (entries_are es c.len.ensures.ordered))
