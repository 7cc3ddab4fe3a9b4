use Rattle.row_versions.specs.Relations.{AreAssigned}
use Rattle.table_state.specs.Tables.{AreStored}
use Rattle.row_trials.proofs.tables.run.Given as goal

abbrev pub invariant-loop-value : goal.invariant-loop-value
invariant-loop-value g l = AreAssigned l.xacts l.table.rows.pages × AreStored l.table
