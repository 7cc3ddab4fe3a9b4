use Rattle.std.proofs.Common.{subst}
use Rattle.tuple_layout.specs.Schemas.{TableSchema}
use Rattle.table_state.specs.Tables.{IsStored}
use Rattle.row_trials.proofs.tables.put.Goals as goal

pub put_row-requires-clause-row : goal.put_row-requires-clause-row
put_row-requires-clause-row g c = subst (λ (schema : TableSchema). IsStored schema.storages c.in_ok-row.row.key c.args.tuple.now) c.schema.ensures.schema c.in_ok-row.ensures
