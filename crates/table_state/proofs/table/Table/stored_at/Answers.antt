use Rattle.std.proofs.Common.{Some, sym, ap, ◌∙◌}
use Rattle.std.specs.Option.{option_map}
use Rattle.table_state.specs.Tables.{stored_of}
use Rattle.table_state.proofs.Readings.{read_ok, read_err}
use Rattle.table_state.proofs.table.Table.stored_at.Goals as goal

pub unreachable-requires-in_default-fault : goal.unreachable-requires-in_default-fault
unreachable-requires-in_default-fault c = read_err c.schema.result.now c.args.self.now.rows.schema c.in-Some.version.now.tuple c.as_slice.result.now c.in-Some.version.now.key c.read_tuple.result c.in-Err.fault c.in-Err.is c.in_default-fault.not-Memory c.schema.ensures.schema c.as_slice.ensures (c.requires.stored.each c.args.tid c.in-Some.version.now (sym c.in-Some.ensures.version)) c.read_tuple.ensures.again

pub returns-in-Ok : goal.returns-in-Ok
returns-in-Ok c =
    ap (option_map (stored_of c.args.self.now.rows.schema.storages)) (sym c.in-Some.ensures.version)
    ∙ ap Some (read_ok c.schema.result.now c.args.self.now.rows.schema c.in-Some.version.now.tuple c.as_slice.result.now c.in-Some.version.now.key c.read_tuple.result c.in-Ok.stored c.in-Ok.is c.schema.ensures.schema c.as_slice.ensures (c.requires.stored.each c.args.tid c.in-Some.version.now (sym c.in-Some.ensures.version)) c.read_tuple.ensures.again)
