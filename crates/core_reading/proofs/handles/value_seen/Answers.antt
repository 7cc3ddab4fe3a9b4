use Rattle.core_parts.specs.Found.{as_old}
use Rattle.core_reading.proofs.Found.{has_column, seen_some}
use Rattle.core_reading.proofs.handles.value_seen.Goals as goal

pub cell_at-requires-clause-within : goal.cell_at-requires-clause-within
cell_at-requires-clause-within c =
    (has_column c.args.core.now c.args.session c.args.table c.args.key.now (as_old c.in-Some.row) c.args.column c.requires.inside (seen_some c.in_ok-row.field-0 c.in-Some.row _ c.in_ok-row.ensures c.in-Some.is) c.requires.fits).within
