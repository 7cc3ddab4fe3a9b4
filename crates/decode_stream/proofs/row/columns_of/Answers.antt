-- Columns of cells without a fault are within their ranges.
use Rattle.std.proofs.Common.{sym, subst}
use Rattle.stream_wire.specs.Spelling.{AreColumns}
use Rattle.decode_stream.specs.States.{found_in}
use Rattle.decode_stream.proofs.Columns.{columns_range}
use Rattle.decode_stream.proofs.row.columns_of.Goals as goal

pub returns-clause-range : goal.returns-clause-range
returns-clause-range c = subst AreColumns (sym c.fill.ensures) (columns_range (found_in c.args.values.now.entries) c.args.table c.args.cells.now c.requires (sym c.in_default.ensures))
