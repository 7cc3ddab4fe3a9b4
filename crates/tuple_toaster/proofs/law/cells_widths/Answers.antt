use Rattle.tuple_toaster.proofs.Going.{cells_widths}
use Rattle.tuple_toaster.proofs.law.cells_widths.Goals as goal

pub returns : goal.returns
returns c = cells_widths
