use Rattle.tuple_toaster.proofs.Going.{pushed_widths}
use Rattle.tuple_toaster.proofs.law.pushed_widths.Goals as goal

pub returns : goal.returns
returns c = pushed_widths
