use Rattle.std.proofs.Common.{ap, sym, ◌∙◌}
use Rattle.read_steps.specs.Columns.{next_out}
use Rattle.read_steps.proofs.Rows.{some_found}
use Rattle.read_steps.proofs.job.begin_row.Goals as goal

pub fetch_first-requires-clause-some : goal.fetch_first-requires-clause-some
fetch_first-requires-clause-some c = some_found c.args.stored.now.cells c.in-Some.at c.in-Some.pointer (ap next_out (sym c.as_slice.ensures) ∙ sym c.in-Some.ensures.next)
