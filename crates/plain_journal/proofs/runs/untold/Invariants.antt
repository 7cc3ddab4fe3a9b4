use Rattle.std.proofs.Common.{◌≡◌}
use Rattle.std.specs.Prelude.{replicate}
use Rattle.command_set.specs.Journals.{untold}
use Rattle.plain_journal.proofs.runs.untold.Given as goal

abbrev pub invariant-loop : goal.invariant-loop
invariant-loop l = l.told ≡ replicate l.counter untold
