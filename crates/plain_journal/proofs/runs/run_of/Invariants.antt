use Rattle.plain_journal.proofs.SoFar.{IsSoFar}
use Rattle.plain_journal.proofs.runs.run_of.Given as goal

abbrev pub invariant-loop-entry : goal.invariant-loop-entry
invariant-loop-entry l = IsSoFar l.script l.journal l.entry-index l.run
