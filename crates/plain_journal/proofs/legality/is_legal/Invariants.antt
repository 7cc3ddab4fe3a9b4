use Rattle.std.proofs.Common.{◌≡◌, drop}
use Rattle.command_set.specs.Journals.{is_legal, may_follow_on}
use Rattle.plain_journal.proofs.SoFar.{IsSoFar}
use Rattle.plain_journal.proofs.legality.is_legal.Given as goal

abbrev pub invariant-loop-entry : goal.invariant-loop-entry
invariant-loop-entry l = IsSoFar l.script l.journal l.entry-index l.run × (may_follow_on l.script l.run (drop l.entry-index l.journal) ≡ is_legal l.script l.journal)
