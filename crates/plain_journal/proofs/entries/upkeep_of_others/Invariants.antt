use Rattle.std.proofs.Common.{◌≡◌, ◌++◌, drop}
use Rattle.plain_journal.proofs.Rest.{others_in}
use Rattle.plain_journal.proofs.entries.upkeep_of_others.Given as goal

abbrev pub invariant-loop-running : goal.invariant-loop-running
invariant-loop-running l = l.others ++ others_in l.session (drop l.running-index l.all) ≡ others_in l.session l.all
