use Rattle.std.proofs.Common.{◌≡◌, drop}
use Rattle.plain_journal.proofs.Rest.{ended_from}
use Rattle.plain_journal.proofs.legality.all_ended.Given as goal

abbrev pub invariant-loop-at : goal.invariant-loop-at
invariant-loop-at l = ended_from l.at l.told (drop l.at l.sessions) ≡ ended_from 0 l.told l.sessions
