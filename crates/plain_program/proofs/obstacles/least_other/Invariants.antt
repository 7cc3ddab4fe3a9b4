use Rattle.std.proofs.Common.{◌≡◌, ◌+◌, drop}
use Rattle.plain_program.proofs.Least.{least_from}
use Rattle.plain_program.proofs.obstacles.least_other.Given as goal

abbrev pub invariant-loop-other : goal.invariant-loop-other
invariant-loop-other l = (l.number ≡ l.other-index) × (least_from (l.other-index + 1) l.store l.session l.way (drop l.other-index l.sessions) ≡ least_from 1 l.store l.session l.way l.store.sessions)
