-- No session so far is in the way.
use Rattle.std.proofs.Common.{◌≡◌, ◌<◌, ℕ, false}
use Rattle.lock_table.specs.Locks.{blocks}
use Rattle.lock_table.proofs.locks.first_in_way.Given as goal

abbrev pub invariant-loop-other : goal.invariant-loop-other
invariant-loop-other l = (other : ℕ) → other < l.other → blocks l.sessions l.session l.lock other ≡ false
