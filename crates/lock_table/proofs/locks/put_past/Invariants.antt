-- The sessions so far hold nothing.
use Rattle.std.proofs.Common.{◌≡◌, ◌-◌, length}
use Rattle.std.specs.Prelude.{replicate}
use Rattle.lock_table.specs.Held.{nothing}
use Rattle.lock_table.proofs.locks.put_past.Given as goal

abbrev pub invariant-loop-place : goal.invariant-loop-place
invariant-loop-place l = l.more.items ≡ replicate (l._place - length l.sessions.items) nothing
