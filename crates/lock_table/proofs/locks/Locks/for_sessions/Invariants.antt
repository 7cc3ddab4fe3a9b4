-- The places so far hold nothing.
use Rattle.std.proofs.Common.{◌≡◌}
use Rattle.std.specs.Prelude.{replicate}
use Rattle.lock_table.specs.Held.{nothing}
use Rattle.lock_table.proofs.locks.Locks.for_sessions.Given as goal

abbrev pub invariant-loop : goal.invariant-loop
invariant-loop l = l.places.items ≡ replicate l.counter nothing
