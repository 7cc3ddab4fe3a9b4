-- The pass stays the store's.
use Rattle.shared_store.specs.Shares.{IsPassFor}
use Rattle.shared_store.proofs.tests.ended.Given as goal

abbrev pub invariant-loop : goal.invariant-loop
invariant-loop g l = IsPassFor l.store l.pass
