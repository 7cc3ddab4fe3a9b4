-- The pass is the store's, and has seen no less.
use mathlib.Core.List.{IsPrefix}
use Rattle.shared_store.specs.Shares.{IsPassFor}
use Rattle.shared_store.proofs.run.run_session.Given as goal

abbrev pub invariant-loop : goal.invariant-loop
invariant-loop g l =
    (goal.iterator-loop g).can_next l.iterator' × (goal.iterator-loop g).is_finite l.iterator'
    × IsPassFor l.store l.pass × IsPrefix l.initial.pass.seen l.pass.seen
