use Rattle.std.proofs.Common.{◌≡◌}
use Rattle.xact_status.specs.Xacts.{Xacts, IsAssigned}
use Rattle.chunk_relation.specs.Relations.{AreAssigned}
use Rattle.toast_store.specs.Walks.{CanStep}
use Rattle.store_trials.proofs.fetches.mark.Given as goal

abbrev pub invariant-loop : goal.invariant-loop
invariant-loop g l = record {
  ready : CanStep l.store.index l.mark.walk;
  xid : l.mark.xid ≡ l.xid;
  assigned : (xacts : Xacts) → IsAssigned xacts l.xid → AreAssigned xacts l.fn.store.rel.pages → AreAssigned xacts l.store.rel.pages;
}
