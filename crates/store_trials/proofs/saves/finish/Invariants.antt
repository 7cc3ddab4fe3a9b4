use Rattle.std.proofs.Common.{◌≡◌}
use Rattle.xact_status.specs.Xacts.{Xacts, IsAssigned}
use Rattle.chunk_relation.specs.Relations.{AreAssigned}
use Rattle.toast_store.specs.Saves.{IsUnderWay, SaveStands}
use Rattle.store_trials.proofs.saves.finish.Given as goal

abbrev pub invariant-loop : goal.invariant-loop
invariant-loop l = record {
  under_way : IsUnderWay l.save.stage;
  stands : SaveStands l.store l.ids l.save;
  xid : l.save.xid ≡ l.fn.save.xid;
  assigned : (xacts : Xacts) → IsAssigned xacts l.fn.save.xid → AreAssigned xacts l.fn.store.rel.pages → AreAssigned xacts l.store.rel.pages;
}
