use Rattle.row_versions.specs.Relations.{AreAssigned}
use Rattle.store_trials.proofs.vacuums.two_versions.Given as goal

abbrev pub invariant-loop-xid : goal.invariant-loop-xid
invariant-loop-xid l = AreAssigned l.xacts l.rel.pages
