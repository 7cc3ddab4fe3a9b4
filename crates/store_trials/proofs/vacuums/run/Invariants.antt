use Rattle.chunk_relation.specs.Relations.{AreAssigned}
use Rattle.toast_vacuum.specs.Holds.{VacuumHolds}
use Rattle.store_trials.proofs.vacuums.run.Given as goal

abbrev pub invariant-loop-made : goal.invariant-loop-made
invariant-loop-made g l = record {
  assigned : AreAssigned l.xacts l.store.rel.pages;
  holds : VacuumHolds l.xacts l.store l.vacuum;
}
