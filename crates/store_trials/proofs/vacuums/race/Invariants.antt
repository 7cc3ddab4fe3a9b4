use Rattle.chunk_relation.specs.Relations.{AreAssigned}
use Rattle.toast_vacuum.specs.Holds.{VacuumHolds}
use Rattle.store_trials.proofs.Readers.{IsReader}
use Rattle.store_trials.proofs.vacuums.race.Given as goal

abbrev pub invariant-loop-turn : goal.invariant-loop-turn
invariant-loop-turn g l = record {
  assigned : AreAssigned l.xacts l.store.rel.pages;
  holds : VacuumHolds l.xacts l.store l.vacuum;
  near : IsReader l.store.index 1 l.near;
  far : IsReader l.store.index 2 l.far;
}
