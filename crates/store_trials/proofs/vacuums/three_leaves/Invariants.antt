use Rattle.std.proofs.Common.{◌≡◌, []}
use Rattle.chunk_relation.specs.Relations.{AreAssigned}
use Rattle.store_trials.proofs.vacuums.three_leaves.Given as goal

abbrev pub invariant-loop-seq : goal.invariant-loop-seq
invariant-loop-seq g l = record {
  assigned : AreAssigned l.xacts l.store.rel.pages;
  pins : l.store.index.pins ≡ [];
}
