use Rattle.chunk_relation.specs.Relations.{AreAssigned}
use Rattle.toast_store.specs.Walks.{CanStep}
use Rattle.store_trials.proofs.fetches.is_undisturbed.Given as goal

abbrev pub invariant-loop-seq : goal.invariant-loop-seq
invariant-loop-seq g l = record {
  ready : CanStep l.store.index l.fetch.walk;
  assigned : AreAssigned l.xacts l.store.rel.pages;
}
