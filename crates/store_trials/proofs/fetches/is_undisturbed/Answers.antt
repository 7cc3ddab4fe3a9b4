use Rattle.std.proofs.Common.{ap, subst}
use Rattle.chunk_index.specs.Pinned.{pin_of}
use Rattle.toast_store.specs.Walks.{Walking}
use Rattle.toast_store.specs.Fetches.{IsFetchReady}
use Rattle.toast_store.proofs.Walked.{can_still}
use Rattle.store_trials.proofs.fetches.is_undisturbed.Goals as goal

pub loop-seq-preserved : goal.loop-seq-preserved
loop-seq-preserved g c = record {
  ready = can_still c.step.new.store.index c.disturb.new.store.index c.step.new.self.walk (ap (λ pins. pin_of pins (Walking.session c.step.new.self.walk)) c.disturb.ensures.pins) (subst (IsFetchReady c.step.new.store c.step.new.self) c.in-More.is c.in_ok-step.ensures.ok.ready);
  assigned = c.disturb.ensures.assigned;
}
