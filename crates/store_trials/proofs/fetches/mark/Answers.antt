use Rattle.std.proofs.Common.{ℕ, ◌≡◌, None, sym, ap, ◌∙◌, subst}
use Rattle.xact_status.specs.Xacts.{Xacts, IsAssigned}
use Rattle.chunk_relation.specs.Relations.{AreAssigned}
use Rattle.chunk_index.specs.Pinned.{pin_of}
use Rattle.chunk_index.proofs.PinFacts.{pin_dropped}
use Rattle.toast_store.specs.Stores.{Store}
use Rattle.toast_store.specs.Walks.{entry_at}
use Rattle.toast_store.specs.Marks.{Marking, IsMarkReady, store_marked}
use Rattle.toast_store.proofs.Walked.{begun}
use Rattle.store_trials.proofs.Assigned.{assigned_marked}
use Rattle.store_trials.proofs.fetches.mark.Goals as goal

-- a step's chunk is ended by a transaction that was given its xid
step_assigned : (xacts : Xacts) (store later : Store) (mark : Marking) (xid : ℕ) → later ≡ store_marked store mark → mark.xid ≡ xid → IsAssigned xacts xid → AreAssigned xacts store.rel.pages → AreAssigned xacts later.rel.pages
step_assigned xacts store later mark xid is same given assigned = subst (λ (s : Store). AreAssigned xacts s.rel.pages) (sym is) (assigned_marked xacts mark.xid store.rel.pages (entry_at mark.walk.stage) (subst (IsAssigned xacts) (sym same) given) assigned)

pub loop-init : goal.loop-init
loop-init g c = record {
  ready = begun c.unpin.new.self.index _ _ _ _ 5 (ap (λ (m : Marking). m.walk) c.new-mark.ensures.mark) (subst (λ (s : Store). pin_of s.index.pins 5 ≡ None) (sym c.unpin.ensures.dropped) (pin_dropped c.args.store.now.index.pins 5));
  xid = ap (λ (m : Marking). m.xid) c.new-mark.ensures.mark;
  assigned = λ xacts given assigned. subst (λ (s : Store). AreAssigned xacts s.rel.pages) (sym c.unpin.ensures.dropped) assigned;
}

pub loop-preserved : goal.loop-preserved
loop-preserved g c = record {
  ready = subst (IsMarkReady c.step.new.store c.step.new.self) c.in-More.is c.in_ok-step.ensures.ok.ready;
  xid = ap (λ (m : Marking). m.xid) c.in_ok-step.ensures.ok.mark ∙ c.loop.invariant.xid;
  assigned = λ xacts given assigned. step_assigned xacts c.loop.store c.step.new.store c.loop.mark c.args.xid c.in_ok-step.ensures.ok.store c.loop.invariant.xid given (c.loop.invariant.assigned xacts given assigned);
}

pub returns-in_err-step : goal.returns-in_err-step
returns-in_err-step g c = λ xacts given assigned. subst (λ (s : Store). AreAssigned xacts s.rel.pages) (sym c.in_err-step.ensures.store_stays) (c.loop.invariant.assigned xacts given assigned)

pub returns-in-Done : goal.returns-in-Done
returns-in-Done g c = λ xacts given assigned. step_assigned xacts c.loop.store c.step.new.store c.loop.mark c.args.xid c.in_ok-step.ensures.ok.store c.loop.invariant.xid given (c.loop.invariant.assigned xacts given assigned)
