use Rattle.std.proofs.Common.{ℕ, ◌≡◌, sym, ap, ◌∙◌, subst}
use Rattle.xact_status.specs.Xacts.{Xacts, IsAssigned}
use Rattle.chunk_relation.specs.Relations.{Relation, AreAssigned}
use Rattle.toast_store.specs.Stores.{Store}
use Rattle.toast_store.specs.Saves.{Saving, IsSaveLeft, rel_after}
use Rattle.store_trials.proofs.Assigned.{assigned_saved}
use Rattle.store_trials.proofs.saves.finish.Goals as goal

-- a step's chunk is put by a transaction that was given its xid
step_assigned : (xacts : Xacts) (store later : Store) (save : Saving) (xid : ℕ) → later.rel ≡ rel_after store.rel save save.stage → save.xid ≡ xid → IsAssigned xacts xid → AreAssigned xacts store.rel.pages → AreAssigned xacts later.rel.pages
step_assigned xacts store later save xid is same given assigned = subst (λ (r : Relation). AreAssigned xacts r.pages) (sym is) (assigned_saved xacts store.rel save save.stage (subst (IsAssigned xacts) (sym same) given) assigned)

pub loop-preserved : goal.loop-preserved
loop-preserved c = record {
  under_way = subst (IsSaveLeft c.step.new.store c.step.new.ids c.step.new.self) c.in-More.is c.in_ok-step.ensures.ok.left;
  stands = c.in_ok-step.ensures.ok.stands;
  xid = ap (λ (s : Saving). s.xid) c.in_ok-step.ensures.ok.save ∙ c.loop.invariant.xid;
  assigned = λ xacts given assigned. step_assigned xacts c.loop.store c.step.new.store c.loop.save _ c.in_ok-step.ensures.ok.rel c.loop.invariant.xid given (c.loop.invariant.assigned xacts given assigned);
}

pub returns-in_err-step : goal.returns-in_err-step
returns-in_err-step c = λ xacts given assigned. subst (λ (s : Store). AreAssigned xacts s.rel.pages) (sym c.in_err-step.ensures.err.store) (c.loop.invariant.assigned xacts given assigned)

pub returns-in-Done : goal.returns-in-Done
returns-in-Done c = λ xacts given assigned. step_assigned xacts c.loop.store c.step.new.store c.loop.save _ c.in_ok-step.ensures.ok.rel c.loop.invariant.xid given (c.loop.invariant.assigned xacts given assigned)

pub returns : goal.returns
returns c = c.loop.invariant.assigned
