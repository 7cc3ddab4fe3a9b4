use Rattle.std.proofs.Common.{[], ◌∷◌, sym, ap, ◌∙◌, subst, arith}
use Rattle.xact_status.specs.Xacts.{IsAssigned}
use Rattle.slot_page.proofs.Pages.{item_put}
use Rattle.chunk_relation.specs.Relations.{AreAssigned}
use Rattle.chunk_relation.proofs.Events.{assigned_none, assigned_put, new_assigned}
use Rattle.toast_store.specs.Stores.{Store}
use Rattle.store_trials.proofs.saves.with_chunk.Goals as goal

pub returns-clause-entries : goal.returns-clause-entries
returns-clause-entries c = ap (λ (s : Store). s.index.entries) c.in_ok-tid.ensures.put ∙ ap (λ (s : Store). s.index.entries) c.in_ok-store.ensures.empty

pub returns-clause-pins : goal.returns-clause-pins
returns-clause-pins c = ap (λ (s : Store). s.index.pins) c.in_ok-tid.ensures.put ∙ ap (λ (s : Store). s.index.pins) c.in_ok-store.ensures.empty

pub returns-clause-chunk : goal.returns-clause-chunk
returns-clause-chunk c = rw (c.in_ok-tid.ensures.put, c.in_ok-tid.ensures.tid) (item_put 39 _ c.in_ok-store.store.rel.pages)

pub returns-clause-assigned : goal.returns-clause-assigned
returns-clause-assigned c = λ xacts next.
    let given : IsAssigned xacts 3 = record { from_first = omega arith; below_next = omega (arith, next) } in
    let before : AreAssigned xacts c.in_ok-store.store.rel.pages = subst (λ (s : Store). AreAssigned xacts s.rel.pages) (sym c.in_ok-store.ensures.empty) (assigned_none xacts) in
    subst (λ (s : Store). AreAssigned xacts s.rel.pages) (sym c.in_ok-tid.ensures.put) (assigned_put xacts 39 _ c.in_ok-store.store.rel.pages before (new_assigned xacts 16384 0 3 (1 ∷ 2 ∷ 3 ∷ []) given))
