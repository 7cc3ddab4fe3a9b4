-- What stands at each tid after a prune, and the transactions that items name after each change, whatever the items are.
use Rattle.std.proofs.Common.{ℕ, ◌≡◌, ◌≢◌, ◌⊎◌, inl, inr, true, false, cond, Option, Some, None, List, [], length, map, refl, sym, ap, ◌∙◌, All, subst}
use Rattle.std.proofs.lemmas.Option.{same_Some, none-some}
use Rattle.std.proofs.lemmas.Bool.{cases_eq, cases_lt, cases_Bool, cond_both}
use Rattle.std.proofs.lemmas.List.{get_or-set_same, get_or-set_other, get_or_past, get_or_default, set_past}
use Rattle.std.proofs.Math.ListN.{get_or-map}
use Rattle.slot_page.specs.declared.line.Tid.{Tid}
use Rattle.slot_page.specs.declared.line.LinePointer.{LinePointer}
use Rattle.slot_page.specs.declared.line.LinePointer.TheVariants.{Normal, Dead, Unused}
use Rattle.slot_page.specs.Slots.{item_of, slot_at}
use Rattle.slot_page.specs.Pages.{page_at, slot_of, item_in, written, with_put_on}
use Rattle.slot_page.proofs.Pages.{slot_of-put, slot_of-written}
use Rattle.xact_status.specs.declared.Stamp.{Stamp}
use Rattle.xact_status.specs.Xacts.{Xacts, IsAssigned}
use Rattle.xact_status.specs.Versions.{IsStampAssigned}
use Rattle.heap_prune.specs.Lines.{is_dead_item, is_newly_dead, pruned, IsLineAssigned}
use Rattle.heap_prune.specs.Prunes.{AreAssigned, with_pruned}

-- those of an item that was just put are, where its inserter's was
pub new_stamp_assigned : (xacts : Xacts) (xid : ℕ) → IsAssigned xacts xid → IsStampAssigned xacts (record { inserter = xid; ender = None })
new_stamp_assigned xacts xid given = record { inserter = given; ender = λ x is. absurd (none-some x is) }

-- and of one that a transaction has ended
pub ended_stamp_assigned : (xacts : Xacts) (stamp : Stamp) (xid : ℕ) → IsAssigned xacts xid → IsStampAssigned xacts stamp → IsStampAssigned xacts (record { inserter = stamp.inserter; ender = Some xid })
ended_stamp_assigned xacts stamp xid given assigned = record { inserter = assigned.inserter; ender = λ x is. subst (IsAssigned xacts) (same_Some xid x is) given }

module _ {T : Type 0} (stamp_of : T → Stamp) where
  -- a slot after a prune is as before, if it lies on another page, and else pruned
  pub slot_of-pruned : (xacts : Xacts) (horizon : ℕ) (pages : List (List (LinePointer T))) (page : ℕ) (t : Tid) → ((t.page ≢ page) × (slot_of (with_pruned stamp_of xacts horizon pages page) t ≡ slot_of pages t)) ⊎ ((t.page ≡ page) × (slot_of (with_pruned stamp_of xacts horizon pages page) t ≡ pruned stamp_of xacts horizon (slot_of pages t)))
  slot_of-pruned xacts horizon pages page t = elim (cases_eq t.page page) [
    | inl same ↦ inr (
      same,
      elim (cases_lt page (length pages)) [
        | inl there ↦
            ap (λ slots. slot_at slots t.slot) (ap (λ n. page_at (with_pruned stamp_of xacts horizon pages page) n) same ∙ get_or-set_same pages page (map (pruned stamp_of xacts horizon) (page_at pages page)) [] there)
            ∙ get_or-map (pruned stamp_of xacts horizon) (page_at pages page) t.slot Unused ∙ ap (λ n. pruned stamp_of xacts horizon (slot_at (page_at pages n) t.slot)) (sym same)
        | inr past ↦
            ap (λ ps. slot_of ps t) (set_past pages page (map (pruned stamp_of xacts horizon) (page_at pages page)) past)
            ∙ none_there (ap (λ n. page_at pages n) same ∙ get_or_past pages page [] past)
      ],
    )
    | inr other ↦ inl (other, ap (λ slots. slot_at slots t.slot) (get_or-set_other pages page t.page (map (pruned stamp_of xacts horizon) (page_at pages page)) [] other))
  ]
    where
      none_there : page_at pages t.page ≡ [] → slot_of pages t ≡ pruned stamp_of xacts horizon (slot_of pages t)
      none_there none = ap (λ slots. slot_at slots t.slot) none ∙ ap (λ slots. pruned stamp_of xacts horizon (slot_at slots t.slot)) (sym none)

  -- the item of a slot that is pruned stays, or it was dead and is gone
  item_pruned : (xacts : Xacts) (horizon : ℕ) (line : LinePointer T) (after : Option T) → after ≡ item_of (pruned stamp_of xacts horizon line) → (after ≡ item_of line) ⊎ ((item : T) × (item_of line ≡ Some item) × (is_dead_item stamp_of xacts horizon item ≡ true) × (after ≡ None))
  item_pruned xacts horizon (Normal size item) after is = elim (cases_Bool (is_dead_item stamp_of xacts horizon item)) [
    | inl dead ↦ inr (item, refl, dead, is ∙ ap (λ b. item_of (cond b Dead (Normal size item))) dead)
    | inr live ↦ inl (is ∙ ap (λ b. item_of (cond b Dead (Normal size item))) live)
  ]
  item_pruned xacts horizon Dead after is = inl is
  item_pruned xacts horizon Unused after is = inl is

  -- a prune takes only items that are dead under its horizon
  pub item_of-pruned : (xacts : Xacts) (horizon : ℕ) (pages : List (List (LinePointer T))) (page : ℕ) (t : Tid) → (item_in (with_pruned stamp_of xacts horizon pages page) t ≡ item_in pages t) ⊎ ((item : T) × (item_in pages t ≡ Some item) × (is_dead_item stamp_of xacts horizon item ≡ true) × (item_in (with_pruned stamp_of xacts horizon pages page) t ≡ None))
  item_of-pruned xacts horizon pages page t = elim (slot_of-pruned xacts horizon pages page t) [
    | inl h ↦ inl (ap item_of h.1)
    | inr h ↦ item_pruned xacts horizon (slot_of pages t) _ (ap item_of h.1)
  ]

  -- so what is there after it was there before
  pub was_there : (xacts : Xacts) (horizon : ℕ) (pages : List (List (LinePointer T))) (page : ℕ) (t : Tid) (item : T) → item_in (with_pruned stamp_of xacts horizon pages page) t ≡ Some item → item_in pages t ≡ Some item
  was_there xacts horizon pages page t item is = elim (item_of-pruned xacts horizon pages page t) [
    | inl same ↦ sym same ∙ is
    | inr h ↦ absurd (none-some item (sym h.3 ∙ is))
  ]

  -- and it leaves none on its page
  pub none_dead_after : (xacts : Xacts) (horizon : ℕ) (line : LinePointer T) → is_newly_dead stamp_of xacts horizon (pruned stamp_of xacts horizon line) ≡ false
  none_dead_after xacts horizon (Normal size item) = elim (cases_Bool (is_dead_item stamp_of xacts horizon item)) [
    | inl dead ↦ ap (λ b. is_newly_dead stamp_of xacts horizon (cond b Dead (Normal size item))) dead
    | inr live ↦ ap (λ b. is_newly_dead stamp_of xacts horizon (cond b Dead (Normal size item))) live ∙ live
  ]
  none_dead_after xacts horizon Dead = refl
  none_dead_after xacts horizon Unused = refl

  -- the transactions that the items of a page name were given their xids, where those of the relation were
  pub page_assigned : (xacts : Xacts) (pages : List (List (LinePointer T))) (page : ℕ) → AreAssigned stamp_of xacts pages → All (IsLineAssigned stamp_of xacts) (page_at pages page)
  page_assigned xacts pages page assigned = λ k d within. rw (get_or_default (page_at pages page) k d Unused within) (assigned.each (record { page = page; slot = k }))

  -- and stay so through each change
  pub assigned_none : (xacts : Xacts) → AreAssigned stamp_of xacts []
  assigned_none xacts = record { each = λ t. tt }

  pub assigned_put : (xacts : Xacts) (size : ℕ) (item : T) (pages : List (List (LinePointer T))) → AreAssigned stamp_of xacts pages → IsStampAssigned xacts (stamp_of item) → AreAssigned stamp_of xacts (with_put_on size item pages)
  assigned_put xacts size item pages assigned new = record {
    each = λ t. elim (slot_of-put size item pages t) [
      | inl same ↦ rw same (assigned.each t)
      | inr h ↦ rw h.1 new
    ];
  }

  pub assigned_written : (xacts : Xacts) (pages : List (List (LinePointer T))) (tid : Tid) (line : LinePointer T) → AreAssigned stamp_of xacts pages → IsLineAssigned stamp_of xacts line → AreAssigned stamp_of xacts (written pages tid line)
  assigned_written xacts pages tid line assigned new = record {
    each = λ t. elim (slot_of-written pages tid t line) [
      | inl same ↦ rw same (assigned.each t)
      | inr h ↦ rw h.1 new
    ];
  }

  line_pruned : (xacts : Xacts) (horizon : ℕ) (line : LinePointer T) → IsLineAssigned stamp_of xacts line → IsLineAssigned stamp_of xacts (pruned stamp_of xacts horizon line)
  line_pruned xacts horizon (Normal size item) assigned = cond_both (is_dead_item stamp_of xacts horizon item) Dead (Normal size item) (IsLineAssigned stamp_of xacts) (λ dead. tt) (λ live. assigned)
  line_pruned xacts horizon Dead assigned = tt
  line_pruned xacts horizon Unused assigned = tt

  pub assigned_pruned : (xacts : Xacts) (horizon : ℕ) (pages : List (List (LinePointer T))) (page : ℕ) → AreAssigned stamp_of xacts pages → AreAssigned stamp_of xacts (with_pruned stamp_of xacts horizon pages page)
  assigned_pruned xacts horizon pages page assigned = record {
    each = λ t. elim (slot_of-pruned xacts horizon pages page t) [
      | inl h ↦ rw h.1 (assigned.each t)
      | inr h ↦ rw h.1 (line_pruned xacts horizon (slot_of pages t) (assigned.each t))
    ];
  }

  -- also where transactions start and end
  line_later : (xacts later : Xacts) (line : LinePointer T) → ((xid : ℕ) → IsAssigned xacts xid → IsAssigned later xid) → IsLineAssigned stamp_of xacts line → IsLineAssigned stamp_of later line
  line_later xacts later (Normal size item) goes_on assigned = record { inserter = goes_on (stamp_of item).inserter assigned.inserter; ender = λ x is. goes_on x (assigned.ender x is) }
  line_later xacts later Dead goes_on assigned = tt
  line_later xacts later Unused goes_on assigned = tt

  pub assigned_later : (xacts later : Xacts) (pages : List (List (LinePointer T))) → ((xid : ℕ) → IsAssigned xacts xid → IsAssigned later xid) → AreAssigned stamp_of xacts pages → AreAssigned stamp_of later pages
  assigned_later xacts later pages goes_on assigned = record { each = λ t. line_later xacts later (slot_of pages t) goes_on (assigned.each t) }
