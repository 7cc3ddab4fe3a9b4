-- What holds of the pages of a relation, whatever its items, through each change of them and each step of their vacuum.
use Rattle.std.proofs.Common.{ℕ, ◌≡◌, ◌≢◌, ◌⊎◌, ◌+◌, ◌<◌, ◌≤◌, inl, inr, Bool, true, false, cond, nat_lt, nat_eq, Option, Some, None, List, [], ◌∷◌, ◌++◌, Contains, length, drop, map, slice_set, length-append, length-set, refl, sym, ap, ◌∙◌, subst, arith}
use Rattle.std.specs.List.Sorted.{IsStrictlySortedBy}
use Rattle.std.proofs.lemmas.Bool.{cases_eq, cases_lt}
use Rattle.std.proofs.lemmas.Bool.Decides.{nat_tests}
use Rattle.std.proofs.lemmas.List.{drop-drop, get_or_past}
use Rattle.std.proofs.lemmas.List.Elements.{Contains-append_cases, Contains-append_left, Contains-append_right}
use Rattle.std.proofs.lemmas.Option.{same_Some, none-some}
use Rattle.list_facts.proofs.Members.{none_in_nil, cases_in, first_in, later_in}
use Rattle.slot_page.specs.declared.line.Tid.{Tid}
use Rattle.slot_page.specs.declared.line.LinePointer.{LinePointer}
use Rattle.slot_page.specs.declared.line.LinePointer.TheVariants.{Normal, Dead, Unused}
use Rattle.slot_page.specs.Slots.{IsDead, is_unused, item_of, slot_at, with_put}
use Rattle.slot_page.specs.DeadSlots.{dead_tids, is_dead_line}
use Rattle.slot_page.specs.Pages.{page_at, slot_of, item_in, fit_page, with_put_on, written}
use Rattle.slot_page.proofs.Pages.{put_was_free, slot_of-put, slot_of-written, written_here}
use Rattle.slot_page.proofs.Gathered.{are_dead_tids, dead_tids_are}
use Rattle.xact_status.specs.declared.Stamp.{Stamp}
use Rattle.xact_status.specs.Xacts.{Xacts, is_running}
use Rattle.heap_prune.specs.Lines.{is_dead_item, is_newly_dead, pruned}
use Rattle.heap_prune.specs.Prunes.{with_pruned}
use Rattle.heap_prune.proofs.Events.{none_dead_after, slot_of-pruned}
use Rattle.chunk_index.specs.declared.entry.Entry.{Entry}
use Rattle.toast_vacuum.specs.declared.stage.Stage.TheVariants.{Pruning, Sweeping, Reaping, Ended}
use Rattle.toast_vacuum.specs.Vacuums.{Vacuuming}
use Rattle.toast_vacuum.specs.Machines.{after_page, after_pages, after_reap, begun, on_page}
use Rattle.toast_vacuum.specs.Holds.{IsLater, IsPlace, IsSpared, IsToMake, PagesHold, StartHolds, freed, made, waiting, waiting_at}
use Rattle.toast_vacuum.proofs.Ascending.{ascending_append, ascending_drop, beyond, eq_of, in_drop, lower_page, ne_of, on_page_in, parted, where_ascending}
use Rattle.toast_vacuum.proofs.Statuses.{IsAfter, alive_before, ended_alive, new_alive, spared_after, spared_alive, spared_ended, spared_put}

-- ---- slots

-- a dead slot has no item
pub dead_empty : {T : Type 0} (line : LinePointer T) (item : T) → IsDead line → item_of line ≡ Some item → ⊥
dead_empty (Normal size other) item dead is = dead
dead_empty Dead item dead is = none-some item is
dead_empty Unused item dead is = dead

pub dead_none : {T : Type 0} (line : LinePointer T) → IsDead line → item_of line ≡ None
dead_none (Normal size other) dead = absurd dead
dead_none Dead dead = refl
dead_none Unused dead = absurd dead

dead_used : {T : Type 0} (line : LinePointer T) → IsDead line → is_unused line ≡ false
dead_used (Normal size other) dead = refl
dead_used Dead dead = refl
dead_used Unused dead = absurd dead

-- a put adds no page, or one
length_put : {T : Type 0} (size : ℕ) (item : T) (pages : List (List (LinePointer T))) → length pages ≤ length (with_put_on size item pages)
length_put size item pages = by_room (nat_lt (fit_page size pages) (length pages))
  where
    by_room : (b : Bool) → length pages ≤ length (cond b (slice_set pages (fit_page size pages) (with_put size item (page_at pages (fit_page size pages)))) (pages ++ with_put size item [] ∷ []))
    by_room true = omega (arith, length-set pages (fit_page size pages) (with_put size item (page_at pages (fit_page size pages))))
    by_room false = omega (arith, length-append pages (with_put size item [] ∷ []))

-- the pages with some slots freed
abbrev pub freed_pages : {T : Type 0} → List Tid → List (List (LinePointer T)) → List (List (LinePointer T))
freed_pages [] pages = pages
freed_pages (t ∷ ts) pages = freed_pages ts (written pages t Unused)

length_freed : {T : Type 0} (ts : List Tid) (pages : List (List (LinePointer T))) → length (freed_pages ts pages) ≡ length pages
length_freed [] pages = refl
length_freed (t ∷ ts) pages = length_freed ts (written pages t Unused) ∙ length-set pages t.page (slice_set (page_at pages t.page) t.slot Unused)

-- a slot is as before, or one of them and free
pub slot_of-freed : {T : Type 0} (ts : List Tid) (pages : List (List (LinePointer T))) (t : Tid) → (slot_of (freed_pages ts pages) t ≡ slot_of pages t) ⊎ (Contains ts t × (slot_of (freed_pages ts pages) t ≡ Unused))
slot_of-freed [] pages t = inl refl
slot_of-freed (u ∷ us) pages t = elim (slot_of-freed us (written pages u Unused) t) [
  | inl same ↦ elim (slot_of-written pages u t Unused) [
    | inl kept ↦ inl (same ∙ kept)
    | inr own ↦ inr (first_in u us t (sym own.0), same ∙ own.1)
  ]
  | inr later ↦ inr (later_in u us t later.0, later.1)
]

free_stays : {T : Type 0} (ts : List Tid) (pages : List (List (LinePointer T))) (t : Tid) → slot_of pages t ≡ Unused → slot_of (freed_pages ts pages) t ≡ Unused
free_stays ts pages t free = elim (slot_of-freed ts pages t) [ inl same ↦ same ∙ free | inr own ↦ own.1 ]

-- and each of them that was dead is free
freed_here : {T : Type 0} (ts : List Tid) (pages : List (List (LinePointer T))) (t : Tid) → Contains ts t → IsDead (slot_of pages t) → slot_of (freed_pages ts pages) t ≡ Unused
freed_here [] pages t held dead = absurd (none_in_nil t held)
freed_here (u ∷ us) pages t held dead = elim (cases_in u us t held) [
  | inl here ↦ free_stays us (written pages u Unused) t (subst (λ w. slot_of (written pages w Unused) t ≡ Unused) (sym here) (written_here pages t Unused (dead_used (slot_of pages t) dead)))
  | inr later ↦ elim (slot_of-written pages u t Unused) [
    | inl kept ↦ freed_here us (written pages u Unused) t later (subst IsDead (sym kept) dead)
    | inr own ↦ free_stays us (written pages u Unused) t own.1
  ]
]

-- ---- stages

length_zero : {X : Type 0} (xs : List X) → length xs ≡ 0 → xs ≡ []
length_zero [] is = refl
length_zero (x ∷ xs) is = absurd (omega (arith, is))

not_more : (m n : ℕ) → nat_lt m n ≡ false → n ≤ m
not_more m n is = grind (arith, nat_tests)

more : (m n : ℕ) → nat_lt m n ≡ true → m < n
more m n is = grind (arith, nat_tests)

-- after a page of the first round
made_next : (page pages n : ℕ) → page < pages → made pages (after_page page pages n) ≡ page + 1
made_next page pages n within = by_more (nat_lt (page + 1) pages) refl
  where
    by_none : (b : Bool) → pages ≤ page + 1 → made pages (cond b Ended (Sweeping None)) ≡ page + 1
    by_none true most = omega arith
    by_none false most = omega arith

    by_more : (b : Bool) → nat_lt (page + 1) pages ≡ b → made pages (cond b (Pruning (page + 1)) (after_pages n)) ≡ page + 1
    by_more true is = refl
    by_more false is = by_none (nat_eq n 0) (not_more (page + 1) pages is)

waiting_next : (page pages : ℕ) (gathered : List Tid) → waiting_at gathered (after_page page pages (length gathered)) ≡ gathered
waiting_next page pages gathered = by_more (nat_lt (page + 1) pages)
  where
    by_none : (b : Bool) → nat_eq (length gathered) 0 ≡ b → waiting_at gathered (cond b Ended (Sweeping None)) ≡ gathered
    by_none true is = sym (length_zero gathered (eq_of (length gathered) 0 is))
    by_none false is = refl

    by_more : (b : Bool) → waiting_at gathered (cond b (Pruning (page + 1)) (after_pages (length gathered))) ≡ gathered
    by_more true = refl
    by_more false = by_none (nat_eq (length gathered) 0) refl

freed_next : (page pages n : ℕ) → freed (after_page page pages n) ≡ 0
freed_next page pages n = by_more (nat_lt (page + 1) pages)
  where
    by_none : (b : Bool) → freed (cond b Ended (Sweeping None)) ≡ 0
    by_none true = refl
    by_none false = refl

    by_more : (b : Bool) → freed (cond b (Pruning (page + 1)) (after_pages n)) ≡ 0
    by_more true = refl
    by_more false = by_none (nat_eq n 0)

place_next : (page pages n : ℕ) → page < pages → IsPlace pages (after_page page pages n)
place_next page pages n within = by_more (nat_lt (page + 1) pages) refl
  where
    by_none : (b : Bool) → IsPlace pages (cond b Ended (Sweeping None))
    by_none true = tt
    by_none false = omega arith

    by_more : (b : Bool) → nat_lt (page + 1) pages ≡ b → IsPlace pages (cond b (Pruning (page + 1)) (after_pages n))
    by_more true is = more (page + 1) pages is
    by_more false is = by_none (nat_eq n 0)

-- ---- the pages

-- an item whose slot a transaction has ended
pub record EndsAt {T : Type 0} (stamp_of : T → Stamp) (xid : ℕ) (old new : List (List (LinePointer T))) (t : Tid) : Type 0 where
  pub item : T
  pub later : T
  pub was : item_in old t ≡ Some item
  pub is : item_in new t ≡ Some later
  pub inserter : (stamp_of later).inserter ≡ (stamp_of item).inserter
  pub ender : (stamp_of later).ender ≡ Some xid

-- pages in which a transaction has ended at most some items
pub record EndsSome {T : Type 0} (stamp_of : T → Stamp) (xid : ℕ) (old new : List (List (LinePointer T))) : Type 0 where
  pub pages : length new ≡ length old
  pub each : (t : Tid) → (slot_of new t ≡ slot_of old t) ⊎ EndsAt stamp_of xid old new t

module _ {T : Type 0} (stamp_of : T → Stamp) (xacts : Xacts) where
  -- at the start
  item_within : (pages : List (List (LinePointer T))) (t : Tid) → length pages ≤ t.page → slot_of pages t ≡ Unused
  item_within pages t past = ap (λ slots. slot_at slots t.slot) (get_or_past pages t.page [] past)

  no_item : (pages : List (List (LinePointer T))) (t : Tid) (item : T) → item_in pages t ≡ Some item → t.page < length pages
  no_item pages t item is = elim (cases_lt t.page (length pages)) [ inl there ↦ there | inr past ↦ absurd (none-some item (sym (ap item_of (item_within pages t past)) ∙ is)) ]

  no_dead : (pages : List (List (LinePointer T))) (t : Tid) → IsDead (slot_of pages t) → t.page < length pages
  no_dead pages t dead = elim (cases_lt t.page (length pages)) [ inl there ↦ there | inr past ↦ absurd (subst IsDead (item_within pages t past) dead) ]

  to_begin : (horizon pages : ℕ) (t : Tid) → t.page < pages → IsToMake (begun horizon pages) t
  to_begin horizon pages t there = record { unmade = by_none (nat_eq pages 0) refl; there = there }
    where
      by_none : (b : Bool) → nat_eq pages 0 ≡ b → made pages (cond b Ended (Pruning 0)) ≤ t.page
      by_none true is = absurd (omega (arith, eq_of pages 0 is))
      by_none false is = omega arith

  pub pages_begun : (pages : List (List (LinePointer T))) (horizon : ℕ) → PagesHold stamp_of xacts pages (begun horizon (length pages))
  unfolding IsStrictlySortedBy
  pages_begun pages horizon = record {
    within = omega arith;
    place = place (nat_eq (length pages) 0) refl;
    ascending = tt;
    gathered_made = λ t held. absurd (none_in_nil t held);
    from_freed = λ t held. absurd (none_waits (nat_eq (length pages) 0) t held);
    dead = λ t held. absurd (none_waits (nat_eq (length pages) 0) t held);
    each_dead = λ t dead. inl (to_begin horizon (length pages) t (no_dead pages t dead));
    spared = λ t item is. inl (to_begin horizon (length pages) t (no_item pages t item is));
  }
    where
      place : (b : Bool) → nat_eq (length pages) 0 ≡ b → IsPlace (length pages) (cond b Ended (Pruning 0))
      place true is = tt
      place false is = let some = ne_of (length pages) 0 is in omega (arith, some)

      none_waits : (b : Bool) (t : Tid) → Contains (waiting_at [] (cond b Ended (Pruning 0))) t → ⊥
      none_waits true t held = none_in_nil t held
      none_waits false t held = none_in_nil t held

  pub start_begun : (pages : List (List (LinePointer T))) (horizon : ℕ) → StartHolds stamp_of xacts pages (begun horizon (length pages))
  start_begun pages horizon = record { gone = λ t item is. inl (to_begin horizon (length pages) t (no_item pages t item is)) }

  pub start_put : (first : Xacts) (size : ℕ) (item : T) (pages : List (List (LinePointer T))) (v : Vacuuming) → IsLater first xacts → is_running xacts (stamp_of item).inserter ≡ true → (stamp_of item).ender ≡ None → StartHolds stamp_of first pages v → StartHolds stamp_of first (with_put_on size item pages) v
  start_put first size item pages v later runs unended holds = record {
    gone = λ t there is. elim (slot_of-put size item pages t) [
      | inl same ↦ holds.gone t there (sym (ap item_of same) ∙ is)
      | inr new ↦ inr (subst (λ i. is_dead_item stamp_of first v.horizon i ≡ false) (same_Some item there (sym (ap item_of new.1) ∙ is)) (new_alive first xacts v.horizon (stamp_of item) later runs unended))
    ];
  }

  pub start_ended : (first : Xacts) (xid : ℕ) (old new : List (List (LinePointer T))) (v : Vacuuming) → IsLater first xacts → is_running xacts xid ≡ true → EndsSome stamp_of xid old new → StartHolds stamp_of first old v → StartHolds stamp_of first new v
  start_ended first xid old new v later runs ends holds = record {
    gone = λ t there is. elim (ends.each t) [
      | inl same ↦ holds.gone t there (sym (ap item_of same) ∙ is)
      | inr at ↦ elim (holds.gone t at.item at.was) [
        | inl still ↦ inl still
        | inr alive ↦ inr (subst (λ i. is_dead_item stamp_of first v.horizon i ≡ false) (same_Some at.later there (sym at.is ∙ is)) (ended_alive first xacts v.horizon xid (stamp_of at.item) (stamp_of at.later) later runs at.inserter at.ender alive))
      ]
    ];
  }

  pub pages_after : (later : Xacts) (pages : List (List (LinePointer T))) (v : Vacuuming) → IsAfter xacts later v.horizon → PagesHold stamp_of xacts pages v → PagesHold stamp_of later pages v
  pages_after later pages v after holds = record {
    within = holds.within;
    place = holds.place;
    ascending = holds.ascending;
    gathered_made = holds.gathered_made;
    from_freed = holds.from_freed;
    dead = holds.dead;
    each_dead = holds.each_dead;
    spared = λ t item is. elim (holds.spared t item is) [ inl still ↦ inl still | inr spared ↦ inr (spared_after xacts later v.horizon (stamp_of item) after spared) ];
  }

  -- others put an item and end some
  pub pages_put : (size : ℕ) (item : T) (pages : List (List (LinePointer T))) (v : Vacuuming) → is_running xacts (stamp_of item).inserter ≡ true → (stamp_of item).ender ≡ None → PagesHold stamp_of xacts pages v → PagesHold stamp_of xacts (with_put_on size item pages) v
  pages_put size item pages v runs unended holds = record {
    within = omega (arith, holds.within, length_put size item pages);
    place = holds.place;
    ascending = holds.ascending;
    gathered_made = holds.gathered_made;
    from_freed = holds.from_freed;
    dead = λ t held. elim (slot_of-put size item pages t) [
      | inl same ↦ subst IsDead (sym same) (holds.dead t held)
      | inr new ↦ absurd (subst IsDead (ap (slot_of pages) new.0 ∙ put_was_free size pages) (holds.dead t held))
    ];
    each_dead = λ t dead. elim (slot_of-put size item pages t) [
      | inl same ↦ holds.each_dead t (subst IsDead same dead)
      | inr new ↦ absurd (subst IsDead new.1 dead)
    ];
    spared = λ t there is. elim (slot_of-put size item pages t) [
      | inl same ↦ holds.spared t there (sym (ap item_of same) ∙ is)
      | inr new ↦ inr (subst (λ i. IsSpared xacts v.horizon (stamp_of i)) (same_Some item there (sym (ap item_of new.1) ∙ is)) (spared_put xacts v.horizon (stamp_of item) runs unended))
    ];
  }

  pub pages_ended : (xid : ℕ) (old new : List (List (LinePointer T))) (v : Vacuuming) → is_running xacts xid ≡ true → EndsSome stamp_of xid old new → PagesHold stamp_of xacts old v → PagesHold stamp_of xacts new v
  pages_ended xid old new v runs ends holds = record {
    within = omega (arith, holds.within, ends.pages);
    place = holds.place;
    ascending = holds.ascending;
    gathered_made = holds.gathered_made;
    from_freed = holds.from_freed;
    dead = λ t held. elim (ends.each t) [
      | inl same ↦ subst IsDead (sym same) (holds.dead t held)
      | inr at ↦ absurd (dead_empty (slot_of old t) at.item (holds.dead t held) at.was)
    ];
    each_dead = λ t dead. elim (ends.each t) [
      | inl same ↦ holds.each_dead t (subst IsDead same dead)
      | inr at ↦ absurd (dead_empty (slot_of new t) at.later dead at.is)
    ];
    spared = λ t there is. elim (ends.each t) [
      | inl same ↦ holds.spared t there (sym (ap item_of same) ∙ is)
      | inr at ↦ elim (holds.spared t at.item at.was) [
        | inl still ↦ inl still
        | inr spared ↦ inr (subst (λ i. IsSpared xacts v.horizon (stamp_of i)) (same_Some at.later there (sym at.is ∙ is)) (spared_ended xacts v.horizon xid (stamp_of at.item) (stamp_of at.later) runs at.inserter at.ender spared))
      ]
    ];
  }

  -- a page of the first round
  module _ (v : Vacuuming) (pages : List (List (LinePointer T))) (page removed : ℕ) where
    abbrev after : List (List (LinePointer T))
    after = with_pruned stamp_of xacts v.horizon pages page

    abbrev found : List Tid
    found = dead_tids page (page_at (with_pruned stamp_of xacts v.horizon pages page) page)

    abbrev next : Vacuuming
    next = record v { stage = after_page page v.pages (length (v.gathered ++ dead_tids page (page_at (with_pruned stamp_of xacts v.horizon pages page) page))); gathered = v.gathered ++ dead_tids page (page_at (with_pruned stamp_of xacts v.horizon pages page) page); removed = removed }

    to_next : (t : Tid) → page < v.pages → t.page ≢ page → IsToMake (record v { stage = Pruning page }) t → IsToMake next t
    to_next t within other still = record {
      unmade = omega (arith, made_next page v.pages (length (v.gathered ++ found)) within, still.unmade, other);
      there = still.there;
    }

    item_alive : (line : LinePointer T) (item : T) → is_newly_dead stamp_of xacts v.horizon line ≡ false → item_of line ≡ Some item → is_dead_item stamp_of xacts v.horizon item ≡ false
    item_alive (Normal size other) item alive is = subst (λ i. is_dead_item stamp_of xacts v.horizon i ≡ false) (same_Some other item is) alive
    item_alive Dead item alive is = absurd (none-some item is)
    item_alive Unused item alive is = absurd (none-some item is)

    -- an item that is left on the page is not dead
    pub left_alive : (t : Tid) (item : T) → t.page ≡ page → item_in after t ≡ Some item → is_dead_item stamp_of xacts v.horizon item ≡ false
    left_alive t item on is = elim (slot_of-pruned stamp_of xacts v.horizon pages page t) [
      | inl h ↦ absurd (h.0 on)
      | inr h ↦ item_alive (pruned stamp_of xacts v.horizon (slot_of pages t)) item (none_dead_after stamp_of xacts v.horizon (slot_of pages t)) (sym (ap item_of h.1) ∙ is)
    ]

    -- another page stays
    pub same_elsewhere : (t : Tid) → t.page ≢ page → slot_of after t ≡ slot_of pages t
    same_elsewhere t other = elim (slot_of-pruned stamp_of xacts v.horizon pages page t) [ inl h ↦ h.1 | inr h ↦ absurd (other h.0) ]

    pub pages_pruned : PagesHold stamp_of xacts pages (record v { stage = Pruning page }) → PagesHold stamp_of xacts after next
    pages_pruned holds = record {
      within = omega (arith, holds.within, length-set pages page (map (pruned stamp_of xacts v.horizon) (page_at pages page)));
      place = place_next page v.pages (length (v.gathered ++ found)) holds.place;
      ascending = ascending_append v.gathered found holds.ascending (where_ascending is_dead_line page 0 (page_at after page)) (λ t u early late. lower_page t u (omega (arith, holds.gathered_made t early, (dead_tids_are page (page_at after page) u late).0)));
      gathered_made = λ t held. rw (made_next page v.pages (length (v.gathered ++ found)) holds.place) (elim (Contains-append_cases v.gathered found t held) [
        | inl early ↦ omega (arith, holds.gathered_made t early)
        | inr late ↦ omega (arith, (dead_tids_are page (page_at after page) t late).0)
      ]);
      from_freed = λ t held. omega (arith, freed_next page v.pages (length (v.gathered ++ found)));
      dead = λ t held. elim (Contains-append_cases v.gathered found t (all_waiting t held)) [
        | inl early ↦ subst IsDead (sym (same_elsewhere t (λ on. absurd (omega (arith, holds.gathered_made t early, on))))) (holds.dead t early)
        | inr late ↦ let is = dead_tids_are page (page_at after page) t late in subst (λ n. IsDead (slot_at (page_at after n) t.slot)) (sym is.0) is.1
      ];
      each_dead = λ t dead. elim (cases_eq t.page page) [
        | inl on ↦ inr (waits t (Contains-append_right v.gathered found t (are_dead_tids page (page_at after page) t on (subst (λ n. IsDead (slot_at (page_at after n) t.slot)) on dead))))
        | inr other ↦ elim (holds.each_dead t (subst IsDead (same_elsewhere t other) dead)) [
          | inl still ↦ inl (to_next t holds.place other still)
          | inr early ↦ inr (waits t (Contains-append_left v.gathered found t early))
        ]
      ];
      spared = λ t item is. elim (cases_eq t.page page) [
        | inl on ↦ inr (spared_alive xacts v.horizon (stamp_of item) (left_alive t item on is))
        | inr other ↦ elim (holds.spared t item (sym (ap item_of (same_elsewhere t other)) ∙ is)) [
          | inl still ↦ inl (to_next t holds.place other still)
          | inr spared ↦ inr spared
        ]
      ];
    }
      where
        all_waiting : (t : Tid) → Contains (waiting next) t → Contains (v.gathered ++ found) t
        all_waiting t held = subst (λ ts. Contains ts t) (waiting_next page v.pages (v.gathered ++ found)) held

        waits : (t : Tid) → Contains (v.gathered ++ found) t → Contains (waiting next) t
        waits t held = subst (λ ts. Contains ts t) (sym (waiting_next page v.pages (v.gathered ++ found))) held

    -- and of what was dead at the start
    pub start_pruned : (first : Xacts) → IsLater first xacts → page < v.pages → StartHolds stamp_of first pages (record v { stage = Pruning page }) → StartHolds stamp_of first after next
    start_pruned first later within holds = record {
      gone = λ t item is. elim (cases_eq t.page page) [
        | inl on ↦ inr (alive_before first xacts v.horizon (stamp_of item) later (left_alive t item on is))
        | inr other ↦ elim (holds.gone t item (sym (ap item_of (same_elsewhere t other)) ∙ is)) [
          | inl still ↦ inl (to_next t within other still)
          | inr alive ↦ inr alive
        ]
      ];
    }

  -- a leaf
  pub pages_swept : (pages : List (List (LinePointer T))) (v : Vacuuming) (from next : Option Entry) → PagesHold stamp_of xacts pages (record v { stage = Sweeping from }) → PagesHold stamp_of xacts pages (record v { stage = Sweeping next })
  pages_swept pages v from next holds = record {
    within = holds.within;
    place = holds.place;
    ascending = holds.ascending;
    gathered_made = holds.gathered_made;
    from_freed = holds.from_freed;
    dead = holds.dead;
    each_dead = λ t dead. elim (holds.each_dead t dead) [ inl still ↦ absurd (omega (arith, still.unmade, still.there)) | inr waits ↦ inr waits ];
    spared = λ t item is. elim (holds.spared t item is) [ inl still ↦ absurd (omega (arith, still.unmade, still.there)) | inr spared ↦ inr spared ];
  }

  pub pages_all_swept : (pages : List (List (LinePointer T))) (v : Vacuuming) (from : Option Entry) → PagesHold stamp_of xacts pages (record v { stage = Sweeping from }) → PagesHold stamp_of xacts pages (record v { stage = Reaping 0 0 })
  pages_all_swept pages v from holds = record {
    within = holds.within;
    place = holds.place;
    ascending = holds.ascending;
    gathered_made = holds.gathered_made;
    from_freed = holds.from_freed;
    dead = holds.dead;
    each_dead = λ t dead. elim (holds.each_dead t dead) [ inl still ↦ absurd (omega (arith, still.unmade, still.there)) | inr waits ↦ inr waits ];
    spared = λ t item is. elim (holds.spared t item is) [ inl still ↦ absurd (omega (arith, still.unmade, still.there)) | inr spared ↦ inr spared ];
  }

  -- a page of the last round
  module _ (v : Vacuuming) (pages : List (List (LinePointer T))) (page at : ℕ) where
    abbrev all : List Tid
    all = drop at v.gathered

    abbrev own : List Tid
    own = on_page page (drop at v.gathered)

    abbrev reaped : Vacuuming
    reaped = record v { stage = after_reap page (at + length (on_page page (drop at v.gathered))) v.pages }

    -- what then waits is what comes after the page's slots
    abbrev after_own : Tid → Type 0
    after_own t = Contains (drop (length (on_page page (drop at v.gathered))) (drop at v.gathered)) t

    module _ (holds : PagesHold stamp_of xacts pages (record v { stage = Reaping page at })) where
      later_page : (t : Tid) → after_own t → page < t.page
      later_page t held = beyond page all t (ascending_drop at v.gathered holds.ascending) (λ u waits. holds.from_freed u waits) held

      none_later : (t : Tid) → v.pages ≤ page + 1 → after_own t → ⊥
      none_later t most held = absurd (omega (arith, later_page t held, holds.gathered_made t (in_drop at v.gathered t (in_drop (length own) all t held)), most))

      pub waits_after : (t : Tid) → Contains (waiting reaped) t → after_own t
      waits_after t held = by_more (nat_lt (page + 1) v.pages) held
        where
          by_more : (b : Bool) → Contains (waiting_at v.gathered (cond b (Reaping (page + 1) (at + length own)) Ended)) t → after_own t
          by_more true h = subst (λ ts. Contains ts t) (sym (drop-drop (length own) at v.gathered)) h
          by_more false h = absurd (none_in_nil t h)

      after_waits : (t : Tid) → after_own t → Contains (waiting reaped) t
      after_waits t held = by_more (nat_lt (page + 1) v.pages) refl
        where
          by_more : (b : Bool) → nat_lt (page + 1) v.pages ≡ b → Contains (waiting_at v.gathered (cond b (Reaping (page + 1) (at + length own)) Ended)) t
          by_more true is = subst (λ ts. Contains ts t) (drop-drop (length own) at v.gathered) held
          by_more false is = absurd (none_later t (not_more (page + 1) v.pages is) held)

      all_made : (t : Tid) → IsToMake (record v { stage = Reaping page at }) t → ⊥
      all_made t still = absurd (omega (arith, still.unmade, still.there))

      pub pages_reaped : PagesHold stamp_of xacts (freed_pages own pages) reaped
      pages_reaped = record {
        within = omega (arith, holds.within, length_freed own pages);
        place = place_more (nat_lt (page + 1) v.pages) refl;
        ascending = holds.ascending;
        gathered_made = λ t held. made_more (nat_lt (page + 1) v.pages) t held;
        from_freed = λ t held. from_more (nat_lt (page + 1) v.pages) t (later_page t (waits_after t held));
        dead = λ t held. elim (slot_of-freed own pages t) [
          | inl same ↦ subst IsDead (sym same) (holds.dead t (in_drop (length own) all t (waits_after t held)))
          | inr gone ↦ absurd (omega (arith, later_page t (waits_after t held), (on_page_in page all t gone.0).1))
        ];
        each_dead = λ t dead. elim (slot_of-freed own pages t) [
          | inl same ↦ elim (holds.each_dead t (subst IsDead same dead)) [
            | inl still ↦ absurd (all_made t still)
            | inr waits ↦ elim (parted page all t waits) [
              | inl mine ↦ absurd (subst IsDead (freed_here own pages t mine (holds.dead t waits)) dead)
              | inr later ↦ inr (after_waits t later)
            ]
          ]
          | inr gone ↦ absurd (subst IsDead gone.1 dead)
        ];
        spared = λ t item is. elim (slot_of-freed own pages t) [
          | inl same ↦ elim (holds.spared t item (sym (ap item_of same) ∙ is)) [ inl still ↦ absurd (all_made t still) | inr spared ↦ inr spared ]
          | inr gone ↦ absurd (none-some item (sym (ap item_of gone.1) ∙ is))
        ];
      }
        where
          place_more : (b : Bool) → nat_lt (page + 1) v.pages ≡ b → IsPlace v.pages (cond b (Reaping (page + 1) (at + length own)) Ended)
          place_more true is = more (page + 1) v.pages is
          place_more false is = tt

          made_more : (b : Bool) (t : Tid) → Contains v.gathered t → t.page < made v.pages (cond b (Reaping (page + 1) (at + length own)) Ended)
          made_more true t held = holds.gathered_made t held
          made_more false t held = holds.gathered_made t held

          from_more : (b : Bool) (t : Tid) → page < t.page → freed (cond b (Reaping (page + 1) (at + length own)) Ended) ≤ t.page
          from_more true t later = omega arith
          from_more false t later = omega arith

      -- no item is gone
      pub items_reaped : (t : Tid) → item_in (freed_pages own pages) t ≡ item_in pages t
      items_reaped t = elim (slot_of-freed own pages t) [
        | inl same ↦ ap item_of same
        | inr gone ↦ ap item_of gone.1 ∙ sym (dead_none (slot_of pages t) (holds.dead t (on_page_in page all t gone.0).0))
      ]

      pub start_reaped : (first : Xacts) → StartHolds stamp_of first pages (record v { stage = Reaping page at }) → StartHolds stamp_of first (freed_pages own pages) reaped
      start_reaped first start = record {
        gone = λ t item is. elim (start.gone t item (sym (items_reaped t) ∙ is)) [ inl still ↦ absurd (all_made t still) | inr alive ↦ inr alive ];
      }
