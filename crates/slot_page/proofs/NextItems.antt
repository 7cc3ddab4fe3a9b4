-- The search for the next item, page by page.
use Rattle.std.proofs.Common.{◌≡◌, ℕ, ◌+◌, ◌<◌, ◌≤◌, ◌⊎◌, inl, inr, true, false, List, [], length, None, refl, ap, ◌∙◌, arith}
use Rattle.std.proofs.lemmas.Bool.Decides.{nat_tests}
use Rattle.std.proofs.lemmas.Bool.{cases_lt}
use Rattle.std.proofs.lemmas.List.{get_or_past}
use Rattle.slot_page.specs.declared.line.Tid.{Tid}
use Rattle.slot_page.specs.declared.line.LinePointer.{LinePointer}
use Rattle.slot_page.specs.Slots.{item_of, slot_at}
use Rattle.slot_page.specs.Pages.{page_at, item_in}
use Rattle.slot_page.specs.NextItems.{is_before, AreEmptyBetween, IsNextItem, IsEmptyFrom, IsNextSlot}
use Rattle.slot_page.proofs.Tids.{tid_same}

-- what stands before a tid stands on a lower page, or lower on its page
pub before_is : (t u : Tid) → is_before t u ≡ true → (t.page < u.page) ⊎ ((t.page ≡ u.page) × (t.slot < u.slot))
before_is t u before = elim (cases_lt t.page u.page) [
  | inl low ↦ inl low
  | inr other ↦ inr (grind (arith, nat_tests), grind (arith, nat_tests))
]

pub before_page : (t u : Tid) → t.page < u.page → is_before t u ≡ true
before_page t u low = grind (arith, nat_tests)

pub before_slot : (t u : Tid) → t.page ≡ u.page → t.slot < u.slot → is_before t u ≡ true
before_slot t u same low = grind (arith, nat_tests)

-- what does not, stands on a higher page, or on its page and not lower
pub not_before_is : (t u : Tid) → is_before t u ≡ false → (u.page < t.page) ⊎ ((t.page ≡ u.page) × (u.slot ≤ t.slot))
not_before_is t u later = elim (cases_lt u.page t.page) [
  | inl low ↦ inl low
  | inr other ↦ inr (grind (arith, nat_tests), grind (arith, nat_tests))
]

pub not_before_page : (t u : Tid) → u.page < t.page → is_before t u ≡ false
not_before_page t u low = grind (arith, nat_tests)

pub not_before_slot : (t u : Tid) → t.page ≡ u.page → u.slot ≤ t.slot → is_before t u ≡ false
not_before_slot t u same low = grind (arith, nat_tests)

-- the place where a search stands is not before where it began, and nothing stands between
pub record ArePassed {T : Type 0} (pages : List (List (LinePointer T))) (from here : Tid) : Type 0 where
  pub not_before : is_before here from ≡ false
  pub empty : AreEmptyBetween pages from here

-- at the start
pub passed_none : {T : Type 0} (pages : List (List (LinePointer T))) (from : Tid) → ArePassed pages from from
passed_none pages from = record {
  not_before = not_before_slot from from refl (omega arith);
  empty = record { each = λ t later before. absurd (grind (arith, later, before)) };
}

-- where the rest of a page is empty, at the first slot of the next one
pub passed_page : {T : Type 0} (pages : List (List (LinePointer T))) (from here : Tid) → ArePassed pages from here → ((k : ℕ) → here.slot ≤ k → item_of (slot_at (page_at pages here.page) k) ≡ None) → ArePassed pages from (record { page = here.page + 1; slot = 0 })
passed_page pages from here passed rest = record {
  not_before = elim (not_before_is here from passed.not_before) [
    | inl low ↦ not_before_page next from (omega (arith, low))
    | inr same ↦ not_before_page next from (omega (arith, same.0))
  ];
  empty = record {
    each = λ t later before. elim (before_is t next before) [
      | inl low ↦ by_page t later (omega (arith, low))
      | inr none ↦ absurd (omega (arith, none.1))
    ];
  };
}
  where
    next : Tid
    next = record { page = here.page + 1; slot = 0 }

    by_slot : (t : Tid) → is_before t from ≡ false → t.page ≡ here.page → (t.slot < here.slot) ⊎ (here.slot ≤ t.slot) → item_in pages t ≡ None
    by_slot t later same (inl low) = passed.empty.each t later (before_slot t here same low)
    by_slot t later same (inr high) = ap (λ page. item_of (slot_at (page_at pages page) t.slot)) same ∙ rest t.slot high

    by_page : (t : Tid) → is_before t from ≡ false → t.page ≤ here.page → item_in pages t ≡ None
    by_page t later low = elim (cases_lt t.page here.page) [
      | inl below ↦ passed.empty.each t later (before_page t here below)
      | inr not_below ↦ by_slot t later (omega (arith, low, not_below)) (cases_lt t.slot here.slot)
    ]

-- the item that a page has next is the next one
pub next_found : {T : Type 0} (pages : List (List (LinePointer T))) (from here : Tid) (slot : ℕ) → ArePassed pages from here → IsNextSlot (page_at pages here.page) here.slot slot → IsNextItem pages from (record { page = here.page; slot = slot })
next_found pages from here slot passed next = record {
  there = next.there;
  not_before = elim (not_before_is here from passed.not_before) [
    | inl low ↦ not_before_page found from low
    | inr same ↦ not_before_slot found from same.0 (omega (arith, same.1, next.not_before))
  ];
  passed = record {
    each = λ t later before. elim (before_is t found before) [
      | inl low ↦ passed.empty.each t later (before_page t here low)
      | inr same ↦ by_slot t later same.0 same.1 (cases_lt t.slot here.slot)
    ];
  };
}
  where
    found : Tid
    found = record { page = here.page; slot = slot }

    by_slot : (t : Tid) → is_before t from ≡ false → t.page ≡ here.page → t.slot < slot → (t.slot < here.slot) ⊎ (here.slot ≤ t.slot) → item_in pages t ≡ None
    by_slot t later same low (inl below) = passed.empty.each t later (before_slot t here same below)
    by_slot t later same low (inr high) = ap (λ page. item_of (slot_at (page_at pages page) t.slot)) same ∙ next.passed t.slot high low

-- and where all pages are passed there is none
pub none_left : {T : Type 0} (pages : List (List (LinePointer T))) (from here : Tid) → length pages ≤ here.page → ArePassed pages from here → IsEmptyFrom pages from
none_left pages from here past passed = record { each = λ t later. by_page t later (cases_lt t.page here.page) }
  where
    by_page : (t : Tid) → is_before t from ≡ false → (t.page < here.page) ⊎ (here.page ≤ t.page) → item_in pages t ≡ None
    by_page t later (inl low) = passed.empty.each t later (before_page t here low)
    by_page t later (inr high) = ap (λ slots. item_of (slot_at slots t.slot)) (get_or_past pages t.page [] (omega (arith, past, high)))
