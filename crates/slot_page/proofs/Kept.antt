-- What is kept beside the pages of a relation, after each change of them.
use Rattle.std.proofs.Common.{ℕ, ◌≡◌, ◌<◌, ◌≤◌, inl, inr, false, not, List, [], ◌∷◌, ◌++◌, length, get_or, slice_set, map, take, drop, refl, sym, ap, ◌∙◌, arith, zero, suc, length-set, length-append}
use Rattle.std.specs.Prelude.{min, slice_index}
use Rattle.std.proofs.lemmas.Bool.{cases_lt, lt-ltb, le-ltb}
use Rattle.std.proofs.lemmas.List.{append-nil, drop_all, take_all, length-map, get_or-set_other, get_or_append_left, get_or_default, set_past}
use Rattle.std.proofs.lemmas.List.Sums.{prefix_len-le-length}
use Rattle.slot_page.specs.declared.line.LinePointer.{LinePointer}
use Rattle.slot_page.specs.declared.line.LinePointer.TheVariants.{Normal, Dead, Unused}
use Rattle.slot_page.specs.Slots.{is_unused, slot_at, taken, fits, with_put, with_item}
use Rattle.slot_page.specs.Pages.{page_at, fit_page, put_tid, with_put_on}
use Rattle.slot_page.proofs.Pages.{lower_pages_full, fit_page_fits}
use Rattle.slot_page.specs.Marks.{IsKept, class_of}
use Rattle.slot_page.specs.declared.line.Tid.{Tid}
use Rattle.slot_page.proofs.Lookups.{get_or-set}
use Rattle.slot_page.proofs.Fits.{fits_class, unfit_after, fits-set}

-- the lowest page where an item fits is one of the pages, or the next one
within_pages : {T : Type 0} (size : ℕ) (pages : List (List (LinePointer T))) → fit_page size pages ≤ length pages
within_pages size pages = prefix_len-le-length (λ slots. not (fits size slots)) pages

-- a put leaves at least as many pages
pages_grow : {T : Type 0} (size : ℕ) (item : T) (pages : List (List (LinePointer T))) → length pages ≤ length (with_put_on size item pages)
pages_grow size item pages = elim (cases_lt (fit_page size pages) (length pages)) [
  | inl there ↦ rw (lt-ltb (fit_page size pages) (length pages) there) (omega (arith, length-set pages (fit_page size pages) (with_put size item (page_at pages (fit_page size pages)))))
  | inr none ↦ rw (le-ltb (fit_page size pages) (length pages) none) (omega (arith, length-append pages (with_put size item [] ∷ [])))
]

-- a page that was there before a put has no more room after it
no_more_room : {T : Type 0} (size other : ℕ) (item : T) (pages : List (List (LinePointer T))) (page : ℕ) → 24 ≤ size → page < length pages → fits other (page_at pages page) ≡ false → fits other (page_at (with_put_on size item pages) page) ≡ false
no_more_room size other item pages page least within unfit = elim (cases_lt (fit_page size pages) (length pages)) [
  | inl there ↦ rw (lt-ltb (fit_page size pages) (length pages) there) (elim (get_or-set pages (fit_page size pages) page (with_put size item (page_at pages (fit_page size pages))) []) [
    | inl same ↦ ap (fits other) same ∙ unfit
    | inr h ↦ ap (fits other) h.1 ∙ unfit_after size other item (page_at pages (fit_page size pages)) least (fit_page_fits size pages there) (ap (λ n. fits other (page_at pages n)) (sym h.0) ∙ unfit)
  ])
  | inr none ↦ rw (le-ltb (fit_page size pages) (length pages) none) (ap (fits other) (get_or_append_left pages (with_put size item [] ∷ []) [] page within) ∙ unfit)
]

-- after a put the search for its class begins where it was put
pub kept_put : {T : Type 0} (size : ℕ) (item : T) (pages : List (List (LinePointer T))) (lowest : List ℕ) → 24 ≤ size → IsKept pages lowest → IsKept (with_put_on size item pages) (slice_set lowest (class_of size) (fit_page size pages))
kept_put size item pages lowest least kept = record {
  within = λ class. elim (get_or-set lowest (class_of size) class (fit_page size pages) 0) [
    | inl same ↦ omega (arith, same, kept.within class, pages_grow size item pages)
    | inr h ↦ omega (arith, h.1, within_pages size pages, pages_grow size item pages)
  ];
  full_below = λ other page below. elim (get_or-set lowest (class_of size) (class_of other) (fit_page size pages) 0) [
    | inl same ↦ no_more_room size other item pages page least (omega (arith, below, same, kept.within (class_of other))) (kept.full_below other page (omega (arith, below, same)))
    | inr h ↦
        let lower : page < fit_page size pages = omega (arith, below, h.1) in
        no_more_room size other item pages page least (omega (arith, lower, within_pages size pages)) (fits_class size other (page_at pages page) h.0 ∙ lower_pages_full size pages page lower)
  ];
}

-- the same in the names of the call that puts
pub kept_after_put : {T : Type 0} (size class : ℕ) (tid : Tid) (item : T) (pages after : List (List (LinePointer T))) (lowest : List ℕ) → 24 ≤ size → IsKept pages lowest → after ≡ with_put_on size item pages → class ≡ class_of size → tid ≡ put_tid size pages → IsKept after (slice_set lowest class tid.page)
kept_after_put size class tid item pages after lowest least kept put of_size at = rw (put, of_size, at) (kept_put size item pages lowest least kept)

-- where the search for a class begins once it begins at a page at the latest
first_is : (lowest : List ℕ) (class at : ℕ) → slice_index (map (λ first. min first at) lowest) class ≡ min (slice_index lowest class) at
first_is [] class at = omega arith
first_is (x ∷ xs) zero at = refl
first_is (x ∷ xs) (suc class) at = first_is xs class at

-- where a page may have room again, a search begins there at the latest
pub kept_noted : {T : Type 0} (pages : List (List (LinePointer T))) (lowest : List ℕ) (at : ℕ) (slots : List (LinePointer T)) → IsKept pages lowest → IsKept (slice_set pages at slots) (map (λ first. min first at) lowest)
kept_noted pages lowest at slots kept = record {
  within = λ class. omega (arith, first_is lowest class at, kept.within class, length-set pages at slots);
  full_below = λ other page below.
      let lower : (page < slice_index lowest (class_of other)) × (page < at) = (omega (arith, below, first_is lowest (class_of other) at), omega (arith, below, first_is lowest (class_of other) at)) in
      ap (fits other) (get_or-set_other pages at page slots [] (omega (arith, lower.1))) ∙ kept.full_below other page lower.0;
}

-- the same where all marks of a table were lowered in place
pub kept_lowered : {T : Type 0} (pages : List (List (LinePointer T))) (lowest : List ℕ) (at : ℕ) (slots : List (LinePointer T)) (n : ℕ) (after : List ℕ) → n ≡ length lowest → after ≡ map (λ first. min first at) lowest → IsKept pages lowest → IsKept (slice_set pages at slots) (take n (after ++ drop (length after) lowest))
kept_lowered pages lowest at slots n after len is kept =
    let lowered = map (λ first. min first at) lowest in
    let all : length after ≡ length lowest = ap length is ∙ length-map lowest (λ first. min first at) in
    let same : take n (after ++ drop (length after) lowest) ≡ lowered = ap (take n) (ap (λ rest. after ++ rest) (drop_all (length after) lowest (omega (arith, all))) ∙ append-nil after) ∙ take_all n after (omega (arith, all, len)) ∙ is in
    rw same (kept_noted pages lowest at slots kept)

-- a page that changes and has no more room than before leaves all searches where they begin
pub kept_same : {T : Type 0} (pages : List (List (LinePointer T))) (lowest : List ℕ) (at : ℕ) (slots : List (LinePointer T)) → ((size : ℕ) → fits size slots ≡ fits size (page_at pages at)) → IsKept pages lowest → IsKept (slice_set pages at slots) lowest
kept_same pages lowest at slots same kept = record {
  within = λ class. omega (arith, kept.within class, length-set pages at slots);
  full_below = λ other page below. elim (get_or-set pages at page slots []) [
    | inl stays ↦ ap (fits other) stays ∙ kept.full_below other page below
    | inr h ↦ ap (fits other) h.1 ∙ same other ∙ ap (λ n. fits other (page_at pages n)) (sym h.0) ∙ kept.full_below other page below
  ];
}

-- an item written in place takes as many bytes as before, so nothing changes in what fits
pub rewritten_fits : {T : Type 0} (slots : List (LinePointer T)) (k : ℕ) (item : T) (size : ℕ) → fits size (slice_set slots k (with_item (slot_at slots k) item)) ≡ fits size slots
rewritten_fits {T} slots k item size = fits-set size slots k (with_item (slot_at slots k) item) (as_unused (slot_at slots k)) (as_many (slot_at slots k))
  where
    as_unused : (line : LinePointer T) → is_unused (with_item line item) ≡ is_unused line
    as_unused (Normal n c) = refl
    as_unused Dead = refl
    as_unused Unused = refl

    as_many : (line : LinePointer T) → taken (with_item line item) ≡ taken line
    as_many (Normal n c) = refl
    as_many Dead = refl
    as_many Unused = refl

pub kept_rewritten : {T : Type 0} (pages : List (List (LinePointer T))) (lowest : List ℕ) (at k : ℕ) (slots : List (LinePointer T)) (item : T) → slots ≡ get_or pages at slots → IsKept pages lowest → IsKept (slice_set pages at (slice_set slots k (with_item (slot_at slots k) item))) lowest
kept_rewritten pages lowest at k slots item read kept = elim (cases_lt at (length pages)) [
  | inl there ↦ kept_same pages lowest at (slice_set slots k (with_item (slot_at slots k) item)) (λ size. rewritten_fits slots k item size ∙ ap (fits size) (read ∙ get_or_default pages at slots [] there)) kept
  | inr past ↦ rw (set_past pages at (slice_set slots k (with_item (slot_at slots k) item)) past) kept
]

-- a relation without a page, and without a mark
pub kept_none : (T : Type 0) → IsKept {T = T} [] []
kept_none T = record {
  within = λ class. omega arith;
  full_below = λ other page below. absurd (omega (arith, below));
}

-- marks that read alike are as good
pub kept_marks : {T : Type 0} (pages : List (List (LinePointer T))) (lowest after : List ℕ) → ((class : ℕ) → slice_index after class ≡ slice_index lowest class) → IsKept pages lowest → IsKept pages after
kept_marks pages lowest after same kept = record {
  within = λ class. omega (arith, same class, kept.within class);
  full_below = λ other page below. kept.full_below other page (omega (arith, below, same (class_of other)));
}
