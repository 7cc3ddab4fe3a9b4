-- Where a put ends.
use Rattle.std.proofs.Common.{ℕ, ◌≡◌, ◌<◌, true, false, List, [], ◌∷◌, ◌++◌, length, get_or, slice_set, refl, sym, ap, ◌∙◌, arith}
use Rattle.std.proofs.lemmas.Bool.{lt-ltb, le-ltb}
use Rattle.std.proofs.lemmas.List.{get_or_past, get_or_default}
use Rattle.slot_page.specs.declared.line.LinePointer.{LinePointer}
use Rattle.slot_page.specs.Slots.{fits, first_unused, with_put}
use Rattle.slot_page.specs.Pages.{page_at, fit_page, put_tid, with_put_on}
use Rattle.slot_page.proofs.Pages.{fit_page_is}
use Rattle.slot_page.proofs.Tids.{tid_same}

-- a page on which an item fits, where it fits on none below, is the lowest where it fits
pub found_page : {T : Type 0} (size i : ℕ) (pages : List (List (LinePointer T))) → i < length pages → ((k : ℕ) → k < i → fits size (page_at pages k) ≡ false) → true ≡ fits size (page_at pages i) → fit_page size pages ≡ i
found_page size i pages within below here = fit_page_is size pages i (omega arith) below (λ l. sym here)

-- what a page is that was read from a list of pages that has stayed
page_read : {T : Type 0} (i : ℕ) (kept pages : List (List (LinePointer T))) (slots : List (LinePointer T)) → kept ≡ pages → i < length pages → get_or kept i slots ≡ page_at pages i
page_read i kept pages slots same within = ap (λ ps. get_or ps i slots) same ∙ get_or_default pages i slots [] within

-- so a put there is the put on the relation
pub put_found : {T : Type 0} (size i : ℕ) (item held : T) (kept pages : List (List (LinePointer T))) (slots after : List (LinePointer T)) → kept ≡ pages → held ≡ item → i < length pages → ((k : ℕ) → k < i → fits size (page_at pages k) ≡ false) → true ≡ fits size (get_or kept i slots) → after ≡ with_put size held (get_or kept i slots)
    → slice_set kept i after ≡ with_put_on size item pages
put_found size i item held kept pages slots after same is within below here changed =
    let read = page_read i kept pages slots same within in
    let lowest = found_page size i pages within below (rw read at here) in
    rw (changed, read, same, is, lowest, lt-ltb i (length pages) within) refl

pub tid_found : {T : Type 0} (size i slot : ℕ) (kept pages : List (List (LinePointer T))) (slots : List (LinePointer T)) → kept ≡ pages → i < length pages → ((k : ℕ) → k < i → fits size (page_at pages k) ≡ false) → true ≡ fits size (get_or kept i slots) → slot ≡ first_unused (get_or kept i slots)
    → record { page = i; slot = slot } ≡ put_tid size pages
tid_found size i slot kept pages slots same within below here is =
    let read = page_read i kept pages slots same within in
    let lowest = found_page size i pages within below (rw read at here) in
    tid_same _ _ (sym lowest) (is ∙ ap first_unused read ∙ ap (λ page. first_unused (page_at pages page)) (sym lowest))

-- where an item fits on no page, none is the lowest
pub none_found : {T : Type 0} (size : ℕ) (pages : List (List (LinePointer T))) → ((k : ℕ) → k < length pages → fits size (page_at pages k) ≡ false) → fit_page size pages ≡ length pages
none_found size pages full = fit_page_is size pages (length pages) (omega arith) full (λ l. absurd (omega arith))

-- so it goes on a new page
pub put_after_all : {T : Type 0} (size : ℕ) (item : T) (pages after : List (List (LinePointer T))) (new : List (LinePointer T)) → ((k : ℕ) → k < length pages → fits size (page_at pages k) ≡ false) → new ≡ with_put size item [] → after ≡ pages ++ new ∷ []
    → after ≡ with_put_on size item pages
put_after_all size item pages after new full is added = rw (added, is, none_found size pages full, le-ltb (length pages) (length pages) (omega arith)) refl

pub tid_after_all : {T : Type 0} (size n : ℕ) (pages : List (List (LinePointer T))) → n ≡ length pages → ((k : ℕ) → k < length pages → fits size (page_at pages k) ≡ false) → record { page = n; slot = 0 } ≡ put_tid size pages
tid_after_all size n pages is full = tid_same _ _ (is ∙ sym (none_found size pages full)) (sym (ap first_unused (ap (λ page. page_at pages page) (none_found size pages full) ∙ get_or_past pages (length pages) [] (omega arith))))
