-- What stands at each place of a list of pages after a change of one place or after an item is put: for every relation, whatever its items.
use Rattle.std.proofs.Common.{ℕ, ◌≡◌, ◌≢◌, ◌<◌, ◌≤◌, ◌⊎◌, inl, inr, true, false, not, List, [], ◌∷◌, Some, None, length, slice_set, slice_index_or, map, refl, sym, ◌∙◌, ap, arith, zero, suc}
use Rattle.std.proofs.lemmas.Grind.{common_steps, get_or-set_at}
use Rattle.std.proofs.lemmas.Bool.{cases_lt}
use Rattle.std.proofs.lemmas.Bool.Decides.{nat_tests}
use Rattle.std.proofs.lemmas.List.{get_or_default, get_or_past, get_or_push, set_past}
use Rattle.std.proofs.Math.ListN.{get_or-map}
use Rattle.std.proofs.lemmas.List.Sums.{passes_at_first, fails_before_first, position_or_len_is, prefix_len-le-length}
use Rattle.slot_page.proofs.Lookups.{get_or-set, get_or-push, changed_or_added, changed_or_added_here}
use Rattle.slot_page.specs.declared.line.Tid.{Tid}
use Rattle.slot_page.specs.declared.line.LinePointer.{LinePointer}
use Rattle.slot_page.specs.declared.line.LinePointer.TheVariants.{Normal, Dead, Unused}
use Rattle.slot_page.specs.Slots.{is_unused, IsNormal, IsDead, item_of, with_item, slot_at, first_unused, fits, largest_item, with_put}
use Rattle.slot_page.specs.Pages.{page_at, slot_of, item_in, written, fit_page, put_tid, with_put_on}
use Rattle.slot_page.proofs.Tids.{tid_same}
use Rattle.slot_page.proofs.Rooms.{set_is}

-- a slot after a change of one place is as before, or it is that place with what was written
pub slot_of-written : {T : Type 0} (pages : List (List (LinePointer T))) (t u : Tid) (line : LinePointer T) → (slot_of (written pages t line) u ≡ slot_of pages u) ⊎ ((u ≡ t) × (slot_of (written pages t line) u ≡ line))
slot_of-written pages t u line = elim (get_or-set pages t.page u.page (slice_set (page_at pages t.page) t.slot line) []) [
  | inl e ↦ inl (ap (λ slots. slot_at slots u.slot) e)
  | inr h ↦ elim (get_or-set (page_at pages t.page) t.slot u.slot line Unused) [
    | inl e ↦ inl (ap (λ slots. slot_at slots u.slot) h.1 ∙ e ∙ ap (λ page. slot_at (page_at pages page) u.slot) (sym h.0))
    | inr k ↦ inr (tid_same u t h.0 k.0, ap (λ slots. slot_at slots u.slot) h.1 ∙ k.1)
  ]
]

-- a slot that is not unused is one of the page's, and its page one of the relation's
used_within : {T : Type 0} (slots : List (LinePointer T)) (k : ℕ) → is_unused (slot_at slots k) ≡ false → k < length slots
used_within [] k used = absurd (cc)
used_within (x ∷ xs) zero used = omega arith
used_within (x ∷ xs) (suc k) used = omega (arith, used_within xs k used)

page_within : {T : Type 0} (pages : List (List (LinePointer T))) (page k : ℕ) → k < length (page_at pages page) → page < length pages
page_within [] page k h = absurd (omega (arith, h))
page_within (x ∷ xs) zero k h = omega arith
page_within (x ∷ xs) (suc page) k h = omega (arith, page_within xs page k h)

-- a slot that is not unused is there, so that a write shows
pub written_here : {T : Type 0} (pages : List (List (LinePointer T))) (t : Tid) (line : LinePointer T) → is_unused (slot_of pages t) ≡ false → slot_of (written pages t line) t ≡ line
written_here pages t line used =
    let slot_there = used_within (page_at pages t.page) t.slot used in
    let page_there = page_within pages t.page t.slot slot_there in
    ap (λ slots. slot_at slots t.slot) (get_or-set_at pages t.page t.page (slice_set (page_at pages t.page) t.slot line) [] refl page_there) ∙ get_or-set_at (page_at pages t.page) t.slot t.slot line Unused refl slot_there

-- a page written with its own slots
pub page_same : {T : Type 0} (pages : List (List (LinePointer T))) (page : ℕ) → slice_set pages page (page_at pages page) ≡ pages
page_same pages page = elim (cases_lt page (length pages)) [
  | inl there ↦ set_is pages page (page_at pages page) (get_or_default pages page [] (page_at pages page) there)
  | inr past ↦ set_past pages page (page_at pages page) past
]

-- every other slot stays
pub written_elsewhere : {T : Type 0} (pages : List (List (LinePointer T))) (t u : Tid) (line : LinePointer T) → u ≢ t → slot_of (written pages t line) u ≡ slot_of pages u
written_elsewhere pages t u line other = elim (slot_of-written pages t u line) [ inl e ↦ e | inr h ↦ absurd (other h.0) ]

-- where an item was put on one page
put_slots : {T : Type 0} (size : ℕ) (item : T) (slots : List (LinePointer T)) (k : ℕ) → (slot_at (with_put size item slots) k ≡ slot_at slots k) ⊎ ((k ≡ first_unused slots) × (slot_at (with_put size item slots) k ≡ Normal size item))
put_slots size item slots k = grind (arith, common_steps, get_or-set slots (first_unused slots) k (Normal size item) Unused, get_or-push slots k (Normal size item) Unused, prefix_len-le-length (λ line. not (is_unused line)) slots)

-- the item stands in the slot that it took
put_slot : {T : Type 0} (size : ℕ) (item : T) (slots : List (LinePointer T)) → slot_at (with_put size item slots) (first_unused slots) ≡ Normal size item
put_slot size item slots = grind (arith, common_steps, get_or-set_at slots (first_unused slots) (first_unused slots) (Normal size item) Unused, get_or_push slots (Normal size item) Unused (first_unused slots), prefix_len-le-length (λ line. not (is_unused line)) slots)

-- a line pointer that is unused is that one
is_free : {T : Type 0} (line : LinePointer T) → is_unused line ≡ true → line ≡ Unused
is_free (Normal size item) e = absurd (cc)
is_free Dead e = absurd (cc)
is_free Unused e = refl

-- the slot was free
free_slot : {T : Type 0} (slots : List (LinePointer T)) → slot_at slots (first_unused slots) ≡ Unused
free_slot slots = elim (cases_lt (first_unused slots) (length slots)) [
  | inl there ↦ is_free (slot_at slots (first_unused slots)) (passes_at_first is_unused slots Unused there)
  | inr past ↦ get_or_past slots (first_unused slots) Unused past
]

-- a page after a put is as before, or it is the page that the item took, with the item
page_of-put : {T : Type 0} (size : ℕ) (item : T) (pages : List (List (LinePointer T))) (k : ℕ) → (page_at (with_put_on size item pages) k ≡ page_at pages k) ⊎ ((k ≡ fit_page size pages) × (page_at (with_put_on size item pages) k ≡ with_put size item (page_at pages (fit_page size pages))))
page_of-put size item pages k = changed_or_added (with_put size item) [] pages (fit_page size pages) k (prefix_len-le-length (λ slots. not (fits size slots)) pages)

-- the page that the item took has it
page_here : {T : Type 0} (size : ℕ) (item : T) (pages : List (List (LinePointer T))) → page_at (with_put_on size item pages) (fit_page size pages) ≡ with_put size item (page_at pages (fit_page size pages))
page_here size item pages = changed_or_added_here (with_put size item) [] pages (fit_page size pages) (prefix_len-le-length (λ slots. not (fits size slots)) pages)

-- a slot after a put is as before, or it is the one that the item took
pub slot_of-put : {T : Type 0} (size : ℕ) (item : T) (pages : List (List (LinePointer T))) (u : Tid) → (slot_of (with_put_on size item pages) u ≡ slot_of pages u) ⊎ ((u ≡ put_tid size pages) × (slot_of (with_put_on size item pages) u ≡ Normal size item))
slot_of-put size item pages u = elim (page_of-put size item pages u.page) [
  | inl e ↦ inl (ap (λ slots. slot_at slots u.slot) e)
  | inr h ↦ elim (put_slots size item (page_at pages (fit_page size pages)) u.slot) [
    | inl e ↦ inl (ap (λ slots. slot_at slots u.slot) h.1 ∙ e ∙ ap (λ page. slot_at (page_at pages page) u.slot) (sym h.0))
    | inr k ↦ inr (tid_same u (put_tid size pages) h.0 k.0, ap (λ slots. slot_at slots u.slot) h.1 ∙ k.1)
  ]
]

-- the item stands where it was put
pub put_here : {T : Type 0} (size : ℕ) (item : T) (pages : List (List (LinePointer T))) → slot_of (with_put_on size item pages) (put_tid size pages) ≡ Normal size item
put_here size item pages = ap (λ slots. slot_at slots (first_unused (page_at pages (fit_page size pages)))) (page_here size item pages) ∙ put_slot size item (page_at pages (fit_page size pages))

-- the place was free
pub put_was_free : {T : Type 0} (size : ℕ) (pages : List (List (LinePointer T))) → slot_of pages (put_tid size pages) ≡ Unused
put_was_free size pages = free_slot (page_at pages (fit_page size pages))

-- every other slot stays
pub put_elsewhere : {T : Type 0} (size : ℕ) (item : T) (pages : List (List (LinePointer T))) (u : Tid) → u ≢ put_tid size pages → slot_of (with_put_on size item pages) u ≡ slot_of pages u
put_elsewhere size item pages u other = elim (slot_of-put size item pages u) [ inl e ↦ e | inr h ↦ absurd (other h.0) ]

-- on each page below the lowest one where it fits it does not fit
pub lower_pages_full : {T : Type 0} (size : ℕ) (pages : List (List (LinePointer T))) (page : ℕ) → page < fit_page size pages → fits size (page_at pages page) ≡ false
lower_pages_full size pages page below = fails_before_first (fits size) pages page [] below

-- on the lowest page where it fits it fits
pub fit_page_fits : {T : Type 0} (size : ℕ) (pages : List (List (LinePointer T))) → fit_page size pages < length pages → fits size (page_at pages (fit_page size pages)) ≡ true
fit_page_fits size pages there = passes_at_first (fits size) pages [] there

-- the lowest page where it fits is told by the pages below and by the page itself
pub fit_page_is : {T : Type 0} (size : ℕ) (pages : List (List (LinePointer T))) (page : ℕ) → page ≤ length pages → ((k : ℕ) → k < page → fits size (page_at pages k) ≡ false) → (page < length pages → fits size (page_at pages page) ≡ true) → fit_page size pages ≡ page
fit_page_is size pages page within below here = position_or_len_is (fits size) pages page [] within below here

-- an item of a size that a page may hold fits on a new page
pub fits_new_page : (T : Type 0) (size : ℕ) → size ≤ largest_item → fits {T = T} size [] ≡ true
fits_new_page T size most = grind (arith, nat_tests)

-- what a function that leaves unused slots does to every slot it does at each place
pub slot_of-map : {T : Type 0} (f : LinePointer T → LinePointer T) (pages : List (List (LinePointer T))) (t : Tid) → f Unused ≡ Unused → slot_of (map (map f) pages) t ≡ f (slot_of pages t)
slot_of-map f pages t free =
    ap (λ slots. slot_at slots t.slot) (get_or-map (map f) pages t.page []) ∙ (λ i. slice_index_or (map f (page_at pages t.page)) t.slot (sym free i)) ∙ get_or-map f (page_at pages t.page) t.slot Unused

-- a slot with an item, or a dead one, is not unused
normal_used : {T : Type 0} (line : LinePointer T) → IsNormal line → is_unused line ≡ false
normal_used (Normal size item) n = refl
normal_used Dead n = refl
normal_used Unused n = absurd n

dead_used : {T : Type 0} (line : LinePointer T) → IsDead line → is_unused line ≡ false
dead_used (Normal size item) d = refl
dead_used Dead d = refl
dead_used Unused d = absurd d

-- a dead slot has no item
dead_empty : {T : Type 0} (line : LinePointer T) → IsDead line → item_of line ≡ None
dead_empty (Normal size item) d = absurd d
dead_empty Dead d = refl
dead_empty Unused d = refl

-- a slot with an item has the item last written to it
rewritten : {T : Type 0} (line : LinePointer T) (w : T) → IsNormal line → item_of (with_item line w) ≡ Some w
rewritten (Normal size item) w n = refl
rewritten Dead w n = absurd n
rewritten Unused w n = absurd n

-- a change at one tid leaves the items at all others
pub items_elsewhere : {T : Type 0} (pages : List (List (LinePointer T))) (t u : Tid) (line : LinePointer T) → u ≢ t → item_in (written pages t line) u ≡ item_in pages u
items_elsewhere pages t u line other = ap item_of (written_elsewhere pages t u line other)

-- a tid that was made dead has no item
pub item_gone : {T : Type 0} (pages : List (List (LinePointer T))) (t : Tid) → IsNormal (slot_of pages t) → item_in (written pages t Dead) t ≡ None
item_gone pages t normal = ap item_of (written_here pages t Dead (normal_used (slot_of pages t) normal))

-- a tid whose item was written has the new one
pub item_rewritten : {T : Type 0} (pages : List (List (LinePointer T))) (t : Tid) (w : T) → IsNormal (slot_of pages t) → item_in (written pages t (with_item (slot_of pages t) w)) t ≡ Some w
item_rewritten pages t w normal = ap item_of (written_here pages t (with_item (slot_of pages t) w) (normal_used (slot_of pages t) normal)) ∙ rewritten (slot_of pages t) w normal

-- a dead tid that is made unused is unused
pub slot_freed : {T : Type 0} (pages : List (List (LinePointer T))) (t : Tid) → IsDead (slot_of pages t) → slot_of (written pages t Unused) t ≡ Unused
slot_freed pages t dead = written_here pages t Unused (dead_used (slot_of pages t) dead)

-- and no item changes
pub items_kept_when_freed : {T : Type 0} (pages : List (List (LinePointer T))) (t u : Tid) → IsDead (slot_of pages t) → item_in (written pages t Unused) u ≡ item_in pages u
items_kept_when_freed pages t u dead = elim (slot_of-written pages t u Unused) [
  | inl e ↦ ap item_of e
  | inr h ↦ ap item_of h.1 ∙ sym (rw h.0 (dead_empty (slot_of pages t) dead))
]

-- the item that was put is at its tid
pub item_put : {T : Type 0} (size : ℕ) (item : T) (pages : List (List (LinePointer T))) → item_in (with_put_on size item pages) (put_tid size pages) ≡ Some item
item_put size item pages = ap item_of (put_here size item pages)

-- and no other tid's item changes
pub items_kept_when_put : {T : Type 0} (size : ℕ) (item : T) (pages : List (List (LinePointer T))) (u : Tid) → u ≢ put_tid size pages → item_in (with_put_on size item pages) u ≡ item_in pages u
items_kept_when_put size item pages u other = ap item_of (put_elsewhere size item pages u other)
