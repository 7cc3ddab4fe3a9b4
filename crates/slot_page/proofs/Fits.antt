-- What fits on a page after a change of one slot.
use Rattle.std.proofs.Common.{ℕ, ◌≡◌, ◌<◌, ◌≤◌, ◌+◌, ◌*◌, inl, inr, Bool, true, false, not, ◌&&◌, ◌||◌, cond, List, [], ◌∷◌, ◌++◌, length, slice_set, nat_lt, nat_le, refl, sym, ap, ◌∙◌, arith, zero, suc, length-set, length-append}
use Rattle.std.specs.List.{sum_by}
use Rattle.std.proofs.lemmas.Bool.{cases_Bool, cases_lt}
use Rattle.std.proofs.lemmas.Bool.Decides.{nat_tests}
use Rattle.std.proofs.lemmas.List.{set_past}
use Rattle.std.proofs.lemmas.List.Sums.{sum_by-set, sum_by_push, passes_at_first}
use Rattle.slot_page.specs.declared.line.LinePointer.{LinePointer}
use Rattle.slot_page.specs.declared.line.LinePointer.TheVariants.{Normal, Unused}
use Rattle.slot_page.specs.Slots.{is_unused, slot_at, rounded, taken, room, first_unused, has_unused, fits, with_put, most_slots, pointer_size}
use Rattle.slot_page.specs.Marks.{class_of}
use Rattle.slot_page.proofs.Rooms.{unused_takes}

-- sizes of one class fit on the same pages
pub fits_class : {T : Type 0} (size other : ℕ) (slots : List (LinePointer T)) → class_of other ≡ class_of size → fits other slots ≡ fits size slots
fits_class size other slots same = ap (λ class. (has_unused slots || nat_lt (length slots) most_slots) && nat_le (cond (has_unused slots) (class * 8) (class * 8 + pointer_size)) (room slots)) same

-- what an item that fits shows of the room
fits_tells : {T : Type 0} (size : ℕ) (slots : List (LinePointer T)) → fits size slots ≡ true → rounded size ≤ room slots
fits_tells size slots fit = of_tests (has_unused slots) (nat_lt (length slots) most_slots) (room slots) (rounded size) fit
  where
    of_tests : (unused few : Bool) (left need : ℕ) → ((unused || few) && nat_le (cond unused need (need + 4)) left) ≡ true → need ≤ left
    of_tests true few left need e = grind (arith, nat_tests)
    of_tests false true left need e = grind (arith, nat_tests)
    of_tests false false left need e = absurd (cc)

fits_in_new : {T : Type 0} (size : ℕ) (slots : List (LinePointer T)) → has_unused slots ≡ false → fits size slots ≡ true → (length slots < most_slots) × (rounded size + 4 ≤ room slots)
fits_in_new size slots none fit = of_tests (has_unused slots) (length slots) (room slots) (rounded size) none fit
  where
    of_tests : (unused : Bool) (n left need : ℕ) → unused ≡ false → ((unused || nat_lt n most_slots) && nat_le (cond unused need (need + 4)) left) ≡ true → (n < most_slots) × (need + 4 ≤ left)
    of_tests true n left need f e = absurd (cc)
    of_tests false n left need f e = grind (arith, nat_tests)

fits_unused : {T : Type 0} (size : ℕ) (slots : List (LinePointer T)) → has_unused slots ≡ true → rounded size ≤ room slots → fits size slots ≡ true
fits_unused size slots some enough = of_tests (has_unused slots) (nat_lt (length slots) most_slots) (room slots) (rounded size) some enough
  where
    of_tests : (unused few : Bool) (left need : ℕ) → unused ≡ true → need ≤ left → ((unused || few) && nat_le (cond unused need (need + 4)) left) ≡ true
    of_tests true few left need t enough' = grind (arith, nat_tests)
    of_tests false few left need t enough' = absurd (cc)

fits_new : {T : Type 0} (size : ℕ) (slots : List (LinePointer T)) → has_unused slots ≡ false → length slots < most_slots → rounded size + 4 ≤ room slots → fits size slots ≡ true
fits_new size slots none few enough = of_tests (has_unused slots) (length slots) (room slots) (rounded size) none few enough
  where
    of_tests : (unused : Bool) (n left need : ℕ) → unused ≡ false → n < most_slots → need + 4 ≤ left → ((unused || nat_lt n most_slots) && nat_le (cond unused need (need + 4)) left) ≡ true
    of_tests true n left need f few' enough' = absurd (cc)
    of_tests false n left need f few' enough' = grind (arith, nat_tests)

-- an item that fits beside another one that was put fits without it
pub fits_without : {T : Type 0} (size other : ℕ) (item : T) (slots : List (LinePointer T)) → 24 ≤ size → fits size slots ≡ true → fits other (with_put size item slots) ≡ true → fits other slots ≡ true
fits_without size other item slots least fit fit_after = elim (cases_Bool (has_unused slots)) [
  | inl some ↦
      let there : first_unused slots < length slots = grind (arith, nat_tests, some) in
      let sums = sum_by-set taken slots (first_unused slots) (Normal size item) Unused there in
      let free = unused_takes (slot_at slots (first_unused slots)) (passes_at_first is_unused slots Unused there) in
      let told = fits_tells other (slice_set slots (first_unused slots) (Normal size item)) (rw some at fit_after) in
      let same = length-set slots (first_unused slots) (Normal size item) in
      fits_unused other slots some (omega (arith, told, sums, free, same))
  | inr none ↦
      let told = fits_tells other (slots ++ Normal size item ∷ []) (rw none at fit_after) in
      let sums = sum_by_push taken slots (Normal size item) in
      let more = length-append slots (Normal size item ∷ []) in
      let new = fits_in_new size slots none fit in
      fits_new other slots none new.0 (omega (arith, told, sums, more, new.1))
]

-- the same of one that does not fit
pub unfit_after : {T : Type 0} (size other : ℕ) (item : T) (slots : List (LinePointer T)) → 24 ≤ size → fits size slots ≡ true → fits other slots ≡ false → fits other (with_put size item slots) ≡ false
unfit_after size other item slots least fit unfit = elim (cases_Bool (fits other (with_put size item slots))) [
  | inl fit_after ↦ absurd (differ (sym unfit ∙ fits_without size other item slots least fit fit_after))
  | inr unfit_then ↦ unfit_then
]
  where
    differ : false ≡ true → ⊥
    differ e = cc

-- a slot in place of one that takes as many bytes, and is unused where it is, leaves what fits
pub first_unused-set : {T : Type 0} (slots : List (LinePointer T)) (k : ℕ) (line : LinePointer T) → is_unused line ≡ is_unused (slot_at slots k) → first_unused (slice_set slots k line) ≡ first_unused slots
first_unused-set [] k line same = refl
first_unused-set (x ∷ xs) zero line same = ap (λ b. cond (not b) (1 + first_unused xs) 0) same
first_unused-set (x ∷ xs) (suc k) line same = ap (λ n. cond (not (is_unused x)) (1 + n) 0) (first_unused-set xs k line same)

taken-set : {T : Type 0} (slots : List (LinePointer T)) (k : ℕ) (line : LinePointer T) → taken line ≡ taken (slot_at slots k) → sum_by taken (slice_set slots k line) ≡ sum_by taken slots
taken-set slots k line same = elim (cases_lt k (length slots)) [
  | inl there ↦ omega (arith, sum_by-set taken slots k line Unused there, same)
  | inr past ↦ ap (sum_by taken) (set_past slots k line past)
]

pub fits-set : {T : Type 0} (size : ℕ) (slots : List (LinePointer T)) (k : ℕ) (line : LinePointer T) → is_unused line ≡ is_unused (slot_at slots k) → taken line ≡ taken (slot_at slots k) → fits size (slice_set slots k line) ≡ fits size slots
fits-set size slots k line same takes = rw (first_unused-set slots k line same, taken-set slots k line takes, length-set slots k line) refl
