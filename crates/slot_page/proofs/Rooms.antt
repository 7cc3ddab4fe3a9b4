-- What is kept of a page as its slots change.
use Rattle.std.proofs.Common.{ℕ, ◌≡◌, ◌+◌, ◌-◌, ◌<◌, ◌≤◌, ◌⊎◌, inl, inr, true, false, not, Some, None, List, [], ◌∷◌, ◌++◌, length, slice_set, slice_index_or, refl, sym, ap, arith, zero, suc, length-set, length-append}
use Rattle.std.proofs.lemmas.Grind.{common_steps}
use Rattle.std.proofs.lemmas.List.Sums.{prefix_len-le-length, sum_by-set, sum_by_push, passes_at_first}
use Rattle.std.specs.List.{position}
use Rattle.slot_page.specs.declared.line.LinePointer.{LinePointer}
use Rattle.slot_page.specs.declared.line.LinePointer.TheVariants.{Normal, Dead, Unused}
use Rattle.slot_page.specs.Slots.{is_unused, slot_at, rounded, taken, room, first_unused, fits, IsPage, most_slots}

-- the room kept is the room by definition
pub room_is : {T : Type 0} (slots : List (LinePointer T)) (kept : ℕ) → IsPage slots kept → room slots ≡ kept
room_is slots kept page = omega (arith, page.sum)

-- an unused slot takes no bytes
pub unused_takes : {T : Type 0} (line : LinePointer T) → is_unused line ≡ true → taken line ≡ 0
unused_takes (Normal size item) e = absurd (cc)
unused_takes Dead e = refl
unused_takes Unused e = refl

-- a slot that is there, read with any other value for the slots past the end
pub slot_is : {T : Type 0} (slots : List (LinePointer T)) (slot : ℕ) (line : LinePointer T) → slot < length slots → line ≡ slice_index_or slots slot line → slot_at slots slot ≡ line
slot_is [] slot line h e = absurd (omega (arith, h))
slot_is (x ∷ xs) zero line h e = sym e
slot_is (x ∷ xs) (suc slot) line h e = slot_is xs slot line (omega (arith, h)) e

-- a place of a list written with what stands there
pub set_is : {X : Type 0} (xs : List X) (k : ℕ) (x : X) → x ≡ slice_index_or xs k x → slice_set xs k x ≡ xs
set_is [] k x e = refl
set_is (y ∷ ys) zero x e = ap (λ first. first ∷ ys) e
set_is (y ∷ ys) (suc k) x e = ap (λ rest. y ∷ rest) (set_is ys k x e)

-- the first unused slot that a search found
pub found : {T : Type 0} (slots : List (LinePointer T)) (slot : ℕ) → Some slot ≡ position is_unused slots → (first_unused slots ≡ slot) × (slot < length slots)
found slots slot e = grind (arith, common_steps)

-- what a search that found none shows
pub none_found : {T : Type 0} (slots : List (LinePointer T)) → None ≡ position is_unused slots → first_unused slots ≡ length slots
none_found slots e = grind (arith, common_steps, prefix_len-le-length (λ line. not (is_unused line)) slots)

-- an item in an unused slot takes its bytes from the room
pub put_in_unused : {T : Type 0} (slots : List (LinePointer T)) (kept size slot : ℕ) (item : T) → IsPage slots kept → Some slot ≡ position is_unused slots → rounded size ≤ kept
    → IsPage (slice_set slots slot (Normal size item)) (kept - rounded size)
put_in_unused slots kept size slot item page search_found enough =
    let first = found slots slot search_found in
    let sums = sum_by-set taken slots slot (Normal size item) Unused first.1 in
    let free = unused_takes (slot_at slots slot) (rw first.0 at (passes_at_first is_unused slots Unused (rw first.0 first.1))) in
    let same = length-set slots slot (Normal size item) in
    record {
      few = omega (arith, same, page.few);
      sum = omega (arith, same, sums, free, page.sum, enough);
    }

-- an item in a new slot takes its bytes and a line pointer from the room
pub put_in_new : {T : Type 0} (slots : List (LinePointer T)) (kept size : ℕ) (item : T) → IsPage slots kept → length slots < most_slots → rounded size + 4 ≤ kept
    → IsPage (slots ++ Normal size item ∷ []) (kept - (rounded size + 4))
put_in_new slots kept size item page fewer enough =
    let sums = sum_by_push taken slots (Normal size item) in
    let more = length-append slots (Normal size item ∷ []) in
    record {
      few = omega (arith, more, fewer);
      sum = omega (arith, more, sums, page.sum, enough);
    }

-- where no slot is unused, an item does not fit if there are as many slots as may be, or if there is no room for it and a line pointer
pub no_new_slot : {T : Type 0} (slots : List (LinePointer T)) (kept size : ℕ) → IsPage slots kept → length slots ≤ first_unused slots → (most_slots ≤ length slots) ⊎ (kept < rounded size + 4)
    → fits size slots ≡ false
no_new_slot slots kept size page none (inl full) = grind (arith, common_steps, page.sum)
no_new_slot slots kept size page none (inr small) = grind (arith, common_steps, page.sum)
