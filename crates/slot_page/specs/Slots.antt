-- The slots of a page and the bytes that they take (PostgreSQL, "Database Page Layout").
use Rattle.std.specs.Prelude.{ℕ, ◌+◌, ◌-◌, ◌*◌, ◌/◌, Bool, true, false, ◌&&◌, ◌||◌, nat_lt, nat_le, if◌then◌else◌, Option, Some, None, List, [], ◌∷◌, ◌++◌, length, slice_index_or, slice_set, ⊤, ◌≡◌, ◌≤◌}
use Rattle.std.specs.List.{position_or_len, sum_by}
use Rattle.slot_page.specs.declared.line.LinePointer.{LinePointer}
use Rattle.slot_page.specs.declared.line.LinePointer.TheVariants.{Normal, Dead, Unused}
use Rattle.slot_page.specs.declared.line.Slot.{Slot}
use Rattle.slot_page.specs.declared.line.Slot.TheVariants.{Normal as normal, Dead as dead, Unused as unused}

-- whether a line pointer is unused
abbrev pub is_unused : {T : Type 0} → LinePointer T → Bool
is_unused (Normal size item) = false
is_unused Dead = false
is_unused Unused = true

-- a line pointer that has an item
abbrev pub IsNormal : {T : Type 0} → LinePointer T → Type 0
IsNormal (Normal size item) = ⊤
IsNormal Dead = ⊥
IsNormal Unused = ⊥

-- a line pointer whose item is gone and which may still be named
abbrev pub IsDead : {T : Type 0} → LinePointer T → Type 0
IsDead (Normal size item) = ⊥
IsDead Dead = ⊤
IsDead Unused = ⊥

-- a line pointer's state alone
abbrev pub state_of : {T : Type 0} → LinePointer T → Slot
state_of (Normal size item) = normal
state_of Dead = dead
state_of Unused = unused

-- the item of a line pointer that has one
abbrev pub item_of : {T : Type 0} → LinePointer T → Option T
item_of (Normal size item) = Some item
item_of Dead = None
item_of Unused = None

-- a line pointer with another item of the same size; one with no item stays
abbrev pub with_item : {T : Type 0} → LinePointer T → T → LinePointer T
with_item (Normal size item) w = Normal size w
with_item Dead w = Dead
with_item Unused w = Unused

-- what stands at a slot; a slot past the end is unused
abbrev pub slot_at : {T : Type 0} → List (LinePointer T) → ℕ → LinePointer T
slot_at slots slot = slice_index_or slots slot Unused

-- the size of a page, its header and a line pointer, in bytes, and the most line pointers of a page
abbrev pub page_size : ℕ
page_size = 8192

abbrev pub header_size : ℕ
header_size = 24

abbrev pub pointer_size : ℕ
pointer_size = 4

abbrev pub most_slots : ℕ
most_slots = 291

-- the bytes that an item takes: its size, rounded up to 8
abbrev pub rounded : ℕ → ℕ
rounded size = (size + 7) / 8 * 8

-- the largest item that fits on a page, in bytes: what the header and one line pointer leave, rounded down to 8
abbrev pub largest_item : ℕ
largest_item = (page_size - header_size - pointer_size) / 8 * 8

-- the bytes that a slot's item takes
abbrev pub taken : {T : Type 0} → LinePointer T → ℕ
taken (Normal size item) = rounded size
taken Dead = 0
taken Unused = 0

-- the bytes that neither the header nor the line pointers nor the items take
abbrev pub room : {T : Type 0} → List (LinePointer T) → ℕ
room slots = page_size - header_size - pointer_size * length slots - sum_by taken slots

-- the lowest unused slot, or the number of slots where none is unused
abbrev pub first_unused : {T : Type 0} → List (LinePointer T) → ℕ
first_unused slots = position_or_len is_unused slots

-- whether some slot is unused
abbrev pub has_unused : {T : Type 0} → List (LinePointer T) → Bool
has_unused slots = nat_lt (first_unused slots) (length slots)

-- the bytes that a page must have left for an item: a line pointer is taken only where no slot is unused
abbrev pub need : {T : Type 0} → ℕ → List (LinePointer T) → ℕ
need size slots = if has_unused slots then rounded size else rounded size + pointer_size

-- whether an item of this size fits on a page with these slots
abbrev pub fits : {T : Type 0} → ℕ → List (LinePointer T) → Bool
fits size slots = (has_unused slots || nat_lt (length slots) most_slots) && nat_le (need size slots) (room slots)

-- the slots with one more item: in the lowest unused slot, else in a new one
abbrev pub with_put : {T : Type 0} → ℕ → T → List (LinePointer T) → List (LinePointer T)
with_put size item slots = if has_unused slots then slice_set slots (first_unused slots) (Normal size item) else slots ++ Normal size item ∷ []

-- what is true of each page: how many slots it has, and that the room kept beside them is theirs
pub record IsPage {T : Type 0} (slots : List (LinePointer T)) (kept : ℕ) : Type 0 where
  pub few : length slots ≤ most_slots
  pub sum : header_size + pointer_size * length slots + sum_by taken slots + kept ≡ page_size
