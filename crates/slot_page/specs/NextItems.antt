-- The first place from a place on, by page and then by slot, that has an item.
use Rattle.std.specs.Prelude.{ℕ, ◌≡◌, ◌≤◌, ◌<◌, Bool, true, false, List, Option, None, is_some}
use Rattle.std.specs.Ordering.{is_lt}
use Rattle.slot_page.specs.declared.line.Tid.{Tid}
use Rattle.slot_page.specs.declared.line.LinePointer.{LinePointer}
use Rattle.slot_page.specs.Slots.{item_of, slot_at}
use Rattle.slot_page.specs.Pages.{item_in}
use Rattle.slot_page.specs.Tids.{tid_cmp}

-- whether a tid stands before another
abbrev pub is_before : Tid → Tid → Bool
is_before t u = is_lt (tid_cmp t u)

-- no tid from one on and before another has an item
pub record AreEmptyBetween {T : Type 0} (pages : List (List (LinePointer T))) (from to : Tid) : Type 0 where
  pub each : (t : Tid) → is_before t from ≡ false → is_before t to ≡ true → item_in pages t ≡ None

-- the first tid from one on that has an item
pub record IsNextItem {T : Type 0} (pages : List (List (LinePointer T))) (from to : Tid) : Type 0 where
  pub there : is_some (item_in pages to) ≡ true
  pub not_before : is_before to from ≡ false
  pub passed : AreEmptyBetween pages from to

-- no tid from one on has an item
pub record IsEmptyFrom {T : Type 0} (pages : List (List (LinePointer T))) (from : Tid) : Type 0 where
  pub each : (t : Tid) → is_before t from ≡ false → item_in pages t ≡ None

-- no slot of a page from one on and before another has an item
abbrev pub AreSlotsEmpty : {T : Type 0} → List (LinePointer T) → ℕ → ℕ → Type 0
AreSlotsEmpty slots from to = (k : ℕ) → from ≤ k → k < to → item_of (slot_at slots k) ≡ None

-- the first slot of a page from one on that has an item
pub record IsNextSlot {T : Type 0} (slots : List (LinePointer T)) (from to : ℕ) : Type 0 where
  pub there : is_some (item_of (slot_at slots to)) ≡ true
  pub not_before : from ≤ to
  pub passed : AreSlotsEmpty slots from to
