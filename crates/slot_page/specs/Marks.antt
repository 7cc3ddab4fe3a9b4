-- Where a search for room begins in a relation (in place of PostgreSQL's "Free Space Map").
use Rattle.std.specs.Prelude.{ℕ, ◌+◌, ◌/◌, ◌<◌, ◌≤◌, ◌≡◌, false, List, length, slice_index}
use Rattle.slot_page.specs.declared.line.LinePointer.{LinePointer}
use Rattle.slot_page.specs.Slots.{fits}
use Rattle.slot_page.specs.Pages.{page_at}

-- the class of an item's size: sizes that are the same when rounded up to 8 are in one
abbrev pub class_of : ℕ → ℕ
class_of size = (size + 7) / 8

-- what is kept beside the pages: for each class of sizes a page below which no item of the class fits on any page
pub record IsKept {T : Type 0} (pages : List (List (LinePointer T))) (lowest : List ℕ) : Type 0 where
  pub within : (class : ℕ) → slice_index lowest class ≤ length pages
  pub full_below : (size page : ℕ) → page < slice_index lowest (class_of size) → fits size (page_at pages page) ≡ false
