-- What a line pointer, a page and the pages of a relation end as, once a `&mut` to an item has ended.
use Rattle.std.specs.Prelude.{ℕ, List, Option, slice_set}
use Rattle.std.specs.Borrow.{Lends, LendsIf, Fml, RattleType, MutBor}
use Rattle.slot_page.specs.declared.line.LinePointer.{LinePointer}
use Rattle.slot_page.specs.contracts.line.LinePointer.{the_row as line_row}
use Rattle.slot_page.specs.contracts.page.Page.{the_row as page_row}
use Rattle.slot_page.specs.contracts.page_list.PageList.{the_row as pages_row}
use Rattle.slot_page.specs.declared.line.Tid.{Tid}
use Rattle.slot_page.specs.Slots.{with_item, slot_at}
use Rattle.slot_page.specs.Pages.{slot_of, written}

module _ (T : RattleType) where
  -- a line pointer keeps its size and has the item last written through r; one with no item stays as it is
  abbrev pub lends_item : MutBor (LinePointer T.Denot) → Option (MutBor T.Denot) → Fml
  lends_item line r = LendsIf (line_row T) T line r (with_item line.now) line.now

  -- the slot keeps its size and has the item last written through r; with no item there the page stays as it is
  abbrev pub lends_at : MutBor (List (LinePointer T.Denot)) → ℕ → Option (MutBor T.Denot) → Fml
  lends_at page slot r = LendsIf (page_row T) T page r (λ w. slice_set page.now slot (with_item (slot_at page.now slot) w)) page.now

  -- the pages have the page last written through r
  abbrev pub lends_page : MutBor (List (List (LinePointer T.Denot))) → ℕ → MutBor (List (LinePointer T.Denot)) → Fml
  lends_page pages page r = Lends (pages_row T) (page_row T) pages r (slice_set pages.now page)

  -- the slot at the tid keeps its size and has the item last written through r; with no item there the pages stay as they are
  abbrev pub lends_item_in : MutBor (List (List (LinePointer T.Denot))) → Tid → Option (MutBor T.Denot) → Fml
  lends_item_in pages tid r = LendsIf (pages_row T) T pages r (λ w. written pages.now tid (with_item (slot_of pages.now tid) w)) pages.now
