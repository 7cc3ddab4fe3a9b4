use Rattle.std.proofs.Common.{◌≡◌, ℕ, ◌<◌, false}
use Rattle.slot_page.specs.Slots.{fits}
use Rattle.slot_page.specs.Pages.{page_at}
use Rattle.slot_page.proofs.page_list.put_from.Given as goal

abbrev pub invariant-loop-page : goal.invariant-loop-page
invariant-loop-page g l = record {
  same : l.pages ≡ l.fn.pages;
  item : l.held ≡ l.fn.item;
  full_below : (page : ℕ) → page < l.page → fits l.size (page_at l.fn.pages page) ≡ false;
}
