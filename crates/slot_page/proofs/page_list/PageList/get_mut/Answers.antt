use Rattle.std.proofs.Common.{◌≡◌, ◌<◌, [], length, slice_set, ap, ◌∙◌}
use borrow.Follows.Closed.{read_of}
use Rattle.std.specs.Option.{ghost_name_of}
use Rattle.std.proofs.lemmas.List.{get_or_default}
use Rattle.slot_page.specs.Slots.{with_item, item_of, slot_at}
use Rattle.slot_page.specs.Pages.{page_at}
use Rattle.slot_page.proofs.Kept.{kept_rewritten}
use Rattle.slot_page.proofs.Rooms.{set_is}
use Rattle.slot_page.proofs.page_list.PageList.get_mut.Goals as goal

pub invariant_of-self-lent : goal.invariant_of-self-lent
invariant_of-self-lent g c =
    let pages = c.self.inside.pages.items in
    let slots = c.in_ok-self-inside.field-0.now in
    let read = c.in_ok-self-inside.ensures.value in
    λ some. (λ w. kept_rewritten pages c.self.inside.lowest.items c.args.tid.page c.args.tid.slot slots w read c.self.invariant, rw (set_is pages c.args.tid.page slots read) c.self.invariant)

pub returns : goal.returns
returns g c =
    let pages = c.self.inside.pages.items in
    let slots = c.in_ok-self-inside.field-0.now in
    let read = c.in_ok-self-inside.ensures.value in
    let within : c.args.tid.page < length pages = c.in_ok-self-inside.ensures.item.3.0 in
    let is : slots ≡ page_at pages c.args.tid.page = read ∙ get_or_default pages c.args.tid.page slots [] within in
    let same = set_is pages c.args.tid.page slots read in
    rw (← c.self.view_is) (
      (λ i. read_of (ghost_name_of c.get_mut-2.result) (λ (w : g.row.T.Denot). slice_set pages c.args.tid.page (slice_set (is i) c.args.tid.slot (with_item (slot_at (is i) c.args.tid.slot) w))) (same i)),
      record { writes_back = tt; item = c.get_mut-2.ensures.item ∙ ap (λ s. item_of (slot_at s c.args.tid.slot)) is },
    )
