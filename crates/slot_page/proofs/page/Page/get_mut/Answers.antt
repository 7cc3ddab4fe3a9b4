use Rattle.std.proofs.Common.{◌<◌, length, slice_set, sym, ap, ◌∙◌}
use borrow.Follows.Closed.{read_of}
use Rattle.std.specs.Option.{ghost_name_of}
use Rattle.slot_page.specs.Slots.{with_item, item_of}
use Rattle.slot_page.proofs.Rooms.{slot_is, set_is}
use Rattle.slot_page.proofs.page.Page.get_mut.Goals as goal

pub returns : goal.returns
returns g c =
    let slots = c.self.inside.slots.items in
    let line = c.in_ok-self-inside.field-0.now in
    let within : c.args.slot < length slots = c.in_ok-self-inside.ensures.item.3.0 in
    let is = slot_is slots c.args.slot line within c.in_ok-self-inside.ensures.value in
    let same = set_is slots c.args.slot line c.in_ok-self-inside.ensures.value in
    rw (← c.self.view_is) (
      (λ i. read_of (ghost_name_of c.item_mut.result) (λ (w : g.row.T.Denot). slice_set slots c.args.slot (with_item (sym is i) w)) (same i)),
      record { writes_back = tt; item = c.item_mut.ensures.item ∙ ap item_of (sym is) },
    )
