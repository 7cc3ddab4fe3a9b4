use Rattle.std.proofs.Common.{◌∙◌}
use Rattle.chunk_index.proofs.Sound.{pins_with, pin_placed}
use Rattle.chunk_index.proofs.pins.Pins.pin.Goals as goal

pub invariant_of-self-2 : goal.invariant_of-self-2
invariant_of-self-2 c =
    let placed = pin_placed c.self.inside.pins.items c.args.session c.place_of-place.result c.args.leaf (rw c.deref.ensures.value at c.place_of-place.ensures.place) in
    rw (c.in_ok-insert.ensures.items, placed) (pins_with c.self.inside.pins.items c.args.session c.args.leaf (rw (← c.self.view_is) at c.requires) c.self.invariant)

pub returns-clause-pinned : goal.returns-clause-pinned
returns-clause-pinned c =
    let placed = pin_placed c.self.inside.pins.items c.args.session c.place_of-place.result c.args.leaf (rw c.deref.ensures.value at c.place_of-place.ensures.place) in
    rw (← c.self.view_is) (c.in_ok-insert.ensures.items ∙ placed)

pub returns-clause-sorted : goal.returns-clause-sorted
returns-clause-sorted c =
    let placed = pin_placed c.self.inside.pins.items c.args.session c.place_of-place.result c.args.leaf (rw c.deref.ensures.value at c.place_of-place.ensures.place) in
    rw (c.in_ok-insert.ensures.items, placed) (pins_with c.self.inside.pins.items c.args.session c.args.leaf (rw (← c.self.view_is) at c.requires) c.self.invariant)
