use Rattle.std.proofs.Common.{arith}
use Rattle.slot_page.proofs.Rooms.{put_in_unused, none_found}
use Rattle.slot_page.proofs.page.Page.put.Goals as goal

pub invariant_of-self : goal.invariant_of-self
invariant_of-self g c =
    let searched = rw c.deref.ensures.value at c.in-Some.ensures in
    rw c.rounded-taken.ensures (put_in_unused _ _ _ _ _ c.self.invariant.0 searched (omega arith), c.self.invariant.1)

pub returns-else-is_err-clause-slot : goal.returns-else-is_err-clause-slot
returns-else-is_err-clause-slot g c =
    let searched = rw c.deref.ensures.value at c.in-None.ensures in
    rw (← c.self.view_is) (omega (arith, c.len-slot.ensures, none_found c.self.inside.slots.items searched))
