use Rattle.slot_page.specs.NextItems.{AreSlotsEmpty}
use Rattle.slot_page.proofs.page.Page.next_item.Given as goal

abbrev pub invariant-loop-slot : goal.invariant-loop-slot
invariant-loop-slot g l = AreSlotsEmpty l.self l.from l.slot
