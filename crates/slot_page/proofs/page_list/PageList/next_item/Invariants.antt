use Rattle.slot_page.proofs.NextItems.{ArePassed}
use Rattle.slot_page.proofs.page_list.PageList.next_item.Given as goal

abbrev pub invariant-loop-page : goal.invariant-loop-page
invariant-loop-page g l = ArePassed l.self l.fn.from (record { page = l.page; slot = l.first })
