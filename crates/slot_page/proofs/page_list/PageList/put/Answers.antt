use Rattle.slot_page.proofs.Kept.{kept_after_put, kept_marks}
use Rattle.slot_page.proofs.page_list.PageList.put.Goals as goal

pub invariant_of-self-2 : goal.invariant_of-self-2
invariant_of-self-2 g c =
    let pages = c.self.inside.pages.items in
    let marks = c.make_mark.new.lowest.items in
    kept_after_put c.args.size c.class_of-class.result c.in_ok-tid.tid c.args.item pages c.put_on.new.pages.items marks c.requires.least (kept_marks pages c.self.inside.lowest.items marks c.make_mark.ensures.kept c.self.invariant) c.in_ok-tid.ensures.put c.class_of-class.ensures c.in_ok-tid.ensures.tid
