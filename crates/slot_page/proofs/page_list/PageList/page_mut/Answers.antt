use Rattle.std.proofs.Common.{◌∙◌, ap, map, arith}
use Rattle.std.specs.Prelude.{min}
use Rattle.slot_page.proofs.Kept.{kept_lowered}
use Rattle.slot_page.proofs.page_list.PageList.page_mut.Goals as goal

pub invariant_of-self-lent : goal.invariant_of-self-lent
invariant_of-self-lent g c = λ w. kept_lowered c.self.inside.pages.items c.self.inside.lowest.items c.args.page w c.self.inside.lowest.len c.note_room.new.lowest (omega (arith, c.self.inside.lowest.ok.0)) (c.note_room.ensures ∙ ap (map (λ first. min first c.args.page)) c.deref_mut.ensures.value) c.self.invariant
