use Rattle.std.proofs.Common.{arith}
use Rattle.std.specs.Prelude.{min}
use Rattle.std.proofs.lemmas.List.{get_or_default}
use Rattle.std.proofs.lemmas.List.Edits.{map_over_more}
use Rattle.slot_page.proofs.page_list.note_room.Goals as goal

pub loop-first-preserved : goal.loop-first-preserved
loop-first-preserved c = rw c.min.ensures (map_over_more (λ first. min first c.args.page) c.args.lowest.now c.loop-first.lowest c.loop-first.first-index _ c.loop-first-test.true c.loop-first.invariant (get_or_default c.loop-first.lowest c.loop-first.first-index 0 _ (omega arith)))
