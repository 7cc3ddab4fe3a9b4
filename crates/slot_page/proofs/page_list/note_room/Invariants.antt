use Rattle.std.proofs.Common.{◌≡◌, ◌++◌, drop, map, take}
use Rattle.std.specs.Prelude.{min}
use Rattle.slot_page.proofs.page_list.note_room.Given as goal

abbrev pub invariant-loop-first : goal.invariant-loop-first
invariant-loop-first l = l.lowest ≡ map (λ first. min first l.page) (take l.first-index l.fn.lowest) ++ drop l.first-index l.fn.lowest
