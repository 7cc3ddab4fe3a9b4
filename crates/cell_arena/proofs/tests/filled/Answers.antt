use Rattle.std.proofs.Common.{sym, subst}
use Rattle.cell_arena.specs.Held.{AreHeld}
use Rattle.cell_arena.proofs.Held.{held_none}
use Rattle.cell_arena.proofs.tests.filled.Goals as goal

pub loop-k-init : goal.loop-k-init
loop-k-init c k = subst (AreHeld k.reserve.new.self.cells) (sym k.new-ids.ensures.items) (held_none k.reserve.new.self.cells)
