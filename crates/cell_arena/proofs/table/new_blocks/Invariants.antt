use Rattle.std.proofs.Common.{◌≡◌, length}
use Rattle.std_alloc.specs.Vec.{vec_capacity}
use Rattle.cell_arena.specs.Entries.{AreFree}
use Rattle.cell_arena.proofs.table.new_blocks.Given as goal

abbrev pub invariant-loop : goal.invariant-loop
invariant-loop l = (length l.blocks.items ≡ l.counter) × (vec_capacity l.blocks ≡ l.count) × AreFree l.blocks.items
