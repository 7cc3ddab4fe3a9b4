use Rattle.std.proofs.Common.{◌≡◌}
use denote.RawPtr.{InBlock}
use Rattle.std_alloc.specs.Vec.{vec_ptr, vec_capacity}
use Rattle.cell_arena.specs.FreeCells.{IsBegun}
use Rattle.cell_arena.proofs.block.Block.new.Given as goal

abbrev pub invariant-loop-number : goal.invariant-loop-number
invariant-loop-number l = InBlock l.base × (vec_ptr l.cells ≡ l.base) × (vec_capacity l.cells ≡ 64) × IsBegun l.base l.cells.items l.number
