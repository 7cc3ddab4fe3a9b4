use Rattle.std.proofs.Common.{length, sym, ap, ◌∙◌, subst, arith}
use Rattle.cell_arena.specs.Entries.{AreFree}
use Rattle.cell_arena.proofs.Lists.{length_snoc}
use Rattle.cell_arena.proofs.Added.{free_more}
use Rattle.cell_arena.proofs.table.new_blocks.Goals as goal

pub loop-preserved : goal.loop-preserved
loop-preserved c =
    let i = c.loop.invariant in
    let p = c.push_reserved.ensures in
    let size = ap length p.items ∙ length_snoc c.loop.blocks.items c.in_ok-new.field-0 in
    let before = i.0 in
    (omega (arith, size, before), p.capacity ∙ i.1, subst AreFree (sym p.items) (free_more _ _ i.2 c.in_ok-new.ensures))
