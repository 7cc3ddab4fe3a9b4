use Rattle.std.proofs.Common.{rules, ◌≡◌, ℕ, ◌+◌, List, refl, sym, ◌∙◌, subst}
use Rattle.cell_arena.specs.declared.cell.Cell.{Cell}
use Rattle.cell_arena.specs.FreeCells.{IsBlock, IsBegun}
use Rattle.cell_arena.proofs.FreeCells.{part_more, part_whole}
use Rattle.cell_arena.proofs.block.Block.new.Goals as goal

pub loop-number-preserved : goal.loop-number-preserved
loop-number-preserved c =
    let i = c.loop-number.invariant in
    let p = c.push_reserved.ensures in
    (i.0, p.in_place ∙ i.1, p.capacity ∙ i.2, subst (λ (xs : List Cell). IsBegun c.as_mut_ptr-base.result xs (c.loop-number.number + 1)) (sym p.items) (part_more _ refl _ _ _ _ i.3 refl refl c.place.ensures))

pub invariant_of-result : goal.invariant_of-result
invariant_of-result c =
    let i = c.loop-number.invariant in
    let all : c.loop-number.number ≡ 64 = search rules in
    subst (λ p. IsBlock p c.loop-number.cells.items c.as_mut_ptr-base.result 0) (sym i.1) (part_whole _ _ i.0 (subst (λ (n : ℕ). IsBegun c.as_mut_ptr-base.result c.loop-number.cells.items n) all i.3)).0

pub returns : goal.returns
returns c =
    let i = c.loop-number.invariant in
    let all : c.loop-number.number ≡ 64 = search rules in
    (part_whole _ _ i.0 (subst (λ (n : ℕ). IsBegun c.as_mut_ptr-base.result c.loop-number.cells.items n) all i.3)).1
