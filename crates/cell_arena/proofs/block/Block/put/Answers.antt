use Rattle.std.proofs.Common.{List, ◌<◌, ℕ, [], length, refl, sym, ap, ◌∙◌, subst, set, get_or}
use Rattle.cell_arena.specs.Cells.{used}
use Rattle.cell_arena.proofs.FreeCells.{lies, taken, first_is, filled, written}
use Rattle.cell_arena.proofs.block.Block.put.Goals as goal

pub at_mut-cell-requires : goal.at_mut-cell-requires
at_mut-cell-requires c =
    let room : c.self.inside.used < 64 = subst (λ (n : ℕ). n < 64) (sym (c.self.invariant.used_is ∙ ap used c.self.view_is)) c.requires.room in
    lies _ refl _ _ _ _ _ c.self.inside.cells.ok.0 c.self.invariant room

pub invariant_of-self : goal.invariant_of-self
invariant_of-self c =
    let room : c.self.inside.used < 64 = subst (λ (n : ℕ). n < 64) (sym (c.self.invariant.used_is ∙ ap used c.self.view_is)) c.requires.room in
    let some_bytes = subst (λ (b : List ℕ). 0 < length b) (sym (written c.args.bytes.now _ _ c.copy_from_slice.ensures.after)) c.requires.bytes.0 in
    taken _ refl _ _ _ _ c.self.invariant room _ _ c.at_mut-cell.ensures.value refl some_bytes c.requires.bytes.1

pub returns-clause-free : goal.returns-clause-free
returns-clause-free c =
    let room : c.self.inside.used < 64 = subst (λ (n : ℕ). n < 64) (sym (c.self.invariant.used_is ∙ ap used c.self.view_is)) c.requires.room in
    let n = c.at_mut-cell.result.now.number in
    let f = first_is _ refl _ _ _ _ c.self.invariant room c.at_mut-cell.result.now c.at_mut-cell.ensures.value in
    (f.1, ap (λ (v : List (List ℕ)). get_or v n []) (sym c.self.view_is) ∙ f.2)

pub returns-clause-full : goal.returns-clause-full
returns-clause-full c =
    let room : c.self.inside.used < 64 = subst (λ (n : ℕ). n < 64) (sym (c.self.invariant.used_is ∙ ap used c.self.view_is)) c.requires.room in
    let n = c.at_mut-cell.result.now.number in
    let f = first_is _ refl _ _ _ _ c.self.invariant room c.at_mut-cell.result.now c.at_mut-cell.ensures.value in
    filled _ _ _ _ _ f.0 (written _ _ _ c.copy_from_slice.ensures.after) ∙ ap (λ (v : List (List ℕ)). set v n c.args.bytes.now) c.self.view_is
