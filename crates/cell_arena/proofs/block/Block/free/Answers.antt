use Rattle.std.proofs.Common.{List, ◌≢◌, ℕ, [], map, refl, sym, ap, ◌∙◌, arith, subst, set, get_or, Global}
use Rattle.std_alloc.specs.Vec.{vec_ptr}
use Rattle.std_alloc.specs.declared.vec.Vec.{Vec}
use Rattle.cell_arena.specs.declared.cell.Cell.{Cell}
use Rattle.cell_arena.specs.FreeCells.{content, IsBlock}
use Rattle.cell_arena.proofs.UsedCells.{used_some}
use Rattle.cell_arena.proofs.FreeCells.{lies_here, freed, filled, index_here}
use Rattle.cell_arena.proofs.block.Block.free.Goals as goal

abbrev Row : Type 0
Row = Vec Cell Global

pub at_mut-cell-requires : goal.at_mut-cell-requires
at_mut-cell-requires c =
    let i = c.self.inside in
    let a = c.as_mut_ptr-base.ensures in
    let b = subst (λ (v : Row). IsBlock (vec_ptr v) v.items i.free i.used) (sym a.unchanged) c.self.invariant in
    let size = b.size in
    let long = c.as_mut_ptr-base.new.self.ok.0 in
    let below = c.requires.0 in
    lies_here _ refl _ _ _ b.lies (omega (arith, size, long, below)) _ _ c.place-here.ensures (a.value ∙ ap vec_ptr (sym a.unchanged))

pub overflow_sub-self : goal.overflow_sub-self
overflow_sub-self c =
    let some_used = used_some _ c.args.number (subst (λ (v : List (List ℕ)). get_or v c.args.number [] ≢ []) (sym c.self.view_is) c.requires.1) in
    let is = c.self.invariant.used_is in
    omega (arith, some_used, is)

pub invariant_of-self : goal.invariant_of-self
invariant_of-self c =
    let i = c.self.inside in
    let a = c.as_mut_ptr-base.ensures in
    let b = subst (λ (v : Row). IsBlock (vec_ptr v) v.items i.free i.used) (sym a.unchanged) c.self.invariant in
    let holds = subst (λ (l : List (List ℕ)). get_or l c.args.number [] ≢ []) (sym c.self.view_is ∙ ap (λ (v : Row). map content v.items) (sym a.unchanged)) c.requires.1 in
    (freed _ refl _ _ _ _ b c.args.number c.place-here.result _ c.place-here.ensures (a.value ∙ ap vec_ptr (sym a.unchanged)) c.requires.0 holds _ _ c.at_mut-cell.ensures.value refl refl refl).2

pub returns : goal.returns
returns c =
    let i = c.self.inside in
    let a = c.as_mut_ptr-base.ensures in
    let b = subst (λ (v : Row). IsBlock (vec_ptr v) v.items i.free i.used) (sym a.unchanged) c.self.invariant in
    let at = index_here _ refl _ c.args.number b.lies c.place-here.result _ c.place-here.ensures (a.value ∙ ap vec_ptr (sym a.unchanged)) in
    filled _ _ _ _ _ at refl ∙ ap (λ (v : Row). set (map content v.items) c.args.number []) a.unchanged ∙ ap (λ (v : List (List ℕ)). set v c.args.number []) c.self.view_is
