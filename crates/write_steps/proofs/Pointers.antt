-- The pointers that are dropped.
use Rattle.std.proofs.Common.{◌≡◌, ℕ, zero, suc, ◌<◌, Bool, true, false, cond, nat_lt, not, Option, Some, None, List, [], ◌∷◌, refl, subst, arith}
use Rattle.std.specs.Prelude.{slice_get, ◌&&◌}
use Rattle.std.specs.List.{cons_option}
use Rattle.std.proofs.lemmas.Bool.Decides.{nat_tests}
use Rattle.external_pointer.specs.declared.external.Pointer.{Pointer}
use Rattle.tuple_layout.specs.declared.cell.Cell.{Cell}
use Rattle.tuple_layout.specs.declared.cell.Cell.TheVariants.{Null, Inline, Out}
use Rattle.write_steps.specs.Dropped.{dropped_at, dropped_of, keeps}
use Rattle.write_steps.specs.Standing.{AreSized}

-- a list of pointers with one more before it, if there is one, that has bytes
one_more : (o : Option Pointer) (rest : List Pointer) → ((p : Pointer) → o ≡ Some p → 0 < p.size) → AreSized rest → AreSized (cons_option o rest)
one_more None rest some sized = sized
one_more (Some p) rest some sized = record { each = by_place }
  where
    by_place : (at : ℕ) (q : Pointer) → slice_get (p ∷ rest) at ≡ Some q → 0 < q.size
    by_place zero q e = subst (λ (x : Pointer). 0 < x.size) (same e) (some p refl)
      where
        same : Some p ≡ Some q → p ≡ q
        same e = cc
    by_place (suc at) q e = sized.each at q e

-- a dropped pointer has bytes
some_dropped : (cell new : Cell) (p : Pointer) → dropped_at cell new ≡ Some p → 0 < p.size
some_dropped Null new p e = cc
some_dropped (Inline value) new p e = cc
some_dropped (Out q) new p e = by_tests (nat_lt 0 q.size) (keeps q new) refl e
  where
    by_tests : (b kept : Bool) → nat_lt 0 q.size ≡ b → cond (b && not kept) (Some q) None ≡ Some p → 0 < p.size
    by_tests true true less f = cc
    by_tests true false less f = let same : q ≡ p = cc in subst (λ (x : Pointer). 0 < x.size) same (grind (arith, nat_tests))
    by_tests false true less f = cc
    by_tests false false less f = cc

pub sized_dropped : (cells news : List Cell) → AreSized (dropped_of cells news)
sized_dropped [] news = record { each = λ at p e. cc }
sized_dropped (cell ∷ cells) [] = one_more (dropped_at cell Null) (dropped_of cells []) (some_dropped cell Null) (sized_dropped cells [])
sized_dropped (cell ∷ cells) (new ∷ news) = one_more (dropped_at cell new) (dropped_of cells news) (some_dropped cell new) (sized_dropped cells news)
