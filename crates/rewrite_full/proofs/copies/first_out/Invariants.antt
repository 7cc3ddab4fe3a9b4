use Rattle.std.proofs.Common.{◌≡◌, ◌<◌, ℕ, Some, slice_get}
use Rattle.external_pointer.specs.declared.external.Pointer.{Pointer}
use Rattle.tuple_layout.specs.declared.cell.Cell.TheVariants.{Out}
use Rattle.rewrite_full.proofs.copies.first_out.Given as goal

-- no cell before this one has a pointer
abbrev pub invariant-loop-at : goal.invariant-loop-at
invariant-loop-at l = (n : ℕ) (pointer : Pointer) → n < l.at → slice_get l.cells n ≡ Some (Out pointer) → ⊥
