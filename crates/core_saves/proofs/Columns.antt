-- The ids that a write has drawn: those of the cells of the columns that it has saved.
use Rattle.std.proofs.Common.{Contains, List, Some, [], ap, arith, inl, inr, length, refl, subst, suc, sym, take, zero, ℕ, ◌<◌, ◌∙◌, ◌∷◌, ◌≡◌}
use Rattle.std.specs.Prelude.{map, slice_get}
use Rattle.list_facts.proofs.Members.{cases_in, first_in, later_in, none_in_nil}
use Rattle.external_pointer.specs.declared.external.Pointer.{Pointer}
use Rattle.tuple_layout.specs.declared.cell.Cell.TheVariants.{Inline, Null, Out}
use Rattle.tuple_layout.specs.declared.cell.Cell.{Cell}
use Rattle.read_steps.specs.Reads.{cell_of}
use Rattle.table_state.specs.Rows.{pointers_in}
use Rattle.core_state.specs.Coming.{ids_of}
use Rattle.core_state.specs.Facts.{ids_in}
use Rattle.core_saves.proofs.ToRead.{rest_ids}

-- a column of a plan is in the plan, and in each part of it that reaches so far
pub in_list : (plan : List ℕ) (at column : ℕ) → slice_get plan at ≡ Some column → Contains plan column
in_list [] at column e = absurd (cc)
in_list (first ∷ plan) zero column e =
    let is : first ≡ column = cc in
    first_in first plan column is
in_list (first ∷ plan) (suc at) column e = later_in first plan column (in_list plan at column e)

pub in_take : (plan : List ℕ) (at to column : ℕ) → at < to → slice_get plan at ≡ Some column → Contains (take to plan) column
in_take plan at zero column low e = absurd (omega (arith, low))
in_take [] at (suc to) column low e = absurd (cc)
in_take (first ∷ plan) zero (suc to) column low e =
    let is : first ≡ column = cc in
    first_in first (take to plan) column is
in_take (first ∷ plan) (suc at) (suc to) column low e = later_in first (take to plan) column (in_take plan at to column (omega (arith, low)) e)

-- and what such a part has stands at one of its places
pub from_take : (plan : List ℕ) (to column : ℕ) → Contains (take to plan) column → (at : ℕ) × (at < to) × (slice_get plan at ≡ Some column)
from_take plan zero column e = absurd (none_in_nil column e)
from_take [] (suc to) column e = absurd (none_in_nil column e)
from_take (first ∷ plan) (suc to) column e = elim (cases_in first (take to plan) column e) [
  | inl is ↦ (zero, omega arith, ap Some is)
  | inr later ↦ let rest = from_take plan to column later in (suc rest.0, omega (arith, rest.1), rest.2)
]

pub from_list : (plan : List ℕ) (column : ℕ) → Contains plan column → (at : ℕ) × (at < length plan) × (slice_get plan at ≡ Some column)
from_list [] column e = absurd (none_in_nil column e)
from_list (first ∷ plan) column e = elim (cases_in first plan column e) [
  | inl is ↦ (zero, omega arith, ap Some is)
  | inr later ↦ let rest = from_list plan column later in (suc rest.0, omega (arith, rest.1), rest.2)
]

-- the id of a saved column's pointer
pub held_drawn : (cells : List Cell) (columns : List ℕ) (column : ℕ) (p : Pointer) → Contains columns column → cell_of cells column ≡ Out p → Contains (ids_of (pointers_in (map (cell_of cells) columns))) p.value_id
held_drawn cells [] column p e is = absurd (none_in_nil column e)
held_drawn cells (first ∷ columns) column p e is = elim (cases_in first columns column e) [
  | inl here ↦
      let found : cell_of cells first ≡ Out p = ap (cell_of cells) here ∙ is in
      subst (λ (cell : Cell). Contains (ids_in (cell ∷ map (cell_of cells) columns)) p.value_id) (sym found) (first_in p.value_id (ids_in (map (cell_of cells) columns)) p.value_id refl)
  | inr later ↦ rest_ids (cell_of cells first) (map (cell_of cells) columns) p.value_id (held_drawn cells columns column p later is)
]

-- a pointer of cells stands in one of them
pub record DrawnAt (cells : List Cell) (columns : List ℕ) (id : ℕ) : Type 0 where
  pub column : ℕ
  pub pointer : Pointer
  pub among : Contains columns column
  pub cell : cell_of cells column ≡ Out pointer
  pub is : pointer.value_id ≡ id

pub drawn_held : (cells : List Cell) (columns : List ℕ) (id : ℕ) → Contains (ids_of (pointers_in (map (cell_of cells) columns))) id → DrawnAt cells columns id
drawn_held cells [] id e = absurd (none_in_nil id e)
drawn_held cells (first ∷ columns) id e = by (λ rest. drawn_held cells columns id rest) (cell_of cells first) refl e
  where
    later : DrawnAt cells columns id → DrawnAt cells (first ∷ columns) id
    later found = record { column = found.column; pointer = found.pointer; among = later_in first columns found.column found.among; cell = found.cell; is = found.is }

    by : (Contains (ids_of (pointers_in (map (cell_of cells) columns))) id → DrawnAt cells columns id) → (cell : Cell) → cell_of cells first ≡ cell → Contains (ids_in (cell ∷ map (cell_of cells) columns)) id → DrawnAt cells (first ∷ columns) id
    by more Null is rest = later (more rest)
    by more (Inline value) is rest = later (more rest)
    by more (Out pointer) is rest = elim (cases_in pointer.value_id (ids_in (map (cell_of cells) columns)) id rest) [
      | inl same ↦ record { column = first; pointer = pointer; among = first_in first columns first refl; cell = is; is = same }
      | inr others ↦ later (more others)
    ]
