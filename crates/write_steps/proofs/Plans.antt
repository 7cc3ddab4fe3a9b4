-- The columns of a plan, and the cells that they have.
use Rattle.std.proofs.Common.{◌≡◌, ◌≢◌, ℕ, ◌+◌, ◌-◌, ◌≤◌, Some, List, refl, sym, ap, ◌∙◌, subst, arith}
use Rattle.std.specs.Prelude.{slice_get}
use Rattle.std.proofs.lemmas.List.{get_or-set_other, get_or-set_same, length-set}
use Rattle.std.proofs.lemmas.Option.{get_or_from_slice_get}
use Rattle.tuple_layout.specs.declared.cell.Cell.{Cell}
use Rattle.tuple_layout.specs.declared.cell.Cell.TheVariants.{Null}
use Rattle.tuple_layout.specs.declared.cell.Stored.{Stored}
use Rattle.write_steps.specs.Writes.{cell_of, column_at, new_save, with_cell}
use Rattle.write_steps.specs.Standing.{CanGoOut, CanPush, IsColumn, IsSavingAt}
use Rattle.write_steps.specs.declared.stage.Owner.{Owner}

-- another column has what it had
pub cell_other : (stored : Stored) (column other : ℕ) (cell : Cell) → 1 ≤ column → 1 ≤ other → other ≢ column → cell_of (Stored.cells (with_cell stored column cell)) other ≡ cell_of stored.cells other
cell_other stored column other cell first second differ = get_or-set_other stored.cells (column - 1) (other - 1) cell Null (λ e. differ (omega (arith, e, first, second)))

-- the column has the cell
pub cell_same : (stored : Stored) (column : ℕ) (cell : Cell) → IsColumn stored column → cell_of (Stored.cells (with_cell stored column cell)) column ≡ cell
cell_same stored column cell there = get_or-set_same stored.cells (column - 1) cell Null (omega (arith, there.0, there.1))

-- each column is there that was
pub column_there : (stored : Stored) (column other : ℕ) (cell : Cell) → IsColumn stored other → IsColumn (with_cell stored column cell) other
column_there stored column other cell there = (there.0, omega (arith, there.1, length-set stored.cells (column - 1) cell))

-- the column at a place of a plan
pub column_is : (plan : List ℕ) (at column : ℕ) → slice_get plan at ≡ Some column → column_at plan at ≡ column
column_is plan at column e = get_or_from_slice_get plan at column 0 e

pub column_there_at : (plan : List ℕ) (at column : ℕ) → slice_get plan at ≡ Some column → slice_get plan at ≡ Some (column_at plan at)
column_there_at plan at column e = e ∙ ap (λ n. Some n) (sym (column_is plan at column e))

-- the columns after a place may go out whatever the column there has
pub push_with : (new : Stored) (plan : List ℕ) (at column : ℕ) (cell : Cell) → slice_get plan at ≡ Some column → IsColumn new column → CanPush new plan (at + 1) → CanPush (with_cell new column cell) plan (at + 1)
push_with new plan at column cell here there push = record {
  there = λ place other e. column_there new column other cell (push.there place other e);
  values = λ place other from e.
      let differ : other ≢ column = λ same. omega (arith, from, push.once at place column here (subst (λ n. slice_get plan place ≡ Some n) same e)) in
      subst CanGoOut (sym (cell_other new column other cell there.0 (push.there place other e).0 differ)) (push.values place other from e);
  once = push.once;
}

pub push_later : (new : Stored) (plan : List ℕ) (at : ℕ) → CanPush new plan at → CanPush new plan (at + 1)
push_later new plan at push = record {
  there = push.there;
  values = λ place other from e. push.values place other (omega (arith, from)) e;
  once = push.once;
}

-- a write that has taken the next column's value out of the row is saving it
pub saving_at : (owner : Owner) (new : Stored) (plan : List ℕ) (at column : ℕ) (value : List ℕ) → slice_get plan at ≡ Some column → CanPush new plan at → IsSavingAt owner (with_cell new column Null) plan at (new_save owner value)
saving_at owner new plan at column value here push =
    let there : IsColumn new column = push.there at column here in
    record {
      here = column_there_at plan at column here;
      there = subst (IsColumn (with_cell new column Null)) (sym (column_is plan at column here)) (column_there new column column Null there);
      later = push_with new plan at column Null here there (push_later new plan at push);
      own = record { table = refl; session = refl; xid = refl; under_way = tt };
    }
