-- Columns that may go out, and which columns of a stored row are out of line.
use Rattle.std.specs.Prelude.{◌≡◌, ℕ, ◌-◌, ◌≤◌, Bool, false, List, length, Option, Some, None, IsSome, slice_get}
use Rattle.std.specs.Option.{option_map_or}
use Rattle.tuple_layout.specs.declared.Storage.{Storage}
use Rattle.tuple_layout.specs.declared.Storage.TheVariants.{External}
use Rattle.tuple_layout.specs.declared.cell.Cell.{Cell}
use Rattle.tuple_layout.specs.declared.cell.Cell.TheVariants.{Null, Inline, Out}
use Rattle.tuple_layout.specs.Sizes.{Width, Within, least_out}
use Rattle.tuple_layout.specs.Tuples.{cell_width, is_outside}

-- a column, from 1, that may go out: it is EXTERNAL, and its value is inline and long enough
pub record MayGo (schema : List Storage) (ws : List Width) (column : ℕ) : Type 0 where
  pub size : ℕ
  pub from : 1 ≤ column
  pub within : column ≤ length schema
  pub external : slice_get schema (column - 1) ≡ Some External
  pub inline : slice_get ws (column - 1) ≡ Some (Within size)
  pub long : least_out ≤ size

-- what stands for a value: a null for none, bytes for themselves, a pointer for some value
abbrev pub IsCellOf : Cell → Option (List ℕ) → Type 0
IsCellOf Null value = value ≡ None
IsCellOf (Inline bytes) value = value ≡ Some bytes
IsCellOf (Out p) value = IsSome value

-- whether a column, from 1, is out of line
abbrev pub is_out_column : List Cell → ℕ → Bool
is_out_column cells column = option_map_or (λ cell. is_outside (cell_width cell)) (slice_get cells (column - 1)) false
