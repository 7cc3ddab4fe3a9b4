-- How the columns of a row are made in two passes; what the private functions' clauses cite.
use Rattle.std.specs.Prelude.{◌≡◌, ℕ, Bool, false, ◌==◌, if◌then◌else◌, List, map, Option, None}
use Rattle.std.specs.List.{list_any}
use Rattle.tuple_layout.specs.declared.cell.Cell.{Cell}
use Rattle.tuple_layout.specs.declared.cell.Cell.TheVariants as cells
use Rattle.stream_wire.specs.declared.message.Sent.{Sent as Column}
use Rattle.stream_wire.specs.declared.message.Sent.TheVariants as columns
use Rattle.decode_stream.specs.Decoding.{GatheredValue, Found, sent_value, column_of, fronts_after}

-- a cell points to the value with an id
abbrev pub points_to : ℕ → Cell → Bool
points_to value_id (cells.Out p) = p.value_id == value_id
points_to value_id cell = false

-- what was gathered of the value that a cell points to
abbrev pub pointed : Found → ℕ → Cell → Option GatheredValue
pointed found table (cells.Out p) = found table p.value_id
pointed found table cell = None

-- the value that a cell points to is taken out of its table's, and each other one stays
abbrev pub IsTaken : Found → Found → ℕ → Cell → Type 0
IsTaken old new table cell = (value_id : ℕ) → new table value_id ≡ (if points_to value_id cell then None else old table value_id)

-- what is sent of a cell before values are moved: of those that cells point to, only the ones that an earlier cell points to as well
abbrev pub planned_of : Found → ℕ → List Cell → Cell → Column
planned_of found table before (cells.Out p) = if list_any (points_to p.value_id) before then sent_value (found table p.value_id) else columns.Unchanged
planned_of found table before cell = column_of found table cell

-- the same of the cells that follow others
abbrev pub planned : Found → ℕ → List Cell → List Cell → List Column
planned found table before row = map (λ p. planned_of found table p.0 p.1) (fronts_after before row)
