-- Finite maps as logs of edits, the newest first.
use Rattle.std.specs.Prelude.{ℕ, ℤ, refl, List, [], ◌∷◌, Option, Some, None, ◌==◌}
use Rattle.std.specs.List.{find}
use Rattle.std.specs.Option.{option_and_then}
use Rattle.std.specs.Coded.{Coded, code_by, coded×, coded_ℕ, coded_ℤ, coded_list, coded_option}
use Rattle.std.specs.Ordering.{nat_cmp}
use Rattle.std.specs.FinMap as map
use Rattle.tuple_layout.specs.declared.Place.{Place}
use Rattle.command_set.specs.declared.rows.RowEdit.{RowEdit}
use Rattle.tuple_layout.specs.Places.{Row, Rows, same_place}

-- a place is stored as its table and its key
abbrev pub place_code : Coded Place
place_code = code_by (ℕ × ℤ) (coded× coded_ℕ coded_ℤ) (λ p. (p.table, p.key)) (λ p. record { table = p.0; key = p.1 }) (λ _. refl)

-- a value is stored as its bytes
abbrev pub bytes_code : Coded (List ℕ)
bytes_code = coded_list coded_ℕ

-- a row is stored as its values
abbrev pub row_code : Coded Row
row_code = coded_list (coded_option bytes_code)

-- the rows after an edit of a place: a row was put there, or taken away
abbrev pub edited : Place → Option Row → Rows → Rows
edited p (Some row) rows = map.insert rows p row
edited p None rows = map.remove rows p

-- the rows after these edits
abbrev pub rows_of : List RowEdit → Rows
rows_of [] = map.empty
rows_of (edit ∷ edits) = edited edit.place edit.row (rows_of edits)

-- the values kept under names
abbrev pub Handles : Type 0
Handles = map.FinMap nat_cmp (List ℕ)

-- the values after these edits: a value was kept under a name, or the name was given up
abbrev pub handles_of : List (ℕ × Option (List ℕ)) → Handles
handles_of [] = map.empty
handles_of ((h, Some bytes) ∷ edits) = map.insert (handles_of edits) h bytes
handles_of ((h, None) ∷ edits) = map.remove (handles_of edits) h

-- what the newest edit of a place left there, if any edited it
abbrev pub newest : List RowEdit → Place → Option Row
newest edits p = option_and_then (λ edit. edit.row) (find (λ edit. same_place p edit.place) edits)

-- what the newest edit of a name left there, if any edited it
abbrev pub newest_value : List (ℕ × Option (List ℕ)) → ℕ → Option (List ℕ)
newest_value edits handle = option_and_then (λ edit. edit.1) (find (λ edit. handle == edit.0) edits)
