-- The plain store: whole copies of the rows in place of snapshots, and each command at one moment.
-- There is no chunk, pointer, page or transaction number in it.
use Rattle.std.specs.Prelude.{ℕ, zero, suc, ◌-◌, List, [], ◌∷◌, Option, Some, None, map as mapped, slice_get, slice_set, replicate, ◌==◌, if◌then◌else◌}
use Rattle.std.specs.List.{enumerate_from}
use Rattle.std.specs.Option.{unwrap_or}
use Rattle.std.specs.FinMap as map
use Rattle.tuple_layout.specs.Places.{Row, Rows}
use Rattle.tuple_layout.specs.declared.Place.{Place}
use Rattle.command_set.specs.Changes.{fold_changes}
use Rattle.command_set.specs.declared.state.Plain.{Plain}
use Rattle.command_set.specs.declared.state.Session.{Session}
use Rattle.command_set.specs.declared.state.Session.TheVariants.{Outside}
use Rattle.command_set.specs.declared.state.Transaction.{Transaction}
use Rattle.command_set.specs.declared.Set.{Set}

-- the state before the first command, with so many sessions
abbrev pub first_state : ℕ → Plain
first_state sessions = record { latest = map.empty; sessions = replicate sessions Outside; upkeep = [] }

-- what stands at a place of a list, counted from 1; nothing at 0
abbrev pub nth : {A : Type 0} → List A → ℕ → Option A
nth xs zero = None
nth xs (suc i) = slice_get xs i

-- what a session is; one that does not exist is outside
abbrev pub session_of : Plain → ℕ → Session
session_of m s = unwrap_or (nth m.sessions s) Outside

-- the state with that session in place of what it was
abbrev pub with_session : Plain → ℕ → Session → Plain
with_session m s session = record m { sessions = slice_set m.sessions (s - 1) session }

-- what a transaction's reads see: its own changes on its copy, where it has one, else on the committed rows
abbrev pub view_of : Plain → Transaction → Rows
view_of m t = fold_changes t.changes (unwrap_or t.base m.latest)

-- its own changes on the committed rows
abbrev pub now_of : Plain → Transaction → Rows
now_of m t = fold_changes t.changes m.latest

-- the row at a place, which is empty where there is none
abbrev pub row_at : Rows → Place → Row
row_at rows p = unwrap_or (map.get rows p) []

-- the value of a column, from 1
abbrev pub value_at : Row → ℕ → Option (List ℕ)
value_at row column = unwrap_or (nth row column) None

-- the value that is set for a column among these, if one is; no column is set twice
abbrev pub value_set : List Set → ℕ → Option (Option (List ℕ))
value_set [] column = None
value_set (s ∷ sets) column = if s.column == column then Some s.value else value_set sets column

-- the row with these columns set and the others as they were
abbrev pub row_with : Row → List Set → Row
row_with row sets = mapped (λ (column, value). unwrap_or (value_set sets column) value) (enumerate_from 1 row)
