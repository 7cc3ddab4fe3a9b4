-- A replica as contracts see it.
use Rattle.std.specs.Prelude.{ℕ, ℤ, ◌≤◌, List, length, refl, IfSome}
use Rattle.std.specs.Borrow.{Bor}
use Rattle.std.specs.FinMap as finite
use Rattle.std.specs.Coded.{Coded, code_by, coded×, coded_ℕ, coded_ℤ, coded_list, coded_option}
use Rattle.tuple_layout.specs.declared.Place.{Place}
use Rattle.tuple_layout.specs.Places.{Row, Rows, place_cmp}

-- the rows by their places, and how many messages were taken
pub record ReplicaState : Type 0 where
  pub rows : Rows
  pub taken : ℕ

-- the rows of entries, of which the first counts where two have one place
abbrev pub rows_of : List (Place × Row) → Rows
rows_of entries = finite.from_entries {R = place_cmp} entries

-- the place of a table's key
abbrev pub place : ℕ → ℤ → Place
place table key = record { table = table; key = key }

-- a row with the place that its table and key name
abbrev pub row_of : ℕ × ℤ × Bor Row → Place × Row
row_of found = (place found.0 found.1, found.2.now)

-- a place is stored as the pair of its table and its key
abbrev pub place_code : Coded Place
place_code = code_by (ℕ × ℤ) (coded× coded_ℕ coded_ℤ) (λ p. (p.table, p.key)) (λ q. record { table = q.0; key = q.1 }) (λ _. refl)

-- a row is stored as it is
abbrev pub row_code : Coded Row
row_code = coded_list (coded_option (coded_list coded_ℕ))

-- a state is stored as the pair of its rows and its count
abbrev pub state_code : Coded ReplicaState
state_code = code_by (Rows × ℕ) (coded× (finite.code place_code row_code) coded_ℕ) (λ s. (s.rows, s.taken)) (λ p. record { rows = p.0; taken = p.1 }) (λ _. refl)

-- each row has at most 8 columns
abbrev pub HasWidths : Rows → Type 0
HasWidths rows = (p : Place) → IfSome (finite.get rows p) (λ row. length row ≤ 8)
