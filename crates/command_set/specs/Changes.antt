-- Changes of rows, as a transaction makes them one after another.
use Rattle.std.specs.Prelude.{ℕ, ℤ, Bool, List, [], ◌∷◌, ◌++◌, Option, Some, None, if◌then◌else◌}
use Rattle.std.specs.List.{list_any}
use Rattle.std.specs.Option.{option_or}
use Rattle.std.specs.FinMap as map
use Rattle.tuple_layout.specs.declared.Place.{Place}
use Rattle.tuple_layout.specs.Places.{Row, Rows, same_place}
use Rattle.command_set.specs.declared.state.Change.{Change}
use Rattle.command_set.specs.declared.state.Change.TheVariants.{Insert, Update, Move, Remove}

-- the place of a key in a table
abbrev pub place : ℕ → ℤ → Place
place t k = record { table = t; key = k }

-- the rows after one change
abbrev pub made : Change → Rows → Rows
made (Insert t k row) rows = map.insert rows (place t k) row
made (Update t k row) rows = map.insert rows (place t k) row
made (Move t from to row) rows = map.insert (map.remove rows (place t from)) (place t to) row
made (Remove t k) rows = map.remove rows (place t k)

-- the rows after these changes, made in order
abbrev pub fold_changes : List Change → Rows → Rows
fold_changes [] rows = rows
fold_changes (change ∷ changes) rows = fold_changes changes (made change rows)

-- the places that a change names
abbrev pub places_of : Change → List Place
places_of (Insert t k row) = place t k ∷ []
places_of (Update t k row) = place t k ∷ []
places_of (Move t from to row) = place t from ∷ place t to ∷ []
places_of (Remove t k) = place t k ∷ []

-- all places that these changes name
abbrev pub keys_of : List Change → List Place
keys_of [] = []
keys_of (change ∷ changes) = places_of change ++ keys_of changes

-- whether a place is one of these
abbrev pub is_named : List Place → Place → Bool
is_named places q = list_any (λ p. same_place q p) places

-- what a change leaves at a place: nothing if it does not name the place, else a row or none
abbrev pub said : Change → Place → Option (Option Row)
said (Insert t k row) p = if same_place p (place t k) then Some (Some row) else None
said (Update t k row) p = if same_place p (place t k) then Some (Some row) else None
said (Move t from to row) p = if same_place p (place t to) then Some (Some row) else if same_place p (place t from) then Some None else None
said (Remove t k) p = if same_place p (place t k) then Some None else None

-- what changes leave at a place: what the last of them that names it leaves
abbrev pub outcome : List Change → Place → Option (Option Row)
outcome [] p = None
outcome (change ∷ changes) p = option_or (outcome changes p) (said change p)
