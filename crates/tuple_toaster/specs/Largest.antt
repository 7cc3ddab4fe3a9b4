-- What the private search for the largest column answers.
use Rattle.std.specs.Prelude.{ℕ, ◌∷◌, [], Option, Some, None, List, nat_le, if◌then◌else◌}
use Rattle.tuple_layout.specs.declared.Storage.{Storage}
use Rattle.tuple_layout.specs.Sizes.{Width, Missing, Within, Outside, may_go_out}
use Rattle.tuple_toaster.specs.Pushed.{Columns, width_besides}

-- the first of a list of columns
abbrev pub first_of : Columns → Option (ℕ × ℕ)
first_of [] = None
first_of (c ∷ cs) = Some c

-- the longer of two columns, of equal ones the first
abbrev pub longer : Option (ℕ × ℕ) → Option (ℕ × ℕ) → Option (ℕ × ℕ)
longer None d = d
longer (Some c) None = Some c
longer (Some c) (Some d) = if nat_le d.1 c.1 then Some c else Some d

-- the column, if its value may go out
abbrev pub candidate : ℕ → Storage → Width → Option (ℕ × ℕ)
candidate column storage Missing = None
candidate column storage (Within n) = if may_go_out storage n then Some (column, n) else None
candidate column storage Outside = None

-- the column, if its value may go out and it is none of these
abbrev pub candidate_besides : List ℕ → ℕ → Storage → Width → Option (ℕ × ℕ)
candidate_besides out column storage w = candidate column storage (width_besides out column w)
