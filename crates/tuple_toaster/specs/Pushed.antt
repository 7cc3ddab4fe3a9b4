-- Which columns of a row go out of line (PostgreSQL, Database Physical Storage: "TOAST").
use Rattle.std.specs.Prelude.{ℕ, ◌+◌, Bool, List, [], ◌∷◌, ◌++◌, map, nat_le, ◌==◌, if◌then◌else◌}
use Rattle.std.specs.List.{list_any}
use Rattle.tuple_layout.specs.declared.Storage.{Storage}
use Rattle.tuple_layout.specs.Sizes.{Width, Missing, Within, Outside, may_go_out, size}
use Rattle.tuple_toaster.specs.declared.choice.TheConstants.{TUPLE_TARGET}

-- so many bytes a tuple is to take at most, if columns can go out of line
abbrev pub tuple_target : ℕ
tuple_target = TUPLE_TARGET

-- columns with their lengths
abbrev pub Columns : Type 0
Columns = List (ℕ × ℕ)

-- a column put before the first that is no longer
abbrev pub put_before : ℕ × ℕ → Columns → Columns
put_before c [] = c ∷ []
put_before c (d ∷ ds) = if nat_le d.1 c.1 then c ∷ d ∷ ds else d ∷ put_before c ds

-- the column, if its value is inline and may go out
abbrev pub with_column : ℕ → Storage → Width → Columns → Columns
with_column column storage Missing cs = cs
with_column column storage (Within n) cs = if may_go_out storage n then put_before (column, n) cs else cs
with_column column storage Outside cs = cs

-- the columns that may go out, from this number on, the longest first and of equal ones the first
abbrev pub eligible_from : ℕ → List Storage → List Width → Columns
eligible_from column [] ws = []
eligible_from column (storage ∷ storages) [] = []
eligible_from column (storage ∷ storages) (w ∷ ws) = with_column column storage w (eligible_from (column + 1) storages ws)

-- the same of a whole row, without the lengths
abbrev pub eligible : List Storage → List Width → List ℕ
eligible schema ws = map (λ c. c.0) (eligible_from 1 schema ws)

-- whether a column is one of these
abbrev pub is_among : List ℕ → ℕ → Bool
is_among columns column = list_any (λ c. c == column) columns

-- the width of a column when these columns are out of line too
abbrev pub width_besides : List ℕ → ℕ → Width → Width
width_besides out column w = if is_among out column then Outside else w

-- the widths, from this column on, when these columns are out of line too
abbrev pub moved_from : ℕ → List ℕ → List Width → List Width
moved_from column out [] = []
moved_from column out (w ∷ ws) = width_besides out column w ∷ moved_from (column + 1) out ws

abbrev pub moved : List ℕ → List Width → List Width
moved out ws = moved_from 1 out ws

-- the size of a row when these columns are out of line too
abbrev pub size_with : List Storage → List Width → List ℕ → ℕ
size_with schema ws out = size schema (moved out ws)

-- the shortest prefix with which the test holds, behind what is taken before it, or the whole list if there is none
abbrev pub shortest : (List ℕ → Bool) → List ℕ → List ℕ → List ℕ
shortest fits taken [] = []
shortest fits taken (c ∷ cs) = if fits taken then [] else c ∷ shortest fits (taken ++ c ∷ []) cs

-- the columns that go out: the shortest prefix of those that may with which the size is at most the target, or all of them
abbrev pub pushed : List Storage → List Width → ℕ → List ℕ
pushed schema ws target = shortest (λ out. nat_le (size_with schema ws out) target) [] (eligible schema ws)

-- the size with all columns out of line that may go out
abbrev pub all_moved_size : List Storage → List Width → ℕ
all_moved_size schema ws = size_with schema ws (eligible schema ws)
