-- How the columns are spelled that an update sets.
use Rattle.std.specs.Prelude.{ℕ, ◌==◌, Bool, List, [], ◌∷◌, ◌++◌, Result, Ok, Err, if◌then◌else◌}
use Rattle.std.specs.List.{before_first, after_first, list_any}
use Rattle.command_set.specs.declared.Set.{Set}
use Rattle.script_words.specs.Names.{ordinal_in}
use Rattle.script_words.specs.Values.{value_in}
use Rattle.script_words.specs.Reading.{◌>>=◌}
use Rattle.script_words.specs.declared.fault.LineFault.{LineFault}
use Rattle.script_words.specs.declared.fault.LineFault.TheVariants.{BadName}

-- an equals sign
abbrev pub is_equals : ℕ → Bool
is_equals b = b == 61

-- whether a column is set
abbrev pub is_set : List Set → ℕ → Bool
is_set sets column = list_any (λ set. set.column == column) sets

-- one of so many columns that is not set yet
unfoldable pub unset_in : ℕ → List Set → List ℕ → Result ℕ LineFault
unset_in columns sets word = do
  column ← ordinal_in columns word
  if is_set sets column then Err BadName else Ok column

-- `C=V`, cut at the first `=`, where the column is not set yet
unfoldable pub set_in : ℕ → List Set → List ℕ → Result Set LineFault
set_in columns sets word =
    if list_any is_equals word then (do
      column ← unset_in columns sets (before_first is_equals word)
      value ← value_in (after_first is_equals word)
      Ok (record { column = column; value = value }))
    else Err BadName

-- these sets, and those that words spell
unfoldable pub sets_in : ℕ → List Set → List (List ℕ) → Result (List Set) LineFault
sets_in columns sets [] = Ok sets
sets_in columns sets (word ∷ words) = do
  set ← set_in columns sets word
  sets_in columns (sets ++ set ∷ []) words
