-- The forms of lines: by which word each begins, and what the words after it say.
use Rattle.std.specs.Prelude.{ℕ, ◌&&◌, nat_le, List, length, codes, Option, Some, Result, Ok, Err, if◌then◌else◌}
use Rattle.std.specs.Option.{ok_or, option_map}
use Rattle.std.specs.Str.{bytes_eq}
use Rattle.tuple_layout.specs.Schemas.{TableSchema}
use Rattle.command_set.specs.declared.Passage.{Passage}
use Rattle.script_words.specs.Numbers.{number_in}
use Rattle.script_words.specs.Words.{counted, first_of, word_at}
use Rattle.script_words.specs.Names.{storages_in}
use Rattle.script_words.specs.Items.{items_in}
use Rattle.script_words.specs.Reading.{◌>>=◌}
use Rattle.script_words.specs.declared.fault.LineFault.{LineFault}
use Rattle.script_words.specs.declared.fault.LineFault.TheVariants.{BadNumber, WordCount}
use Rattle.script_text.specs.Commands.{command_form_in}
use Rattle.script_text.specs.declared.forms.Form.{Form}
use Rattle.script_text.specs.declared.forms.Form.TheVariants.{Ids, Table, Session, Command, Go, Loop}

-- the form that a first word begins
unfoldable pub form_in : List ℕ → Option Form
form_in word =
    if bytes_eq word (codes "ids") then Some Ids
    else if bytes_eq word (codes "table") then Some Table
    else if bytes_eq word (codes "session") then Some Session
    else if bytes_eq word (codes "go") then Some Go
    else if bytes_eq word (codes "loop") then Some Loop
    else option_map (λ form. Command form) (command_form_in word)

-- `ids LOW HIGH`
unfoldable pub ids_line : List (List ℕ) → Result (ℕ × ℕ) LineFault
ids_line words = do
  found ← counted 2 words
  low ← ok_or (number_in 16384 4294967295 (word_at found 0)) BadNumber
  high ← ok_or (number_in low 4294967295 (word_at found 1)) BadNumber
  Ok (low, high)

-- `table S ..`, with a storage for each of 1 to 8 columns
unfoldable pub table_line : List (List ℕ) → Result TableSchema LineFault
table_line words =
    if nat_le 1 (length words) && nat_le (length words) 8
    then (storages_in words >>= λ storages. Ok (record { storages = storages })) else Err WordCount

-- `go ITEM ..`
unfoldable pub go_line : ℕ → List (List ℕ) → Result Passage LineFault
go_line sessions words = do
  _ ← first_of words
  items ← items_in sessions words
  Ok (record { count = 1; items = items })

-- `loop COUNT ITEM ..`
unfoldable pub loop_line : ℕ → List (List ℕ) → Result Passage LineFault
loop_line sessions words = do
  word ← first_of words
  _ ← first_of word.1
  count ← ok_or (number_in 1 100000 word.0) BadNumber
  items ← items_in sessions word.1
  Ok (record { count = count; items = items })
