-- The forms of commands: by which word each begins, and what the words after it say.
use Rattle.std.specs.Prelude.{ℕ, ◌+◌, List, [], codes, Option, Some, None, Result, Ok, Err, if◌then◌else◌}
use Rattle.std.specs.Str.{bytes_eq}
use Rattle.tuple_layout.specs.Schemas.{TableSchema}
use Rattle.command_set.specs.declared.Command.{Command}
use Rattle.command_set.specs.declared.Command.TheVariants as commands
use Rattle.command_set.specs.declared.Level.{Level}
use Rattle.command_set.specs.declared.Level.TheVariants.{Rc, Rr}
use Rattle.script_words.specs.Numbers.{key_in, offset_in}
use Rattle.script_words.specs.Words.{counted, first_of, first_of_all, leading, word_at}
use Rattle.script_words.specs.Names.{column_in, columns_of, handle_in, place_in, table_in}
use Rattle.script_words.specs.Values.{values_in}
use Rattle.script_words.specs.Sets.{sets_in}
use Rattle.script_words.specs.Reading.{◌>>=◌}
use Rattle.script_words.specs.declared.fault.LineFault.{LineFault}
use Rattle.script_words.specs.declared.fault.LineFault.TheVariants.{BadName}
use Rattle.script_text.specs.declared.commands.CommandForm.{CommandForm}
use Rattle.script_text.specs.declared.commands.CommandForm.TheVariants.{Begin, Commit, Rollback, Get, Part, Open, Fetch, Close, Insert, Update, Delete, Rekey}

-- the form of command that a first word begins
unfoldable pub command_form_in : List ℕ → Option CommandForm
command_form_in word =
    if bytes_eq word (codes "begin") then Some Begin
    else if bytes_eq word (codes "commit") then Some Commit
    else if bytes_eq word (codes "rollback") then Some Rollback
    else if bytes_eq word (codes "get") then Some Get
    else if bytes_eq word (codes "part") then Some Part
    else if bytes_eq word (codes "open") then Some Open
    else if bytes_eq word (codes "fetch") then Some Fetch
    else if bytes_eq word (codes "close") then Some Close
    else if bytes_eq word (codes "insert") then Some Insert
    else if bytes_eq word (codes "update") then Some Update
    else if bytes_eq word (codes "delete") then Some Delete
    else if bytes_eq word (codes "rekey") then Some Rekey
    else None

-- `rc` or `rr`
unfoldable pub level_in : List ℕ → Result Level LineFault
level_in word =
    if bytes_eq word (codes "rc") then Ok Rc
    else if bytes_eq word (codes "rr") then Ok Rr
    else Err BadName

-- `begin rc` or `begin rr`
unfoldable pub begin_line : List (List ℕ) → Result Command LineFault
begin_line words = do
  found ← counted 1 words
  level ← level_in (word_at found 0)
  Ok (commands.Begin level)

-- a command of one word
unfoldable pub bare_line : Command → List (List ℕ) → Result Command LineFault
bare_line command words = counted 0 words >>= λ _. Ok command

-- `get T K`
unfoldable pub get_line : List TableSchema → List (List ℕ) → Result Command LineFault
get_line schemas words = do
  found ← counted 2 words
  place ← place_in schemas (word_at found 0) (word_at found 1)
  Ok (commands.Get place.table place.key)

-- `delete T K`
unfoldable pub delete_line : List TableSchema → List (List ℕ) → Result Command LineFault
delete_line schemas words = do
  found ← counted 2 words
  place ← place_in schemas (word_at found 0) (word_at found 1)
  Ok (commands.Delete place.table place.key)

-- `part T K C OFF LEN`
unfoldable pub part_line : List TableSchema → List (List ℕ) → Result Command LineFault
part_line schemas words = do
  found ← counted 5 words
  place ← place_in schemas (word_at found 0) (word_at found 1)
  column ← column_in schemas place.table (word_at found 2)
  offset ← offset_in (word_at found 3)
  len ← offset_in (word_at found 4)
  Ok (commands.Part place.table place.key column offset len)

-- `open H T K C`
unfoldable pub open_line : List TableSchema → List (List ℕ) → Result Command LineFault
open_line schemas words = do
  found ← counted 4 words
  handle ← handle_in (word_at found 0)
  place ← place_in schemas (word_at found 1) (word_at found 2)
  column ← column_in schemas place.table (word_at found 3)
  Ok (commands.Open handle place.table place.key column)

-- `fetch H OFF LEN`
unfoldable pub fetch_line : List (List ℕ) → Result Command LineFault
fetch_line words = do
  found ← counted 3 words
  handle ← handle_in (word_at found 0)
  offset ← offset_in (word_at found 1)
  len ← offset_in (word_at found 2)
  Ok (commands.Fetch handle offset len)

-- `close H`
unfoldable pub close_line : List (List ℕ) → Result Command LineFault
close_line words = do
  found ← counted 1 words
  handle ← handle_in (word_at found 0)
  Ok (commands.Close handle)

-- `insert T K V ..`, with a value for each column
unfoldable pub insert_line : List TableSchema → List (List ℕ) → Result Command LineFault
insert_line schemas words = do
  first ← first_of words
  table ← table_in schemas first.0
  second ← first_of_all (1 + columns_of schemas table) first.1
  key ← key_in second.0
  row ← values_in second.1
  Ok (commands.Insert table key row)

-- `update T K C=V ..`, which sets a column or more
unfoldable pub update_line : List TableSchema → List (List ℕ) → Result Command LineFault
update_line schemas words = do
  found ← leading 2 words
  _ ← first_of found.1
  place ← place_in schemas (word_at found.0 0) (word_at found.0 1)
  sets ← sets_in (columns_of schemas place.table) [] found.1
  Ok (commands.Update place.table place.key sets)

-- `rekey T K L C=V ..`, which may set no column
unfoldable pub rekey_line : List TableSchema → List (List ℕ) → Result Command LineFault
rekey_line schemas words = do
  found ← leading 3 words
  place ← place_in schemas (word_at found.0 0) (word_at found.0 1)
  to ← key_in (word_at found.0 2)
  sets ← sets_in (columns_of schemas place.table) [] found.1
  Ok (commands.Rekey place.table place.key to sets)

-- what a command's line says, by the words after its first
unfoldable pub command_in : List TableSchema → CommandForm → List (List ℕ) → Result Command LineFault
command_in schemas Begin words = begin_line words
command_in schemas Commit words = bare_line commands.Commit words
command_in schemas Rollback words = bare_line commands.Rollback words
command_in schemas Get words = get_line schemas words
command_in schemas Part words = part_line schemas words
command_in schemas Open words = open_line schemas words
command_in schemas Fetch words = fetch_line words
command_in schemas Close words = close_line words
command_in schemas Insert words = insert_line schemas words
command_in schemas Update words = update_line schemas words
command_in schemas Delete words = delete_line schemas words
command_in schemas Rekey words = rekey_line schemas words
