-- How tables, columns, sessions, handles and storages are named.
use Rattle.std.specs.Prelude.{ℕ, List, length, take, drop, codes, Result, Ok, Err, if◌then◌else◌}
use Rattle.std.specs.Option.{ok_or}
use Rattle.std.specs.Str.{bytes_eq}
use Rattle.tuple_layout.specs.Schemas.{TableSchema}
use Rattle.tuple_layout.specs.declared.Place.{Place}
use Rattle.tuple_layout.specs.declared.Storage.{Storage}
use Rattle.tuple_layout.specs.declared.Storage.TheVariants.{External, Plain}
use Rattle.command_set.specs.Replies.{schema_of}
use Rattle.script_words.specs.Numbers.{key_in, number_in}
use Rattle.script_words.specs.Reading.{◌>>=◌, each_of}
use Rattle.script_words.specs.declared.fault.LineFault.{LineFault}
use Rattle.script_words.specs.declared.fault.LineFault.TheVariants.{BadName}

-- the number of one of so many things, which count from 1
unfoldable pub ordinal_in : ℕ → List ℕ → Result ℕ LineFault
ordinal_in most word = ok_or (number_in 1 most word) BadName

-- the same behind a letter
unfoldable pub lettered_in : List ℕ → ℕ → List ℕ → Result ℕ LineFault
lettered_in letter most word = if bytes_eq (take 1 word) letter then ordinal_in most (drop 1 word) else Err BadName

-- `t` and the number of a table that is there
abbrev pub table_in : List TableSchema → List ℕ → Result ℕ LineFault
table_in schemas word = lettered_in (codes "t") (length schemas) word

-- `h` and a number from 1 to 64
abbrev pub handle_in : List ℕ → Result ℕ LineFault
handle_in word = lettered_in (codes "h") 64 word

-- how many columns a table has
abbrev pub columns_of : List TableSchema → ℕ → ℕ
columns_of schemas table = length (schema_of schemas table).storages

-- the number of a column of a table
abbrev pub column_in : List TableSchema → ℕ → List ℕ → Result ℕ LineFault
column_in schemas table word = ordinal_in (columns_of schemas table) word

-- a table and a key
unfoldable pub place_in : List TableSchema → List ℕ → List ℕ → Result Place LineFault
place_in schemas first second = do
  table ← table_in schemas first
  key ← key_in second
  Ok (record { table = table; key = key })

-- `p` or `e`
unfoldable pub storage_in : List ℕ → Result Storage LineFault
storage_in word =
    if bytes_eq word (codes "p") then Ok Plain
    else if bytes_eq word (codes "e") then Ok External
    else Err BadName

-- the storages that words spell
abbrev pub storages_in : List (List ℕ) → Result (List Storage) LineFault
storages_in words = each_of storage_in words
