-- Commands that are read name only what the tables have.
use Rattle.std.proofs.Common.{◌≡◌, ◌+◌, ℕ, suc, List, [], ◌∷◌, Ok, length, ap, ◌∙◌, subst, arith}
use Rattle.std.specs.Prelude.{ℤ, ◌==◌, codes}
use Rattle.std.specs.Int.{w64}
use Rattle.std.specs.Int.RustNames.{FitsSigned}
use Rattle.std.proofs.lemmas.Bool.Decides.{nat_tests}
use Rattle.tuple_layout.specs.Schemas.{TableSchema}
use Rattle.tuple_layout.specs.declared.Place.{Place}
use Rattle.command_set.specs.declared.Command.{Command}
use Rattle.command_set.specs.declared.Command.TheVariants as commands
use Rattle.command_set.specs.declared.Set.{Set}
use Rattle.script_words.specs.Names.{column_in, columns_of, handle_in, place_in, table_in}
use Rattle.script_words.specs.Numbers.{key_in, offset_in}
use Rattle.script_words.specs.Reading.{each_of}
use Rattle.script_words.specs.Sets.{sets_in}
use Rattle.script_words.specs.Values.{IsShort, value_in}
use Rattle.script_words.specs.Words.{counted, first_of, first_of_all, leading, word_at}
use Rattle.script_text.specs.Commands.{bare_line, begin_line, close_line, command_in, delete_line, fetch_line, get_line, insert_line, level_in, open_line, part_line, rekey_line, update_line}
use Rattle.script_text.specs.Laws.{NamesColumn, NamesHandle, NamesSpan, NamesTable, SetsColumns, Suits}
use Rattle.script_text.specs.declared.commands.CommandForm.{CommandForm}
use Rattle.script_text.specs.declared.commands.CommandForm.TheVariants.{Begin, Commit, Rollback, Get, Part, Open, Fetch, Close, Insert, Update, Delete, Rekey}
use Rattle.script_words.proofs.Spelled.{bound, each_is, each_length, if_ok, key_is, lettered_is, offset_is, ordinal_is, same_ok, sets_are, value_is}

table_is : (schemas : List TableSchema) (word : List ℕ) (t : ℕ) → table_in schemas word ≡ Ok t → NamesTable schemas t
table_is schemas word t e = let r = lettered_is (codes "t") (length schemas) word t e in record { from_one = r.from; within = r.within }

handle_is : (word : List ℕ) (handle : ℕ) → handle_in word ≡ Ok handle → NamesHandle handle
handle_is word handle e = let r = lettered_is (codes "h") 64 word handle e in record { from_one = r.from; within = r.within }

column_is : (schemas : List TableSchema) (t : ℕ) (word : List ℕ) (column : ℕ) → NamesTable schemas t → column_in schemas t word ≡ Ok column → NamesColumn schemas t column
column_is schemas t word column of_table e = let r = ordinal_is (columns_of schemas t) word column e in record { of_table = of_table; from_one = r.from; within = r.within }

-- a table and a key of 64 bits
record IsPlace (schemas : List TableSchema) (place : Place) : Type 0 where
  table : NamesTable schemas place.table
  key : FitsSigned w64 place.key

place_is : (schemas : List TableSchema) (first second : List ℕ) (place : Place) → place_in schemas first second ≡ Ok place → IsPlace schemas place
unfolding place_in
place_is schemas first second place e =
    let table = bound (table_in schemas first) _ place e in
    let key = bound (key_in second) _ place table.rest in
    subst (IsPlace schemas) (same_ok (record { table = table.x; key = key.x }) place key.rest) (record { table = table_is schemas first table.x table.is; key = key_is second key.x key.is })

span_is : (first second : List ℕ) (offset len : ℤ) → offset_in first ≡ Ok offset → offset_in second ≡ Ok len → NamesSpan offset len
span_is first second offset len e f = record { offset_fits = offset_is first offset e; length_fits = offset_is second len f }

sets_of : (schemas : List TableSchema) (t : ℕ) (ws : List (List ℕ)) (sets : List Set) → NamesTable schemas t → sets_in (columns_of schemas t) [] ws ≡ Ok sets → SetsColumns schemas t sets
sets_of schemas t ws sets of_table e =
    let h = sets_are (columns_of schemas t) ws sets e in
    record {
      of_table = of_table;
      columns = λ set there. let r = h.columns set there in record { of_table = of_table; from_one = r.from; within = r.within };
      values = h.values;
      once = h.once;
    }

begin_is : (schemas : List TableSchema) (ws : List (List ℕ)) (command : Command) → begin_line ws ≡ Ok command → Suits schemas command
unfolding begin_line
begin_is schemas ws command e =
    let found = bound (counted 1 ws) _ command e in
    let level = bound (level_in (word_at found.x 0)) _ command found.rest in
    subst (Suits schemas) (same_ok (commands.Begin level.x) command level.rest) tt

bare_is : (schemas : List TableSchema) (bare : Command) (ws : List (List ℕ)) (command : Command) → Suits schemas bare → bare_line bare ws ≡ Ok command → Suits schemas command
unfolding bare_line
bare_is schemas bare ws command suits e = let none = bound (counted 0 ws) _ command e in subst (Suits schemas) (same_ok bare command none.rest) suits

get_is : (schemas : List TableSchema) (ws : List (List ℕ)) (command : Command) → get_line schemas ws ≡ Ok command → Suits schemas command
unfolding get_line
get_is schemas ws command e =
    let found = bound (counted 2 ws) _ command e in
    let place = bound (place_in schemas (word_at found.x 0) (word_at found.x 1)) _ command found.rest in
    let at = place_is schemas _ _ place.x place.is in
    subst (Suits schemas) (same_ok (commands.Get place.x.table place.x.key) command place.rest) (at.table, at.key)

delete_is : (schemas : List TableSchema) (ws : List (List ℕ)) (command : Command) → delete_line schemas ws ≡ Ok command → Suits schemas command
unfolding delete_line
delete_is schemas ws command e =
    let found = bound (counted 2 ws) _ command e in
    let place = bound (place_in schemas (word_at found.x 0) (word_at found.x 1)) _ command found.rest in
    let at = place_is schemas _ _ place.x place.is in
    subst (Suits schemas) (same_ok (commands.Delete place.x.table place.x.key) command place.rest) (at.table, at.key)

part_is : (schemas : List TableSchema) (ws : List (List ℕ)) (command : Command) → part_line schemas ws ≡ Ok command → Suits schemas command
unfolding part_line
part_is schemas ws command e =
    let found = bound (counted 5 ws) _ command e in
    let place = bound (place_in schemas (word_at found.x 0) (word_at found.x 1)) _ command found.rest in
    let column = bound (column_in schemas place.x.table (word_at found.x 2)) _ command place.rest in
    let offset = bound (offset_in (word_at found.x 3)) _ command column.rest in
    let len = bound (offset_in (word_at found.x 4)) _ command offset.rest in
    let at = place_is schemas _ _ place.x place.is in
    subst (Suits schemas) (same_ok (commands.Part place.x.table place.x.key column.x offset.x len.x) command len.rest) (column_is schemas place.x.table _ column.x at.table column.is, at.key, span_is _ _ offset.x len.x offset.is len.is)

open_is : (schemas : List TableSchema) (ws : List (List ℕ)) (command : Command) → open_line schemas ws ≡ Ok command → Suits schemas command
unfolding open_line
open_is schemas ws command e =
    let found = bound (counted 4 ws) _ command e in
    let handle = bound (handle_in (word_at found.x 0)) _ command found.rest in
    let place = bound (place_in schemas (word_at found.x 1) (word_at found.x 2)) _ command handle.rest in
    let column = bound (column_in schemas place.x.table (word_at found.x 3)) _ command place.rest in
    let at = place_is schemas _ _ place.x place.is in
    subst (Suits schemas) (same_ok (commands.Open handle.x place.x.table place.x.key column.x) command column.rest) (handle_is _ handle.x handle.is, column_is schemas place.x.table _ column.x at.table column.is, at.key)

fetch_is : (schemas : List TableSchema) (ws : List (List ℕ)) (command : Command) → fetch_line ws ≡ Ok command → Suits schemas command
unfolding fetch_line
fetch_is schemas ws command e =
    let found = bound (counted 3 ws) _ command e in
    let handle = bound (handle_in (word_at found.x 0)) _ command found.rest in
    let offset = bound (offset_in (word_at found.x 1)) _ command handle.rest in
    let len = bound (offset_in (word_at found.x 2)) _ command offset.rest in
    subst (Suits schemas) (same_ok (commands.Fetch handle.x offset.x len.x) command len.rest) (handle_is _ handle.x handle.is, span_is _ _ offset.x len.x offset.is len.is)

close_is : (schemas : List TableSchema) (ws : List (List ℕ)) (command : Command) → close_line ws ≡ Ok command → Suits schemas command
unfolding close_line
close_is schemas ws command e =
    let found = bound (counted 1 ws) _ command e in
    let handle = bound (handle_in (word_at found.x 0)) _ command found.rest in
    subst (Suits schemas) (same_ok (commands.Close handle.x) command handle.rest) (handle_is _ handle.x handle.is)

first_length : (ws : List (List ℕ)) (word : List ℕ × List (List ℕ)) → first_of ws ≡ Ok word → length ws ≡ suc (length word.1)
first_length [] word e = absurd (cc)
first_length (w ∷ ws) word e = ap (λ (x : List ℕ × List (List ℕ)). suc (length x.1)) (same_ok (w, ws) word e)

all_length : (count : ℕ) (ws : List (List ℕ)) (word : List ℕ × List (List ℕ)) → first_of_all count ws ≡ Ok word → suc (length word.1) ≡ count
all_length count ws word e =
    let all = bound (counted count ws) first_of word e in
    let both = if_ok (length ws == count) (Ok ws) _ all.x all.is in
    let same : length ws ≡ count = grind (arith, nat_tests, both.0) in
    let kept : first_of ws ≡ Ok word = ap first_of (same_ok ws all.x both.1) ∙ all.rest in
    omega (arith, same, first_length ws word kept)

insert_is : (schemas : List TableSchema) (ws : List (List ℕ)) (command : Command) → insert_line schemas ws ≡ Ok command → Suits schemas command
unfolding insert_line
insert_is schemas ws command e =
    let first = bound (first_of ws) _ command e in
    let table = bound (table_in schemas first.x.0) _ command first.rest in
    let second = bound (first_of_all (1 + columns_of schemas table.x) first.x.1) _ command table.rest in
    let key = bound (key_in second.x.0) _ command second.rest in
    let row = bound (each_of value_in second.x.1) _ command key.rest in
    let one_each : length row.x ≡ columns_of schemas table.x = omega (arith, each_length value_in second.x.1 row.x row.is, all_length (1 + columns_of schemas table.x) first.x.1 second.x second.is) in
    subst (Suits schemas) (same_ok (commands.Insert table.x key.x row.x) command row.rest) (
      record {
        of_table = table_is schemas first.x.0 table.x table.is;
        one_each = one_each;
        values = each_is value_in IsShort second.x.1 row.x (λ w x is. value_is w x is) row.is;
      },
      key_is second.x.0 key.x key.is,
    )

update_is : (schemas : List TableSchema) (ws : List (List ℕ)) (command : Command) → update_line schemas ws ≡ Ok command → Suits schemas command
unfolding update_line
update_is schemas ws command e =
    let found = bound (leading 2 ws) _ command e in
    let some = bound (first_of found.x.1) _ command found.rest in
    let place = bound (place_in schemas (word_at found.x.0 0) (word_at found.x.0 1)) _ command some.rest in
    let sets = bound (sets_in (columns_of schemas place.x.table) [] found.x.1) _ command place.rest in
    let at = place_is schemas _ _ place.x place.is in
    subst (Suits schemas) (same_ok (commands.Update place.x.table place.x.key sets.x) command sets.rest) (sets_of schemas place.x.table found.x.1 sets.x at.table sets.is, at.key)

rekey_is : (schemas : List TableSchema) (ws : List (List ℕ)) (command : Command) → rekey_line schemas ws ≡ Ok command → Suits schemas command
unfolding rekey_line
rekey_is schemas ws command e =
    let found = bound (leading 3 ws) _ command e in
    let place = bound (place_in schemas (word_at found.x.0 0) (word_at found.x.0 1)) _ command found.rest in
    let to = bound (key_in (word_at found.x.0 2)) _ command place.rest in
    let sets = bound (sets_in (columns_of schemas place.x.table) [] found.x.1) _ command to.rest in
    let at = place_is schemas _ _ place.x place.is in
    subst (Suits schemas) (same_ok (commands.Rekey place.x.table place.x.key to.x sets.x) command sets.rest) (sets_of schemas place.x.table found.x.1 sets.x at.table sets.is, at.key, key_is _ to.x to.is)

-- a command of any form
pub command_is : (schemas : List TableSchema) (form : CommandForm) (ws : List (List ℕ)) (command : Command) → command_in schemas form ws ≡ Ok command → Suits schemas command
unfolding command_in
command_is schemas Begin ws command e = begin_is schemas ws command e
command_is schemas Commit ws command e = bare_is schemas commands.Commit ws command tt e
command_is schemas Rollback ws command e = bare_is schemas commands.Rollback ws command tt e
command_is schemas Get ws command e = get_is schemas ws command e
command_is schemas Part ws command e = part_is schemas ws command e
command_is schemas Open ws command e = open_is schemas ws command e
command_is schemas Fetch ws command e = fetch_is schemas ws command e
command_is schemas Close ws command e = close_is schemas ws command e
command_is schemas Insert ws command e = insert_is schemas ws command e
command_is schemas Update ws command e = update_is schemas ws command e
command_is schemas Delete ws command e = delete_is schemas ws command e
command_is schemas Rekey ws command e = rekey_is schemas ws command e
