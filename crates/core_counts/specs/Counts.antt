-- How many turns a granted command takes at least, told by the plain store: one for its moment, and for each value that no tuple can hold in line those in which its pieces are read or written.
use Rattle.std.specs.FinMap as map
use Rattle.std.specs.Option.{option_map_or}
use Rattle.std.specs.Prelude.{Bool, List, Option, if◌then◌else◌, length, nat_lt, sum_by, unsigned_abs, ℕ, ℤ, ◌&&◌, ◌*◌, ◌+◌, ◌-◌, ◌/◌}
use Rattle.tuple_layout.specs.Places.{Row}
use Rattle.tuple_layout.specs.Sizes.{largest_tuple}
use Rattle.tuple_layout.specs.Slices.{slice}
use Rattle.slice_fetch.specs.Spans.{chunk_size}
use Rattle.command_set.specs.Changes.{place}
use Rattle.command_set.specs.Plain.{row_at, session_of, value_at, view_of}
use Rattle.command_set.specs.Replies.{transaction_of}
use Rattle.command_set.specs.declared.Command.{Command}
use Rattle.command_set.specs.declared.Set.{Set}
use Rattle.command_set.specs.declared.state.Plain.{Plain}
use Rattle.command_set.specs.declared.state.Transaction.{Transaction}
use Rattle.command_set.specs.declared.Command.TheVariants as commands

-- the longest value that a tuple can hold in line: beside it stand the tuple's header of 24 bytes, the key's 8 and the value's own header of 4
abbrev pub longest_inline : ℕ
longest_inline = largest_tuple - 36

-- whether a value is longer than that
abbrev pub is_long : List ℕ → Bool
is_long value = nat_lt longest_inline (length value)

-- how many pieces of a value have bytes from a place on, up to an end
abbrev pub pieces_between : ℕ → ℕ → ℕ
pieces_between start end = if nat_lt start end then (end - 1) / chunk_size + 1 - start / chunk_size else 0

-- the turns in which the bytes of a value from a place on, up to an end, are read, if it is long and there are any: one asks for the pieces' entries, and each piece takes one
abbrev pub read_turns : List ℕ → ℕ → ℕ → ℕ
read_turns value start end = if is_long value && nat_lt start end then pieces_between start end + 1 else 0

-- the same of a whole value, and of a slice
abbrev pub whole_turns : List ℕ → ℕ
whole_turns value = read_turns value 0 (length value)

abbrev pub slice_turns : ℤ → ℤ → List ℕ → ℕ
slice_turns offset len value = read_turns value (unsigned_abs offset) (unsigned_abs offset + length (slice value offset len))

-- the turns in which a value is saved, if it is long: one draws its id, and each piece is put in one and indexed in another
abbrev pub save_turns : List ℕ → ℕ
save_turns value = if is_long value then 2 * pieces_between 0 (length value) + 1 else 0

-- the turns of a value that may be null
abbrev pub turns_of : (List ℕ → ℕ) → Option (List ℕ) → ℕ
turns_of turns value = option_map_or turns value 0

-- the turns of all values of a row, and of all that are set
abbrev pub row_turns : (List ℕ → ℕ) → Row → ℕ
row_turns turns row = sum_by (turns_of turns) row

abbrev pub set_turns : List Set → ℕ
set_turns sets = sum_by (λ set. turns_of save_turns set.value) sets

-- the transaction of a session, and the row at a key that its reads see
abbrev pub own_of : Plain → ℕ → Transaction
own_of m s = transaction_of (session_of m s)

abbrev pub row_of : Plain → ℕ → ℕ → ℤ → Row
row_of m s t key = row_at (view_of m (own_of m s)) (place t key)

-- how many turns a command of a session takes at least that is granted in a state of the plain store
abbrev pub least_turns : Plain → ℕ → Command → ℕ
least_turns m s (commands.Get t key) = 1 + row_turns whole_turns (row_of m s t key)
least_turns m s (commands.Part t key column offset len) = 1 + turns_of (slice_turns offset len) (value_at (row_of m s t key) column)
least_turns m s (commands.Fetch name offset len) = 1 + turns_of (slice_turns offset len) (map.get (own_of m s).handles name)
least_turns m s (commands.Insert t key row) = 2 + row_turns save_turns row
least_turns m s (commands.Update t key sets) = 2 + set_turns sets
least_turns m s (commands.Rekey t from to sets) = 2 + set_turns sets
least_turns m s (commands.Delete t key) = 2
least_turns m s command = 1
