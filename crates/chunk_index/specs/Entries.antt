-- The entries of the index of a table's chunks (PostgreSQL, "TOAST, Out-of-Line, On-Disk TOAST Storage").
use Rattle.std.specs.Prelude.{ℕ, Bool, true, not, ◌&&◌, ◌||◌, ◌==◌, nat_lt, nat_le, Option, Some, None, List, filter}
use Rattle.std.specs.declared.cmp.Ordering.{Ordering}
use Rattle.std.specs.Ordering.{nat_cmp, ordering_then, is_gt}
use Rattle.slot_page.specs.Tids.{tid_cmp}
use Rattle.chunk_index.specs.declared.entry.Entry.{Entry}
use Rattle.chunk_index.specs.Orders.{inserted}

-- the order of entries: by value id, then by number, then by tid
abbrev pub entry_cmp : Entry → Entry → Ordering
entry_cmp e f = ordering_then (nat_cmp e.value_id f.value_id) (ordering_then (nat_cmp e.seq f.seq) (tid_cmp e.tid f.tid))

-- the entries with one more, in order
abbrev pub with_entry : List Entry → Entry → List Entry
with_entry entries e = inserted entry_cmp e entries

-- the entries of a value
abbrev pub of_id : ℕ → List Entry → List Entry
of_id value_id entries = filter (λ e. e.value_id == value_id) entries

-- whether an entry is greater than another one, if that is given
abbrev pub is_after : Option Entry → Entry → Bool
is_after None e = true
is_after (Some after) e = is_gt (entry_cmp e after)

-- whether an entry has a value id, a number within bounds, both included, and is greater than another one, if that is given
abbrev pub is_wanted : ℕ → ℕ → ℕ → Option Entry → Entry → Bool
is_wanted value_id from to after e = (e.value_id == value_id) && nat_le from e.seq && nat_le e.seq to && is_after after e

-- those entries
abbrev pub wanted_of : ℕ → ℕ → ℕ → Option Entry → List Entry → List Entry
wanted_of value_id from to after entries = filter (is_wanted value_id from to after) entries

-- whether an entry is less than each with a value id and a number from one on
abbrev pub falls_short : ℕ → ℕ → Entry → Bool
falls_short value_id from e = nat_lt e.value_id value_id || (e.value_id == value_id) && nat_lt e.seq from

-- whether an entry is less than all that are wanted
abbrev pub comes_before : ℕ → ℕ → Option Entry → Entry → Bool
comes_before value_id from after e = falls_short value_id from e || not (is_after after e)

-- whether an entry is at most the last that may be wanted
abbrev pub reaches : ℕ → ℕ → Entry → Bool
reaches value_id to e = nat_lt e.value_id value_id || (e.value_id == value_id) && nat_le e.seq to
