-- The key map of a relation: which tids have, or had, a version of the row at a key (PostgreSQL, "Indexes").
use Rattle.std.specs.Prelude.{ℤ, Bool, not, List, ◌∷◌, ◌++◌, filter}
use Rattle.std.specs.declared.cmp.Ordering.{Ordering}
use Rattle.std.specs.Ordering.{int_cmp, is_eq, is_lt, ordering_then}
use Rattle.slot_page.specs.declared.line.Tid.{Tid}
use Rattle.slot_page.specs.Tids.{is_listed, tid_cmp}
use Rattle.row_versions.specs.declared.keys.KeyEntry.{KeyEntry}

-- the entry of a key and a tid
abbrev pub entry : ℤ → Tid → KeyEntry
entry key tid = record { key = key; tid = tid }

-- by key, then by tid
abbrev pub entry_cmp : KeyEntry → KeyEntry → Ordering
entry_cmp e f = ordering_then (int_cmp e.key f.key) (tid_cmp e.tid f.tid)

-- whether an entry is of a key
abbrev pub has_key : ℤ → KeyEntry → Bool
has_key key e = is_eq (int_cmp e.key key)

-- whether an entry names one of these tids
abbrev pub names_one_of : List Tid → KeyEntry → Bool
names_one_of tids e = is_listed tids e.tid

-- the entries with one more: those below it, it, and the others
abbrev pub with_entry : List KeyEntry → KeyEntry → List KeyEntry
with_entry entries e = filter (λ f. is_lt (entry_cmp f e)) entries ++ e ∷ filter (λ f. not (is_lt (entry_cmp f e))) entries
