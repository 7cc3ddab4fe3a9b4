-- What one session has locked.
use Rattle.std.specs.Prelude.{Bool, ◌&&◌, ◌==◌, List, [], ◌∷◌, ◌++◌, if◌then◌else◌}
use Rattle.std.specs.List.{list_any}
use Rattle.std.specs.declared.cmp.Ordering.{Ordering}
use Rattle.std.specs.Ordering.{nat_cmp, int_cmp, is_eq, ordering_then}
use Rattle.std.specs.BTreeSet.{insert_key}
use Rattle.lock_table.specs.declared.lock.TableLock.{TableLock}
use Rattle.lock_table.specs.declared.lock.RowKey.{RowKey}
use Rattle.lock_table.specs.declared.lock.Lock.{Lock}
use Rattle.lock_table.specs.declared.lock.Lock.TheVariants.{Table, Row}
use Rattle.lock_table.specs.declared.held.SessionLocks.{SessionLocks}
use Rattle.lock_table.specs.Modes.{conflicts, same_mode}

-- no locks
abbrev pub nothing : SessionLocks
nothing = record { tables = []; rows = [] }

-- rows by table and then by key
abbrev pub row_cmp : RowKey → RowKey → Ordering
row_cmp row other = ordering_then (nat_cmp row.table other.table) (int_cmp row.key other.key)

-- whether a row is among these
abbrev pub holds_row : List RowKey → RowKey → Bool
holds_row rows row = list_any (λ other. is_eq (row_cmp row other)) rows

-- these rows and one more, which is put in order unless it is there
abbrev pub with_row : List RowKey → RowKey → List RowKey
with_row rows row = insert_key row_cmp rows row

-- whether a lock on a table is among these
abbrev pub holds_table : List TableLock → TableLock → Bool
holds_table tables lock = list_any (λ other. other.table == lock.table && same_mode other.mode lock.mode) tables

-- these locks on tables and one more, unless it is there
abbrev pub with_table : List TableLock → TableLock → List TableLock
with_table tables lock = if holds_table tables lock then tables else tables ++ lock ∷ []

-- whether one of these locks on tables is in the way of another session's
abbrev pub table_in_way : TableLock → List TableLock → Bool
table_in_way lock tables = list_any (λ other. other.table == lock.table && conflicts lock.mode other.mode) tables

-- whether what a session holds is in the way of another session's lock
abbrev pub is_in_way : Lock → SessionLocks → Bool
is_in_way (Table lock) held = table_in_way lock held.tables
is_in_way (Row row) held = holds_row held.rows row

-- what a session holds with one lock more
abbrev pub with_lock : Lock → SessionLocks → SessionLocks
with_lock (Table lock) held = record held { tables = with_table held.tables lock }
with_lock (Row row) held = record held { rows = with_row held.rows row }
