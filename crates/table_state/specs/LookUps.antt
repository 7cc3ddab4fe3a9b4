-- What a look-up finds in a table.
use Rattle.std.specs.Prelude.{ℕ, ℤ, ◌≡◌, Bool, true, false, [], Option, Some, None}
use Rattle.std.specs.Option.{option_map, option_map_or}
use Rattle.slot_page.specs.Pages.{item_in}
use Rattle.tuple_layout.specs.Schemas.{TableSchema}
use Rattle.xact_status.specs.Xacts.{Xacts}
use Rattle.snapshot_registry.specs.declared.Held.{Held}
use Rattle.snapshot_registry.specs.Snapshots.{Snaps, held_at, takes_effect}
use Rattle.row_versions.specs.Relations.{no_versions}
use Rattle.table_rows.specs.Worlds.{tuple_in}
use Rattle.table_rows.specs.Views.{is_found}
use Rattle.table_state.specs.declared.table.Table.{Table}
use Rattle.table_state.specs.declared.table.FoundRow.{FoundRow}
use Rattle.table_state.specs.Tables.{stored_of, toast_rel_of}

-- a table of this schema without a row
abbrev pub no_rows : TableSchema → ℕ → Table
no_rows schema number = record { rows = no_versions schema; toast = record { rel = record { rel_id = toast_rel_of number; pages = [] }; index = record { entries = []; bounds = []; pins = [] } } }

-- the test of a reader with a registered snapshot, and with an xid of its own if it has one
abbrev pub counts_seen : Xacts → Snaps → ℕ → Option ℕ → ℕ → Bool
counts_seen xacts snaps id own xid = option_map_or (λ (held : Held). takes_effect xacts held.snapshot own xid) (held_at snaps id) false

-- a found row is one that the world has at the key, as the version at its tid stores it
pub record IsFoundRow (counts : ℕ → Bool) (table : Table) (key : ℤ) (row : FoundRow) : Type 0 where
  pub found : is_found counts table.rows.pages key row.tid ≡ true
  pub stored : option_map (stored_of table.rows.schema.storages) (item_in table.rows.pages row.tid) ≡ Some row.stored

-- what a look-up finds of the row at a key: nothing where the world has none
abbrev pub FindsRow : (ℕ → Bool) → Table → ℤ → Option FoundRow → Type 0
FindsRow counts table key None = tuple_in counts table.rows.pages key ≡ None
FindsRow counts table key (Some row) = IsFoundRow counts table key row
