-- What the facts of a table tell a reader.
use Rattle.std.proofs.Common.{ℕ, ℤ, ◌≡◌, Bool, true, false, List, [], Option, Some, None, map, Contains, refl, sym, ap, subst, ◌∙◌}
use Rattle.std.specs.Option.{option_map}
use Rattle.std.proofs.lemmas.Option.{none-some, same_Some}
use Rattle.slot_page.specs.declared.line.Tid.{Tid}
use Rattle.slot_page.specs.Pages.{item_in}
use Rattle.external_pointer.specs.declared.external.Pointer.{Pointer}
use Rattle.tuple_layout.specs.Schemas.{TableSchema}
use Rattle.tuple_layout.specs.declared.cell.Stored.{Stored}
use Rattle.xact_status.specs.declared.Stamp.{Stamp}
use Rattle.xact_status.specs.Xacts.{Xacts}
use Rattle.snapshot_registry.specs.Snapshots.{Snaps}
use Rattle.row_versions.specs.declared.version.Version.{Version}
use Rattle.value_holders.specs.Holders.{IsHeld, Protects}
use Rattle.value_holders.specs.Laws.{StepsKeepHeld}
use Rattle.value_holders.proofs.Readers.{readers_are_safe}
use Rattle.value_holders.proofs.Steps.{steps_keep_held}
use Rattle.table_rows.specs.Steps.{stamp_of}
use Rattle.table_rows.specs.Worlds.{IsOne, tuple_in}
use Rattle.table_rows.proofs.Pages.{assigned_from}
use Rattle.table_rows.proofs.Views.{found_in}
use Rattle.table_rows.proofs.Worlds.{one_none}
use Rattle.table_state.specs.declared.table.Table.{Table}
use Rattle.table_state.specs.declared.table.FoundRow.{FoundRow}
use Rattle.table_state.specs.Rows.{cell_value, row_of}
use Rattle.table_state.specs.Holders.{holders_of, chunk_stamps}
use Rattle.table_state.specs.Tables.{IsTable, row_in, stored_of}
use Rattle.table_state.specs.LookUps.{FindsRow, IsFoundRow, no_rows}
use Rattle.table_state.specs.Found.{TablesTell, row_read}
use Rattle.table_state.proofs.Tuples.{cells_of_tuple}
use Rattle.table_state.proofs.Places.{holder_is}

-- ---- a table without a row

held_steps : StepsKeepHeld Tid
held_steps = steps_keep_held

nowhere : (tid : Tid) (version : Version) → item_in {T = Version} [] tid ≡ Some version → ⊥
nowhere tid version at = none-some version at

empty : (number : ℕ) (xacts : Xacts) (snaps : Snaps) (schema : TableSchema) → IsTable number xacts snaps (no_rows schema number)
empty number xacts snaps schema = record {
  relation = refl;
  tuples = λ tid version at. absurd (nowhere tid version at);
  whole = λ tid version pointer at. absurd (nowhere tid version at);
  one = record { each = λ world key there. one_none _ [] key (λ tid. refl) };
  held = λ value_id. held_steps.unheld xacts snaps (holders_of schema.storages [] value_id) (chunk_stamps (no_rows schema number).toast value_id) (record { each = λ tid stamp is. absurd (none-some stamp is) }) (λ tid stamp protects. none-some stamp protects.there);
  sound = λ tid version at. absurd (nowhere tid version at);
  given = record { inserter = λ tid version at. absurd (nowhere tid version at); ender = λ tid version xid at. absurd (nowhere tid version at) };
  assigned = record { each = λ tid. tt };
}

-- ---- a look-up

found : (counts : ℕ → Bool) (table : Table) (key : ℤ) (row : Option FoundRow) → IsOne counts table.rows.pages key → FindsRow counts table key row → option_map (row_read table.toast) row ≡ row_in table counts key
found counts table key None one none = sym (ap (option_map (row_of table.rows.schema.storages table.toast)) none)
found counts table key (Some row) one finds =
    let version = found_in counts table.rows.pages key row.tid one finds.found in
    let stored = same_Some _ _ (sym (ap (option_map (stored_of table.rows.schema.storages)) version.1) ∙ finds.stored) in
    ap (λ (s : Stored). Some (map (cell_value table.toast) s.cells)) (sym stored) ∙ sym (ap (option_map (row_of table.rows.schema.storages table.toast)) version.2)

pub tables_tell : TablesTell
tables_tell = record {
  cells = cells_of_tuple;
  empty = empty;
  stored = λ number xacts snaps table is. record { each = λ tid version at. (is.tuples tid version at).stored };
  assigned = λ number xacts snaps table is. assigned_from xacts table.rows.pages is.given;
  found = found;
  seen_whole = λ number xacts snaps table id own tid version pointer is runs at seen has. is.whole tid version pointer at (readers_are_safe.seen_is_protected xacts snaps id version.inserter version.ender own runs seen) has;
  current_whole = λ number xacts snaps table own tid version pointer is runs at current has. is.whole tid version pointer at (readers_are_safe.current_is_protected xacts snaps own (stamp_of version) runs current) has;
}
