-- A new row's tuple, and where its pointers come from.
use Rattle.std.proofs.Common.{ap, arith, inl, inr, refl, subst, sym, ◌∙◌}
use Rattle.std.specs.List.{IsDistinct}
use Rattle.std.specs.Prelude.{Contains, List, None, Option, Some, length, map, nat_eq, slice_get, slice_index_or, suc, true, ℕ, ◌-◌, ◌≡◌, ◌≤◌, ◌⊎◌}
use Rattle.list_facts.proofs.Members.{from_map}
use Rattle.external_pointer.specs.Spelling.{IsInRange}
use Rattle.external_pointer.specs.declared.external.Pointer.{Pointer}
use Rattle.tuple_layout.specs.Tuples.{HasForm, HasTuple, IsWithinLimits, tuple}
use Rattle.tuple_layout.specs.declared.Storage.{Storage}
use Rattle.tuple_layout.specs.declared.cell.Cell.{Cell}
use Rattle.tuple_layout.specs.declared.cell.Cell.TheVariants.{Inline, Null, Out}
use Rattle.tuple_layout.specs.declared.cell.Stored.{Stored}
use Rattle.slot_page.specs.Pages.{item_in}
use Rattle.xact_status.specs.Xacts.{Xacts}
use Rattle.xact_status.specs.declared.Stamp.{Stamp}
use Rattle.snapshot_registry.specs.Snapshots.{Snaps}
use Rattle.value_holders.specs.Stamps.{IsOpenFor, IsUnended}
use Rattle.row_versions.specs.declared.version.Version.{Version}
use Rattle.chunk_relation.specs.Chunks.{chunk_stamp}
use Rattle.chunk_relation.specs.declared.chunk.Chunk.{Chunk}
use Rattle.value_ids.specs.Ids.{Pool}
use Rattle.value_ids.specs.declared.pool.InHand.{InHand}
use Rattle.change_log.specs.Logs.{LogState}
use Rattle.lock_table.specs.declared.held.SessionLocks.{SessionLocks}
use Rattle.toast_store.proofs.ValueIn.{value_whole}
use Rattle.toast_store.specs.PieceJobs.{all_put}
use Rattle.toast_store.specs.Saves.{IsSaved}
use Rattle.toast_store.specs.Stores.{Store, chunks_of}
use Rattle.toast_store.specs.Values.{Whole}
use Rattle.table_rows.specs.Steps.{stamp_of}
use Rattle.table_state.proofs.Ids.{id_from, id_in}
use Rattle.table_state.proofs.Tuples.{cells_of_tuple}
use Rattle.table_state.specs.Cells.{cells_in}
use Rattle.table_state.specs.Events.{IsRowFor, IsSavedFor, IsUnheld}
use Rattle.table_state.specs.Holders.{chunk_stamps}
use Rattle.table_state.specs.Rows.{has_id, pointers_in}
use Rattle.table_state.specs.Tables.{AreCellsOf, IsRowTuple, IsTable, cells_of, toast_rel_of}
use Rattle.table_state.specs.declared.table.Table.{Table}
use Rattle.write_steps.proofs.Stepping.{can_form}
use Rattle.write_steps.specs.Standing.{StandsPut}
use Rattle.write_steps.specs.Writes.{new_save, old_cells, parts_of}
use Rattle.write_steps.specs.declared.stage.OldRow.{OldRow}
use Rattle.write_steps.specs.declared.stage.Owner.{Owner}
use Rattle.core_state.proofs.Answered.{within}
use Rattle.core_state.proofs.Lists.{read_found, read_there}
use Rattle.core_state.specs.Facts.{IsTableMade, WriteIsSound, ids_in}
use Rattle.core_state.specs.declared.seat.State.{State}
use Rattle.core_versions.proofs.Cells.{cell_found, pointer_found, pointer_is, pointer_there}
use Rattle.core_versions.proofs.Hands.{Drawn, Given, Kept, column_of, drawn_hand, id_column, member_at}
use Rattle.write_steps.specs.declared.stage.WriteStage.TheVariants as stages

-- ---- the tuple

has_form : (cell : Cell) → IsWithinLimits cell → ((pointer : Pointer) → cell ≡ Out pointer → IsInRange pointer) → HasForm cell
has_form Null limits range = tt
has_form (Inline value) limits range = omega (arith, limits)
has_form (Out pointer) limits range = range pointer refl

-- the tuple of a row is one that a version may have
row_tuple : (rel : ℕ) (schema : List Storage) (new : Stored) → length schema ≤ 8 → HasTuple schema new → AreCellsOf rel schema new.cells → IsDistinct nat_eq (ids_in new.cells) → IsRowTuple rel schema new.key (tuple schema new)
row_tuple rel schema new few has cells distinct =
    let same = cells_of_tuple schema new few has in
    record {
      stored = record {
        has = subst (λ (row : List Cell). HasTuple schema (record { key = new.key; cells = row })) (sym same) has;
        is = ap (λ (row : List Cell). tuple schema (record { key = new.key; cells = row })) (sym same);
      };
      cells = subst (λ (row : List Cell). AreCellsOf rel schema row) (sym same) cells;
      distinct = subst (λ (row : List Cell). IsDistinct nat_eq (map (λ (pointer : Pointer). pointer.value_id) (pointers_in row))) (sym same) distinct;
    }

-- ---- an old version

-- the version that a write is to end
pub record OldVersion (xacts : Xacts) (table : Table) (x : ℕ) (row : OldRow) (version : Version) : Type 0 where
  pub there : item_in table.rows.pages row.tid ≡ Some version
  pub of_key : version.key ≡ row.stored.key
  pub cells : cells_of table version ≡ row.stored.cells
  pub opened : IsOpenFor xacts x (stamp_of version)

-- ---- a pointer of a new row

-- a value that was saved for it
record IsNewValue (xacts : Xacts) (snaps : Snaps) (in_hand : List InHand) (table : Table) (s t x : ℕ) (pointer : Pointer) : Type 0 where
  saved : IsSavedFor xacts snaps table x pointer
  in_range : IsInRange pointer
  held : Contains in_hand (record { table = t; session = s; id = pointer.value_id })
  unheld : IsUnheld xacts snaps table pointer.value_id

-- its chunks are as they were put
stamps_put : (store : Store) (x id : ℕ) (value : List ℕ) (stamp : Stamp) → chunks_of store id ≡ all_put x id value → Contains (chunk_stamps store id) stamp → (stamp.inserter ≡ x) × (stamp.ender ≡ None)
stamps_put store x id value stamp put e =
    let there = subst (λ (chunks : List Chunk). Contains (map chunk_stamp chunks) stamp) put e in
    let chunk = from_map chunk_stamp (all_put x id value) stamp there in
    let seq = from_map _ _ chunk.0 chunk.1 in (
      ap (λ (one : Stamp). one.inserter) (sym chunk.2) ∙ ap (λ (one : Chunk). one.inserter) (sym seq.2),
      ap (λ (one : Stamp). one.ender) (sym chunk.2) ∙ ap (λ (one : Chunk). one.ender) (sym seq.2),
    )

none_unended : (xacts : Xacts) (ender : Option ℕ) → ender ≡ None → IsUnended xacts ender
none_unended xacts ender is = record { not_ending = λ xid e. absurd (clash xid (sym is ∙ e)); not_ended = λ xid e. absurd (clash xid (sym is ∙ e)) }
  where
    clash : (xid : ℕ) → None ≡ Some xid → ⊥
    clash xid e = cc

saved_for : (xacts : Xacts) (snaps : Snaps) (ids : Pool) (table : Table) (owner : Owner) (value : List ℕ) (pointer : Pointer) → IsSaved table.toast ids (new_save owner value) pointer → IsUnheld xacts snaps table pointer.value_id
    → IsSavedFor xacts snaps table owner.xid pointer
saved_for xacts snaps ids table owner value pointer saved unheld = record {
  whole = subst (λ (bytes : List ℕ). Whole table.toast pointer bytes) (sym (value_whole table.toast pointer value saved.whole)) saved.whole;
  saved = record {
    unended = record { each = λ stamp e. none_unended xacts stamp.ender (stamps_put table.toast owner.xid pointer.value_id value stamp saved.chunks e).1 };
    put_by = record { each = λ stamp e. inl (stamps_put table.toast owner.xid pointer.value_id value stamp saved.chunks e).0 };
    free = record { each = λ tid stamp protects. absurd (unheld.none tid stamp protects) };
  };
}

-- each pointer of the new row was saved for it, or is the old row's in the same column
new_pointer : (xacts : Xacts) (snaps : Snaps) (ids : Pool) (held : SessionLocks) (table : Table) (s t : ℕ) (state : State) (owner : Owner) (old : Option OldRow) (new : Stored) (plan : List ℕ) (log : LogState) (k : ℕ) (pointer : Pointer)
    → WriteIsSound xacts snaps ids held table s t state (record { owner = owner; stage = stages.Put old new plan }) → slice_get new.cells k ≡ Some (Out pointer)
    → IsNewValue xacts snaps ids.in_hand table s t owner.xid pointer ⊎ (slice_get (old_cells old) k ≡ Some (Out pointer))
new_pointer xacts snaps ids held table s t state owner old new plan log k pointer write at = elim (write.new.kept (suc k) pointer (cell_found new.cells k (Out pointer) at)) [
  | inl drawn ↦
      let stands : StandsPut (parts_of table.rows table.toast ids log) owner old new plan = write.stands log in
      let found = id_column new.cells plan pointer.value_id drawn in
      let place = member_at plan found.0 found.2 in
      let low = within plan place.0 found.0 place.1 in
      let same = pointer_is new.cells (found.0 - 1) k found.1 pointer write.new.distinct (pointer_found new.cells (found.0 - 1) found.1 found.3) at found.4 in
      let saved = stands.saved.saved place.0 found.1 low (record { column = found.0; planned = place.1; cell = found.3 }) in
      let mine = subst (λ (p : Pointer). IsSaved table.toast ids (new_save owner saved.0) p) same saved.1 in
      let unheld = write.fresh.each pointer.value_id drawn in
      inl (record {
        saved = saved_for xacts snaps ids table owner saved.0 pointer mine unheld;
        in_range = mine.in_range;
        held = hand pointer.value_id (drawn_hand (parts_of table.rows table.toast ids log) owner (stages.Put old new plan) pointer.value_id tt stands drawn);
        unheld = unheld;
      })
  | inr kept ↦
      let place : suc k - 1 ≡ k = omega arith in
      inr (pointer_found (old_cells old) k pointer (ap (λ (n : ℕ). slice_index_or (old_cells old) n Null) (sym place) ∙ kept))
]
  where
    hand : (value_id : ℕ) → Contains ids.in_hand (record { table = owner.table; session = owner.session; id = value_id }) → Contains ids.in_hand (record { table = t; session = s; id = value_id })
    hand value_id e =
        subst (λ (n : ℕ). Contains ids.in_hand (record { table = t; session = n; id = value_id })) write.own.session
        (subst (λ (n : ℕ). Contains ids.in_hand (record { table = n; session = owner.session; id = value_id })) write.own.of_table e)

-- ---- the new row

-- what is known of the old row: its version, if there is one
abbrev pub KnowsOld : Xacts → Table → ℕ → Option OldRow → Type 0
KnowsOld xacts table x old = (row : OldRow) → old ≡ Some row → (version : Version) × OldVersion xacts table x row version

-- the pointers that the new row may keep
abbrev pub kept_of : Option OldRow → List Pointer
kept_of old = pointers_in (old_cells old)

old_range : (number : ℕ) (xacts : Xacts) (snaps : Snaps) (table : Table) (x : ℕ) (old : Option OldRow) (k : ℕ) (pointer : Pointer) → KnowsOld xacts table x old → IsTable number xacts snaps table → slice_get (old_cells old) k ≡ Some (Out pointer) → IsInRange pointer
old_range number xacts snaps table x None k pointer knows is at = absurd (cc)
old_range number xacts snaps table x (Some row) k pointer knows is at =
    let old = knows row refl in
    let there = subst (λ (cells : List Cell). slice_get cells k ≡ Some (Out pointer)) (sym old.1.cells) at in
    let form = (is.tuples row.tid old.0 old.1.there).stored.has.forms k Null (within (cells_of table old.0) k (Out pointer) there) in
    subst (λ (cell : Cell). HasForm cell) (read_found (cells_of table old.0) k (Out pointer) Null there) form

-- the row has a tuple
new_tuple : (xacts : Xacts) (snaps : Snaps) (ids : Pool) (held : SessionLocks) (table : Table) (s t : ℕ) (state : State) (owner : Owner) (old : Option OldRow) (new : Stored) (plan : List ℕ) (log : LogState)
    → WriteIsSound xacts snaps ids held table s t state (record { owner = owner; stage = stages.Put old new plan }) → KnowsOld xacts table owner.xid old → IsTable t xacts snaps table → HasTuple table.rows.schema.storages new
new_tuple xacts snaps ids held table s t state owner old new plan log write knows is =
    let stands : StandsPut (parts_of table.rows table.toast ids log) owner old new plan = write.stands log in
    let can = can_form table.rows new plan stands.fits in
    record {
      one_each = can.one_each;
      forms = λ k d low. has_form (slice_index_or new.cells k d) (can.limits k d low) (λ pointer e.
          elim (new_pointer xacts snaps ids held table s t state owner old new plan log k pointer write (read_there new.cells k d low ∙ ap Some e)) [
            | inl fresh ↦ fresh.in_range
            | inr kept ↦ old_range t xacts snaps table owner.xid old k pointer knows is kept
          ]);
      key = write.new.key new refl;
    }

pub record NewRow (xacts : Xacts) (snaps : Snaps) (in_hand : List InHand) (table : Table) (s t x : ℕ) (old : Option OldRow) (new : Stored) : Type 0 where
  -- its tuple gives its cells
  pub cells : cells_in table.rows.schema.storages (tuple table.rows.schema.storages new) ≡ new.cells
  -- it is one that the version step may put
  pub row : IsRowFor t xacts snaps table x new.key (tuple table.rows.schema.storages new) (kept_of old)
  -- each pointer has an id that no protected version has, or is the old row's in the same column
  pub column : (k : ℕ) (pointer : Pointer) → slice_get new.cells k ≡ Some (Out pointer) → IsUnheld xacts snaps table pointer.value_id ⊎ (slice_get (old_cells old) k ≡ Some (Out pointer))
  -- and its ids are in hand, or the old version's
  pub given : (value_id : ℕ) → has_id value_id new.cells ≡ true → Given xacts snaps in_hand table s t x value_id

pub new_row : (xacts : Xacts) (snaps : Snaps) (ids : Pool) (held : SessionLocks) (table : Table) (s t : ℕ) (state : State) (owner : Owner) (old : Option OldRow) (new : Stored) (plan : List ℕ) (log : LogState)
    → WriteIsSound xacts snaps ids held table s t state (record { owner = owner; stage = stages.Put old new plan }) → KnowsOld xacts table owner.xid old → IsTableMade table → IsTable t xacts snaps table
    → NewRow xacts snaps ids.in_hand table s t owner.xid old new
new_row xacts snaps ids held table s t state owner old new plan log write knows made is =
    let has = new_tuple xacts snaps ids held table s t state owner old new plan log write knows is in
    let cells = cells_of_tuple table.rows.schema.storages new made.columns.1 has in
    record {
      cells = cells;
      row = record {
        tuple = row_tuple (toast_rel_of t) table.rows.schema.storages new made.columns.1 has write.new.cells write.new.distinct;
        values = λ pointer e.
            let column = column_of new.cells pointer (subst (λ (row : List Cell). Contains (pointers_in row) pointer) cells e) in
            elim (new_pointer xacts snaps ids held table s t state owner old new plan log column.0 pointer write column.1) [
              | inl fresh ↦ inl fresh.saved
              | inr kept ↦ inr (pointer_there (old_cells old) column.0 pointer kept)
            ];
      };
      column = λ k pointer at. elim (new_pointer xacts snaps ids held table s t state owner old new plan log k pointer write at) [
        | inl fresh ↦ inl fresh.unheld
        | inr kept ↦ inr kept
      ];
      given = λ value_id has_it.
          let found = id_in value_id new.cells has_it in
          let column = column_of new.cells found.0 found.2 in
          elim (new_pointer xacts snaps ids held table s t state owner old new plan log column.0 found.0 write column.1) [
            | inl fresh ↦ subst (λ (n : ℕ). Given xacts snaps ids.in_hand table s t owner.xid n) found.1 (Drawn fresh.held fresh.unheld)
            | inr kept ↦ subst (λ (n : ℕ). Given xacts snaps ids.in_hand table s t owner.xid n) found.1 (of_old old column.0 found.0 knows kept)
          ];
    }
  where
    of_old : (o : Option OldRow) (k : ℕ) (pointer : Pointer) → KnowsOld xacts table owner.xid o → slice_get (old_cells o) k ≡ Some (Out pointer) → Given xacts snaps ids.in_hand table s t owner.xid pointer.value_id
    of_old None k pointer its e = absurd (cc)
    of_old (Some row) k pointer its e =
        let version = its row refl in
        Kept row.tid version.0 version.1.there version.1.opened
        (id_from pointer.value_id (cells_of table version.0) pointer refl (subst (λ (cells : List Cell). Contains (pointers_in cells) pointer) (sym version.1.cells) (pointer_there row.stored.cells k pointer e)))
