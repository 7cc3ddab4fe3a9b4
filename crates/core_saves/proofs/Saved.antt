-- What is true of a write whose save has made a step.
use Rattle.std.proofs.Common.{Bool, Contains, List, None, Some, [], ap, arith, cond, drop, false, inl, inr, length, nat_lt, refl, subst, sym, take, true, ℕ, ◌++◌, ◌+◌, ◌-◌, ◌<◌, ◌∙◌, ◌∷◌, ◌≡◌, ◌≢◌, ◌≤◌, ◌⊎◌}
use Rattle.std.proofs.lemmas.Bool.{ltb-false, ltb-true}
use Rattle.std.proofs.lemmas.List.{drop_more, take_all}
use Rattle.std.proofs.lemmas.Option.{get_or_from_slice_get, slice_get-get_or, slice_get_within}
use Rattle.std.specs.Int.RustNames.{FitsSigned}
use Rattle.std.specs.Int.{w64}
use Rattle.std.specs.Prelude.{Option, map, option_to_list, slice_get, slice_index_or, ℤ}
use Rattle.list_facts.proofs.Members.{cases_in, first_in, from_map, later_in, none_in_nil}
use Rattle.external_pointer.specs.declared.external.Pointer.{Pointer}
use Rattle.tuple_layout.specs.Sizes.{least_out}
use Rattle.tuple_layout.specs.declared.cell.Cell.TheVariants.{Null, Out}
use Rattle.tuple_layout.specs.declared.cell.Cell.{Cell}
use Rattle.tuple_layout.specs.declared.cell.Stored.{Stored}
use Rattle.change_log.specs.Logs.{LogState}
use Rattle.xact_status.specs.Versions.{counts_for}
use Rattle.xact_status.specs.Xacts.{Xacts, is_running}
use Rattle.value_ids.specs.Ids.{Pool, first_free_id}
use Rattle.lock_table.specs.declared.held.SessionLocks.{SessionLocks}
use Rattle.snapshot_registry.specs.Snapshots.{Snaps}
use Rattle.row_versions.specs.Relations.{Relation}
use Rattle.table_rows.specs.Worlds.{tuple_in}
use Rattle.toast_store.proofs.Laying.{still_laying}
use Rattle.toast_store.specs.Saves.{Drawing, IsOfTable, IsUnderWay, Laying, Saving, Stage, id_of}
use Rattle.toast_store.specs.Stores.{Store, is_used}
use Rattle.toast_store.specs.declared.save.SaveStep.{SaveStep}
use Rattle.write_steps.proofs.Keeping.{saved_fresh}
use Rattle.write_steps.proofs.Plans.{cell_other, cell_same, push_with, saving_at}
use Rattle.write_steps.specs.Standing.{AreSaved, CanPush, IsColumn, IsOldThere, IsSaveOf, IsWriteStage, WriteStands}
use Rattle.write_steps.specs.Steps.{IsDrawnAt, IsWriteLeft}
use Rattle.write_steps.specs.Writes.{Writing, answer_at, bytes_of, cell_of, column_at, new_save, old_cells, parts_of, save_after, save_told, saved_on, stage_after, to_save, with_cell}
use Rattle.write_steps.specs.declared.stage.OldRow.{OldRow}
use Rattle.write_steps.specs.declared.stage.Owner.{Owner}
use Rattle.write_steps.specs.declared.stage.WriteStage.{WriteStage}
use Rattle.table_state.specs.Events.{IsUnheld, with_toast}
use Rattle.table_state.specs.Rows.{pointers_in}
use Rattle.table_state.specs.Tables.{IsTable, longest_value, toast_rel_of}
use Rattle.table_state.specs.declared.table.Table.{Table}
use Rattle.core_state.specs.Coming.{ids_of, is_elsewhere, keys_left, new_left, old_left, to_drop}
use Rattle.core_state.specs.Facts.{IsOwnMark, IsOwnWrite, KnowsRows, WriteIsSound, ids_in}
use Rattle.core_state.specs.declared.seat.State.{State}
use Rattle.core_saves.proofs.Cells.{cell_cases, cell_pointer_in, pointer_from}
use Rattle.core_saves.proofs.Columns.{drawn_held, from_take}
use Rattle.core_saves.proofs.Drawn.{drawn_unheld}
use Rattle.core_saves.proofs.Frame.{unheld_left}
use Rattle.core_saves.proofs.NewRow.{IsNext, IsRowNow, drawn_back, drawn_on, old_apart, row_drawn, row_saved, row_taken}
use Rattle.toast_store.specs.PieceJobs as piece_jobs
use Rattle.toast_store.specs.Saves as saves
use Rattle.toast_store.specs.declared.save.SaveStep.TheVariants as told
use Rattle.write_steps.specs.Standing as write_standing
use Rattle.write_steps.specs.declared.stage.WriteStage.TheVariants as stages

-- a write of an owner at a stage
abbrev pub write_at : Owner → WriteStage → Writing
write_at owner stage = record { owner = owner; stage = stage }

-- what a write relies on, whatever the log
pub stands_any : (rows : Relation) (toast : Store) (ids : Pool) (log later : LogState) (owner : Owner) (stage : WriteStage) → write_standing.StandsAt (parts_of rows toast ids log) owner stage → write_standing.StandsAt (parts_of rows toast ids later) owner stage
stands_any rows toast ids log later owner (stages.Saving old new plan at save) stands = record { there = stands.there; free = stands.free; fits = stands.fits; saved = stands.saved; session = stands.session; stands = stands.stands; fresh = stands.fresh }
stands_any rows toast ids log later owner (stages.Put old new plan) stands = record { there = stands.there; free = stands.free; fits = stands.fits; saved = stands.saved }
stands_any rows toast ids log later owner (stages.Remove old) stands = record { there = stands.there; free = stands.free }
stands_any rows toast ids log later owner (stages.Marking dropped at mark) stands = record { session = stands.session; can = stands.can; batch = stands.batch; marking = stands.marking }
stands_any rows toast ids log later owner stages.Over stands = absurd stands

-- a save that goes on has a step left, and one that is over has given the pointer of its id
going_on : (save : Saving) (stage : Stage) → saves.answer_at save stage ≡ told.More → IsUnderWay stage
going_on save Drawing e = tt
going_on save (Laying value_id at) e = by (piece_jobs.is_laid at) refl e
  where
    by : (b : Bool) → piece_jobs.is_laid at ≡ b → cond b (told.Done (piece_jobs.pointer_to (saves.pieces_of save value_id at) (saves.toast_rel_of save.table))) told.More ≡ told.More → piece_jobs.IsLaying at
    by true laid f = absurd (cc)
    by false laid f = still_laying at laid

pub told_id : (save : Saving) (stage : Stage) (pointer : Pointer) → saves.answer_at save stage ≡ told.Done pointer → id_of stage ≡ Some pointer.value_id
told_id save Drawing pointer e = absurd (cc)
told_id save (Laying value_id at) pointer e = by (piece_jobs.is_laid at) e
  where
    its : Pointer
    its = piece_jobs.pointer_to (saves.pieces_of save value_id at) (saves.toast_rel_of save.table)

    by : (b : Bool) → cond b (told.Done its) told.More ≡ told.Done pointer → Some value_id ≡ Some pointer.value_id
    by true f =
        let same : its ≡ pointer = cc in
        ap (λ (x : Pointer). Some x.value_id) same
    by false f = absurd (cc)

-- ---- the row once the step may have drawn an id

-- the ids of the columns that are saved
abbrev pub ids_saved : Stored → List ℕ → ℕ → List ℕ
ids_saved new plan at = ids_of (pointers_in (map (cell_of new.cells) (take at plan)))

-- no id that is drawn is one of a column that is saved
saved_not : (toast : Store) (ids : Pool) (owner : Owner) (new : Stored) (plan : List ℕ) (at id : ℕ) → first_free_id (is_used toast) ids owner.table ≡ Some id → AreSaved toast ids owner new plan at → (its : ℕ) → Contains (ids_saved new plan at) its → id ≢ its
saved_not toast ids owner new plan at id drawn saved its e = λ same.
    let found = drawn_held new.cells (take at plan) its e in
    let place = from_take plan at found.column found.among in
    let was = saved.saved place.0 found.pointer place.1 (record { column = found.column; planned = place.2; cell = found.cell }) in
    saved_fresh toast ids owner was.0 found.pointer was.1 (drawn ∙ ap (λ (k : ℕ). Some k) (same ∙ sym found.is))

-- nor of any pointer of the new row
pub drawn_apart : (xacts : Xacts) (snaps : Snaps) (ids : Pool) (table : Table) (owner : Owner) (old : Option OldRow) (new : Stored) (plan : List ℕ) (at : ℕ) (save : Saving) (id : ℕ) → is_running xacts owner.xid ≡ true
    → KnowsRows xacts table (write_at owner (stages.Saving old new plan at save)) → IsOldThere table.rows old → AreSaved table.toast ids owner new plan at
    → ((column : ℕ) (pointer : Pointer) → cell_of new.cells column ≡ Out pointer → Contains (ids_saved new plan at) pointer.value_id ⊎ (cell_of (old_cells old) column ≡ Out pointer))
    → IsUnheld xacts snaps table id → first_free_id (is_used table.toast) ids owner.table ≡ Some id → (its : ℕ) → Contains (ids_in new.cells) its → id ≢ its
drawn_apart xacts snaps ids table owner old new plan at save id running knows there saved kept unheld drawn its e =
    let from = from_map (λ (pointer : Pointer). pointer.value_id) (pointers_in new.cells) its e in
    let pointer = from.0 in
    let place = pointer_from new.cells pointer from.1 in
    let apart : id ≢ pointer.value_id = elim (kept place.0 pointer place.1) [
      | inl h ↦ saved_not table.toast ids owner new plan at id drawn saved pointer.value_id h
      | inr h ↦ by old refl place.0 pointer h
    ] in
    subst (λ (k : ℕ). id ≢ k) from.2 apart
  where
    by : (o : Option OldRow) → old ≡ o → (column : ℕ) (pointer : Pointer) → cell_of (old_cells o) column ≡ Out pointer → id ≢ pointer.value_id
    by None is column pointer h = absurd (nothing (column - 1) pointer h)
      where
        nothing : (k : ℕ) (p : Pointer) → slice_index_or [] k Null ≡ Out p → ⊥
        nothing k p g = cc
    by (Some row) is column pointer h =
        old_apart xacts snaps table (write_at owner (stages.Saving old new plan at save)) row id pointer running knows is (there row is) unheld (cell_pointer_in row.stored.cells (column - 1) pointer h)

-- the new row and its drawn ids at the save's next stage
pub record RowAt (xacts : Xacts) (snaps : Snaps) (table : Table) (t : ℕ) (old : Option OldRow) (new : Stored) (plan : List ℕ) (at : ℕ) (drawing : Option ℕ) : Type 0 where
  pub row : IsRowNow t table.rows.schema.storages new.cells (old_cells old) (drop at plan) drawing (option_to_list drawing ++ ids_saved new plan at)
  pub fresh : (id : ℕ) → Contains (option_to_list drawing ++ ids_saved new plan at) id → IsUnheld xacts snaps table id

pub row_after : (xacts : Xacts) (snaps : Snaps) (ids : Pool) (held : SessionLocks) (table : Table) (s t : ℕ) (state : State) (log : LogState) (owner : Owner) (old : Option OldRow) (new : Stored) (plan : List ℕ) (at : ℕ) (save : Saving) → IsTable t xacts snaps table
    → is_running xacts owner.xid ≡ true → IsDrawnAt (parts_of table.rows table.toast ids log) (stages.Saving old new plan at save) → WriteIsSound xacts snaps ids held table s t state (write_at owner (stages.Saving old new plan at save))
    → RowAt xacts snaps table t old new plan at (id_of (Saving.stage (save_after (parts_of table.rows table.toast ids log) save)))
row_after xacts snaps ids held table s t state log owner old new plan at save is running drawn sound = by save.stage drawn refl
  where
    stands : write_standing.StandsSaving (parts_of table.rows table.toast ids log) owner old new plan at save
    stands = sound.stands log

    now : (stage : Stage) → save.stage ≡ stage → RowAt xacts snaps table t old new plan at (id_of stage)
    now stage e = subst (λ (its : Stage). RowAt xacts snaps table t old new plan at (id_of its)) e (record {
      row = record { cells = sound.new.cells; pushed = sound.new.pushed; kept = sound.new.kept; distinct = sound.new.distinct };
      fresh = sound.fresh.each;
    })

    by : (stage : Stage) → saves.IsDrawn table.toast ids save stage (saves.stage_after table.toast ids save stage) → save.stage ≡ stage → RowAt xacts snaps table t old new plan at (id_of (saves.stage_after table.toast ids save stage))
    by Drawing given e =
        let id = saves.drawn_id table.toast ids save in
        let before = now Drawing e in
        let here : first_free_id (is_used table.toast) ids owner.table ≡ Some id = subst (λ (n : ℕ). first_free_id (is_used table.toast) ids n ≡ Some id) sound.own.stage.own.table given in
        let unheld = drawn_unheld t xacts snaps table ids owner.table id is here in
        record {
          row = row_drawn t table.rows.schema.storages new.cells (old_cells old) (drop at plan) (ids_saved new plan at) id (drawn_apart xacts snaps ids table owner old new plan at save id running sound.rows stands.there stands.saved before.row.kept unheld here) before.row;
          fresh = λ its f. elim (cases_in id (ids_saved new plan at) its f) [
            | inl same ↦ subst (λ (k : ℕ). IsUnheld xacts snaps table k) same unheld
            | inr rest ↦ before.fresh its rest
          ];
        }
    by (Laying value_id pieces_at) given e = now (Laying value_id pieces_at) e

-- ---- the row once the value is saved

-- the cells of the row with the pointer in its column
next_saved : (new : Stored) (plan : List ℕ) (at : ℕ) (pointer : Pointer) → slice_get plan at ≡ Some (column_at plan at) → IsColumn new (column_at plan at) → CanPush new plan (at + 1)
    → IsNext new.cells (Stored.cells (with_cell new (column_at plan at) (Out pointer))) plan at (column_at plan at) pointer
next_saved new plan at pointer here there push =
    let column = column_at plan at in
    let low = there.0 in
    let high = there.1 in
    record {
      planned = here;
      here = cell_same new column (Out pointer) there;
      earlier = λ k other before e. cell_other new column other (Out pointer) there.0 (push.there k other e).0 (λ same. omega (arith, before, push.once k at column (e ∙ ap (λ (n : ℕ). Some n) same) here));
      each = λ other p e. elim (cell_cases new.cells (column - 1) (Out pointer) other (omega (arith, low, high))) [
        | inl h ↦ inl (out_is p pointer (sym e ∙ h))
        | inr h ↦ inr (sym h ∙ e)
      ];
    }
  where
    out_is : (p q : Pointer) → Out p ≡ Out q → p ≡ q
    out_is p q h = cc

-- and without the value of the next column
next_taken : (cells : List Cell) (next : Stored) (plan : List ℕ) (at column later : ℕ) (pointer : Pointer) → IsNext cells next.cells plan at column pointer → CanPush next plan (at + 1) → slice_get plan (at + 1) ≡ Some later
    → IsNext cells (Stored.cells (with_cell next later Null)) plan at column pointer
next_taken cells next plan at column later pointer is push here =
    let there = push.there (at + 1) later here in
    let low = there.0 in
    let high = there.1 in
    record {
      planned = is.planned;
      here = cell_other next later column Null there.0 (push.there at column is.planned).0 (λ same. omega (arith, push.once at (at + 1) later (is.planned ∙ ap (λ (n : ℕ). Some n) same) here)) ∙ is.here;
      earlier = λ k other before e. cell_other next later other Null there.0 (push.there k other e).0 (λ same. omega (arith, before, push.once k (at + 1) later (e ∙ ap (λ (n : ℕ). Some n) same) here)) ∙ is.earlier k other before e;
      each = λ other p e. elim (cell_cases next.cells (later - 1) Null other (omega (arith, low, high))) [
        | inl h ↦ absurd (null_out p (sym h ∙ e))
        | inr h ↦ is.each other p (sym h ∙ e)
      ];
    }
  where
    null_out : (p : Pointer) → Null ≡ Out p → ⊥
    null_out p h = cc

-- ---- a write that goes on from its save

-- the parts of its soundness that are not those of its new row
own_on : (held : SessionLocks) (s t : ℕ) (state : State) (owner : Owner) (stage later : WriteStage) → keys_left later ≡ keys_left stage → IsWriteStage owner later → IsOwnMark owner.xid later → IsOwnWrite held s t state (write_at owner stage) → IsOwnWrite held s t state (write_at owner later)
own_on held s t state owner stage later keys is mark old = record {
  session = old.session;
  of_table = old.of_table;
  xid = old.xid;
  stage = is;
  mark = mark;
  claimed = λ key e. old.claimed key (subst (λ (ks : List ℤ). Contains ks key) keys e);
}

rows_on : (xacts : Xacts) (table : Table) (toast : Store) (owner : Owner) (old : Option OldRow) (new later : Stored) (plan : List ℕ) (at : ℕ) (save : Saving) (stage : WriteStage) → old_left stage ≡ old → new_left stage ≡ Some later → later.key ≡ new.key
    → KnowsRows xacts table (write_at owner (stages.Saving old new plan at save)) → KnowsRows xacts (with_toast table toast) (write_at owner stage)
rows_on xacts table toast owner old new later plan at save stage olds news key knows = record {
  old = λ row version e f. knows.old row version (sym olds ∙ e) f;
  alone = λ row e f.
      let is : later ≡ row = some_is later row (sym news ∙ e) in
      let keys : new.key ≡ row.key = sym key ∙ ap (λ (x : Stored). x.key) is in
      subst (λ (k : ℤ). tuple_in (counts_for xacts (Some owner.xid)) table.rows.pages k ≡ None) keys (knows.alone new refl (subst (λ (k : ℤ). is_elsewhere old k ≡ true) (sym keys) (subst (λ (o : Option OldRow). is_elsewhere o row.key ≡ true) olds f)));
}
  where
    some_is : (a b : Stored) → Some a ≡ Some b → a ≡ b
    some_is a b h = cc

-- its key is a number of 64 bits still
key_on : (new later : Stored) (stage : WriteStage) → new_left stage ≡ Some later → later.key ≡ new.key → FitsSigned w64 new.key → (row : Stored) → new_left stage ≡ Some row → FitsSigned w64 row.key
key_on new later stage news key fits row e =
    let is : later ≡ row = some_is later row (sym news ∙ e) in
    subst (λ (k : ℤ). FitsSigned w64 k) (sym key ∙ ap (λ (x : Stored). x.key) is) fits
  where
    some_is : (a b : Stored) → Some a ≡ Some b → a ≡ b
    some_is a b h = cc

none_drops : (stage : WriteStage) (pointer : Pointer) {P : Type 0} → to_drop stage ≡ [] → Contains (to_drop stage) pointer → P
none_drops stage pointer none e = absurd (none_in_nil pointer (subst (λ (ps : List Pointer). Contains ps pointer) none e))

-- with more of its value to come
write_goes : (xacts : Xacts) (snaps : Snaps) (ids later : Pool) (held : SessionLocks) (table : Table) (s t : ℕ) (state : State) (log : LogState) (owner : Owner) (old : Option OldRow) (new : Stored) (plan : List ℕ) (at : ℕ) (save next : Saving) (toast : Store)
    → IsSaveOf owner next → RowAt xacts snaps table t old new plan at (id_of next.stage) → WriteIsSound xacts snaps ids held table s t state (write_at owner (stages.Saving old new plan at save))
    → WriteStands (parts_of table.rows toast later log) (write_at owner (stages.Saving old new plan at next)) → WriteIsSound xacts snaps later held (with_toast table toast) s t state (write_at owner (stages.Saving old new plan at next))
write_goes xacts snaps ids later held table s t state log owner old new plan at save next toast its row sound stands = record {
  own = own_on held s t state owner (stages.Saving old new plan at save) (stages.Saving old new plan at next) refl (record { here = sound.own.stage.here; there = sound.own.stage.there; later = sound.own.stage.later; own = its }) tt sound.own;
  stands = λ other. stands_any table.rows toast later log other owner (stages.Saving old new plan at next) stands;
  rows = rows_on xacts table toast owner old new new plan at save (stages.Saving old new plan at next) refl refl refl sound.rows;
  new = record { key = key_on new new (stages.Saving old new plan at next) refl refl (sound.new.key new refl); cells = row.row.cells; pushed = row.row.pushed; kept = row.row.kept; distinct = row.row.distinct };
  fresh = record { each = λ id e. unheld_left xacts snaps table toast id (row.fresh id e) };
  dropping = λ pointer e. none_drops (stages.Saving old new plan at next) pointer refl e;
}

-- its pointer is one that the column may have
pointer_fits : (toast : Store) (ids : Pool) (owner : Owner) (t : ℕ) (new : Stored) (plan : List ℕ) (at to column : ℕ) (pointer : Pointer) → owner.table ≡ t → at < to → slice_get plan at ≡ Some column → cell_of new.cells column ≡ Out pointer → AreSaved toast ids owner new plan to
    → (pointer.toast_rel ≡ toast_rel_of t) × (least_out ≤ pointer.size) × (pointer.size ≤ longest_value)
pointer_fits toast ids owner t new plan at to column pointer mine low planned cell saved =
    let was = saved.saved at pointer low (record { column = column; planned = planned; cell = cell }) in
    let its : IsOfTable t pointer = subst (λ (n : ℕ). IsOfTable n pointer) mine was.1.of_table in
    (its.toast_rel, its.least, its.most)

drop_here : (plan : List ℕ) (at column : ℕ) → slice_get plan at ≡ Some column → drop at plan ≡ column ∷ drop (at + 1) plan
drop_here plan at column here = drop_more plan at column (slice_get_within plan at column here) ∙ ap (λ (n : ℕ). n ∷ drop (at + 1) plan) (get_or_from_slice_get plan at column column here)

none_within : (plan : List ℕ) (at : ℕ) → slice_get plan at ≡ None → length plan ≤ at
none_within plan at none = by (nat_lt at (length plan)) refl
  where
    by : (b : Bool) → nat_lt at (length plan) ≡ b → length plan ≤ at
    by false less = ltb-false at (length plan) less
    by true less = absurd (clash (sym (slice_get-get_or plan at 0 (ltb-true at (length plan) less)) ∙ none))
      where
        clash : {n : ℕ} → Some n ≡ None → ⊥
        clash e = cc

-- with its value saved
write_passes : (xacts : Xacts) (snaps : Snaps) (ids later : Pool) (held : SessionLocks) (table : Table) (s t : ℕ) (state : State) (log : LogState) (owner : Owner) (old : Option OldRow) (new : Stored) (plan : List ℕ) (at : ℕ) (save : Saving) (pointer : Pointer) (toast : Store)
    → RowAt xacts snaps table t old new plan at (Some pointer.value_id) → WriteIsSound xacts snaps ids held table s t state (write_at owner (stages.Saving old new plan at save))
    → (next : Option ℕ) → slice_get plan (at + 1) ≡ next → WriteStands (parts_of table.rows toast later log) (write_at owner (to_save owner old (with_cell new (column_at plan at) (Out pointer)) plan (at + 1) next))
    → WriteIsSound xacts snaps later held (with_toast table toast) s t state (write_at owner (to_save owner old (with_cell new (column_at plan at) (Out pointer)) plan (at + 1) next))
write_passes xacts snaps ids later held table s t state log owner old new plan at save pointer toast row sound None last stands =
    let stage = sound.own.stage in
    let column = column_at plan at in
    let row_next = with_cell new column (Out pointer) in
    let is = next_saved new plan at pointer stage.here stage.there stage.later in
    let all : take (at + 1) plan ≡ plan = take_all (at + 1) plan (none_within plan (at + 1) last) in
    let ids_are : ids_saved row_next plan (at + 1) ≡ ids_of (pointers_in (map (cell_of row_next.cells) plan)) = ap (λ (columns : List ℕ). ids_of (pointers_in (map (cell_of row_next.cells) columns))) all in
    let fits = pointer_fits toast later owner t row_next plan at (length plan) column pointer sound.own.of_table (slice_get_within plan at column stage.here) stage.here is.here stands.saved in
    let now = row_saved t table.rows.schema.storages new.cells (old_cells old) (drop at plan) [] (ids_saved new plan at) (ids_saved row_next plan (at + 1)) column pointer stage.there.0 stage.there.1
    (subst (λ (columns : List ℕ). Contains columns column) (sym (drop_here plan at column stage.here)) (first_in column (drop (at + 1) plan) column refl)) (λ other e. absurd (none_in_nil other e)) (λ id e. drawn_on new.cells row_next.cells plan at column pointer id is e) fits row.row in
    let whole = subst (λ (drawn : List ℕ). IsRowNow t table.rows.schema.storages row_next.cells (old_cells old) [] None drawn) ids_are now in
    record {
      own = own_on held s t state owner (stages.Saving old new plan at save) (stages.Put old row_next plan) refl tt tt sound.own;
      stands = λ other. stands_any table.rows toast later log other owner (stages.Put old row_next plan) stands;
      rows = rows_on xacts table toast owner old new row_next plan at save (stages.Put old row_next plan) refl refl refl sound.rows;
      new = record { key = key_on new row_next (stages.Put old row_next plan) refl refl (sound.new.key new refl); cells = whole.cells; pushed = whole.pushed; kept = whole.kept; distinct = whole.distinct };
      fresh = record { each = λ id e. unheld_left xacts snaps table toast id (row.fresh id (drawn_back new.cells row_next.cells plan at column pointer id is (subst (λ (drawn : List ℕ). Contains drawn id) (sym ids_are) e))) };
      dropping = λ its e. none_drops (stages.Put old row_next plan) its refl e;
    }
write_passes xacts snaps ids later held table s t state log owner old new plan at save pointer toast row sound (Some column_next) here stands =
    let stage = sound.own.stage in
    let column = column_at plan at in
    let row_next = with_cell new column (Out pointer) in
    let row_taken_out = with_cell row_next column_next Null in
    let save_next = new_save owner (bytes_of (cell_of row_next.cells column_next)) in
    let push : CanPush row_next plan (at + 1) = push_with new plan at column (Out pointer) stage.here stage.there stage.later in
    let there = push.there (at + 1) column_next here in
    let is = next_saved new plan at pointer stage.here stage.there stage.later in
    let is_taken = next_taken new.cells row_next plan at column column_next pointer is push here in
    let fits = pointer_fits toast later owner t row_taken_out plan at (at + 1) column pointer sound.own.of_table (omega arith) stage.here is_taken.here stands.saved in
    let now = row_saved t table.rows.schema.storages new.cells (old_cells old) (drop at plan) (drop (at + 1) plan) (ids_saved new plan at) (ids_saved row_taken_out plan (at + 1)) column pointer stage.there.0 stage.there.1
    (subst (λ (columns : List ℕ). Contains columns column) (sym (drop_here plan at column stage.here)) (first_in column (drop (at + 1) plan) column refl))
    (λ other e. subst (λ (columns : List ℕ). Contains columns other) (sym (drop_here plan at column stage.here)) (later_in column (drop (at + 1) plan) other e)) (λ id e. drawn_on new.cells row_taken_out.cells plan at column pointer id is_taken e) fits row.row in
    let whole = row_taken t table.rows.schema.storages row_next.cells (old_cells old) (drop (at + 1) plan) (ids_saved row_taken_out plan (at + 1)) column_next there.0 there.1 now in
    record {
      own = own_on held s t state owner (stages.Saving old new plan at save) (stages.Saving old row_taken_out plan (at + 1) save_next) refl (saving_at owner row_next plan (at + 1) column_next (bytes_of (cell_of row_next.cells column_next)) here push) tt sound.own;
      stands = λ other. stands_any table.rows toast later log other owner (stages.Saving old row_taken_out plan (at + 1) save_next) stands;
      rows = rows_on xacts table toast owner old new row_taken_out plan at save (stages.Saving old row_taken_out plan (at + 1) save_next) refl refl refl sound.rows;
      new = record { key = key_on new row_taken_out (stages.Saving old row_taken_out plan (at + 1) save_next) refl refl (sound.new.key new refl); cells = whole.cells; pushed = whole.pushed; kept = whole.kept; distinct = whole.distinct };
      fresh = record { each = λ id e. unheld_left xacts snaps table toast id (row.fresh id (drawn_back new.cells row_taken_out.cells plan at column pointer id is_taken e)) };
      dropping = λ its e. none_drops (stages.Saving old row_taken_out plan (at + 1) save_next) its refl e;
    }

-- whichever it is
pub write_saved : (xacts : Xacts) (snaps : Snaps) (ids later : Pool) (held : SessionLocks) (table : Table) (s t : ℕ) (state : State) (log more : LogState) (owner : Owner) (old : Option OldRow) (new : Stored) (plan : List ℕ) (at : ℕ) (save : Saving) (toast : Store) → IsTable t xacts snaps table
    → is_running xacts owner.xid ≡ true → IsDrawnAt (parts_of table.rows table.toast ids log) (stages.Saving old new plan at save) → WriteIsSound xacts snaps ids held table s t state (write_at owner (stages.Saving old new plan at save))
    → IsWriteLeft (parts_of table.rows toast later more) (write_at owner (stage_after (parts_of table.rows table.toast ids log) owner (stages.Saving old new plan at save))) (answer_at (stage_after (parts_of table.rows table.toast ids log) owner (stages.Saving old new plan at save)))
    → WriteIsSound xacts snaps later held (with_toast table toast) s t state (write_at owner (stage_after (parts_of table.rows table.toast ids log) owner (stages.Saving old new plan at save)))
write_saved xacts snaps ids later held table s t state log more owner old new plan at save toast is running drawn sound left =
    by (save_told (parts_of table.rows table.toast ids log) save) refl left
  where
    next : Saving
    next = save_after (parts_of table.rows table.toast ids log) save

    row : RowAt xacts snaps table t old new plan at (id_of next.stage)
    row = row_after xacts snaps ids held table s t state log owner old new plan at save is running drawn sound

    on : (o : Option ℕ) → slice_get plan (at + 1) ≡ o → (pointer : Pointer) → RowAt xacts snaps table t old new plan at (Some pointer.value_id)
        → IsWriteLeft (parts_of table.rows toast later more) (write_at owner (to_save owner old (with_cell new (column_at plan at) (Out pointer)) plan (at + 1) o)) (answer_at (to_save owner old (with_cell new (column_at plan at) (Out pointer)) plan (at + 1) o))
        → WriteIsSound xacts snaps later held (with_toast table toast) s t state (write_at owner (to_save owner old (with_cell new (column_at plan at) (Out pointer)) plan (at + 1) o))
    on None e pointer now its = write_passes xacts snaps ids later held table s t state more owner old new plan at save pointer toast now sound None e its
    on (Some column) e pointer now its = write_passes xacts snaps ids later held table s t state more owner old new plan at save pointer toast now sound (Some column) e its

    by : (step : SaveStep) → save_told (parts_of table.rows table.toast ids log) save ≡ step → IsWriteLeft (parts_of table.rows toast later more) (write_at owner (saved_on owner old new plan at next step)) (answer_at (saved_on owner old new plan at next step))
        → WriteIsSound xacts snaps later held (with_toast table toast) s t state (write_at owner (saved_on owner old new plan at next step))
    by told.More e its =
        let own = sound.own.stage.own in
        write_goes xacts snaps ids later held table s t state more owner old new plan at save next toast (record { table = own.table; session = own.session; xid = own.xid; under_way = going_on save next.stage e }) row sound its
    by (told.Done pointer) e its =
        on (slice_get plan (at + 1)) refl pointer (subst (λ (o : Option ℕ). RowAt xacts snaps table t old new plan at o) (told_id save next.stage pointer e) row) its
