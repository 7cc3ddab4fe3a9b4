-- What each step of a write does.
use Rattle.std.proofs.Common.{◌≡◌, ◌≢◌, ℕ, ◌+◌, ◌-◌, ◌<◌, ◌≤◌, Bool, true, false, cond, nat_lt, Some, None, Option, List, [], ◌∷◌, length, refl, sym, ap, ◌∙◌, subst, arith}
use Rattle.std.specs.Prelude.{slice_get, slice_set, drop, ◌==◌, ◌||◌}
use Rattle.std.proofs.lemmas.List.{length-set, drop_all, drop_more}
use Rattle.std.proofs.lemmas.List.Elements.{All-set}
use Rattle.std.proofs.lemmas.Bool.Decides.{nat_tests}
use Rattle.std.proofs.lemmas.Bool.{false≢true, ltb-false, ltb-true}
use Rattle.std.proofs.lemmas.Option.{get_or_from_slice_get, slice_get_within, slice_get-get_or}
use Rattle.external_pointer.specs.declared.external.Pointer.{Pointer}
use Rattle.tuple_layout.specs.Sizes.{Width, largest_tuple, size}
use Rattle.tuple_layout.specs.Tuples.{IsWithinLimits, cell_widths}
use Rattle.tuple_layout.specs.declared.cell.Cell.TheVariants.{Null, Out}
use Rattle.tuple_layout.specs.declared.cell.Stored.{Stored}
use Rattle.tuple_toaster.specs.Pushed.{is_among, moved}
use Rattle.row_versions.specs.Relations.{Relation, with_ended}
use Rattle.std.specs.List.Sorted.{IsStrictlySortedBy}
use Rattle.chunk_index.specs.declared.entry.Entry.{Entry}
use Rattle.chunk_index.specs.Entries.{entry_cmp}
use Rattle.chunk_index.specs.Pinned.{pin_of}
use Rattle.chunk_index.specs.Indexes.{Index}
use Rattle.value_ids.specs.Ids.{first_free_id}
use Rattle.change_log.specs.declared.entry.LogEntry.TheVariants as entries
use Rattle.toast_store.specs.Stores.{Store, IsStore, is_used}
use Rattle.toast_store.specs.Walks.{Walking, IsUnderWay, index_walked, is_over, stage_after}
use Rattle.toast_store.specs.PieceJobs as pieces
use Rattle.toast_store.specs.PieceJobs.{is_laid}
use Rattle.toast_store.specs.Saves as saves
use Rattle.toast_store.specs.Saves.{IsSaved, SaveSteps, Saving, Stage, Drawing, Laying, id_of}
use Rattle.toast_store.specs.Marks.{IsMarked, MarkSteps, Marking, new_mark}
use Rattle.toast_store.specs.declared.piece_job.PieceStage.TheVariants.{Putting, Indexing, Over}
use Rattle.toast_store.specs.declared.save.SaveStep.{SaveStep}
use Rattle.toast_store.specs.declared.save.SaveStep.TheVariants as told
use Rattle.toast_store.specs.declared.mark.MarkStep.TheVariants as marks
use Rattle.toast_store.specs.declared.walk.WalkStage.{WalkStage}
use Rattle.toast_store.specs.declared.walk.WalkStage.TheVariants as walks
use Rattle.toast_store.specs.Values.{piece_count}
use Rattle.toast_store.proofs.Others.{save_step_holds, save_step_leaves}
use Rattle.toast_store.proofs.Walked.{begun}
use Rattle.toast_store.proofs.Held.{held_new}
use Rattle.toast_store.proofs.Marking.{marking_new}
use Rattle.toast_store.proofs.Begun.{bounds_after, over_free}
use Rattle.write_steps.specs.Dropped.{dropped_of}
use Rattle.write_steps.specs.Writes.{Parts, Writing, answer_at, column_at, ended_by, mark_after, marking_from, new_save, old_cells, put_by, row_entry, save_after, save_told, saved_on, saving_from, to_mark, to_save, with_cell, with_logged}
use Rattle.write_steps.specs.Standing.{AreSaved, CanForm, CanPush, Fits, Holds, HoldsNoPin, IsColumn, IsMarkingAt, IsOldThere, IsSavingAt, StandsMarking, StandsPut, StandsRemove, StandsSaving, WriteStands}
use Rattle.write_steps.specs.Steps.{IsWriteLeft, WriteSteps}
use Rattle.write_steps.specs.declared.stage.OldRow.{OldRow}
use Rattle.write_steps.specs.declared.stage.Owner.{Owner}
use Rattle.write_steps.specs.declared.stage.WriteStage.{WriteStage}
use Rattle.write_steps.specs.declared.stage.WriteStage.TheVariants as stages
use Rattle.write_steps.specs.declared.stage.WriteStep.{WriteStep}
use Rattle.write_steps.specs.declared.stage.WriteStep.TheVariants.{More}
use Rattle.write_steps.proofs.Plans.{push_with}
use Rattle.write_steps.proofs.Widths.{moved-in, moved-none, moved-out}
use Rattle.write_steps.proofs.Keeping.{IsPlan, saved_fresh, saved_kept, saved_more, saved_of, saved_with}

-- ---- sizes

-- from a place of a plan on, its column comes first
drop_at : (plan : List ℕ) (at column : ℕ) → slice_get plan at ≡ Some column → drop at plan ≡ column ∷ drop (at + 1) plan
drop_at plan at column here = drop_more plan at column (slice_get_within plan at column here) ∙ ap (λ n. n ∷ drop (at + 1) plan) (get_or_from_slice_get plan at column column here)

-- the value of the next column may be taken out of the row
pub fits_taken : (rows : Relation) (new : Stored) (plan : List ℕ) (at column : ℕ) → slice_get plan at ≡ Some column → IsColumn new column → Fits rows new plan at → Fits rows (with_cell new column Null) plan at
fits_taken rows new plan at column here there fits = record {
  one_each = length-set new.cells (column - 1) Null ∙ fits.one_each;
  limits = All-set IsWithinLimits new.cells (column - 1) Null tt fits.limits;
  size = subst (λ (ws : List Width). size rows.schema.storages ws ≤ largest_tuple) (sym (moved-in 1 (drop at plan) new.cells (column - 1) Null among)) fits.size;
}
  where
    same : (column == (1 + (column - 1))) ≡ true
    same = let place : column ≡ 1 + (column - 1) = omega (arith, there.0) in grind (arith, nat_tests)

    among : is_among (drop at plan) (1 + (column - 1)) ≡ true
    among = ap (λ (columns : List ℕ). is_among columns (1 + (column - 1))) (drop_at plan at column here) ∙ ap (λ (b : Bool). b || is_among (drop (at + 1) plan) (1 + (column - 1))) same

-- and the pointer put there once it is saved
pub fits_saved : (rows : Relation) (new : Stored) (plan : List ℕ) (at column : ℕ) (p : Pointer) → slice_get plan at ≡ Some column → IsColumn new column → p.size ≤ 1073741819 → Fits rows new plan at → Fits rows (with_cell new column (Out p)) plan (at + 1)
fits_saved rows new plan at column p here there small fits = record {
  one_each = length-set new.cells (column - 1) (Out p) ∙ fits.one_each;
  limits = All-set IsWithinLimits new.cells (column - 1) (Out p) small fits.limits;
  size = subst (λ (ws : List Width). size rows.schema.storages ws ≤ largest_tuple) widths fits.size;
}
  where
    place : column ≡ 1 + (column - 1)
    place = omega (arith, there.0)

    widths : moved (drop at plan) (cell_widths new.cells) ≡ moved (drop (at + 1) plan) (cell_widths (slice_set new.cells (column - 1) (Out p)))
    widths =
        ap (λ (columns : List ℕ). moved columns (cell_widths new.cells)) (drop_at plan at column here ∙ ap (λ n. n ∷ drop (at + 1) plan) place)
        ∙ moved-out 1 (drop (at + 1) plan) new.cells (column - 1) p (omega (arith, there.0, there.1))

-- with no column left, the row has a tuple that fits
pub can_form : (rows : Relation) (new : Stored) (plan : List ℕ) → Fits rows new plan (length plan) → CanForm rows new
can_form rows new plan fits = record {
  one_each = fits.one_each;
  limits = fits.limits;
  size = subst (λ (ws : List Width). size rows.schema.storages ws ≤ largest_tuple) (ap (λ (columns : List ℕ). moved columns (cell_widths new.cells)) (drop_all (length plan) plan (omega arith)) ∙ moved-none 1 (cell_widths new.cells)) fits.size;
}

-- ---- what a write is next to do

none_within : (plan : List ℕ) (at : ℕ) → slice_get plan at ≡ None → length plan ≤ at
none_within plan at none = by_test (nat_lt at (length plan)) refl
  where
    by_test : (b : Bool) → nat_lt at (length plan) ≡ b → length plan ≤ at
    by_test false less = ltb-false at (length plan) less
    by_test true less = absurd (clash (sym (slice_get-get_or plan at 0 (ltb-true at (length plan) less)) ∙ none))
      where
        clash : {n : ℕ} → Some n ≡ None → ⊥
        clash e = cc

plan_of : (new : Stored) (plan : List ℕ) (from : ℕ) → CanPush new plan from → IsPlan plan
plan_of new plan from push = record { least = λ at column e. (push.there at column e).0; once = push.once }

none_some : (n : ℕ) → None ≡ Some n → ⊥
none_some n h = cc

-- one that is next to save a column, or to make its version step, stands
pub saving_left : (parts : Parts) (owner : Owner) (old : Option OldRow) (row : Stored) (plan : List ℕ) (at : ℕ) → IsOldThere parts.rows old → HoldsNoPin parts.toast owner → Fits parts.rows row plan at → AreSaved parts.toast parts.ids owner row plan at → CanPush row plan at
    → WriteStands parts (record { owner = owner; stage = saving_from owner old row plan at })
saving_left parts owner old row plan at there free fits saved push = by_next (slice_get plan at) refl
  where
    by_next : (next : Option ℕ) → slice_get plan at ≡ next → WriteStands parts (record { owner = owner; stage = to_save owner old row plan at next })
    by_next None e =
        let few = none_within plan at e in
        record {
          there = there;
          free = free;
          fits = record { one_each = fits.one_each; limits = fits.limits; size = subst (λ (columns : List ℕ). size parts.rows.schema.storages (moved columns (cell_widths row.cells)) ≤ largest_tuple) (drop_all at plan few ∙ sym (drop_all (length plan) plan (omega arith))) fits.size };
          saved = record {
            out = λ place column before h. saved.out place column (omega (arith, before, few)) h;
            saved = λ place p before h. saved.saved place p (omega (arith, before, few)) h;
            apart = λ place other p q before also. saved.apart place other p q (omega (arith, before, few)) (omega (arith, also, few));
          };
        }
    by_next (Some column) e =
        let here = push.there at column e in
        record {
          there = there;
          free = free;
          fits = fits_taken parts.rows row plan at column e here fits;
          saved = saved_with parts.toast parts.ids owner row plan at column Null (plan_of row plan at push) e here saved;
          session = refl;
          stands = tt;
          fresh = λ other p before held h. none_some p.value_id h;
        }

answer_saving : (owner : Owner) (old : Option OldRow) (row : Stored) (plan : List ℕ) (at : ℕ) → More ≡ answer_at (saving_from owner old row plan at)
answer_saving owner old row plan at = by_next (slice_get plan at)
  where
    by_next : (next : Option ℕ) → More ≡ answer_at (to_save owner old row plan at next)
    by_next None = refl
    by_next (Some column) = refl

-- one that is next to mark a pointer stands, and one with none left is over
pub marking_left : (parts : Parts) (owner : Owner) (dropped : List Pointer) (at : ℕ) → HoldsNoPin parts.toast owner → IsWriteLeft parts (record { owner = owner; stage = marking_from owner dropped at }) (answer_at (marking_from owner dropped at))
marking_left parts owner dropped at free = by_next (slice_get dropped at)
  where
    by_next : (next : Option Pointer) → IsWriteLeft parts (record { owner = owner; stage = to_mark owner dropped at next }) (answer_at (to_mark owner dropped at next))
    by_next None = refl
    by_next (Some p) = record {
      session = refl;
      can = begun parts.toast.index (Marking.walk (new_mark p owner.xid owner.session)) p.value_id 0 (piece_count p.size) owner.session refl free;
      batch = held_new p.value_id 0 (piece_count p.size) owner.session parts.toast.index.entries;
      marking = marking_new p.value_id (piece_count p.size) owner.xid owner.session parts.toast;
    }

-- ---- a step of a save

-- what a write's parts are to its save
abbrev pub save_parts : Parts → saves.Parts
save_parts parts = saves.parts_of parts.toast parts.ids parts.log

pins_saved : (s : Stage) (old new : Index) → saves.IsIndexAfter s old new → Index.pins new ≡ Index.pins old
pins_saved Drawing old new e = ap (λ (i : Index). i.pins) e
pins_saved (Laying value_id (Putting seq)) old new e = ap (λ (i : Index). i.pins) e
pins_saved (Laying value_id (Indexing seq tid)) old new e = e.pins
pins_saved (Laying value_id Over) old new e = ap (λ (i : Index). i.pins) e

-- what a step answers, and where the save stands then
told_is : (old new : Parts) (before after : Saving) (step : SaveStep) → SaveSteps (save_parts old) before (save_parts new) after step → step ≡ save_told old before
told_is old new before after step steps = steps.answer ∙ ap (λ (s : Saving). saves.answer_at before s.stage) steps.save

-- the id under which a save goes on is none of those that are saved
fresh_after : (old new : Parts) (owner : Owner) (row : Stored) (plan : List ℕ) (at : ℕ) (before after : Saving) (step : SaveStep) → before.table ≡ owner.table → AreSaved old.toast old.ids owner row plan at
    → ((other : ℕ) (p : Pointer) → other < at → Holds row plan other p → id_of before.stage ≢ Some p.value_id) → SaveSteps (save_parts old) before (save_parts new) after step
    → (other : ℕ) (p : Pointer) → other < at → Holds row plan other p → id_of after.stage ≢ Some p.value_id
fresh_after old new owner row plan at before after step mine saved fresh steps other p earlier held =
    by_stage before.stage steps.drawn (ap (λ (s : Saving). s.stage) steps.save) (fresh other p earlier held)
  where
    by_stage : (s : Stage) → saves.IsDrawn old.toast old.ids before s after.stage → Saving.stage after ≡ saves.stage_after old.toast old.ids before s → id_of s ≢ Some p.value_id → id_of after.stage ≢ Some p.value_id
    by_stage Drawing drawn is none same =
        let was = saved.saved other p earlier held in
        saved_fresh old.toast old.ids owner was.0 p was.1 (subst (λ n. first_free_id (is_used old.toast) old.ids n ≡ Some p.value_id) mine (drawn ∙ same))
    by_stage (Laying value_id pieces_at) drawn is none same = none (sym (ap id_of is) ∙ same)

-- what stands of a write through a step of its save
pub record StandsOn (new : Parts) (owner : Owner) (old : Option OldRow) (row : Stored) (plan : List ℕ) (at : ℕ) (after : Saving) : Type 0 where
  pub there : IsOldThere new.rows old
  pub free : HoldsNoPin new.toast owner
  pub fits : Fits new.rows row plan at
  pub saved : AreSaved new.toast new.ids owner row plan at
  pub fresh : (other : ℕ) (p : Pointer) → other < at → Holds row plan other p → id_of after.stage ≢ Some p.value_id

stands_on : (old new : Parts) (owner : Owner) (old_row : Option OldRow) (row : Stored) (plan : List ℕ) (at : ℕ) (before after : Saving) (step : SaveStep) → new.rows ≡ old.rows → IsStore old.toast → IsSavingAt owner row plan at before
    → StandsSaving old owner old_row row plan at before → SaveSteps (save_parts old) before (save_parts new) after step → StandsOn new owner old_row row plan at after
stands_on old new owner old_row row plan at before after step rows is own stands steps = record {
  there = subst (λ (r : Relation). IsOldThere r old_row) (sym rows) stands.there;
  free = ap (λ pins. pin_of pins owner.session) (pins_saved before.stage old.toast.index new.toast.index steps.index) ∙ stands.free;
  fits = subst (λ (r : Relation). Fits r row plan at) (sym rows) stands.fits;
  saved = saved_kept old.toast new.toast old.ids new.ids owner row plan at (id_of before.stage) before.session (save_step_leaves (save_parts old) before (save_parts new) after step is stands.stands steps) (λ held mine. save_step_holds (save_parts old) before (save_parts new) after step steps held) stands.fresh stands.saved;
  fresh = fresh_after old new owner row plan at before after step own.own.table stands.saved stands.fresh steps;
}

-- a write whose save goes on
pub save_goes : (old new : Parts) (owner : Owner) (old_row : Option OldRow) (row : Stored) (plan : List ℕ) (at : ℕ) (before after : Saving) (write : Writing) → record { owner = owner; stage = stages.Saving old_row row plan at before } ≡ write
    → new.rows ≡ old.rows → IsStore old.toast → IsSavingAt owner row plan at before → WriteStands old write → SaveSteps (save_parts old) before (save_parts new) after told.More
    → WriteSteps old write new (record { owner = owner; stage = stages.Saving old_row row plan at after }) More
save_goes old new owner old_row row plan at before after write is rows sound own stands steps =
    subst (λ (w : Writing). WriteSteps old w new (record { owner = owner; stage = stages.Saving old_row row plan at after }) More) is
    (by_stands (subst (λ (w : Writing). WriteStands old w) (sym is) stands))
  where
    by_stands : StandsSaving old owner old_row row plan at before → WriteSteps old (record { owner = owner; stage = stages.Saving old_row row plan at before }) new (record { owner = owner; stage = stages.Saving old_row row plan at after }) More
    by_stands st =
        let on = stands_on old new owner old_row row plan at before after told.More rows sound own st steps in
        record {
          answer = refl;
          write =
              ap (λ (s : Saving). record { owner = owner; stage = stages.Saving old_row row plan at s }) steps.save
              ∙ ap (λ (t : SaveStep). record { owner = owner; stage = saved_on owner old_row row plan at (save_after old before) t }) (told_is old new before after told.More steps);
          rows = rows;
          toast = record { rel = steps.rel; index = steps.index };
          ids = steps.ids;
          drawn = subst (λ (s : Saving). saves.IsDrawn old.toast old.ids before before.stage s.stage) steps.save steps.drawn;
          log = steps.log;
          left = record { there = on.there; free = on.free; fits = on.fits; saved = on.saved; session = ap (λ (s : Saving). s.session) steps.save ∙ own.own.session; stands = steps.stands; fresh = on.fresh };
          marked = tt;
        }

-- the pointer of a save that is over has its id
told_id : (save : Saving) (s : Stage) (p : Pointer) → told.Done p ≡ saves.answer_at save s → id_of s ≡ Some p.value_id
told_id save Drawing p e = cc
told_id save (Laying value_id at) p e = by_test (is_laid at) e
  where
    pointer : Pointer
    pointer = pieces.pointer_to (saves.pieces_of save value_id at) (saves.toast_rel_of save.table)

    by_test : (b : Bool) → told.Done p ≡ cond b (told.Done pointer) told.More → Some value_id ≡ Some p.value_id
    by_test true h = let same : p ≡ pointer = cc in ap (λ (x : Pointer). Some x.value_id) (sym same)
    by_test false h = cc

-- a write whose save is over
pub save_ends : (old new : Parts) (owner : Owner) (old_row : Option OldRow) (row : Stored) (plan : List ℕ) (at : ℕ) (before after : Saving) (p : Pointer) (write : Writing) (stage : WriteStage) → record { owner = owner; stage = stages.Saving old_row row plan at before } ≡ write
    → stage ≡ saving_from owner old_row (with_cell row (column_at plan at) (Out p)) plan (at + 1)
    → new.rows ≡ old.rows → IsStore old.toast → IsSavingAt owner row plan at before → WriteStands old write → SaveSteps (save_parts old) before (save_parts new) after (told.Done p)
    → WriteSteps old write new (record { owner = owner; stage = stage }) More
save_ends old new owner old_row row plan at before after p write stage is stage_is rows sound own stands steps =
    subst (λ (w : Writing). WriteSteps old w new (record { owner = owner; stage = stage }) More) is
    (subst (λ (s : WriteStage). WriteSteps old (record { owner = owner; stage = stages.Saving old_row row plan at before }) new (record { owner = owner; stage = s }) More) (sym stage_is)
    (by_stands (subst (λ (w : Writing). WriteStands old w) (sym is) stands)))
  where
    saved_row : Stored
    saved_row = with_cell row (column_at plan at) (Out p)

    same_owner : (n m : ℕ) (f : Saving → ℕ) → f (record before { stage = saves.stage_after old.toast old.ids before before.stage }) ≡ n → f after ≡ n
    same_owner n m f e = ap f steps.save ∙ e

    whole : IsSaved new.toast new.ids (new_save owner after.value) p
    whole = saved_of new.toast new.ids owner after p (same_owner owner.table 0 (λ (s : Saving). s.table) own.own.table) (same_owner owner.session 0 (λ (s : Saving). s.session) own.own.session) (same_owner owner.xid 0 (λ (s : Saving). s.xid) own.own.xid) steps.left

    by_stands : StandsSaving old owner old_row row plan at before → WriteSteps old (record { owner = owner; stage = stages.Saving old_row row plan at before }) new (record { owner = owner; stage = saving_from owner old_row (with_cell row (column_at plan at) (Out p)) plan (at + 1) }) More
    by_stands st =
        let on = stands_on old new owner old_row row plan at before after (told.Done p) rows sound own st steps in
        let id = told_id before after.stage p steps.answer in
        let push : CanPush (with_cell row (column_at plan at) (Out p)) plan (at + 1) = push_with row plan at (column_at plan at) (Out p) own.here own.there own.later in
        let small : p.size ≤ 1073741819 = whole.in_range.size in
        let left = saving_left new owner old_row (with_cell row (column_at plan at) (Out p)) plan (at + 1) on.there on.free
        (fits_saved new.rows row plan at (column_at plan at) p own.here own.there small on.fits)
        (saved_more new.toast new.ids owner row plan at (column_at plan at) after.value p (plan_of row plan (at + 1) own.later) own.here own.there whole (λ place q earlier held e. on.fresh place q earlier held (id ∙ ap (λ n. Some n) e)) on.saved)
        push in
        record {
          answer = answer_saving owner old_row (with_cell row (column_at plan at) (Out p)) plan (at + 1);
          write = ap (λ (t : SaveStep). record { owner = owner; stage = saved_on owner old_row row plan at (save_after old before) t }) (told_is old new before after (told.Done p) steps);
          rows = rows;
          toast = record { rel = steps.rel; index = steps.index };
          ids = steps.ids;
          drawn = subst (λ (s : Saving). saves.IsDrawn old.toast old.ids before before.stage s.stage) steps.save steps.drawn;
          log = steps.log;
          left = left;
          marked = tt;
        }

-- ---- the version step, and a step of a mark

-- a write whose version step is made, with a new version
pub put_ends : (old new : Parts) (owner : Owner) (old_row : Option OldRow) (row : Stored) (plan : List ℕ) (dropped : List Pointer) (write : Writing) (stage : WriteStage) (step : WriteStep) → record { owner = owner; stage = stages.Put old_row row plan } ≡ write
    → WriteStands old write → stage ≡ marking_from owner dropped 0 → step ≡ answer_at stage → dropped ≡ dropped_of (old_cells old_row) row.cells
    → new.rows ≡ ended_by owner.xid (put_by owner.xid old.rows row) old_row → new.toast ≡ old.toast → new.ids ≡ old.ids → new.log ≡ with_logged old.log (row_entry owner old_row row)
    → WriteSteps old write new (record { owner = owner; stage = stage }) step
put_ends old new owner old_row row plan dropped write stage step is stands stage_is step_is dropped_is rows toast ids log =
    subst (λ (w : Writing). WriteSteps old w new (record { owner = owner; stage = stage }) step) is (record {
      answer = step_is;
      write = ap (λ (s : WriteStage). record { owner = owner; stage = s }) (stage_is ∙ ap (λ (ps : List Pointer). marking_from owner ps 0) dropped_is);
      rows = rows;
      toast = toast;
      ids = ids;
      drawn = tt;
      log = log;
      left = to_left (subst (λ (w : Writing). WriteStands old w) (sym is) stands);
      marked = tt;
    })
  where
    to_left : StandsPut old owner old_row row plan → IsWriteLeft new (record { owner = owner; stage = stage }) step
    to_left st =
        subst (λ (t : WriteStep). IsWriteLeft new (record { owner = owner; stage = stage }) t) (sym step_is)
        (subst (λ (s : WriteStage). IsWriteLeft new (record { owner = owner; stage = s }) (answer_at s)) (sym stage_is)
        (marking_left new owner dropped 0 (subst (λ (s : Store). HoldsNoPin s owner) (sym toast) st.free)))

-- a write whose version step is made, without a new version
pub remove_ends : (old new : Parts) (owner : Owner) (old_row : OldRow) (dropped : List Pointer) (write : Writing) (stage : WriteStage) (step : WriteStep) → record { owner = owner; stage = stages.Remove old_row } ≡ write
    → WriteStands old write → stage ≡ marking_from owner dropped 0 → step ≡ answer_at stage → dropped ≡ dropped_of (old_cells (Some old_row)) []
    → new.rows ≡ with_ended owner.xid old.rows old_row.tid → new.toast ≡ old.toast → new.ids ≡ old.ids → new.log ≡ with_logged old.log (entries.Delete owner.xid owner.table (Stored.key (OldRow.stored old_row)))
    → WriteSteps old write new (record { owner = owner; stage = stage }) step
remove_ends old new owner old_row dropped write stage step is stands stage_is step_is dropped_is rows toast ids log =
    subst (λ (w : Writing). WriteSteps old w new (record { owner = owner; stage = stage }) step) is (record {
      answer = step_is;
      write = ap (λ (s : WriteStage). record { owner = owner; stage = s }) (stage_is ∙ ap (λ (ps : List Pointer). marking_from owner ps 0) dropped_is);
      rows = rows;
      toast = toast;
      ids = ids;
      drawn = tt;
      log = log;
      left = to_left (subst (λ (w : Writing). WriteStands old w) (sym is) stands);
      marked = tt;
    })
  where
    to_left : StandsRemove old owner old_row → IsWriteLeft new (record { owner = owner; stage = stage }) step
    to_left st =
        subst (λ (t : WriteStep). IsWriteLeft new (record { owner = owner; stage = stage }) t) (sym step_is)
        (subst (λ (s : WriteStage). IsWriteLeft new (record { owner = owner; stage = s }) (answer_at s)) (sym stage_is)
        (marking_left new owner dropped 0 (subst (λ (s : Store). HoldsNoPin s owner) (sym toast) st.free)))

not_over : (s : WalkStage) → IsUnderWay s → is_over s ≡ false
not_over walks.Empty h = refl
not_over (walks.Asking after) h = refl
not_over (walks.Reading batch at) h = refl
not_over walks.Over h = absurd h

-- a write whose mark goes on
pub mark_goes : (old new : Parts) (owner : Owner) (dropped : List Pointer) (at : ℕ) (before after : Marking) (write : Writing) → record { owner = owner; stage = stages.Marking dropped at before } ≡ write
    → WriteStands old write → new.rows ≡ old.rows → new.ids ≡ old.ids → new.log ≡ old.log → MarkSteps old.toast before new.toast after marks.More
    → WriteSteps old write new (record { owner = owner; stage = stages.Marking dropped at after }) More
mark_goes old new owner dropped at before after write is stands rows ids log steps =
    subst (λ (w : Writing). WriteSteps old w new (record { owner = owner; stage = stages.Marking dropped at after }) More) is
    (by_stands (subst (λ (w : Writing). WriteStands old w) (sym is) stands))
  where
    going : is_over (Walking.stage (Marking.walk (mark_after old before))) ≡ false
    going = subst (λ (m : Marking). is_over (Walking.stage (Marking.walk m)) ≡ false) steps.mark (not_over (Walking.stage after.walk) steps.ready.0)

    by_stands : StandsMarking old.toast owner before → WriteSteps old (record { owner = owner; stage = stages.Marking dropped at before }) new (record { owner = owner; stage = stages.Marking dropped at after }) More
    by_stands st = record {
      answer = refl;
      write =
          ap (λ (m : Marking). record { owner = owner; stage = stages.Marking dropped at m }) steps.mark
          ∙ ap (λ (b : Bool). record { owner = owner; stage = cond b (marking_from owner dropped (at + 1)) (stages.Marking dropped at (mark_after old before)) }) (sym going);
      rows = rows;
      toast = steps.store;
      ids = ids;
      drawn = tt;
      log = log;
      left = record { session = ap (λ (m : Marking). Walking.session (Marking.walk m)) steps.mark ∙ st.session; can = steps.ready; batch = steps.batch st.batch; marking = steps.marked st.marking };
      marked = λ over. absurd (false≢true (sym going ∙ over));
    }

-- a write whose mark is over
pub mark_ends : (old new : Parts) (owner : Owner) (dropped : List Pointer) (at : ℕ) (before after : Marking) (write : Writing) (stage : WriteStage) (step : WriteStep) → record { owner = owner; stage = stages.Marking dropped at before } ≡ write
    → WriteStands old write → IsMarkingAt owner dropped at before → IsStore new.toast → stage ≡ marking_from owner dropped (at + 1) → step ≡ answer_at stage → new.rows ≡ old.rows → new.ids ≡ old.ids → new.log ≡ old.log → MarkSteps old.toast before new.toast after marks.Done
    → WriteSteps old write new (record { owner = owner; stage = stage }) step
mark_ends old new owner dropped at before after write stage step is stands own sound stage_is step_is rows ids log steps =
    subst (λ (w : Writing). WriteSteps old w new (record { owner = owner; stage = stage }) step) is
    (by_stands (subst (λ (w : Writing). WriteStands old w) (sym is) stands))
  where
    over : is_over (Walking.stage (Marking.walk (mark_after old before))) ≡ true
    over = subst (λ (m : Marking). is_over (Walking.stage (Marking.walk m)) ≡ true) steps.mark (ap is_over steps.ready)

    by_stands : StandsMarking old.toast owner before → WriteSteps old (record { owner = owner; stage = stages.Marking dropped at before }) new (record { owner = owner; stage = stage }) step
    by_stands st =
        let index_is : new.toast.index ≡ index_walked old.toast.index before.walk = ap (λ (s : Store). s.index) steps.store in
        let sorted : IsStrictlySortedBy entry_cmp (Index.bounds old.toast.index) = subst (λ (bounds : List Entry). IsStrictlySortedBy entry_cmp bounds) (ap (λ (i : Index). i.bounds) index_is ∙ bounds_after old.toast.index before.walk (Walking.stage before.walk)) sound.index.bounds_sorted in
        let ended : stage_after old.toast.index before.walk (Walking.stage before.walk) ≡ walks.Over = sym (ap (λ (m : Marking). Walking.stage (Marking.walk m)) steps.mark) ∙ steps.ready in
        let free : pin_of new.toast.index.pins owner.session ≡ None = subst (λ n. pin_of new.toast.index.pins n ≡ None) st.session (subst (λ (i : Index). pin_of i.pins (Walking.session before.walk) ≡ None) (sym index_is) (over_free old.toast.index before.walk sorted own.walk st.can ended)) in
        record {
          answer = step_is;
          write = ap (λ (s : WriteStage). record { owner = owner; stage = s }) (stage_is ∙ ap (λ (b : Bool). cond b (marking_from owner dropped (at + 1)) (stages.Marking dropped at (mark_after old before))) (sym over));
          rows = rows;
          toast = steps.store;
          ids = ids;
          drawn = tt;
          log = log;
          left =
              subst (λ (t : WriteStep). IsWriteLeft new (record { owner = owner; stage = stage }) t) (sym step_is)
              (subst (λ (s : WriteStage). IsWriteLeft new (record { owner = owner; stage = s }) (answer_at s)) (sym stage_is) (marking_left new owner dropped (at + 1) free));
          marked = λ _. subst (λ (m : Marking). IsMarked new.toast m) steps.mark (steps.marked st.marking);
        }
