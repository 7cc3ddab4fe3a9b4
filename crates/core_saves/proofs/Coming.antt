-- The change that a write is still to make stays, the session's own with one more value out of line too.
use Rattle.std.proofs.Common.{Bool, Contains, List, None, Some, [], ap, ap₂, arith, cond, false, inl, inr, refl, subst, suc, sym, true, zero, ℕ, ◌++◌, ◌+◌, ◌-◌, ◌∙◌, ◌∷◌, ◌≡◌, ◌≢◌}
use Rattle.std.proofs.lemmas.Bool.Decides.{nat_tests}
use Rattle.std.proofs.lemmas.Option.{get_or_from_slice_get}
use Rattle.std.specs.List.{AllByRecursion, IsDistinct}
use Rattle.std.specs.Prelude.{Option, is_some, map, nat_eq, option_to_list, slice_get, slice_index_or, slice_set, ℤ, ◌==◌}
use Rattle.list_facts.proofs.Members.{cases_in, first_in, later_in, map_in, none_in_nil}
use Rattle.external_pointer.specs.declared.external.Pointer.{Pointer}
use Rattle.tuple_layout.specs.Places.{Row}
use Rattle.tuple_layout.specs.declared.cell.Cell.TheVariants.{Inline, Null, Out}
use Rattle.tuple_layout.specs.declared.cell.Cell.{Cell}
use Rattle.tuple_layout.specs.declared.cell.Stored.{Stored}
use Rattle.slot_page.specs.Pages.{slot_of}
use Rattle.slot_page.specs.Slots.{IsNormal}
use Rattle.value_ids.specs.Ids.{Pool}
use Rattle.toast_store.proofs.Laying.{index_step, laid_over, whole_laid}
use Rattle.toast_store.proofs.ValueIn.{value_whole}
use Rattle.toast_store.specs.PieceJobs.{PiecesStep, Piecing}
use Rattle.toast_store.specs.Saves.{Drawing, Laying, Saving, Stage, id_of}
use Rattle.toast_store.specs.Stores.{IsStore, Store}
use Rattle.toast_store.specs.Values.{Whole, value_in}
use Rattle.toast_store.specs.declared.piece_job.PieceStage.{PieceStage}
use Rattle.toast_store.specs.declared.save.SaveStep.{SaveStep}
use Rattle.write_steps.proofs.Plans.{push_with}
use Rattle.write_steps.specs.Standing.{CanGoOut, CanPush}
use Rattle.write_steps.specs.Writes.{bytes_of, cell_of, column_at, old_cells, save_after, save_told, saved_on, stage_after, to_save, with_cell}
use Rattle.write_steps.specs.declared.stage.OldRow.{OldRow}
use Rattle.write_steps.specs.declared.stage.Owner.{Owner}
use Rattle.write_steps.specs.declared.stage.WriteStage.{WriteStage}
use Rattle.command_set.specs.declared.state.Change.{Change}
use Rattle.table_state.proofs.Stays.{values_stay}
use Rattle.table_state.specs.Events.{IsUnheld}
use Rattle.table_state.specs.Rows.{cell_value, pointers_in}
use Rattle.table_state.specs.declared.table.Table.{Table}
use Rattle.core_state.specs.Coming.{cells_or_none, change_left, change_to, changed_row, new_left, old_left}
use Rattle.core_state.specs.Facts.{ids_in}
use Rattle.core_state.specs.Lines.{parts_at}
use Rattle.core_state.specs.Stands.{coming}
use Rattle.core_state.specs.State.{CoreState, table_at}
use Rattle.core_state.specs.declared.seat.Job.{Job}
use Rattle.core_state.specs.declared.seat.Seat.{Seat}
use Rattle.core_saves.proofs.Cells.{cell_pointer_in, pointer_from}
use Rattle.core_saves.proofs.Events.{index_within}
use Rattle.core_saves.proofs.Frame.{AreApartIn, IsApart, restored_at}
use Rattle.core_saves.proofs.NewRow.{old_apart}
use Rattle.core_saves.proofs.Others.{OtherWrite, other_write}
use Rattle.core_saves.proofs.Saved.{write_at}
use Rattle.core_saves.proofs.Steps.{StepKnown, step_known}
use Rattle.core_saves.proofs.Values.{ValuesOn}
use Rattle.core_saves.specs.Made.{IsWriteMade}
use Rattle.core_state.specs.declared.seat.Job.TheVariants as jobs
use Rattle.toast_store.specs.PieceJobs as piece_jobs
use Rattle.toast_store.specs.Saves as saves
use Rattle.toast_store.specs.declared.piece_job.PieceStage.TheVariants as pieces
use Rattle.toast_store.specs.declared.save.SaveStep.TheVariants as told
use Rattle.write_steps.specs.Standing as write_standing
use Rattle.write_steps.specs.declared.stage.WriteStage.TheVariants as stages

-- ---- rows with the same values

-- two rows of a key with the same values are the same change
change_same : (t : ℕ) (old new : Store) (before : Option OldRow) (a b : Stored) → b.key ≡ a.key → map (cell_value new) b.cells ≡ map (cell_value old) a.cells → change_to t new before (Some b) ≡ change_to t old before (Some a)
change_same t old new None a b key same = ap₂ (λ (k : ℤ) (row : Row). Some (changed_row t None k row)) key same
change_same t old new (Some row) a b key same = ap₂ (λ (k : ℤ) (values : Row). Some (changed_row t (Some row) k values)) key same

-- a cell with the same value in a column
set_same : (f : Cell → Option (List ℕ)) (cells : List Cell) (i : ℕ) (a b : Cell) → f a ≡ f b → map f (slice_set cells i a) ≡ map f (slice_set cells i b)
set_same f [] i a b same = refl
set_same f (cell ∷ cells) zero a b same = ap (λ (value : Option (List ℕ)). value ∷ map f cells) same
set_same f (cell ∷ cells) (suc i) a b same = ap (λ (row : Row). f cell ∷ row) (set_same f cells i a b same)

-- an inline value that is taken out of a row and put back
pub set_back : (cells : List Cell) (i : ℕ) → CanGoOut (slice_index_or cells i Null) → slice_set (slice_set cells i Null) i (Inline (bytes_of (slice_index_or cells i Null))) ≡ cells
set_back [] i can = refl
set_back (Null ∷ cells) zero can = absurd can
set_back (Inline value ∷ cells) zero can = refl
set_back (Out pointer ∷ cells) zero can = absurd can
set_back (cell ∷ cells) (suc i) can = ap (λ (rest : List Cell). cell ∷ rest) (set_back cells i can)

-- the pointers of a row with an inline value in a column are the row's
inline_pointers : (cells : List Cell) (i : ℕ) (bytes : List ℕ) (p : Pointer) → Contains (pointers_in (slice_set cells i (Inline bytes))) p → Contains (pointers_in cells) p
inline_pointers [] i bytes p e = e
inline_pointers (Null ∷ cells) zero bytes p e = e
inline_pointers (Inline value ∷ cells) zero bytes p e = e
inline_pointers (Out q ∷ cells) zero bytes p e = later_in q (pointers_in cells) p e
inline_pointers (Null ∷ cells) (suc i) bytes p e = inline_pointers cells i bytes p e
inline_pointers (Inline value ∷ cells) (suc i) bytes p e = inline_pointers cells i bytes p e
inline_pointers (Out q ∷ cells) (suc i) bytes p e = elim (cases_in q (pointers_in (slice_set cells i (Inline bytes))) p e) [
  | inl h ↦ first_in q (pointers_in cells) p h
  | inr h ↦ later_in q (pointers_in cells) p (inline_pointers cells i bytes p h)
]

-- ---- another session's write

-- no pointer of its new row is to the value that is added to
new_apart : (c : CoreState) (s t : ℕ) (added : Option ℕ) (other : ℕ) (owner : Owner) (stage : WriteStage) (new : Stored) → new_left stage ≡ Some new → ((id : ℕ) → added ≡ Some id → IsUnheld c.xacts c.snaps (table_at c.tables t) id) → IsApart added stage → OtherWrite c s t other owner stage
    → ((row : OldRow) → old_left stage ≡ Some row → IsNormal (slot_of (table_at c.tables t).rows.pages row.tid)) → (pointer : Pointer) → Contains (pointers_in new.cells) pointer → added ≢ Some pointer.value_id
new_apart c s t added other owner stage new is unheld apart its there pointer has =
    let place = pointer_from new.cells pointer has in
    let cell : cell_of (cells_or_none (new_left stage)) place.0 ≡ Out pointer = ap (λ (o : Option Stored). cell_of (cells_or_none o) place.0) is ∙ place.1 in
    elim (its.sound.new.kept place.0 pointer cell) [
      | inl drawn ↦ apart.drawn pointer.value_id drawn
      | inr kept ↦ by (old_left stage) refl place.0 kept
    ]
  where
    by : (o : Option OldRow) → old_left stage ≡ o → (column : ℕ) → cell_of (old_cells o) column ≡ Out pointer → added ≢ Some pointer.value_id
    by None e column h = absurd (nothing (column - 1) h)
      where
        nothing : (k : ℕ) → slice_index_or [] k Null ≡ Out pointer → ⊥
        nothing k g = cc
    by (Some row) e column h = λ same.
        old_apart c.xacts c.snaps (table_at c.tables t) (write_at owner stage) row pointer.value_id pointer (ap is_some its.runs) its.sound.rows e (there row e) (unheld pointer.value_id same) (cell_pointer_in row.stored.cells (column - 1) pointer h) refl

-- so its change stays
change_taken : (c : CoreState) (s t : ℕ) (toast : Store) (added : Option ℕ) (other : ℕ) (owner : Owner) (stage : WriteStage) → ((pointer : Pointer) → added ≢ Some pointer.value_id → value_in toast pointer ≡ value_in (table_at c.tables t).toast pointer)
    → ((id : ℕ) → added ≡ Some id → IsUnheld c.xacts c.snaps (table_at c.tables t) id) → IsApart added stage → OtherWrite c s t other owner stage → change_left t toast stage ≡ change_left t (table_at c.tables t).toast stage
change_taken c s t toast added other owner (stages.Saving old new plan at save) values unheld apart its =
    change_same t (table_at c.tables t).toast toast old whole whole refl
    (values_stay.cells (table_at c.tables t).toast toast whole.cells (λ pointer has.
    values pointer (new_apart c s t added other owner (stages.Saving old new plan at save) new refl unheld apart its (λ row e. (its.sound.stands c.log).there row e) pointer (inline_pointers new.cells (column_at plan at - 1) save.value pointer has))))
  where
    whole : Stored
    whole = with_cell new (column_at plan at) (Inline save.value)
change_taken c s t toast added other owner (stages.Put old new plan) values unheld apart its =
    change_same t (table_at c.tables t).toast toast old new new refl
    (values_stay.cells (table_at c.tables t).toast toast new.cells (λ pointer has. values pointer (new_apart c s t added other owner (stages.Put old new plan) new refl unheld apart its (λ row e. (its.sound.stands c.log).there row e) pointer has)))
change_taken c s t toast added other owner (stages.Remove old) values unheld apart its = refl
change_taken c s t toast added other owner (stages.Marking dropped at mark) values unheld apart its = refl
change_taken c s t toast added other owner stages.Over values unheld apart its = refl

pub coming_taken : (c : CoreState) (tables : List Table) (s t i : ℕ) (toast : Store) (added : Option ℕ) (seat : Seat) → suc i ≢ s → slice_get c.seats i ≡ Some seat → ValuesOn c tables t toast added → AreApartIn added t seat.job → coming tables seat.job ≡ coming c.tables seat.job
coming_taken c tables s t i toast added seat differ at on apart = by seat.job refl
  where
    by : (job : Job) → seat.job ≡ job → coming tables job ≡ coming c.tables job
    by jobs.Idle is = refl
    by (jobs.Submitted command) is = refl
    by (jobs.Reading n snapshot read) is = refl
    by (jobs.Writing n write) is =
        restored_at c.tables tables t toast n (λ (table : Table). option_to_list (change_left n table.toast write.stage) ≡ option_to_list (change_left n (table_at c.tables n).toast write.stage)) on.restored
        (λ same before. ap (λ (o : Option Change). option_to_list o)
        (subst (λ (k : ℕ). change_left k toast write.stage ≡ change_left k (table_at c.tables k).toast write.stage) (sym same)
        (change_taken c s t toast added (suc i) write.owner write.stage on.values on.unheld (apart.each write (is ∙ ap (λ (k : ℕ). jobs.Writing k write) same)) (other_write c s t i seat write differ at (is ∙ ap (λ (k : ℕ). jobs.Writing k write) same) on.sound)))) refl

-- ---- the session's own write

-- a save that is over has its value whole
whole_saved : (old new : Store) (ids : Pool) (save : Saving) (stage : Stage) (pointer : Pointer) → IsStore old → saves.StandsAt old ids save stage → new.rel ≡ saves.rel_after old.rel save stage → saves.IsIndexAfter stage old.index new.index → saves.IsUnderWay stage
    → saves.answer_at save (saves.stage_after old ids save stage) ≡ told.Done pointer → Whole new pointer save.value
whole_saved old new ids save Drawing pointer is stands rel index under e = absurd (cc)
whole_saved old new ids save (Laying value_id (pieces.Putting seq)) pointer is stands rel index under e = absurd (cc)
whole_saved old new ids save (Laying value_id (pieces.Indexing seq tid)) pointer is stands rel index under e = by (piece_jobs.is_laid (piece_jobs.stage_passed save.value seq)) refl e
  where
    job : Piecing
    job = saves.pieces_of save value_id (pieces.Indexing seq tid)

    its : Pointer
    its = piece_jobs.pointer_to job (saves.toast_rel_of save.table)

    stood : piece_jobs.PiecesStandAt new (saves.pieces_of save value_id (piece_jobs.stage_passed save.value seq)) (piece_jobs.stage_passed save.value seq)
    stood = PiecesStep.stands (index_step old new job seq tid refl is rel index (index_within old ids save value_id seq tid is stands) stands.pieces)

    by : (b : Bool) → piece_jobs.is_laid (piece_jobs.stage_passed save.value seq) ≡ b → cond b (told.Done its) told.More ≡ told.Done pointer → Whole new pointer save.value
    by true laid f =
        let same : its ≡ pointer = cc in
        let over : piece_jobs.PiecesStandAt new (saves.pieces_of save value_id pieces.Over) pieces.Over = subst (λ (at : PieceStage). piece_jobs.PiecesStandAt new (saves.pieces_of save value_id at) at) (laid_over (piece_jobs.stage_passed save.value seq) laid) stood in
        subst (λ (p : Pointer). Whole new p save.value) same (whole_laid new (saves.pieces_of save value_id pieces.Over) (saves.toast_rel_of save.table) over)
    by false laid f = absurd (cc)
whole_saved old new ids save (Laying value_id pieces.Over) pointer is stands rel index under e = absurd under

-- the id of a pointer of the row is none that is distinct from all of them
distinct_not : (id : ℕ) (ids : List ℕ) → IsDistinct nat_eq (id ∷ ids) → (its : ℕ) → Contains ids its → id ≢ its
unfolding IsDistinct
distinct_not id ids is its e = all_not ids is.0 its e
  where
    all_not : (rest : List ℕ) → AllByRecursion (λ (y : ℕ). nat_eq id y ≡ false) rest → (k : ℕ) → Contains rest k → id ≢ k
    all_not [] all k f = absurd (none_in_nil k f)
    all_not (first ∷ rest) all k f = elim (cases_in first rest k f) [
      | inl same ↦
          let apart : (id == first) ≡ false = all.0 in
          let differ : id ≢ first = grind (arith, nat_tests, apart) in
          subst (λ (n : ℕ). id ≢ n) same differ
      | inr later ↦ all_not rest all.1 k later
    ]

-- the values of the new row with the value that is being saved in its place
own_values : (c : CoreState) (s t : ℕ) (owner : Owner) (old : Option OldRow) (new : Stored) (plan : List ℕ) (at : ℕ) (save : Saving) (toast : Store) → StepKnown c s t owner (stages.Saving old new plan at save) toast
    → ((pointer : Pointer) → id_of save.stage ≢ Some pointer.value_id → value_in toast pointer ≡ value_in (table_at c.tables t).toast pointer)
    → map (cell_value toast) (slice_set new.cells (column_at plan at - 1) (Inline save.value)) ≡ map (cell_value (table_at c.tables t).toast) (slice_set new.cells (column_at plan at - 1) (Inline save.value))
own_values c s t owner old new plan at save toast known values =
    values_stay.cells (table_at c.tables t).toast toast (slice_set new.cells (column_at plan at - 1) (Inline save.value)) (λ pointer has.
    values pointer (λ same. by pointer (inline_pointers new.cells (column_at plan at - 1) save.value pointer has) same))
  where
    by : (pointer : Pointer) → Contains (pointers_in new.cells) pointer → id_of save.stage ≡ Some pointer.value_id → ⊥
    by pointer has same =
        distinct_not pointer.value_id (ids_in new.cells) (subst (λ (o : Option ℕ). IsDistinct nat_eq (option_to_list o ++ ids_in new.cells)) same known.write.new.distinct) pointer.value_id
        (map_in (λ (p : Pointer). p.value_id) (pointers_in new.cells) pointer has) refl

pub own_coming : (c : CoreState) (s t : ℕ) (owner : Owner) (old : Option OldRow) (new : Stored) (plan : List ℕ) (at : ℕ) (save : Saving) (toast : Store) → IsWriteMade c s t (write_at owner (stages.Saving old new plan at save)) toast
    → ((pointer : Pointer) → id_of save.stage ≢ Some pointer.value_id → value_in toast pointer ≡ value_in (table_at c.tables t).toast pointer)
    → change_left t toast (stage_after (parts_at c t) owner (stages.Saving old new plan at save)) ≡ change_left t (table_at c.tables t).toast (stages.Saving old new plan at save)
own_coming c s t owner old new plan at save toast made values = by (save_told (parts_at c t) save) refl
  where
    known : StepKnown c s t owner (stages.Saving old new plan at save) toast
    known = step_known c s t owner (stages.Saving old new plan at save) toast made

    was : Store
    was = (table_at c.tables t).toast

    whole : Stored
    whole = with_cell new (column_at plan at) (Inline save.value)

    same : map (cell_value toast) whole.cells ≡ map (cell_value was) whole.cells
    same = own_values c s t owner old new plan at save toast known values

    by_next : (pointer : Pointer) → Whole toast pointer save.value → (o : Option ℕ) → slice_get plan (at + 1) ≡ o
        → change_left t toast (to_save owner old (with_cell new (column_at plan at) (Out pointer)) plan (at + 1) o) ≡ change_left t was (stages.Saving old new plan at save)
    by_next pointer saved None e =
        change_same t was toast old whole (with_cell new (column_at plan at) (Out pointer)) refl
        (set_same (cell_value toast) new.cells (column_at plan at - 1) (Out pointer) (Inline save.value) (ap Some (value_whole toast pointer save.value saved)) ∙ same)
    by_next pointer saved (Some column) e =
        let stage = known.write.own.stage in
        let next = with_cell new (column_at plan at) (Out pointer) in
        let push : CanPush next plan (at + 1) = push_with new plan at (column_at plan at) (Out pointer) stage.here stage.there stage.later in
        let back = set_back next.cells (column - 1) (push.values (at + 1) column (omega arith) e) in
        let planned : column_at plan (at + 1) ≡ column = get_or_from_slice_get plan (at + 1) column 0 e in
        let cells : slice_set (slice_set next.cells (column - 1) Null) (column_at plan (at + 1) - 1) (Inline (bytes_of (cell_of next.cells column))) ≡ next.cells =
        ap (λ (k : ℕ). slice_set (slice_set next.cells (column - 1) Null) (k - 1) (Inline (bytes_of (cell_of next.cells column)))) planned ∙ back in
        change_same t was toast old whole (with_cell (with_cell next column Null) (column_at plan (at + 1)) (Inline (bytes_of (cell_of next.cells column)))) refl
        (ap (map (cell_value toast)) cells ∙ set_same (cell_value toast) new.cells (column_at plan at - 1) (Out pointer) (Inline save.value) (ap Some (value_whole toast pointer save.value saved)) ∙ same)

    by : (step : SaveStep) → save_told (parts_at c t) save ≡ step → change_left t toast (saved_on owner old new plan at (save_after (parts_at c t) save) step) ≡ change_left t was (stages.Saving old new plan at save)
    by told.More e = change_same t was toast old whole whole refl same
    by (told.Done pointer) e =
        let stands : write_standing.StandsSaving (parts_at c t) owner old new plan at save = known.write.stands c.log in
        by_next pointer (whole_saved was toast c.ids save save.stage pointer known.old stands.stands made.steps.toast.rel made.steps.toast.index known.write.own.stage.own.under_way e) (slice_get plan (at + 1)) refl
