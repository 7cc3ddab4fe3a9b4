-- What is left of a write falls with a step of its save.
use Rattle.std.proofs.Common.{Bool, Contains, List, None, Some, [], ap, arith, cond, drop, false, inl, inr, length, max, nat_lt, not, refl, subst, suc, sym, true, zero, ℕ, ◌&&◌, ◌*◌, ◌+◌, ◌-◌, ◌<◌, ◌∙◌, ◌∷◌, ◌≡◌, ◌≢◌, ◌≤◌}
use Rattle.std.proofs.lemmas.Bool.Decides.{nat_tests}
use Rattle.std.proofs.lemmas.Bool.{ltb-true}
use Rattle.std.proofs.lemmas.List.Sums.{sum_by-cons, sum_by-drop_more}
use Rattle.std.proofs.lemmas.Option.{get_or_from_slice_get, slice_get_within}
use Rattle.std.specs.List.{cons_option}
use Rattle.std.specs.Prelude.{Option, if◌then◌else◌, is_some, option_to_list, slice_get, slice_set, sum_by, ◌==◌}
use Rattle.list_facts.proofs.Members.{cases_in, first_in, later_in, none_in_nil}
use Rattle.external_pointer.specs.declared.external.Pointer.{Pointer}
use Rattle.tuple_layout.specs.declared.cell.Cell.TheVariants.{Inline, Null, Out}
use Rattle.tuple_layout.specs.declared.cell.Cell.{Cell}
use Rattle.tuple_layout.specs.declared.cell.Stored.{Stored}
use Rattle.chunk_index.proofs.Inserts.{others_stay}
use Rattle.chunk_index.specs.Entries.{is_wanted, with_entry}
use Rattle.chunk_index.specs.Indexes.{Index}
use Rattle.chunk_index.specs.declared.entry.Entry.{Entry}
use Rattle.value_ids.specs.Ids.{Pool}
use Rattle.toast_store.specs.Marks.{Marking, new_mark}
use Rattle.toast_store.specs.Saves.{Drawing, Laying, Saving, Stage, id_of}
use Rattle.toast_store.specs.Stores.{IsStore, Store}
use Rattle.toast_store.specs.Values.{piece_count}
use Rattle.toast_store.specs.Walks.{Walking, steps_at, steps_left, wanted_by}
use Rattle.toast_store.specs.declared.save.SaveStep.{SaveStep}
use Rattle.write_steps.proofs.Plans.{cell_other, push_with}
use Rattle.write_steps.specs.Dropped.{dropped_at, dropped_of, keeps, same_pointer}
use Rattle.write_steps.specs.Standing.{CanPush}
use Rattle.write_steps.specs.Writes.{Writing, bytes_of, cell_of, column_at, old_cells, save_after, save_told, saved_on, stage_after, to_save, with_cell, write_after}
use Rattle.write_steps.specs.declared.stage.OldRow.{OldRow}
use Rattle.write_steps.specs.declared.stage.Owner.{Owner}
use Rattle.write_steps.specs.declared.stage.WriteStage.{WriteStage}
use Rattle.table_state.specs.Rows.{pointers_in}
use Rattle.core_state.proofs.Lists.{in_append_left}
use Rattle.core_state.specs.Coming.{marks_left, save_steps, saves_left, write_left_at}
use Rattle.core_state.specs.Events.{left}
use Rattle.core_state.specs.Lines.{after_write_step, parts_at}
use Rattle.core_state.specs.State.{CoreState, table_at}
use Rattle.core_saves.proofs.Columns.{from_list}
use Rattle.core_saves.proofs.Coming.{set_back}
use Rattle.core_saves.proofs.Events.{index_within, put_within}
use Rattle.core_saves.proofs.Falls.{left_after, left_before}
use Rattle.core_saves.proofs.NewRow.{old_apart}
use Rattle.core_saves.proofs.Saved.{write_at}
use Rattle.core_saves.proofs.Steps.{StepKnown, saving_taken, step_known}
use Rattle.core_saves.specs.Made.{IsSaving, IsWriteMade}
use Rattle.toast_store.specs.PieceJobs as piece_jobs
use Rattle.toast_store.specs.Saves as saves
use Rattle.toast_store.specs.declared.piece_job.PieceStage.TheVariants as pieces
use Rattle.toast_store.specs.declared.save.SaveStep.TheVariants as told
use Rattle.toast_store.specs.declared.walk.WalkStage.TheVariants as walks
use Rattle.write_steps.specs.Standing as write_standing
use Rattle.write_steps.specs.declared.stage.WriteStage.TheVariants as stages

-- ---- the steps of a save

-- a save has steps left before each step, and fewer after one that leaves some
save_falls : (old new : Store) (ids : Pool) (save : Saving) (stage : Stage) → IsStore old → IsStore new → saves.IsUnderWay stage → saves.StandsAt old ids save stage → new.rel ≡ saves.rel_after old.rel save stage → saves.IsIndexAfter stage old.index new.index
    → saves.steps_at (piece_count (length save.value)) (saves.stage_after old ids save stage) < saves.steps_at (piece_count (length save.value)) stage
save_falls old new ids save Drawing is made under stands rel index = omega arith
save_falls old new ids save (Laying value_id (pieces.Putting seq)) is made under stands rel index =
    let within = put_within old new ids save value_id seq is made stands rel index in
    omega (arith, within)
save_falls old new ids save (Laying value_id (pieces.Indexing seq tid)) is made under stands rel index = by (nat_lt (seq + 1) (piece_count (length save.value))) refl
  where
    within : seq < piece_count (length save.value)
    within = index_within old ids save value_id seq tid is stands

    by : (b : Bool) → nat_lt (seq + 1) (piece_count (length save.value)) ≡ b → piece_jobs.steps_at (piece_count (length save.value)) (cond b (pieces.Putting (seq + 1)) pieces.Over) < 2 * (piece_count (length save.value) - seq) - 1
    by true less =
        let more : seq + 1 < piece_count (length save.value) = ltb-true (seq + 1) (piece_count (length save.value)) less in
        omega (arith, more)
    by false less = omega (arith, within)
save_falls old new ids save (Laying value_id pieces.Over) is made under stands rel index = absurd under

-- ---- sums

sum_same : {X : Type 0} (f g : X → ℕ) (xs : List X) → ((x : X) → Contains xs x → f x ≡ g x) → sum_by f xs ≡ sum_by g xs
sum_same f g [] same = refl
sum_same f g (x ∷ xs) same =
    let here = same x (first_in x xs x refl) in
    let rest = sum_same f g xs (λ y e. same y (later_in x xs y e)) in
    let all = sum_by-cons f x xs in
    let its = sum_by-cons g x xs in
    omega (arith, here, rest, all, its)

-- ---- the marks that are to come

-- the steps of a new mark are as many with an entry of another value
mark_same : (entries : List Entry) (e : Entry) (pointer : Pointer) (owner : Owner) → e.value_id ≢ pointer.value_id
    → steps_left (with_entry entries e) (Marking.walk (new_mark pointer owner.xid owner.session)) ≡ steps_left entries (Marking.walk (new_mark pointer owner.xid owner.session))
mark_same entries e pointer owner differ = by (nat_lt 0 (piece_count pointer.size))
  where
    unwanted : (a b c d : Bool) → a ≡ false → (a && b && c && d) ≡ false
    unwanted true b c d h = absurd (cc)
    unwanted false b c d h = refl

    walk : Walking
    walk = Marking.walk (new_mark pointer owner.xid owner.session)

    same : wanted_by walk None (with_entry entries e) ≡ wanted_by walk None entries
    same = others_stay (is_wanted pointer.value_id 0 (piece_count pointer.size - 1) None) entries e (unwanted (e.value_id == pointer.value_id) _ _ _ (grind (arith, nat_tests, differ)))

    by : (b : Bool) → steps_at walk (with_entry entries e) (cond b (walks.Asking None) walks.Empty) ≡ steps_at walk entries (cond b (walks.Asking None) walks.Empty)
    by true = ap (λ (wanted : List Entry). max 1 (2 * length wanted)) same
    by false = refl

marks_same : (entries : List Entry) (e : Entry) (owner : Owner) (dropped : List Pointer) → ((pointer : Pointer) → Contains dropped pointer → e.value_id ≢ pointer.value_id) → marks_left (with_entry entries e) owner dropped 0 ≡ marks_left entries owner dropped 0
marks_same entries e owner dropped differ =
    sum_same (λ (pointer : Pointer). steps_left (with_entry entries e) (Marking.walk (new_mark pointer owner.xid owner.session))) (λ (pointer : Pointer). steps_left entries (Marking.walk (new_mark pointer owner.xid owner.session))) dropped
    (λ pointer has. mark_same entries e pointer owner (differ pointer has))

-- what is dropped stands in the old row
dropped_old : (cells news : List Cell) (pointer : Pointer) → Contains (dropped_of cells news) pointer → Contains (pointers_in cells) pointer
dropped_old [] news pointer e = absurd (none_in_nil pointer e)
dropped_old (cell ∷ cells) [] pointer e = by_cell cell Null (dropped_of cells []) (λ h. dropped_old cells [] pointer h) e
  where
    by_test : (q : Pointer) (b : Bool) (rest : List Pointer) → (Contains rest pointer → Contains (pointers_in cells) pointer) → Contains (cons_option (if b then Some q else None) rest) pointer → Contains (pointers_in (Out q ∷ cells)) pointer
    by_test q true rest on f = elim (cases_in q rest pointer f) [ inl h ↦ first_in q (pointers_in cells) pointer h | inr h ↦ later_in q (pointers_in cells) pointer (on h) ]
    by_test q false rest on f = later_in q (pointers_in cells) pointer (on f)

    by_cell : (its new : Cell) (rest : List Pointer) → (Contains rest pointer → Contains (pointers_in cells) pointer) → Contains (cons_option (dropped_at its new) rest) pointer → Contains (pointers_in (its ∷ cells)) pointer
    by_cell Null new rest on f = on f
    by_cell (Inline value) new rest on f = on f
    by_cell (Out q) new rest on f = by_test q (nat_lt 0 q.size && not (keeps q new)) rest on f
dropped_old (cell ∷ cells) (given ∷ news) pointer e = by_cell cell given (dropped_of cells news) (λ h. dropped_old cells news pointer h) e
  where
    by_test : (q : Pointer) (b : Bool) (rest : List Pointer) → (Contains rest pointer → Contains (pointers_in cells) pointer) → Contains (cons_option (if b then Some q else None) rest) pointer → Contains (pointers_in (Out q ∷ cells)) pointer
    by_test q true rest on f = elim (cases_in q rest pointer f) [ inl h ↦ first_in q (pointers_in cells) pointer h | inr h ↦ later_in q (pointers_in cells) pointer (on h) ]
    by_test q false rest on f = later_in q (pointers_in cells) pointer (on f)

    by_cell : (its new : Cell) (rest : List Pointer) → (Contains rest pointer → Contains (pointers_in cells) pointer) → Contains (cons_option (dropped_at its new) rest) pointer → Contains (pointers_in (its ∷ cells)) pointer
    by_cell Null new rest on f = on f
    by_cell (Inline value) new rest on f = on f
    by_cell (Out q) new rest on f = by_test q (nat_lt 0 q.size && not (keeps q new)) rest on f

-- with a pointer in a column no more is dropped than with an inline value there
drops_less : (f : Pointer → ℕ) (cells news : List Cell) (i : ℕ) (p : Pointer) (value : List ℕ) → sum_by f (dropped_of cells (slice_set news i (Out p))) ≤ sum_by f (dropped_of cells (slice_set news i (Inline value)))
drops_less f [] news i p value = omega arith
drops_less f (cell ∷ cells) [] i p value = omega arith
drops_less f (Null ∷ cells) (given ∷ news) zero p value = omega arith
drops_less f (Inline bytes ∷ cells) (given ∷ news) zero p value = omega arith
drops_less f (Out q ∷ cells) (given ∷ news) zero p value = by (nat_lt 0 q.size) (same_pointer q p)
  where
    by : (b same : Bool) → sum_by f (cons_option (if b && not same then Some q else None) (dropped_of cells news)) ≤ sum_by f (cons_option (if b && not false then Some q else None) (dropped_of cells news))
    by true true =
        let more = sum_by-cons f q (dropped_of cells news) in
        omega (arith, more)
    by true false = omega arith
    by false true = omega arith
    by false false = omega arith
drops_less f (cell ∷ cells) (given ∷ news) (suc i) p value = by (dropped_at cell given) (drops_less f cells news i p value)
  where
    by : (o : Option Pointer) → sum_by f (dropped_of cells (slice_set news i (Out p))) ≤ sum_by f (dropped_of cells (slice_set news i (Inline value)))
        → sum_by f (cons_option o (dropped_of cells (slice_set news i (Out p)))) ≤ sum_by f (cons_option o (dropped_of cells (slice_set news i (Inline value))))
    by None rest = rest
    by (Some q) rest =
        let more = sum_by-cons f q (dropped_of cells (slice_set news i (Out p))) in
        let its = sum_by-cons f q (dropped_of cells (slice_set news i (Inline value))) in
        omega (arith, rest, more, its)

-- ---- the saves that are to come

from_drop : (plan : List ℕ) (at column : ℕ) → Contains (drop at plan) column → (k : ℕ) × (at ≤ k) × (slice_get plan k ≡ Some column)
from_drop plan zero column e = let found = from_list plan column e in (found.0, omega arith, found.2)
from_drop [] (suc at) column e = absurd (none_in_nil column e)
from_drop (first ∷ plan) (suc at) column e = let found = from_drop plan at column e in (suc found.0, omega (arith, found.1), found.2)

-- rows that have the same in the columns to come have as many steps of saves
saves_same : (new later : Stored) (plan : List ℕ) (from : ℕ) → ((k column : ℕ) → from ≤ k → slice_get plan k ≡ Some column → cell_of later.cells column ≡ cell_of new.cells column) → saves_left later plan from ≡ saves_left new plan from
saves_same new later plan from same =
    sum_same (λ (column : ℕ). save_steps (cell_of later.cells column)) (λ (column : ℕ). save_steps (cell_of new.cells column)) (drop from plan) (λ column e. let found = from_drop plan from column e in ap save_steps (same found.0 column found.1 found.2))

saves_more : (new : Stored) (plan : List ℕ) (at column : ℕ) → slice_get plan at ≡ Some column → saves_left new plan at ≡ save_steps (cell_of new.cells column) + saves_left new plan (at + 1)
saves_more new plan at column here =
    sum_by-drop_more (λ (its : ℕ). save_steps (cell_of new.cells its)) plan at column (slice_get_within plan at column here)
    ∙ ap (λ (its : ℕ). save_steps (cell_of new.cells its) + saves_left new plan (at + 1)) (get_or_from_slice_get plan at column column here)

-- ---- what is left of a write

pub saving_falls : (c : CoreState) (s t : ℕ) (owner : Owner) (old : Option OldRow) (new : Stored) (plan : List ℕ) (at : ℕ) (save : Saving) (toast : Store) → IsWriteMade c s t (write_at owner (stages.Saving old new plan at save)) toast
    → write_left_at toast.index.entries owner (stage_after (parts_at c t) owner (stages.Saving old new plan at save)) < write_left_at (table_at c.tables t).toast.index.entries owner (stages.Saving old new plan at save)
saving_falls c s t owner old new plan at save toast made = by (save_told (parts_at c t) save)
  where
    known : StepKnown c s t owner (stages.Saving old new plan at save) toast
    known = step_known c s t owner (stages.Saving old new plan at save) toast made

    was : Store
    was = (table_at c.tables t).toast

    entries : List Entry
    entries = was.index.entries

    whole : List Cell
    whole = slice_set new.cells (column_at plan at - 1) (Inline save.value)

    stands : write_standing.StandsSaving (parts_at c t) owner old new plan at save
    stands = known.write.stands c.log

    fewer : saves.steps_left (save_after (parts_at c t) save) < saves.steps_left save
    fewer = save_falls was toast c.ids save save.stage known.old known.new known.write.own.stage.own.under_way stands.stands made.steps.toast.rel made.steps.toast.index

    -- the old row's pointers have other ids than the value that is being saved
    apart : (news : List Cell) (id : ℕ) → id_of save.stage ≡ Some id → (pointer : Pointer) → Contains (dropped_of (old_cells old) news) pointer → id ≢ pointer.value_id
    apart news id e pointer has = by_old old refl (dropped_old (old_cells old) news pointer has)
      where
        by_old : (o : Option OldRow) → old ≡ o → Contains (pointers_in (old_cells o)) pointer → id ≢ pointer.value_id
        by_old None is f = absurd (none_in_nil pointer f)
        by_old (Some row) is f =
            old_apart c.xacts c.snaps (table_at c.tables t) (write_at owner (stages.Saving old new plan at save)) row id pointer (ap is_some known.runs) known.write.rows is (stands.there row is)
            (known.write.fresh.each id (in_append_left (option_to_list (id_of save.stage)) _ id (rw e (first_in id [] id refl)))) f

    -- so the marks to come are as many
    marks : (news : List Cell) → marks_left toast.index.entries owner (dropped_of (old_cells old) news) 0 ≡ marks_left entries owner (dropped_of (old_cells old) news) 0
    marks news = by_stage save.stage made.steps.toast.index (λ id e. apart news id e)
      where
        by_stage : (stage : Stage) → saves.IsIndexAfter stage was.index toast.index → ((id : ℕ) → id_of stage ≡ Some id → (pointer : Pointer) → Contains (dropped_of (old_cells old) news) pointer → id ≢ pointer.value_id)
            → marks_left toast.index.entries owner (dropped_of (old_cells old) news) 0 ≡ marks_left entries owner (dropped_of (old_cells old) news) 0
        by_stage Drawing e others = ap (λ (i : Index). marks_left i.entries owner (dropped_of (old_cells old) news) 0) e
        by_stage (Laying value_id (pieces.Putting seq)) e others = ap (λ (i : Index). marks_left i.entries owner (dropped_of (old_cells old) news) 0) e
        by_stage (Laying value_id (pieces.Indexing seq tid)) e others =
            ap (λ (es : List Entry). marks_left es owner (dropped_of (old_cells old) news) 0) e.entries ∙ marks_same entries (record { value_id = value_id; seq = seq; tid = tid }) owner (dropped_of (old_cells old) news) (others value_id refl)
        by_stage (Laying value_id pieces.Over) e others = ap (λ (i : Index). marks_left i.entries owner (dropped_of (old_cells old) news) 0) e

    passed : (pointer : Pointer) → marks_left toast.index.entries owner (dropped_of (old_cells old) (slice_set new.cells (column_at plan at - 1) (Out pointer))) 0 ≤ marks_left entries owner (dropped_of (old_cells old) whole) 0
    passed pointer =
        let same = marks (slice_set new.cells (column_at plan at - 1) (Out pointer)) in
        let less = drops_less (λ (p : Pointer). steps_left entries (Marking.walk (new_mark p owner.xid owner.session))) (old_cells old) new.cells (column_at plan at - 1) pointer save.value in
        omega (arith, same, less)

    by_next : (pointer : Pointer) (o : Option ℕ) → slice_get plan (at + 1) ≡ o → write_left_at toast.index.entries owner (to_save owner old (with_cell new (column_at plan at) (Out pointer)) plan (at + 1) o) < write_left_at entries owner (stages.Saving old new plan at save)
    by_next pointer None e =
        let less = passed pointer in
        omega (arith, fewer, less)
    by_next pointer (Some column) e =
        let stage = known.write.own.stage in
        let next = with_cell new (column_at plan at) (Out pointer) in
        let push : CanPush next plan (at + 1) = push_with new plan at (column_at plan at) (Out pointer) stage.here stage.there stage.later in
        let there = push.there (at + 1) column e in
        let back = set_back next.cells (column - 1) (push.values (at + 1) column (omega arith) e) in
        let planned : column_at plan (at + 1) ≡ column = get_or_from_slice_get plan (at + 1) column 0 e in
        let cells : slice_set (slice_set next.cells (column - 1) Null) (column_at plan (at + 1) - 1) (Inline (bytes_of (cell_of next.cells column))) ≡ next.cells =
        ap (λ (k : ℕ). slice_set (slice_set next.cells (column - 1) Null) (k - 1) (Inline (bytes_of (cell_of next.cells column)))) planned ∙ back in
        let less = passed pointer in
        let drops : marks_left toast.index.entries owner (dropped_of (old_cells old) (slice_set (slice_set next.cells (column - 1) Null) (column_at plan (at + 1) - 1) (Inline (bytes_of (cell_of next.cells column))))) 0 ≡ marks_left toast.index.entries owner (dropped_of (old_cells old) next.cells) 0 =
        ap (λ (its : List Cell). marks_left toast.index.entries owner (dropped_of (old_cells old) its) 0) cells in
        let here : cell_of next.cells column ≡ cell_of new.cells column = cell_other new (column_at plan at) column (Out pointer) stage.there.0 there.0 (λ same. omega (arith, push.once (at + 1) at column e (stage.here ∙ ap (λ (n : ℕ). Some n) (sym same)))) in
        let first : save_steps (cell_of next.cells column) ≡ save_steps (cell_of new.cells column) = ap save_steps here in
        let all = saves_more new plan (at + 1) column e in
        let rest : saves_left (with_cell next column Null) plan (at + 1 + 1) ≡ saves_left new plan (at + 1 + 1) = saves_same new (with_cell next column Null) plan (at + 1 + 1) (λ k other low f.
        cell_other next column other Null there.0 (push.there k other f).0 (λ same. omega (arith, low, push.once k (at + 1) column (f ∙ ap (λ (n : ℕ). Some n) same) e))
        ∙ cell_other new (column_at plan at) other (Out pointer) stage.there.0 (push.there k other f).0 (λ same. omega (arith, low, push.once k at (column_at plan at) (f ∙ ap (λ (n : ℕ). Some n) same) stage.here))) in
        omega (arith, fewer, less, drops, first, all, rest)

    by : (step : SaveStep) → write_left_at toast.index.entries owner (saved_on owner old new plan at (save_after (parts_at c t) save) step) < write_left_at entries owner (stages.Saving old new plan at save)
    by told.More =
        let same = marks whole in
        omega (arith, fewer, same)
    by (told.Done pointer) = by_next pointer (slice_get plan (at + 1)) refl

pub saves_fall_all : (c : CoreState) (s t : ℕ) (write : Writing) (toast : Store) → IsSaving write.stage → IsWriteMade c s t write toast → left (after_write_step c s t write toast) s < left c s
saves_fall_all c s t write toast is made = by write.owner write.stage is made
  where
    by : (owner : Owner) (stage : WriteStage) → IsSaving stage → IsWriteMade c s t (write_at owner stage) toast → left (after_write_step c s t (write_at owner stage) toast) s < left c s
    by owner (stages.Saving old new plan at save) is made =
        let step = saving_taken c s t owner old new plan at save toast made in
        let fall = saving_falls c s t owner old new plan at save toast made in
        let after = left_after c s t _ _ _ toast (write_after (parts_at c t) (write_at owner (stages.Saving old new plan at save))) _ _ step in
        let before = left_before c s t (write_at owner (stages.Saving old new plan at save)) made.job in
        subst (λ (n : ℕ). n < left c s) (sym after) (subst (λ (n : ℕ). write_left_at toast.index.entries owner (stage_after (parts_at c t) owner (stages.Saving old new plan at save)) < n) (sym before) fall)
    by owner (stages.Put old new plan) is made = absurd is
    by owner (stages.Remove old) is made = absurd is
    by owner (stages.Marking dropped at mark) is made = absurd is
    by owner stages.Over is made = absurd is
