-- A step of a write is one of those that it takes at least.
use Rattle.std.proofs.Common.{ap, arith, refl, ◌∙◌}
use Rattle.std.proofs.lemmas.Bool.{ltb-false, ltb-true}
use Rattle.std.proofs.lemmas.Option.{get_or_from_slice_get}
use Rattle.std.specs.Prelude.{Bool, List, None, Option, Some, false, if◌then◌else◌, length, nat_lt, slice_get, slice_set, suc, true, ℕ, ◌*◌, ◌+◌, ◌-◌, ◌/◌, ◌≡◌, ◌≤◌}
use Rattle.external_pointer.specs.declared.external.Pointer.{Pointer}
use Rattle.tuple_layout.specs.declared.cell.Cell.{Cell}
use Rattle.tuple_layout.specs.declared.cell.Cell.TheVariants.{Inline, Null, Out}
use Rattle.tuple_layout.specs.declared.cell.Stored.{Stored}
use Rattle.slice_fetch.specs.Spans.{chunk_size}
use Rattle.value_ids.specs.Ids.{Pool}
use Rattle.toast_store.specs.Saves.{Drawing, Laying, Saving, Stage}
use Rattle.toast_store.specs.Stores.{Store}
use Rattle.toast_store.specs.Values.{piece_count}
use Rattle.toast_store.specs.declared.save.SaveStep.{SaveStep}
use Rattle.write_steps.proofs.Stepping.{can_form}
use Rattle.write_steps.specs.Standing.{StandsAt, StandsPut}
use Rattle.write_steps.specs.Writes.{Parts, answer_at, bytes_of, cell_of, column_at, save_after, save_told, saved_on, saving_from, stage_after, to_save, with_cell}
use Rattle.write_steps.specs.declared.stage.OldRow.{OldRow}
use Rattle.write_steps.specs.declared.stage.Owner.{Owner}
use Rattle.write_steps.specs.declared.stage.WriteStage.{WriteStage}
use Rattle.core_counts.proofs.Sizes.{fits_short, short_inlines}
use Rattle.core_counts.proofs.Sums.{put_again, put_alike, taken_out}
use Rattle.core_counts.specs.Counts.{is_long, pieces_between, save_turns}
use Rattle.core_counts.specs.Least.{inline_least, inlines_least, write_least}
use Rattle.toast_store.specs.PieceJobs as piece_jobs
use Rattle.toast_store.specs.Saves as saves
use Rattle.toast_store.specs.declared.piece_job.PieceStage.TheVariants as pieces
use Rattle.toast_store.specs.declared.save.SaveStep.TheVariants as told
use Rattle.write_steps.specs.declared.stage.WriteStage.TheVariants as stages
use Rattle.write_steps.specs.declared.stage.WriteStep.TheVariants as writes

-- ---- a save

-- each step takes one of those that are left
save_more : (store : Store) (ids : Pool) (save : Saving) (stage : Stage) → saves.steps_at (piece_count (length save.value)) stage ≤ suc (saves.steps_at (piece_count (length save.value)) (saves.stage_after store ids save stage))
save_more store ids save Drawing = omega arith
save_more store ids save (Laying value_id (pieces.Putting seq)) = omega arith
save_more store ids save (Laying value_id (pieces.Indexing seq tid)) = by (nat_lt (seq + 1) (piece_count (length save.value))) refl
  where
    by : (b : Bool) → nat_lt (seq + 1) (piece_count (length save.value)) ≡ b → 2 * (piece_count (length save.value) - seq) - 1 ≤ suc (piece_jobs.steps_at (piece_count (length save.value)) (if b then pieces.Putting (seq + 1) else pieces.Over))
    by true is = omega arith
    by false is =
        let last = ltb-false (seq + 1) (piece_count (length save.value)) is in
        omega (arith, last)
save_more store ids save (Laying value_id pieces.Over) = omega arith

-- one that answers its pointer has none left
save_done : (save : Saving) (count : ℕ) (stage : Stage) (pointer : Pointer) → saves.answer_at save stage ≡ told.Done pointer → saves.steps_at count stage ≡ 0
save_done save count Drawing pointer e = absurd (cc)
save_done save count (Laying value_id (pieces.Putting seq)) pointer e = absurd (cc)
save_done save count (Laying value_id (pieces.Indexing seq tid)) pointer e = absurd (cc)
save_done save count (Laying value_id pieces.Over) pointer e = refl

-- a value takes at least as many steps before its save as its turns
pieces_few : (n : ℕ) → pieces_between 0 n ≤ piece_count n
pieces_few n = by (nat_lt 0 n) refl
  where
    by : (b : Bool) → nat_lt 0 n ≡ b → (if b then (n - 1) / chunk_size + 1 - 0 / chunk_size else 0) ≤ piece_count n
    by true is =
        let some = ltb-true 0 n is in
        omega (arith, some)
    by false is = omega arith

value_few : (value : List ℕ) → save_turns value ≤ 1 + 2 * piece_count (length value)
value_few value = by (is_long value)
  where
    by : (b : Bool) → (if b then 2 * pieces_between 0 (length value) + 1 else 0) ≤ 1 + 2 * piece_count (length value)
    by true =
        let few = pieces_few (length value) in
        omega (arith, few)
    by false = omega arith

cell_few : (cell : Cell) → inline_least cell ≤ 1 + 2 * piece_count (length (bytes_of cell))
cell_few Null = omega arith
cell_few (Inline value) = value_few value
cell_few (Out pointer) = omega arith

-- ---- from one column to the next

-- a write that is next to save a column, or to make its version step, has all long values of its row before it
pub from_least : (owner : Owner) (old : Option OldRow) (new : Stored) (plan : List ℕ) (at : ℕ) → inlines_least new.cells + 1 ≤ write_least (saving_from owner old new plan at)
from_least owner old new plan at = by (slice_get plan at) refl
  where
    by : (o : Option ℕ) → slice_get plan at ≡ o → inlines_least new.cells + 1 ≤ write_least (to_save owner old new plan at o)
    by None is = omega arith
    by (Some column) is =
        let planned : column_at plan at ≡ column = get_or_from_slice_get plan at column 0 is in
        let same : inlines_least (slice_set (slice_set new.cells (column - 1) Null) (column_at plan at - 1) Null) ≡ inlines_least (slice_set new.cells (column - 1) Null) =
        ap (λ (k : ℕ). inlines_least (slice_set (slice_set new.cells (column - 1) Null) (k - 1) Null)) planned ∙ put_again inline_least new.cells (column - 1) Null Null in
        let out = taken_out inline_least new.cells (column - 1) Null Null in
        let few = cell_few (cell_of new.cells column) in
        omega (arith, same, out, few)

-- a row that is put has none left
put_least : (parts : Parts) (owner : Owner) (old : Option OldRow) (new : Stored) (plan : List ℕ) → StandsPut parts owner old new plan → write_least (stages.Put old new plan) ≡ 1
put_least parts owner old new plan stands =
    let form = can_form parts.rows new plan stands.fits in
    let none = short_inlines new.cells (fits_short parts.rows.schema.storages new.cells form.one_each form.size) in
    omega (arith, none)

-- ---- a step

pub stage_more : (parts : Parts) (owner : Owner) (stage : WriteStage) → StandsAt parts owner stage → write_least stage ≤ suc (write_least (stage_after parts owner stage))
stage_more parts owner (stages.Saving old new plan at save) stands = by (save_told parts save) refl
  where
    more : saves.steps_left save ≤ suc (saves.steps_left (save_after parts save))
    more = save_more parts.toast parts.ids save save.stage

    by : (step : SaveStep) → save_told parts save ≡ step → write_least (stages.Saving old new plan at save) ≤ suc (write_least (saved_on owner old new plan at (save_after parts save) step))
    by told.More is = omega (arith, more)
    by (told.Done pointer) is =
        let done : saves.steps_left (save_after parts save) ≡ 0 = save_done save (piece_count (length save.value)) (saves.stage_after parts.toast parts.ids save save.stage) pointer is in
        let next = from_least owner old (with_cell new (column_at plan at) (Out pointer)) plan (at + 1) in
        let alike : inlines_least (slice_set new.cells (column_at plan at - 1) (Out pointer)) ≡ inlines_least (slice_set new.cells (column_at plan at - 1) Null) = put_alike inline_least new.cells (column_at plan at - 1) (Out pointer) Null refl in
        omega (arith, more, done, next, alike)
stage_more parts owner (stages.Put old new plan) stands =
    let one = put_least parts owner old new plan stands in
    omega (arith, one)
stage_more parts owner (stages.Remove old) stands = omega arith
stage_more parts owner (stages.Marking dropped at mark) stands = omega arith
stage_more parts owner stages.Over stands = omega arith

-- a step of a save is never the last
saving_goes : (owner : Owner) (old : Option OldRow) (new : Stored) (plan : List ℕ) (at : ℕ) → answer_at (saving_from owner old new plan at) ≡ writes.More
saving_goes owner old new plan at = by (slice_get plan at)
  where
    by : (o : Option ℕ) → answer_at (to_save owner old new plan at o) ≡ writes.More
    by None = refl
    by (Some column) = refl

saved_goes : (owner : Owner) (old : Option OldRow) (new : Stored) (plan : List ℕ) (at : ℕ) (save : Saving) (step : SaveStep) → answer_at (saved_on owner old new plan at save step) ≡ writes.More
saved_goes owner old new plan at save told.More = refl
saved_goes owner old new plan at save (told.Done pointer) = saving_goes owner old (with_cell new (column_at plan at) (Out pointer)) plan (at + 1)

pub stage_done : (parts : Parts) (owner : Owner) (stage : WriteStage) → StandsAt parts owner stage → answer_at (stage_after parts owner stage) ≡ writes.Done → write_least stage ≤ 1
stage_done parts owner (stages.Saving old new plan at save) stands e =
    let goes = saved_goes owner old new plan at (save_after parts save) (save_told parts save) in
    absurd (cc)
stage_done parts owner (stages.Put old new plan) stands e =
    let one = put_least parts owner old new plan stands in
    omega (arith, one)
stage_done parts owner (stages.Remove old) stands e = omega arith
stage_done parts owner (stages.Marking dropped at mark) stands e = omega arith
stage_done parts owner stages.Over stands e = omega arith
