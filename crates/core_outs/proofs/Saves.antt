-- The columns that will be out of line, as a write saves one after another.
use Rattle.std.proofs.Common.{ap, arith, refl, subst, sym, ◌∙◌}
use Rattle.std.proofs.lemmas.Bool.Decides.{nat_tests}
use Rattle.std.specs.Prelude.{Bool, List, None, Option, Some, [], drop, false, if◌then◌else◌, length, slice_get, slice_index_or, slice_set, suc, true, zero, ℕ, ℤ, ◌+◌, ◌-◌, ◌<◌, ◌==◌, ◌||◌, ◌∷◌, ◌≡◌, ◌≢◌}
use Rattle.tuple_layout.specs.declared.cell.Cell.{Cell}
use Rattle.tuple_layout.specs.declared.cell.Cell.TheVariants.{Inline, Null, Out}
use Rattle.tuple_layout.specs.declared.cell.Stored.{Stored}
use Rattle.tuple_toaster.specs.Pushed.{is_among}
use Rattle.external_pointer.specs.declared.external.Pointer.{Pointer}
use Rattle.toast_store.specs.PieceJobs.{is_laid, pieces_after, pointer_to}
use Rattle.toast_store.specs.Saves.{Drawing, Laying, Saving, Stage, pieces_of, toast_rel_of}
use Rattle.toast_store.specs.declared.save.SaveStep.TheVariants as told
use Rattle.write_steps.specs.Standing.{CanGoOut, CanPush, IsColumn, IsSavingAt}
use Rattle.write_steps.specs.Writes.{Parts, cell_of, column_at, saved_on, saving_from, stage_after, to_save, with_cell}
use Rattle.write_steps.specs.declared.stage.OldRow.{OldRow}
use Rattle.write_steps.specs.declared.stage.Owner.{Owner}
use Rattle.core_state.proofs.Lists.{read_other, read_written}
use Rattle.core_outs.specs.Outs.{PutsAt, WillBeOut, is_out}
use Rattle.toast_store.specs.Saves as saves
use Rattle.write_steps.specs.declared.stage.WriteStage.TheVariants as stages

stored_is : (a b : Stored) → Some a ≡ Some b → a ≡ b
stored_is a b e = cc

-- a value in line is taken out of its row
null_out : (cells : List Cell) (j k : ℕ) → is_out (slice_index_or cells j Null) ≡ false → is_out (slice_index_or (slice_set cells j Null) k Null) ≡ is_out (slice_index_or cells k Null)
null_out [] j k line = refl
null_out (cell ∷ cells) zero zero line = sym line
null_out (cell ∷ cells) zero (suc k) line = refl
null_out (cell ∷ cells) (suc j) zero line = refl
null_out (cell ∷ cells) (suc j) (suc k) line = null_out cells j k line

-- a value that can go out is in line
in_line : (cell : Cell) → CanGoOut cell → is_out cell ≡ false
in_line Null can = absurd can
in_line (Inline value) can = refl
in_line (Out pointer) can = absurd can

dropped_none : (plan : List ℕ) (at : ℕ) → slice_get plan at ≡ None → drop at plan ≡ []
dropped_none [] zero e = refl
dropped_none [] (suc at) e = refl
dropped_none (column ∷ plan) zero e = absurd (cc)
dropped_none (column ∷ plan) (suc at) e = dropped_none plan at e

dropped_some : (plan : List ℕ) (at column : ℕ) → slice_get plan at ≡ Some column → drop at plan ≡ column ∷ drop (suc at) plan
dropped_some [] at column e = absurd (cc)
dropped_some (first ∷ plan) zero column e = let is : first ≡ column = cc in ap (λ (n : ℕ). n ∷ plan) is
dropped_some (first ∷ plan) (suc at) column e = dropped_some plan at column e

-- a write that is next to save the column at a place of its plan puts out what the row has out and what is left of the plan
pub from_place : (outs : ℤ → List ℕ) (owner : Owner) (old : Option OldRow) (new : Stored) (plan : List ℕ) (at : ℕ) → ((column : ℕ) → slice_get plan at ≡ Some column → is_out (cell_of new.cells column) ≡ false)
    → WillBeOut (outs new.key) new.cells (drop at plan) → PutsAt outs (saving_from owner old new plan at)
from_place outs owner old new plan at line will = by (slice_get plan at) refl
  where
    by : (o : Option ℕ) → slice_get plan at ≡ o → PutsAt outs (to_save owner old new plan at o)
    by None e its is =
        let same : new ≡ its = stored_is new its is in
        subst (λ (row : Stored). WillBeOut (outs row.key) row.cells []) same (subst (λ (rest : List ℕ). WillBeOut (outs new.key) new.cells rest) (dropped_none plan at e) will)
    by (Some column) e its is =
        let same : with_cell new column Null ≡ its = stored_is (with_cell new column Null) its is in
        let taken : WillBeOut (outs new.key) (slice_set new.cells (column - 1) Null) (drop at plan) = record {
          each = λ k. will.each k ∙ ap (λ (b : Bool). b || is_among (drop at plan) (suc k)) (sym (null_out new.cells (column - 1) k (line column e)));
        } in
        subst (λ (row : Stored). WillBeOut (outs row.key) row.cells (drop at plan)) same taken

-- once a column is saved, it is out of line and no longer to go
saved_out : (columns plan : List ℕ) (new : Stored) (at column : ℕ) (pointer : Pointer) → slice_get plan at ≡ Some column → IsColumn new column → WillBeOut columns new.cells (drop at plan) → WillBeOut columns (slice_set new.cells (column - 1) (Out pointer)) (drop (at + 1) plan)
saved_out columns plan new at column pointer e there will = record { each = λ k. by k (column == suc k) refl }
  where
    next : at + 1 ≡ suc at
    next = omega arith

    split : (k : ℕ) → is_among (drop at plan) (suc k) ≡ ((column == suc k) || is_among (drop (at + 1) plan) (suc k))
    split k = ap (λ (rest : List ℕ). is_among rest (suc k)) (dropped_some plan at column e) ∙ ap (λ (n : ℕ). (column == suc k) || is_among (drop n plan) (suc k)) (sym next)

    all : (a b : Bool) → (a || (true || b)) ≡ true
    all true b = refl
    all false b = refl

    by : (k : ℕ) (b : Bool) → (column == suc k) ≡ b → is_among columns (suc k) ≡ (is_out (slice_index_or (slice_set new.cells (column - 1) (Out pointer)) k Null) || is_among (drop (at + 1) plan) (suc k))
    by k true same =
        let is : column ≡ suc k = grind (arith, nat_tests, same) in
        let place : column - 1 ≡ k = omega (arith, is) in
        let high = there.1 in
        let low : k < length new.cells = omega (arith, is, high) in
        let here : is_out (slice_index_or (slice_set new.cells (column - 1) (Out pointer)) k Null) ≡ true = ap (λ (n : ℕ). is_out (slice_index_or (slice_set new.cells n (Out pointer)) k Null)) place ∙ ap is_out (read_written new.cells k (Out pointer) Null low) in
        will.each k ∙ ap (λ (b : Bool). is_out (slice_index_or new.cells k Null) || b) (split k) ∙ ap (λ (b : Bool). is_out (slice_index_or new.cells k Null) || (b || is_among (drop (at + 1) plan) (suc k))) same
        ∙ all (is_out (slice_index_or new.cells k Null)) (is_among (drop (at + 1) plan) (suc k)) ∙ sym (ap (λ (b : Bool). b || is_among (drop (at + 1) plan) (suc k)) here)
    by k false apart =
        let differ : column ≢ suc k = grind (arith, nat_tests, apart) in
        let one = there.0 in
        let other : k ≢ column - 1 = λ is. differ (omega (arith, is, one)) in
        will.each k ∙ ap (λ (b : Bool). is_out (slice_index_or new.cells k Null) || b) (split k) ∙ ap (λ (b : Bool). is_out (slice_index_or new.cells k Null) || (b || is_among (drop (at + 1) plan) (suc k))) apart
        ∙ ap (λ (cell : Cell). is_out cell || is_among (drop (at + 1) plan) (suc k)) (sym (read_other new.cells (column - 1) k (Out pointer) Null other))

-- the next column of a plan is in line, also once the one before it is saved
next_line : (new : Stored) (plan : List ℕ) (at column : ℕ) (pointer : Pointer) → slice_get plan at ≡ Some column → IsColumn new column → CanPush new plan (at + 1) → (later : ℕ) → slice_get plan (at + 1) ≡ Some later
    → is_out (cell_of (slice_set new.cells (column - 1) (Out pointer)) later) ≡ false
next_line new plan at column pointer e there can later f =
    let is = can.there (at + 1) later f in
    let low = is.0 in
    let one = there.0 in
    let apart : later ≢ column = λ same. absurd (let places = can.once (at + 1) at later f (e ∙ ap Some (sym same)) in omega (arith, places)) in
    let other : later - 1 ≢ column - 1 = λ same. apart (omega (arith, same, low, one)) in
    ap is_out (read_other new.cells (column - 1) (later - 1) (Out pointer) Null other) ∙ in_line (cell_of new.cells later) (can.values (at + 1) later (omega arith) f)

-- a step of a save
pub saves_out : (outs : ℤ → List ℕ) (parts : Parts) (owner : Owner) (old : Option OldRow) (new : Stored) (plan : List ℕ) (at : ℕ) (save : Saving) → IsSavingAt owner new plan at save → PutsAt outs (stages.Saving old new plan at save)
    → PutsAt outs (stage_after parts owner (stages.Saving old new plan at save))
saves_out outs parts owner old new plan at save is puts = by save.stage
  where
    will : WillBeOut (outs new.key) new.cells (drop at plan)
    will = puts new refl

    step : (later : Saving) (pointer : Pointer) (b : Bool) → PutsAt outs (saved_on owner old new plan at later (if b then told.Done pointer else told.More))
    step later pointer true =
        from_place outs owner old (with_cell new (column_at plan at) (Out pointer)) plan (at + 1) (λ column e. next_line new plan at (column_at plan at) pointer is.here is.there is.later column e)
        (saved_out (outs new.key) plan new at (column_at plan at) pointer is.here is.there will)
    step later pointer false = λ its e. subst (λ (row : Stored). WillBeOut (outs row.key) row.cells (drop at plan)) (stored_is new its e) will

    by : (stage : Stage) → PutsAt outs (saved_on owner old new plan at (record save { stage = saves.stage_after parts.toast parts.ids save stage }) (saves.answer_at save (saves.stage_after parts.toast parts.ids save stage)))
    by Drawing = λ its e. subst (λ (row : Stored). WillBeOut (outs row.key) row.cells (drop at plan)) (stored_is new its e) will
    by (Laying value_id pieces_at) =
        let later = pieces_after parts.toast.rel save.value pieces_at in
        step (record save { stage = Laying value_id later }) (pointer_to (pieces_of save value_id later) (toast_rel_of save.table)) (is_laid later)
