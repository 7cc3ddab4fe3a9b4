-- The columns that a new row's write saves: what is true of the write before its first step.
use Rattle.std.proofs.Common.{ap, arith, refl, subst, sym, ◌∙◌}
use Rattle.std.proofs.lemmas.Bool.Decides.{nat_tests}
use Rattle.std.proofs.lemmas.Map.Keys.{apart_from_distinct}
use Rattle.std.proofs.lemmas.Option.{get_or_from_slice_get, slice_get_within}
use Rattle.std.specs.List.{All}
use Rattle.std.specs.Prelude.{Bool, List, Option, Some, [], false, length, nat_eq, nat_lt, slice_get, slice_index_or, suc, true, zero, ℕ, ◌-◌, ◌<◌, ◌∷◌, ◌≡◌, ◌≤◌}
use Rattle.tuple_layout.specs.Sizes.{Within, largest_tuple, least_out, size}
use Rattle.tuple_layout.specs.Tuples.{IsWithinLimits, cell_widths}
use Rattle.tuple_layout.specs.declared.Storage.{Storage}
use Rattle.tuple_layout.specs.declared.cell.Cell.{Cell}
use Rattle.tuple_layout.specs.declared.cell.Cell.TheVariants.{Inline, Null, Out}
use Rattle.tuple_layout.specs.declared.cell.Stored.{Stored}
use Rattle.tuple_toaster.proofs.Going.{pushed_distinct, pushed_go}
use Rattle.tuple_toaster.proofs.Walks.{large_has_all}
use Rattle.tuple_toaster.specs.Kept.{MayGo}
use Rattle.tuple_toaster.specs.Pushed.{all_moved_size, pushed, size_with, tuple_target}
use Rattle.slot_page.specs.Slots.{IsNormal, item_of}
use Rattle.slot_page.specs.declared.line.LinePointer.{LinePointer}
use Rattle.slot_page.specs.declared.line.LinePointer.TheVariants.{Dead, Normal, Unused}
use Rattle.row_versions.specs.Relations.{Relation}
use Rattle.write_steps.proofs.Stepping.{saving_left}
use Rattle.write_steps.specs.Standing.{CanGoOut, CanPush, Fits, HoldsNoPin, IsOldThere, WriteStands}
use Rattle.write_steps.specs.Writes.{Parts, cell_of, saving_from}
use Rattle.write_steps.specs.declared.stage.OldRow.{OldRow}
use Rattle.write_steps.specs.declared.stage.Owner.{Owner}

-- what is known of a new row before its write begins: a cell for each column, within limits, and a tuple that fits with all out of line that may be
pub record CanSave (storages : List Storage) (new : Stored) : Type 0 where
  pub one_each : length new.cells ≡ length storages
  pub limits : All IsWithinLimits new.cells
  pub fits : all_moved_size storages (cell_widths new.cells) ≤ largest_tuple

abbrev pub plan_for : List Storage → Stored → List ℕ
plan_for storages new = pushed storages (cell_widths new.cells) tuple_target

-- ---- its columns

pub may_go_at : (storages : List Storage) (new : Stored) (at column : ℕ) → slice_get (plan_for storages new) at ≡ Some column → MayGo storages (cell_widths new.cells) column
may_go_at storages new at column e =
    subst (MayGo storages (cell_widths new.cells)) (get_or_from_slice_get (plan_for storages new) at column 0 e)
    (pushed_go storages (cell_widths new.cells) tuple_target at 0 (slice_get_within (plan_for storages new) at column e))

-- a column that may go has a value in line
pub inline_at : (cells : List Cell) (k length_is : ℕ) → slice_get (cell_widths cells) k ≡ Some (Within length_is) → (value : List ℕ) × (slice_get cells k ≡ Some (Inline value)) × (length value ≡ length_is)
inline_at [] k n e = absurd (cc)
inline_at (Null ∷ cells) zero n e = absurd (cc)
inline_at (Inline value ∷ cells) zero n e = (value, refl, within_is (length value) n e)
  where
    within_is : (a b : ℕ) → Some (Within a) ≡ Some (Within b) → a ≡ b
    within_is a b is = cc
inline_at (Out pointer ∷ cells) zero n e = absurd (cc)
inline_at (cell ∷ cells) (suc k) n e = inline_at cells k n e

goes_out : (new : Stored) (column : ℕ) (value : List ℕ) → All IsWithinLimits new.cells → slice_get new.cells (column - 1) ≡ Some (Inline value) → least_out ≤ length value → CanGoOut (cell_of new.cells column)
goes_out new column value limits e long =
    let is : cell_of new.cells column ≡ Inline value = get_or_from_slice_get new.cells (column - 1) (Inline value) Null e in
    let most : IsWithinLimits (Inline value) = subst IsWithinLimits is (limits (column - 1) Null (slice_get_within new.cells (column - 1) (Inline value) e)) in
    subst CanGoOut (sym is) (long, most)

pub can_push : (storages : List Storage) (new : Stored) → length new.cells ≡ length storages → All IsWithinLimits new.cells → CanPush new (plan_for storages new) 0
can_push storages new one_each limits = record {
  there = λ at column e.
      let may = may_go_at storages new at column e in
      let within = may.within in
      let same = one_each in
      (may.from, omega (arith, within, same));
  values = λ at column from e.
      let may = may_go_at storages new at column e in
      let has = inline_at new.cells (column - 1) may.size may.inline in
      let long = may.long in
      let is = has.2 in
      goes_out new column has.0 limits has.1 (omega (arith, long, is));
  once = λ at other column e f. once at other column e f (nat_lt at other) refl (nat_lt other at) refl;
}
  where
    differ : (i j column : ℕ) → i < j → slice_get (plan_for storages new) i ≡ Some column → slice_get (plan_for storages new) j ≡ Some column → ⊥
    differ i j column low e f =
        let apart = apart_from_distinct nat_eq (plan_for storages new) i j 0 (pushed_distinct storages (cell_widths new.cells) tuple_target) low (slice_get_within (plan_for storages new) j column f) in
        let first = get_or_from_slice_get (plan_for storages new) i column 0 e in
        let second = get_or_from_slice_get (plan_for storages new) j column 0 f in
        clash column (ap (λ (n : ℕ). nat_eq n (slice_index_or (plan_for storages new) j 0)) (sym first) ∙ apart) second
      where
        clash : (c : ℕ) → nat_eq c (slice_index_or (plan_for storages new) j 0) ≡ false → slice_index_or (plan_for storages new) j 0 ≡ c → ⊥
        clash c g h =
            let same : nat_eq c (slice_index_or (plan_for storages new) j 0) ≡ true = grind (arith, nat_tests, h) in
            absurd (cc)

    once : (i j column : ℕ) → slice_get (plan_for storages new) i ≡ Some column → slice_get (plan_for storages new) j ≡ Some column → (a : Bool) → nat_lt i j ≡ a → (b : Bool) → nat_lt j i ≡ b → i ≡ j
    once i j column e f true g b h =
        let low : i < j = grind (arith, nat_tests, g) in
        absurd (differ i j column low e f)
    once i j column e f false g true h =
        let low : j < i = grind (arith, nat_tests, h) in
        absurd (differ j i column low f e)
    once i j column e f false g false h = grind (arith, nat_tests, g, h)

-- ---- its size

pub fits_page : (storages : List Storage) (new : Stored) → CanSave storages new → size_with storages (cell_widths new.cells) (plan_for storages new) ≤ largest_tuple
fits_page storages new can = by (nat_lt tuple_target (size_with storages (cell_widths new.cells) (plan_for storages new))) refl
  where
    by : (b : Bool) → nat_lt tuple_target (size_with storages (cell_widths new.cells) (plan_for storages new)) ≡ b → size_with storages (cell_widths new.cells) (plan_for storages new) ≤ largest_tuple
    by true e =
        let high : tuple_target < size_with storages (cell_widths new.cells) (plan_for storages new) = grind (arith, nat_tests, e) in
        let all = large_has_all storages (cell_widths new.cells) tuple_target high in
        let most = can.fits in
        omega (arith, all, most)
    by false e =
        let low : size_with storages (cell_widths new.cells) (plan_for storages new) ≤ tuple_target = grind (arith, nat_tests, e) in
        omega (arith, low)

pub fits_first : (rows : Relation) (new : Stored) → CanSave rows.schema.storages new → Fits rows new (plan_for rows.schema.storages new) 0
fits_first rows new can = record { one_each = can.one_each; limits = can.limits; size = fits_page rows.schema.storages new can }

-- ---- where it stands

-- a version that is there stands in its slot
pub normal_by : {T : Type 0} (line : LinePointer T) (item : T) → item_of line ≡ Some item → IsNormal line
normal_by (Normal size item) other e = tt
normal_by Dead other e = absurd (cc)
normal_by Unused other e = absurd (cc)

pub begins_standing : (parts : Parts) (owner : Owner) (old : Option OldRow) (new : Stored) → IsOldThere parts.rows old → HoldsNoPin parts.toast owner → CanSave parts.rows.schema.storages new
    → WriteStands parts (record { owner = owner; stage = saving_from owner old new (plan_for parts.rows.schema.storages new) 0 })
begins_standing parts owner old new there free can =
    saving_left parts owner old new (plan_for parts.rows.schema.storages new) 0 there free (fits_first parts.rows new can)
    (record {
      out = λ at column before e. absurd (omega (arith, before));
      saved = λ at pointer before e. absurd (omega (arith, before));
      apart = λ at other p q before also. absurd (omega (arith, before));
    })
    (can_push parts.rows.schema.storages new can.one_each can.limits)
