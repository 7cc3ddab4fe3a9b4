-- The columns that the toaster chooses: a write of them stands before its first step.
use Rattle.std.proofs.Common.{ap, arith, refl, subst, sym, ◌∙◌}
use Rattle.std.proofs.lemmas.Bool.Decides.{nat_tests}
use Rattle.std.proofs.lemmas.Map.Keys.{apart_from_distinct}
use Rattle.std.proofs.lemmas.Option.{get_or_from_slice_get, slice_get_within}
use Rattle.std.specs.List.{All}
use Rattle.std.specs.Prelude.{Bool, List, Option, Some, [], false, length, nat_eq, nat_lt, slice_get, slice_index_or, suc, true, zero, ℕ, ◌-◌, ◌<◌, ◌∷◌, ◌≡◌, ◌≤◌}
use Rattle.tuple_layout.specs.Sizes.{Within, largest_tuple, least_out}
use Rattle.tuple_layout.specs.Schemas.{TableSchema}
use Rattle.tuple_layout.specs.Tuples.{IsWithinLimits, cell_widths}
use Rattle.tuple_layout.specs.declared.Storage.{Storage}
use Rattle.tuple_layout.specs.declared.cell.Cell.{Cell}
use Rattle.tuple_layout.specs.declared.cell.Cell.TheVariants.{Inline, Null, Out}
use Rattle.tuple_layout.specs.declared.cell.Stored.{Stored}
use Rattle.tuple_toaster.proofs.Going.{pushed_distinct, pushed_go}
use Rattle.tuple_toaster.specs.Kept.{MayGo}
use Rattle.tuple_toaster.specs.Pushed.{pushed, size_with, tuple_target}
use Rattle.write_steps.proofs.Stepping.{saving_left}
use Rattle.write_steps.specs.Standing.{CanGoOut, CanPush, HoldsNoPin, IsOldThere, WriteStands}
use Rattle.write_steps.specs.Writes.{Parts, Writing, cell_of, new_write}
use Rattle.write_steps.specs.declared.stage.OldRow.{OldRow}

-- the columns of a row that go out
abbrev pub plan_for : List Storage → Stored → List ℕ
plan_for storages new = pushed storages (cell_widths new.cells) tuple_target

may_go : (storages : List Storage) (new : Stored) (at column : ℕ) → slice_get (plan_for storages new) at ≡ Some column → MayGo storages (cell_widths new.cells) column
may_go storages new at column e =
    subst (MayGo storages (cell_widths new.cells)) (get_or_from_slice_get (plan_for storages new) at column 0 e)
    (pushed_go storages (cell_widths new.cells) tuple_target at 0 (slice_get_within (plan_for storages new) at column e))

-- a column of a length that may go has a value in line
in_line : (cells : List Cell) (k n : ℕ) → slice_get (cell_widths cells) k ≡ Some (Within n) → (value : List ℕ) × (slice_get cells k ≡ Some (Inline value)) × (length value ≡ n)
in_line [] k n e = absurd (cc)
in_line (Null ∷ cells) zero n e = absurd (cc)
in_line (Inline value ∷ cells) zero n e = (value, refl, same (length value) n e)
  where
    same : (a b : ℕ) → Some (Within a) ≡ Some (Within b) → a ≡ b
    same a b is = cc
in_line (Out pointer ∷ cells) zero n e = absurd (cc)
in_line (cell ∷ cells) (suc k) n e = in_line cells k n e

goes_out : (new : Stored) (column : ℕ) (value : List ℕ) → All IsWithinLimits new.cells → slice_get new.cells (column - 1) ≡ Some (Inline value) → least_out ≤ length value → CanGoOut (cell_of new.cells column)
goes_out new column value limits e long =
    let is : cell_of new.cells column ≡ Inline value = get_or_from_slice_get new.cells (column - 1) (Inline value) Null e in
    let most : IsWithinLimits (Inline value) = subst IsWithinLimits is (limits (column - 1) Null (slice_get_within new.cells (column - 1) (Inline value) e)) in
    subst CanGoOut (sym is) (long, most)

-- they are columns of the row whose values may go out, each once
can_push : (storages : List Storage) (new : Stored) → length new.cells ≡ length storages → All IsWithinLimits new.cells → CanPush new (plan_for storages new) 0
can_push storages new one_each limits = record {
  there = λ at column e.
      let may = may_go storages new at column e in
      let within = may.within in
      (may.from, omega (arith, within, one_each));
  values = λ at column from e.
      let may = may_go storages new at column e in
      let has = in_line new.cells (column - 1) may.size may.inline in
      let long = may.long in
      let is = has.2 in
      goes_out new column has.0 limits has.1 (omega (arith, long, is));
  once = λ at other column e f. once at other column e f (nat_lt at other) refl (nat_lt other at) refl;
}
  where
    differ : (i j column : ℕ) → i < j → slice_get (plan_for storages new) i ≡ Some column → slice_get (plan_for storages new) j ≡ Some column → ⊥
    differ i j column low e f =
        let apart = apart_from_distinct nat_eq (plan_for storages new) i j 0 (pushed_distinct storages (cell_widths new.cells) tuple_target) low (slice_get_within (plan_for storages new) j column f) in
        let first = get_or_from_slice_get (plan_for storages new) i column 0 e in
        let second = get_or_from_slice_get (plan_for storages new) j column 0 f in
        clash column (ap (λ (n : ℕ). nat_eq n (slice_index_or (plan_for storages new) j 0)) (sym first) ∙ apart) second
      where
        clash : (c : ℕ) → nat_eq c (slice_index_or (plan_for storages new) j 0) ≡ false → slice_index_or (plan_for storages new) j 0 ≡ c → ⊥
        clash c g h =
            let same : nat_eq c (slice_index_or (plan_for storages new) j 0) ≡ true = grind (arith, nat_tests, h) in
            absurd (cc)

    once : (i j column : ℕ) → slice_get (plan_for storages new) i ≡ Some column → slice_get (plan_for storages new) j ≡ Some column → (a : Bool) → nat_lt i j ≡ a → (b : Bool) → nat_lt j i ≡ b → i ≡ j
    once i j column e f true g b h =
        let low : i < j = grind (arith, nat_tests, g) in
        absurd (differ i j column low e f)
    once i j column e f false g true h =
        let low : j < i = grind (arith, nat_tests, h) in
        absurd (differ j i column low f e)
    once i j column e f false g false h = grind (arith, nat_tests, g, h)

-- what the toaster chooses, in words of the schema and of the new row
pub chosen : (schema same : TableSchema) (new : Stored) (now : List Cell) (plan : List ℕ) → same ≡ schema → now ≡ new.cells → plan ≡ pushed same.storages (cell_widths now) tuple_target → plan ≡ plan_for schema.storages new
chosen schema same new now plan e f is = is ∙ ap (λ (s : TableSchema). pushed s.storages (cell_widths now) tuple_target) e ∙ ap (λ (cells : List Cell). pushed schema.storages (cell_widths cells) tuple_target) f

-- and how long the row's tuple is then
pub fits : (schema same : TableSchema) (new : Stored) (now : List Cell) → same ≡ schema → now ≡ new.cells → size_with same.storages (cell_widths now) (pushed same.storages (cell_widths now) tuple_target) ≤ largest_tuple
    → size_with schema.storages (cell_widths new.cells) (plan_for schema.storages new) ≤ largest_tuple
fits schema same new now e f most =
    subst (λ (s : TableSchema). size_with s.storages (cell_widths new.cells) (pushed s.storages (cell_widths new.cells) tuple_target) ≤ largest_tuple) e
    (subst (λ (cells : List Cell). size_with same.storages (cell_widths cells) (pushed same.storages (cell_widths cells) tuple_target) ≤ largest_tuple) f most)

-- the same of a plan that is equal to it
pub can_push_by : (storages : List Storage) (new : Stored) (plan : List ℕ) → plan ≡ plan_for storages new → length new.cells ≡ length storages → All IsWithinLimits new.cells → CanPush new plan 0
can_push_by storages new plan is one_each limits = subst (λ (columns : List ℕ). CanPush new columns 0) (sym is) (can_push storages new one_each limits)

-- so a write of them stands where the old version is there and its session has no pin
pub stands_first : (parts : Parts) (xid : ℕ) (old : Option OldRow) (new : Stored) (plan : List ℕ) (write : Writing) → write ≡ new_write 1 1 xid old (Some new) plan → plan ≡ plan_for parts.rows.schema.storages new
    → IsOldThere parts.rows old → HoldsNoPin parts.toast (record { table = 1; session = 1; xid = xid }) → length new.cells ≡ length parts.rows.schema.storages → All IsWithinLimits new.cells
    → size_with parts.rows.schema.storages (cell_widths new.cells) (plan_for parts.rows.schema.storages new) ≤ largest_tuple → WriteStands parts write
stands_first parts xid old new plan write is plan_is there free one_each limits fits =
    subst (WriteStands parts) (sym (is ∙ ap (λ (columns : List ℕ). new_write 1 1 xid old (Some new) columns) plan_is))
    (saving_left parts (record { table = 1; session = 1; xid = xid }) old new (plan_for parts.rows.schema.storages new) 0 there free (record { one_each = one_each; limits = limits; size = fits })
    (record {
      out = λ at column before e. absurd (omega (arith, before));
      saved = λ at pointer before e. absurd (omega (arith, before));
      apart = λ at other p q before also. absurd (omega (arith, before));
    })
    (can_push parts.rows.schema.storages new one_each limits))
