-- What is known of a write's rows and table at its moment.
use Rattle.std.proofs.Common.{arith, subst, sym}
use Rattle.std.specs.Prelude.{Contains, List, Option, Some, length, slice_get, suc, zero, [], ℕ, ℤ, ◌∷◌, ◌≡◌}
use Rattle.list_facts.proofs.Members.{first_in, later_in}
use Rattle.tuple_layout.specs.Places.{Row}
use Rattle.tuple_layout.specs.Schemas.{HasColumns}
use Rattle.tuple_layout.specs.declared.cell.Stored.{Stored}
use Rattle.command_set.specs.declared.Set.{Set}
use Rattle.table_state.specs.declared.table.Table.{Table}
use Rattle.write_steps.specs.Standing.{CanBegin}
use Rattle.write_steps.specs.declared.stage.OldRow.{OldRow}
use Rattle.core_state.proofs.Lists.{read_there}
use Rattle.core_state.specs.Begun.{inserted_row, plan_of, updated_row}
use Rattle.core_state.specs.Commands.{AreSetsOf, IsRowOf}
use Rattle.core_state.specs.Facts.{IsSound, PartsAreSound}
use Rattle.core_state.specs.State.{CoreState, IsTableOf, no_table, schemas_of, table_at}
use Rattle.core_state.specs.Views.{row_seen}
use Rattle.core_writes.proofs.Proved.{rows_can_be_written}
use Rattle.core_writes.specs.Laws.{CanWrite, columns_of}
use Rattle.core_writing.specs.Begins.{keys_locked}

in_at : {T : Type 0} (xs : List T) (i : ℕ) (x : T) → slice_get xs i ≡ Some x → Contains xs x
in_at [] i x e = absurd (cc)
in_at (y ∷ xs) zero x e =
    let is : y ≡ x = cc in
    first_in y xs x is
in_at (y ∷ xs) (suc i) x e = later_in y xs x (in_at xs i x e)

table_there : (tables : List Table) (t : ℕ) → IsTableOf tables t → Contains tables (table_at tables t)
table_there tables zero there =
    let low = there.from_one in
    absurd (omega (arith, low))
table_there tables (suc i) there =
    let within = there.within in
    in_at tables i (table_at tables (suc i)) (read_there tables i no_table (omega (arith, within)))

-- ---- once the table is used and the keys are claimed

pub columns_locked : (c : CoreState) (s t : ℕ) (keys : List ℤ) (mid : CoreState) → PartsAreSound c → IsTableOf c.tables t → mid ≡ keys_locked c s t keys → HasColumns (length (columns_of mid t))
columns_locked c s t keys mid parts there is = subst (λ (v : CoreState). HasColumns (length (columns_of v t))) (sym is) (parts.tables (table_at c.tables t) (table_there c.tables t there)).columns

pub inserted_locked : (c : CoreState) (s t : ℕ) (keys : List ℤ) (mid : CoreState) (key : ℤ) (row : Row) (new : Stored) → IsRowOf (schemas_of c.tables) t row → mid ≡ keys_locked c s t keys → new ≡ inserted_row key row → CanWrite (columns_of mid t) new
inserted_locked c s t keys mid key row new of is new_is =
    subst (λ (v : CoreState). CanWrite (columns_of v t) new) (sym is) (subst (CanWrite (columns_of c t)) (sym new_is) (rows_can_be_written.inserted c t key row of))

pub updated_locked : (c : CoreState) (s t : ℕ) (keys : List ℤ) (mid : CoreState) (key to : ℤ) (sets : List Set) (old : OldRow) (new : Stored) → IsSound c → row_seen c s t key ≡ Some old → AreSetsOf (schemas_of c.tables) t sets → mid ≡ keys_locked c s t keys → new ≡ updated_row old.stored to sets
    → CanWrite (columns_of mid t) new
updated_locked c s t keys mid key to sets old new sound seen of is new_is =
    subst (λ (v : CoreState). CanWrite (columns_of v t) new) (sym is) (subst (CanWrite (columns_of c t)) (sym new_is) (rows_can_be_written.updated c s t key to sets old sound seen of))

-- a write of a row can begin
pub begins_by : (mid : CoreState) (t : ℕ) (old : Option OldRow) (new : Stored) (plan : List ℕ) → CanWrite (columns_of mid t) new → plan ≡ plan_of (columns_of mid t) (Some new) → CanBegin old (Some new) plan
begins_by mid t old new plan can is = subst (CanBegin old (Some new)) (sym is) (can.begins old)
