-- The plain store's reply to a command of an open transaction is the one that is due by what the core finds.
use Rattle.std.proofs.Common.{Bool, ap, arith, refl, sym, ◌∙◌}
use Rattle.std.specs.FinMap as map
use Rattle.std.specs.Option.{option_map, option_map_or, unwrap_or}
use Rattle.std.specs.Prelude.{List, None, Option, Some, [], is_none, is_some, length, map as mapped, nat_lt, slice_get, slice_index_or, suc, zero, ℕ, ℤ, ◌-◌, ◌||◌, ◌∷◌, ◌≡◌, ◌≤◌}
use Rattle.tuple_layout.specs.Places.{Row}
use Rattle.tuple_layout.specs.Schemas.{TableSchema}
use Rattle.tuple_layout.specs.Sizes.{all_out_size, largest_tuple}
use Rattle.tuple_layout.specs.Slices.{slice}
use Rattle.tuple_layout.specs.Tuples.{cell_widths}
use Rattle.tuple_layout.specs.declared.Storage.{Storage}
use Rattle.tuple_layout.specs.declared.cell.Cell.{Cell}
use Rattle.tuple_layout.specs.declared.cell.Cell.TheVariants.{Inline, Null, Out}
use Rattle.tuple_toaster.specs.Pushed.{all_moved_size}
use Rattle.toast_store.specs.Stores.{Store}
use Rattle.command_set.specs.Answers.{with_use}
use Rattle.command_set.specs.Changes.{place}
use Rattle.command_set.specs.Plain.{now_of, row_at, row_with, value_at, view_of}
use Rattle.command_set.specs.Replies.{absent, answers_if, bad_offset, busy, changed, first_of, granted, handle_there, no_handle, null, schema_of, taken, too_big}
use Rattle.command_set.specs.declared.Command.{Command}
use Rattle.command_set.specs.declared.Reply.{Reply}
use Rattle.command_set.specs.declared.Set.{Set}
use Rattle.command_set.specs.declared.state.Plain.{Plain}
use Rattle.command_set.specs.declared.state.Transaction.{Transaction}
use Rattle.table_state.specs.Rows.{cell_value}
use Rattle.table_state.specs.declared.table.Table.{Table}
use Rattle.read_steps.specs.Reads.{cell_of}
use Rattle.write_steps.specs.declared.stage.OldRow.{OldRow}
use Rattle.core_state.specs.Begun.{cells_with, inserted_row, updated_row}
use Rattle.core_state.specs.Facts.{IsSound}
use Rattle.core_state.specs.Stands.{Stands, row_in_table}
use Rattle.core_state.specs.State.{CoreState, IsSession, IsTableOf, handle_of, schemas_of, seat_of, table_at}
use Rattle.core_state.specs.Views.{held_value, row_seen}
use Rattle.core_state.specs.declared.seat.Handle.{Handle}
use Rattle.core_looks.proofs.Before.{IsBefore, before_at, in_use, opened_at, schema_is}
use Rattle.core_looks.proofs.Claims.{claimer_is}
use Rattle.core_looks.proofs.Firsts.{first_same, none_mapped, some_mapped, some_there, test_fails}
use Rattle.core_looks.proofs.Found.{values_found}
use Rattle.core_looks.proofs.Since.{changed_same}
use Rattle.core_looks.proofs.Sizes.{inserted_size, updated_size}
use Rattle.core_looks.proofs.Used.{copied_by}
use Rattle.core_looks.proofs.Views.{IsOpenAs, seen_is, there_is}
use Rattle.core_looks.proofs.Whole.{seen_long, seen_may}
use Rattle.core_looks.specs.Due.{absent_due, busy_due, cells_found, changed_due, granted_due, handle_there_due, is_null, no_handle_due, null_due, row_now, taken_due, too_big_due, too_big_once}
use Rattle.command_set.specs.declared.Command.TheVariants as commands
use Rattle.command_set.specs.declared.Reply.TheVariants as replies
use Rattle.command_set.specs.declared.state.Session.TheVariants as plain

-- ---- a row that is found

row_values : (tables : List Table) (t : ℕ) (o : Option OldRow) → unwrap_or (option_map (values_found (table_at tables t).toast) o) [] ≡ row_in_table tables t (cells_found o)
row_values tables t None = refl
row_values tables t (Some old) = refl

value_cell : (toast : Store) (cells : List Cell) (column : ℕ) → 1 ≤ column → value_at (mapped (cell_value toast) cells) column ≡ cell_value toast (cell_of cells column)
value_cell toast cells zero low = absurd (omega (arith, low))
value_cell toast cells (suc i) low =
    let place : i ≡ suc i - 1 = omega arith in
    by cells i ∙ ap (λ (k : ℕ). cell_value toast (slice_index_or cells k Null)) place
  where
    by : (cells : List Cell) (i : ℕ) → unwrap_or (slice_get (mapped (cell_value toast) cells) i) None ≡ cell_value toast (slice_index_or cells i Null)
    by [] i = refl
    by (cell ∷ cells) zero = refl
    by (cell ∷ cells) (suc i) = by cells i

null_cell : (toast : Store) (cell : Cell) → is_none (cell_value toast cell) ≡ is_null cell
null_cell toast Null = refl
null_cell toast (Inline value) = refl
null_cell toast (Out pointer) = refl

-- ---- the tests of a command that uses a table

-- a table that an open transaction uses at a command's moment, and what it finds there
pub record Finds (c : CoreState) (m : Plain) (s t : ℕ) (tr : Transaction) : Type 0 where
  pub there : IsSession c.seats s
  pub sound : IsSound c
  pub of : IsTableOf c.tables t
  pub opened : IsOpenAs c m s tr
  pub replies : List (Option Reply)
  pub stands : Stands c m replies
  -- what its reads find, and what is there for it now
  pub seen : (key : ℤ) → map.get (view_of m (with_use m tr t)) (place t key) ≡ option_map (values_found (table_at c.tables t).toast) (row_seen c s t key)
  pub now : (key : ℤ) → map.get (now_of m (with_use m tr t)) (place t key) ≡ option_map (values_found (table_at c.tables t).toast) (row_now c s t key)

pub finds_at : (c : CoreState) (m : Plain) (replies : List (Option Reply)) (s t : ℕ) (command : Command) (tr : Transaction) → IsBefore c m replies s command tr → IsTableOf c.tables t → Finds c m s t tr
finds_at c m replies s t command tr at of =
    let opened = opened_at c m replies s command tr at in
    let before = before_at c m replies s command tr at in
    record {
      there = at.there;
      sound = at.sound;
      of = of;
      opened = opened;
      replies = replies;
      stands = at.stands;
      seen = λ key. seen_is c m s t key tr at.there of before at.sound at.parts opened;
      now = λ key. there_is c m s t key tr at.there of before at.sound at.parts opened;
    }

absent_same : (c : CoreState) (m : Plain) (s t : ℕ) (key : ℤ) (tr : Transaction) → Finds c m s t tr → absent (view_of m (with_use m tr t)) (place t key) ≡ absent_due (row_seen c s t key)
absent_same c m s t key tr finds = ap (λ (o : Option Row). answers_if (is_none o) replies.Absent) (finds.seen key) ∙ ap (λ (b : Bool). answers_if b replies.Absent) (none_mapped (values_found (table_at c.tables t).toast) (row_seen c s t key))

row_same : (c : CoreState) (m : Plain) (s t : ℕ) (key : ℤ) (tr : Transaction) → Finds c m s t tr → row_at (view_of m (with_use m tr t)) (place t key) ≡ row_in_table c.tables t (cells_found (row_seen c s t key))
row_same c m s t key tr finds = ap (λ (o : Option Row). unwrap_or o []) (finds.seen key) ∙ row_values c.tables t (row_seen c s t key)

value_same : (c : CoreState) (m : Plain) (s t : ℕ) (key : ℤ) (column : ℕ) (tr : Transaction) → Finds c m s t tr → 1 ≤ column
    → value_at (row_at (view_of m (with_use m tr t)) (place t key)) column ≡ cell_value (table_at c.tables t).toast (cell_of (cells_found (row_seen c s t key)) column)
value_same c m s t key column tr finds low = ap (λ (row : Row). value_at row column) (row_same c m s t key tr finds) ∙ value_cell (table_at c.tables t).toast (cells_found (row_seen c s t key)) column low

null_same : (c : CoreState) (m : Plain) (s t : ℕ) (key : ℤ) (column : ℕ) (tr : Transaction) → Finds c m s t tr → 1 ≤ column → null (value_at (row_at (view_of m (with_use m tr t)) (place t key)) column) ≡ null_due (row_seen c s t key) column
null_same c m s t key column tr finds low =
    ap null (value_same c m s t key column tr finds low) ∙ ap (λ (b : Bool). answers_if b replies.Null) (null_cell (table_at c.tables t).toast (cell_of (cells_found (row_seen c s t key)) column))

busy_same : (c : CoreState) (m : Plain) (s t : ℕ) (key : ℤ) (tr : Transaction) → Finds c m s t tr → busy (in_use m s tr t) s (place t key) ≡ busy_due c s t key
busy_same c m s t key tr finds = ap (option_map replies.Busy) (claimer_is c m finds.replies s (plain.Open (with_use m tr t)) (place t key) finds.there.from_one finds.sound finds.stands)

taken_same : (c : CoreState) (m : Plain) (s t : ℕ) (key : ℤ) (tr : Transaction) → Finds c m s t tr → taken (in_use m s tr t) (with_use m tr t) (place t key) ≡ taken_due c s t key
taken_same c m s t key tr finds =
    ap (λ (b : Bool). answers_if (b || is_some (map.get (view_of m (with_use m tr t)) (place t key))) replies.Taken) (ap is_some (finds.now key) ∙ some_mapped (values_found (table_at c.tables t).toast) (row_now c s t key))
    ∙ ap (λ (b : Bool). answers_if (is_some (row_now c s t key) || b) replies.Taken) (ap is_some (finds.seen key) ∙ some_mapped (values_found (table_at c.tables t).toast) (row_seen c s t key))

-- where a row is found
found_there : (o : Option OldRow) → absent_due o ≡ None → (old : OldRow) × (o ≡ Some old)
found_there o e = some_there o (test_fails (is_none o) replies.Absent e)

changed_there : (c : CoreState) (m : Plain) (s t : ℕ) (key : ℤ) (tr : Transaction) (old : OldRow) → Finds c m s t tr → row_seen c s t key ≡ Some old → changed (with_use m tr t) (place t key) ≡ changed_due c s t key (row_seen c s t key)
changed_there c m s t key tr old finds seen = changed_same c m s t key tr old finds.there finds.sound finds.opened seen ∙ ap (changed_due c s t key) (sym seen)

-- ---- sizes

big_by : (storages : List Storage) (row : Row) (n : ℕ) → n ≡ all_out_size storages row → answers_if (nat_lt largest_tuple (all_out_size storages row)) (replies.TooBig (all_out_size storages row)) ≡ answers_if (nat_lt largest_tuple n) (replies.TooBig n)
big_by storages row n same = ap (λ (k : ℕ). answers_if (nat_lt largest_tuple k) (replies.TooBig k)) (sym same)

big_inserted : (c : CoreState) (m : Plain) (s t : ℕ) (key : ℤ) (row : Row) (tr : Transaction) → Finds c m s t tr → length row ≡ length (table_at c.tables t).rows.schema.storages → too_big (schema_of (schemas_of c.tables) t) row ≡ too_big_due c t (inserted_row key row)
big_inserted c m s t key row tr finds long =
    ap (λ (schema : TableSchema). too_big schema row) (schema_is c t finds.of)
    ∙ big_by (table_at c.tables t).rows.schema.storages row (all_moved_size (table_at c.tables t).rows.schema.storages (cell_widths (inserted_row key row).cells)) (inserted_size (table_at c.tables t).rows.schema.storages (table_at c.tables t).toast row long)

big_updated : (c : CoreState) (m : Plain) (s t : ℕ) (key to : ℤ) (sets : List Set) (tr : Transaction) (old : OldRow) → Finds c m s t tr → row_seen c s t key ≡ Some old
    → too_big (schema_of (schemas_of c.tables) t) (row_with (row_at (view_of m (with_use m tr t)) (place t key)) sets) ≡ too_big_once c t (λ stored. updated_row stored to sets) (row_seen c s t key)
big_updated c m s t key to sets tr old finds seen =
    let storages = (table_at c.tables t).rows.schema.storages in
    let toast = (table_at c.tables t).toast in
    ap (λ (schema : TableSchema). too_big schema (row_with (row_at (view_of m (with_use m tr t)) (place t key)) sets)) (schema_is c t finds.of)
    ∙ ap (λ (row : Row). too_big (table_at c.tables t).rows.schema (row_with row sets)) (row_same c m s t key tr finds ∙ ap (λ (o : Option OldRow). row_in_table c.tables t (cells_found o)) seen)
    ∙ big_by storages (row_with (mapped (cell_value toast) old.stored.cells) sets) (all_moved_size storages (cell_widths (cells_with old.stored.cells sets)))
    (updated_size storages toast sets old.stored.cells (seen_long c s t key old finds.there finds.of finds.sound seen) (seen_may c s t key old finds.there finds.of finds.sound seen))
    ∙ ap (too_big_once c t (λ stored. updated_row stored to sets)) (sym seen)

-- ---- commands that use a table, past their first refusals

pub get_rest : (c : CoreState) (m : Plain) (s t : ℕ) (key : ℤ) (tr : Transaction) → Finds c m s t tr
    → first_of (absent (view_of m (with_use m tr t)) (place t key) ∷ []) (granted (in_use m s tr t) (with_use m tr t) (commands.Get t key)) ≡ first_of (absent_due (row_seen c s t key) ∷ []) (granted_due c s (commands.Get t key))
get_rest c m s t key tr finds = first_same _ _ [] [] _ _ (absent_same c m s t key tr finds) (λ none. ap (λ (row : Row). replies.Row key row) (row_same c m s t key tr finds))

pub part_rest : (c : CoreState) (m : Plain) (s t : ℕ) (key : ℤ) (column : ℕ) (offset len : ℤ) (tr : Transaction) → Finds c m s t tr → 1 ≤ column
    → first_of (absent (view_of m (with_use m tr t)) (place t key) ∷ null (value_at (row_at (view_of m (with_use m tr t)) (place t key)) column) ∷ bad_offset offset ∷ []) (granted (in_use m s tr t) (with_use m tr t) (commands.Part t key column offset len))
    ≡ first_of (absent_due (row_seen c s t key) ∷ null_due (row_seen c s t key) column ∷ bad_offset offset ∷ []) (granted_due c s (commands.Part t key column offset len))
part_rest c m s t key column offset len tr finds low =
    first_same _ _ _ _ _ _ (absent_same c m s t key tr finds)
    (λ none. first_same _ _ _ _ _ _ (null_same c m s t key column tr finds low)
    (λ there. first_same (bad_offset offset) (bad_offset offset) [] [] (granted (in_use m s tr t) (with_use m tr t) (commands.Part t key column offset len)) (granted_due c s (commands.Part t key column offset len)) refl (λ good. ap (λ (value : Option (List ℕ)). replies.Bytes (slice (unwrap_or value []) offset len)) (value_same c m s t key column tr finds low))))

pub insert_rest : (c : CoreState) (m : Plain) (s t : ℕ) (key : ℤ) (row : Row) (tr : Transaction) → Finds c m s t tr → length row ≡ length (table_at c.tables t).rows.schema.storages
    → first_of (busy (in_use m s tr t) s (place t key) ∷ taken (in_use m s tr t) (with_use m tr t) (place t key) ∷ too_big (schema_of (schemas_of c.tables) t) row ∷ []) replies.Okay
    ≡ first_of (busy_due c s t key ∷ taken_due c s t key ∷ too_big_due c t (inserted_row key row) ∷ []) replies.Okay
insert_rest c m s t key row tr finds long =
    first_same _ _ _ _ _ _ (busy_same c m s t key tr finds)
    (λ free. first_same _ _ _ _ _ _ (taken_same c m s t key tr finds)
    (λ new. first_same _ _ _ _ _ _ (big_inserted c m s t key row tr finds long) (λ fits. refl)))

pub update_rest : (c : CoreState) (m : Plain) (s t : ℕ) (key : ℤ) (sets : List Set) (tr : Transaction) → Finds c m s t tr
    → first_of (absent (view_of m (with_use m tr t)) (place t key) ∷ busy (in_use m s tr t) s (place t key) ∷ changed (with_use m tr t) (place t key) ∷ too_big (schema_of (schemas_of c.tables) t) (row_with (row_at (view_of m (with_use m tr t)) (place t key)) sets) ∷ []) replies.Okay
    ≡ first_of (absent_due (row_seen c s t key) ∷ busy_due c s t key ∷ changed_due c s t key (row_seen c s t key) ∷ too_big_once c t (λ stored. updated_row stored key sets) (row_seen c s t key) ∷ []) replies.Okay
update_rest c m s t key sets tr finds =
    first_same _ _ _ _ _ _ (absent_same c m s t key tr finds)
    (λ none.
    let old = found_there (row_seen c s t key) none in
    first_same _ _ _ _ _ _ (busy_same c m s t key tr finds)
    (λ free. first_same _ _ _ _ _ _ (changed_there c m s t key tr old.0 finds old.1)
    (λ same. first_same _ _ _ _ _ _ (big_updated c m s t key key sets tr old.0 finds old.1) (λ fits. refl))))

pub delete_rest : (c : CoreState) (m : Plain) (s t : ℕ) (key : ℤ) (tr : Transaction) → Finds c m s t tr
    → first_of (absent (view_of m (with_use m tr t)) (place t key) ∷ busy (in_use m s tr t) s (place t key) ∷ changed (with_use m tr t) (place t key) ∷ []) replies.Okay
    ≡ first_of (absent_due (row_seen c s t key) ∷ busy_due c s t key ∷ changed_due c s t key (row_seen c s t key) ∷ []) replies.Okay
delete_rest c m s t key tr finds =
    first_same _ _ _ _ _ _ (absent_same c m s t key tr finds)
    (λ none.
    let old = found_there (row_seen c s t key) none in
    first_same _ _ _ _ _ _ (busy_same c m s t key tr finds)
    (λ free. first_same _ _ _ _ _ _ (changed_there c m s t key tr old.0 finds old.1) (λ same. refl)))

pub rekey_rest : (c : CoreState) (m : Plain) (s t : ℕ) (from to : ℤ) (sets : List Set) (tr : Transaction) → Finds c m s t tr
    → first_of
    (absent (view_of m (with_use m tr t)) (place t from) ∷ busy (in_use m s tr t) s (place t from) ∷ changed (with_use m tr t) (place t from) ∷ busy (in_use m s tr t) s (place t to) ∷ taken (in_use m s tr t) (with_use m tr t) (place t to)
    ∷ too_big (schema_of (schemas_of c.tables) t) (row_with (row_at (view_of m (with_use m tr t)) (place t from)) sets) ∷ []) replies.Okay
    ≡ first_of
    (absent_due (row_seen c s t from) ∷ busy_due c s t from ∷ changed_due c s t from (row_seen c s t from) ∷ busy_due c s t to ∷ taken_due c s t to ∷ too_big_once c t (λ stored. updated_row stored to sets) (row_seen c s t from) ∷ []) replies.Okay
rekey_rest c m s t from to sets tr finds =
    first_same _ _ _ _ _ _ (absent_same c m s t from tr finds)
    (λ none.
    let old = found_there (row_seen c s t from) none in
    first_same _ _ _ _ _ _ (busy_same c m s t from tr finds)
    (λ free. first_same _ _ _ _ _ _ (changed_there c m s t from tr old.0 finds old.1)
    (λ same. first_same _ _ _ _ _ _ (busy_same c m s t to tr finds)
    (λ free_to. first_same _ _ _ _ _ _ (taken_same c m s t to tr finds)
    (λ new. first_same _ _ _ _ _ _ (big_updated c m s t from to sets tr old.0 finds old.1) (λ fits. refl))))))

-- ---- handles

there_handle : (c : CoreState) (m : Plain) (s name : ℕ) (tr : Transaction) → IsOpenAs c m s tr → map.get tr.handles name ≡ option_map (λ (handle : Handle). held_value c.tables handle.table handle.held) (handle_of (seat_of c s).handles name)
there_handle c m s name tr opened = opened.stands.handles name

handle_used : (m : Plain) (tr : Transaction) (t : ℕ) → (with_use m tr t).handles ≡ tr.handles
handle_used m tr t = (copied_by m.latest tr tr.level tr.base).handles

handle_there_same : (c : CoreState) (m : Plain) (s t name : ℕ) (tr : Transaction) → Finds c m s t tr → handle_there (with_use m tr t) name ≡ handle_there_due c s name
handle_there_same c m s t name tr finds =
    ap (λ (o : Option (List ℕ)). answers_if (is_some o) replies.HandleThere) (ap (λ handles. map.get handles name) (handle_used m tr t) ∙ there_handle c m s name tr finds.opened)
    ∙ ap (λ (b : Bool). answers_if b replies.HandleThere) (some_mapped (λ (handle : Handle). held_value c.tables handle.table handle.held) (handle_of (seat_of c s).handles name))

pub open_rest : (c : CoreState) (m : Plain) (s t name : ℕ) (key : ℤ) (column : ℕ) (tr : Transaction) → Finds c m s t tr → 1 ≤ column
    → first_of (handle_there (with_use m tr t) name ∷ absent (view_of m (with_use m tr t)) (place t key) ∷ null (value_at (row_at (view_of m (with_use m tr t)) (place t key)) column) ∷ []) replies.Okay
    ≡ first_of (handle_there_due c s name ∷ absent_due (row_seen c s t key) ∷ null_due (row_seen c s t key) column ∷ []) replies.Okay
open_rest c m s t name key column tr finds low =
    first_same _ _ _ _ _ _ (handle_there_same c m s t name tr finds)
    (λ free. first_same _ _ _ _ _ _ (absent_same c m s t key tr finds) (λ none. first_same _ _ _ _ _ _ (null_same c m s t key column tr finds low) (λ there. refl)))

no_handle_same : (c : CoreState) (m : Plain) (s name : ℕ) (tr : Transaction) → IsOpenAs c m s tr → no_handle tr name ≡ no_handle_due c s name
no_handle_same c m s name tr opened =
    ap (λ (o : Option (List ℕ)). answers_if (is_none o) replies.NoHandle) (there_handle c m s name tr opened)
    ∙ ap (λ (b : Bool). answers_if b replies.NoHandle) (none_mapped (λ (handle : Handle). held_value c.tables handle.table handle.held) (handle_of (seat_of c s).handles name))

bytes_same : (c : CoreState) (o : Option Handle) → unwrap_or (option_map (λ (handle : Handle). held_value c.tables handle.table handle.held) o) [] ≡ option_map_or (λ (handle : Handle). held_value c.tables handle.table handle.held) o []
bytes_same c None = refl
bytes_same c (Some handle) = refl

pub fetch_rest : (c : CoreState) (m : Plain) (s name : ℕ) (offset len : ℤ) (tr : Transaction) → IsOpenAs c m s tr
    → first_of (no_handle tr name ∷ bad_offset offset ∷ []) (granted m tr (commands.Fetch name offset len)) ≡ first_of (no_handle_due c s name ∷ bad_offset offset ∷ []) (granted_due c s (commands.Fetch name offset len))
fetch_rest c m s name offset len tr opened =
    first_same _ _ _ _ _ _ (no_handle_same c m s name tr opened)
    (λ there. first_same (bad_offset offset) (bad_offset offset) [] [] (granted m tr (commands.Fetch name offset len)) (granted_due c s (commands.Fetch name offset len)) refl
    (λ good. ap (λ (bytes : List ℕ). replies.Bytes (slice bytes offset len)) (ap (λ (o : Option (List ℕ)). unwrap_or o []) (there_handle c m s name tr opened) ∙ bytes_same c (handle_of (seat_of c s).handles name))))

pub close_rest : (c : CoreState) (m : Plain) (s name : ℕ) (tr : Transaction) → IsOpenAs c m s tr → first_of (no_handle tr name ∷ []) replies.Okay ≡ first_of (no_handle_due c s name ∷ []) replies.Okay
close_rest c m s name tr opened = first_same _ _ _ _ _ _ (no_handle_same c m s name tr opened) (λ there. refl)
