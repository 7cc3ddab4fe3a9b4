-- A new core is sound, and stands for the plain store's first state.
use Rattle.std.proofs.Common.{add-one, ap, append_assoc, arith, get_or, inl, inr, refl, subst, sym, ◌∙◌}
use Rattle.std.proofs.Math.Seq.{drop-cons}
use Rattle.std.proofs.lemmas.List.Folds.{sum_by-replicate}
use Rattle.std.specs.FinMap as map
use Rattle.std.specs.Prelude.{Bool, List, None, Some, [], count_by, false, length, nat_lt, option_and_then, drop, option_to_list, replicate, slice_get, slice_index_or, suc, sum_by, true, zero, ℕ, ◌*◌, ◌+◌, ◌++◌, ◌<◌, ◌==◌, ◌∷◌, ◌≡◌, ◌≤◌, if◌then◌else◌}
use Rattle.list_facts.proofs.Members.{none_in_nil}
use Rattle.tuple_layout.specs.Places.{place_cmp}
use Rattle.tuple_layout.specs.Schemas.{TableSchema}
use Rattle.tuple_layout.specs.declared.Place.{Place}
use Rattle.command_set.specs.Plain.{first_state}
use Rattle.command_set.specs.declared.Reply.{Reply}
use Rattle.command_set.specs.declared.state.Session.{Session}
use Rattle.xact_status.specs.Xacts.{first_xid, session_at, session_of}
use Rattle.snapshot_registry.proofs.Moments.{registry_none}
use Rattle.chunk_index.specs.Leaves.{Leaf}
use Rattle.chunk_index.specs.Pinned.{pin_of}
use Rattle.lock_table.specs.Held.{nothing}
use Rattle.lock_table.specs.Locks.{held_by}
use Rattle.lock_table.specs.declared.held.SessionLocks.{SessionLocks}
use Rattle.value_ids.specs.Ids.{IsPool, Pool}
use Rattle.table_state.proofs.Tells.{tables_tell}
use Rattle.table_state.specs.LookUps.{no_rows}
use Rattle.table_state.specs.Tables.{IsTable, row_in}
use Rattle.table_state.specs.declared.table.Table.{Table}
use Rattle.core_state.proofs.Lists.{in_append, only_one}
use Rattle.core_state.proofs.Overs.{seat_bare}
use Rattle.core_state.proofs.Uses.{table_cases}
use Rattle.core_state.specs.Facts.{IsSound, IsTableMade, SeatIsSound}
use Rattle.core_state.specs.Stands.{SessionStands, Stands, pending_of}
use Rattle.core_state.specs.State.{nobody, no_table, table_at, uses_of, xid_of}
use Rattle.core_state.specs.Views.{row_at}
use Rattle.core_state.specs.declared.seat.Seat.{Seat}
use Rattle.core_parts.specs.First.{AreTablesMade, first_core, tables_from, tables_of}
use Rattle.command_set.specs.declared.state.Session.TheVariants as sessions
use Rattle.core_state.specs.declared.seat.State.TheVariants as states

-- ---- lists of copies

copied : {T : Type 0} (n i : ℕ) (x y : T) → slice_get (replicate n x) i ≡ Some y → y ≡ x
copied zero i x y e = absurd (cc)
copied (suc n) zero x y e = cc
copied (suc n) (suc i) x y e = copied n i x y e

copied_or : {T : Type 0} (n i : ℕ) (x : T) → slice_index_or (replicate n x) i x ≡ x
copied_or zero i x = refl
copied_or (suc n) zero x = refl
copied_or (suc n) (suc i) x = copied_or n i x

copies : {T : Type 0} (n : ℕ) (x : T) → length (replicate n x) ≡ n
copies zero x = refl
copies (suc n) x = ap suc (copies n x)

-- ---- tables without a row

-- such a table, under some number
pub record IsRowless (table : Table) : Type 0 where
  pub number : ℕ
  pub schema : TableSchema
  pub is : table ≡ no_rows schema number

tables_long : (number : ℕ) (schemas : List TableSchema) → length (tables_from number schemas) ≡ length schemas
tables_long number [] = refl
tables_long number (schema ∷ schemas) = ap suc (tables_long (number + 1) schemas)

table_first : (number i : ℕ) (schemas : List TableSchema) (table : Table) → slice_get (tables_from number schemas) i ≡ Some table → (schema : TableSchema) × (table ≡ no_rows schema (number + i))
table_first number i [] table e = absurd (cc)
table_first number zero (schema ∷ schemas) table e =
    let is : no_rows schema number ≡ table = cc in
    let same : number ≡ number + 0 = omega arith in
    (schema, sym is ∙ ap (no_rows schema) same)
table_first number (suc i) (schema ∷ schemas) table e =
    let rest = table_first (number + 1) i schemas table e in
    let same : number + 1 + i ≡ number + suc i = omega arith in
    (rest.0, rest.1 ∙ ap (no_rows rest.0) same)

rowless : (schemas : List TableSchema) (t : ℕ) (P : Table → Type 0) → P no_table → ((schema : TableSchema) (number : ℕ) → P (no_rows schema number)) → P (table_at (tables_of schemas) t)
rowless schemas t P none each = elim (table_cases (tables_of schemas) t) [
  | inl h ↦ subst P (sym h) none
  | inr h ↦
      let first = table_first 1 h.0 schemas (table_at (tables_of schemas) t) h.2 in
      subst P (sym first.1) (each first.0 (1 + h.0))
]

no_pins : (schemas : List TableSchema) (t s : ℕ) → pin_of (table_at (tables_of schemas) t).toast.index.pins s ≡ None
no_pins schemas t s = rowless schemas t (λ (table : Table). pin_of table.toast.index.pins s ≡ None) refl (λ schema number. refl)

-- ---- the core

no_xact : (xid s : ℕ) → session_at [] xid ≡ Some s → ⊥
no_xact xid s e = by (nat_lt xid first_xid) e
  where
    by : (b : Bool) → option_and_then session_of (if b then None else None) ≡ Some s → ⊥
    by true e = absurd (cc)
    by false e = absurd (cc)

no_lock : (n s : ℕ) → held_by (replicate n nothing) s ≡ nothing
no_lock n s = copied_or n s nothing

first_seat : (schemas : List TableSchema) (ids : Pool) (n s : ℕ) → ids.in_hand ≡ [] → SeatIsSound [] [] ids (held_by (replicate n nothing) s) (tables_of schemas) s nobody
first_seat schemas ids n s none =
    subst (λ (held : SessionLocks). SeatIsSound [] [] ids held (tables_of schemas) s nobody) (sym (no_lock n s))
    (seat_bare [] [] ids (tables_of schemas) s states.Outside (record { xid = refl; snapshot = refl })
    (record { each = λ t leaf e. absurd (some (sym (no_pins schemas t s) ∙ e)) })
    (record { each = λ one there of. absurd (none_in_nil one (rw none at there)) }))
  where
    some : {leaf : Leaf} → None ≡ Some leaf → ⊥
    some e = absurd (cc)

pub first_sound : (schemas : List TableSchema) (low high n : ℕ) → length schemas ≤ 16 → n ≤ 64 → IsSound (first_core schemas low high n)
first_sound schemas low high n few_tables few_seats = record {
  few = (rw (tables_long 1 schemas) few_tables, rw (copies n nobody) few_seats);
  places =
      let places = copies (n + 1) nothing in
      let seats = copies n nobody in
      omega (arith, places, seats);
  registry = registry_none;
  counted = λ id. sym (none_of (λ (seat : Seat). count_by (λ other. other == id) (uses_of seat)) refl);
  room = sym (none_of (λ (seat : Seat). length (option_to_list (xid_of seat.state))) refl);
  tables = λ i table e.
      let first = table_first 1 i schemas table e in
      let number : 1 + i ≡ suc i = omega arith in
      subst (IsTable (suc i) [] []) (sym (first.1 ∙ ap (no_rows first.0) number)) (tables_tell.empty (suc i) [] [] first.0);
  each = λ i seat e. subst (SeatIsSound [] [] _ (held_by (replicate (n + 1) nothing) (suc i)) (tables_of schemas) (suc i)) (sym (copied n i nobody seat e)) (first_seat schemas _ (n + 1) (suc i) refl);
  owners = λ xid s e. absurd (no_xact xid s e);
  apart = record {
    nobody = no_lock (n + 1) 0;
    claims = λ s other row differ e. rw (no_lock (n + 1) other) refl;
  };
  hands = record { once = λ a b here. absurd (none_in_nil a here) };
  touched = record { used = λ xid s t tid version e. absurd (no_xact xid s e); claimed = λ xid s t tid version e. absurd (no_xact xid s e) };
  log = record { given = λ entry e. absurd (none_in_nil entry e); put = λ entry e. absurd (none_in_nil entry e); changed = λ entry s p e. absurd (none_in_nil entry e) };
}
  where
    none_of : (f : Seat → ℕ) → f nobody ≡ 0 → sum_by f (replicate n nobody) ≡ 0
    none_of f e =
        let all = sum_by-replicate f n nobody in
        let zeros : n * f nobody ≡ 0 = rw e (zero_of n) in
        all ∙ zeros
      where
        zero_of : (m : ℕ) → m * 0 ≡ 0
        zero_of m = omega arith

no_row : (schemas : List TableSchema) (counts : ℕ → Bool) (p : Place) → row_at (tables_of schemas) counts p ≡ None
no_row schemas counts p = rowless schemas p.table (λ (table : Table). row_in table counts p.key ≡ None) refl (λ schema number. refl)

pub first_stands : (schemas : List TableSchema) (low high n : ℕ) → Stands (first_core schemas low high n) (first_state n) (replicate n None)
first_stands schemas low high n = record {
  latest = λ p. map.get-empty place_cmp p ∙ sym (no_row schemas _ p);
  count = copies n sessions.Outside ∙ sym (copies n nobody);
  sessions = λ i seat session e f.
      subst (λ (x : Seat). SessionStands [] [] (held_by (replicate (n + 1) nothing) (suc i)) [] (tables_of schemas) map.empty x x.state session) (sym (copied n i nobody seat e))
      (subst (λ (x : Session). SessionStands [] [] (held_by (replicate (n + 1) nothing) (suc i)) [] (tables_of schemas) map.empty nobody states.Outside x) (sym (copied n i sessions.Outside session f)) tt);
  upkeep = refl;
  pending = λ i seat reply e f. absurd (idle (sym (ap (λ (x : Seat). pending_of (tables_of schemas) x.job) (copied n i nobody seat e)) ∙ f));
}
  where
    idle : {reply : Reply} → None ≡ Some reply → ⊥
    idle e = absurd (cc)

pub first_pool : (low high : ℕ) → low ≤ high → IsPool (record { low = low; high = high; next = low; in_hand = [] })
first_pool low high ordered = record { from_low = omega arith; to_high = ordered }

-- ---- tables that are made one after another

pub tables_pushed : (tables : List Table) (schemas : List TableSchema) (i : ℕ) (schema : TableSchema) (table : Table) → i < length schemas → schema ≡ get_or schemas i schema → table ≡ no_rows schema (i + 1)
    → tables ++ tables_from (i + 1) (drop i schemas) ≡ tables_from 1 schemas → (tables ++ table ∷ []) ++ tables_from (i + 1 + 1) (drop (i + 1) schemas) ≡ tables_from 1 schemas
tables_pushed tables schemas i schema table within is made all =
    let split : drop i schemas ≡ schema ∷ drop (i + 1) schemas = rw (add-one, drop-cons schemas i schema) (ap (λ (x : TableSchema). x ∷ drop (suc i) schemas) (sym is)) in
    let here : tables_from (i + 1) (drop i schemas) ≡ table ∷ tables_from (i + 1 + 1) (drop (i + 1) schemas) = ap (tables_from (i + 1)) split ∙ ap (λ (x : Table). x ∷ tables_from (i + 1 + 1) (drop (i + 1) schemas)) (sym made) in
    append_assoc tables (table ∷ []) (tables_from (i + 1 + 1) (drop (i + 1) schemas)) ∙ ap (λ (xs : List Table). tables ++ xs) (sym here) ∙ all

pub made_pushed : (tables : List Table) (table : Table) → AreTablesMade tables → IsTableMade table → AreTablesMade (tables ++ table ∷ [])
made_pushed tables table made new = record {
  each = λ other e. elim (in_append tables (table ∷ []) other e) [
    | inl h ↦ made.each other h
    | inr h ↦ subst IsTableMade (only_one table other h) new
  ];
}
