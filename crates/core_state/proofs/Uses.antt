-- The uses of snapshots, and what a table's versions have, by a table's number.
use Rattle.std.proofs.Common.{ap, arith, inl, inr, refl, subst, sym, ◌∙◌}
use Rattle.std.proofs.lemmas.Bool.Decides.{nat_tests}
use Rattle.std.proofs.lemmas.List.Sums.{sum_by-cons}
use Rattle.std.specs.Option.{option_map_or}
use Rattle.std.specs.Prelude.{Contains, List, None, Option, Some, [], count_by, is_some, slice_get, slice_index_or, suc, sum_by, true, zero, ℕ, ◌==◌, ◌∷◌, ◌≡◌, ◌≤◌, ◌⊎◌}
use Rattle.list_facts.proofs.Members.{cases_in, none_in_nil}
use Rattle.slot_page.specs.Pages.{item_in}
use Rattle.slot_page.specs.declared.line.Tid.{Tid}
use Rattle.xact_status.specs.Xacts.{IsAssigned}
use Rattle.snapshot_registry.specs.Snapshots.{held_at, is_registered}
use Rattle.snapshot_registry.specs.declared.Held.{Held}
use Rattle.value_holders.specs.Holders.{AreSound}
use Rattle.row_versions.specs.declared.version.Version.{Version}
use Rattle.table_state.specs.Holders.{holders_of}
use Rattle.table_state.specs.Tables.{IsTable}
use Rattle.table_state.specs.declared.table.Table.{Table}
use Rattle.core_state.proofs.Lists.{count_more, one_if, read_found}
use Rattle.core_state.proofs.Seats.{uses_by}
use Rattle.core_state.specs.Facts.{IsSound}
use Rattle.core_state.specs.State.{CoreState, no_table, table_at, uses_of}
use Rattle.core_state.specs.declared.seat.Seat.{Seat}

pub sum_at_least : {T : Type 0} (f : T → ℕ) (xs : List T) (i : ℕ) (x : T) → slice_get xs i ≡ Some x → f x ≤ sum_by f xs
sum_at_least f [] i x e = absurd (cc)
sum_at_least f (y ∷ xs) zero x e =
    let is : y ≡ x = cc in
    let same : f y ≡ f x = ap f is in
    let all = sum_by-cons f y xs in
    omega (arith, same, all)
sum_at_least f (y ∷ xs) (suc i) x e =
    let rest = sum_at_least f xs i x e in
    let all = sum_by-cons f y xs in
    omega (arith, rest, all)

pub counted_in : (ids : List ℕ) (id : ℕ) → Contains ids id → 1 ≤ count_by (λ other. other == id) ids
counted_in [] id h = absurd (none_in_nil id h)
counted_in (other ∷ ids) id h = elim (cases_in other ids id h) [
  | inl e ↦
      let same : (other == id) ≡ true = grind (arith, nat_tests, e) in
      let one : one_if (other == id) ≡ 1 = ap one_if same in
      let all = count_more (λ (n : ℕ). n == id) other ids in
      omega (arith, one, all)
  | inr e ↦
      let rest = counted_in ids id e in
      let all = count_more (λ (n : ℕ). n == id) other ids in
      omega (arith, rest, all)
]

registered_by : (o : Option Held) → 1 ≤ option_map_or (λ (held : Held). held.holders) o 0 → is_some o ≡ true
registered_by None h = absurd (omega (arith, h))
registered_by (Some held) h = refl

-- a snapshot that a session uses is registered
pub registered_use : (c : CoreState) (i : ℕ) (seat : Seat) (id : ℕ) → slice_get c.seats i ≡ Some seat → Contains (uses_of seat) id → IsSound c → is_registered c.snaps id ≡ true
registered_use c i seat id at used sound =
    let some = counted_in (uses_of seat) id used in
    let most = sum_at_least (uses_by id) c.seats i seat at in
    let same = sound.counted id in
    registered_by (held_at c.snaps id) (omega (arith, some, most, same))

-- ---- tables by number

pub table_cases : (tables : List Table) (t : ℕ) → (table_at tables t ≡ no_table) ⊎ ((i : ℕ) × (t ≡ suc i) × (slice_get tables i ≡ Some (table_at tables t)))
table_cases tables zero = inl refl
table_cases tables (suc i) = by (slice_get tables i) refl
  where
    beyond : (ts : List Table) (n : ℕ) → slice_get ts n ≡ None → slice_index_or ts n no_table ≡ no_table
    beyond [] n e = refl
    beyond (x ∷ ts) zero e = absurd (cc)
    beyond (x ∷ ts) (suc n) e = beyond ts n e

    by : (o : Option Table) → slice_get tables i ≡ o → (slice_index_or tables i no_table ≡ no_table) ⊎ ((k : ℕ) × (suc i ≡ suc k) × (slice_get tables k ≡ Some (slice_index_or tables i no_table)))
    by None e = inl (beyond tables i e)
    by (Some table) e = inr (i, refl, e ∙ ap Some (sym (read_found tables i table no_table e)))

-- what is true of each table, by its number
pub table_is : (c : CoreState) (t : ℕ) (P : Table → Type 0) → P no_table → ((number : ℕ) (table : Table) → IsTable number c.xacts c.snaps table → P table) → IsSound c → P (table_at c.tables t)
table_is c t P none each sound = elim (table_cases c.tables t) [
  | inl h ↦ subst P (sym h) none
  | inr h ↦ each (suc h.0) (table_at c.tables t) (sound.tables h.0 (table_at c.tables t) h.2)
]

-- the inserter of a version was given its xid
pub inserter_given : (c : CoreState) (t : ℕ) (tid : Tid) (version : Version) → item_in (table_at c.tables t).rows.pages tid ≡ Some version → IsSound c → IsAssigned c.xacts version.inserter
inserter_given c t tid version e sound =
    table_is c t (λ (table : Table). item_in table.rows.pages tid ≡ Some version → IsAssigned c.xacts version.inserter) (λ f. absurd (cc)) (λ number table is f. is.given.inserter tid version f) sound e

-- the holders of a value have sound stamps
pub holders_sound : (c : CoreState) (t value_id : ℕ) → IsSound c → AreSound c.xacts (holders_of (table_at c.tables t).rows.schema.storages (table_at c.tables t).rows.pages value_id)
holders_sound c t value_id sound =
    table_is c t (λ (table : Table). AreSound c.xacts (holders_of table.rows.schema.storages table.rows.pages value_id)) (record { each = λ place stamp e. absurd (cc) }) (λ number table is. (is.held value_id).sound) sound
