-- The worlds of a session: no table has two versions of a key in either, what its transaction has not claimed it has not touched, and what it has it sees as it is now.
use Rattle.std.proofs.Common.{ap, arith, inl, inr, refl, subst}
use Rattle.std.proofs.lemmas.Bool.{cases_Bool}
use Rattle.std.proofs.lemmas.List.Elements.{Contains-get_or}
use Rattle.std.specs.Option.{option_map, option_map_or}
use Rattle.std.specs.Prelude.{None, Option, Some, false, is_some, suc, true, zero, ℕ, ℤ, ◌≡◌}
use Rattle.slot_page.specs.declared.line.Tid.{Tid}
use Rattle.xact_status.specs.Versions.{counts_for}
use Rattle.xact_status.specs.Xacts.{session_at}
use Rattle.snapshot_registry.specs.Snapshots.{Snaps, committed_in, held_at}
use Rattle.snapshot_registry.specs.declared.Held.{Held}
use Rattle.snapshot_registry.specs.declared.Snapshot.{Snapshot}
use Rattle.row_versions.specs.Relations.{Pages}
use Rattle.row_versions.specs.declared.version.Version.{Version}
use Rattle.lock_table.specs.Held.{holds_row}
use Rattle.lock_table.specs.Locks.{held_by}
use Rattle.table_rows.proofs.Views.{one_viewed}
use Rattle.table_rows.proofs.Worlds.{key_is}
use Rattle.table_rows.specs.Views.{IsViewNow}
use Rattle.table_rows.specs.Worlds.{AreOne, IsOne, IsUntouched, IsVersionAt, Latest, Own, Shown}
use Rattle.table_state.specs.Tables.{IsTable}
use Rattle.core_state.proofs.Lists.{read_there}
use Rattle.core_state.proofs.Seats.{sound_of}
use Rattle.core_state.specs.Facts.{IsSound, IsTableMade, PartsAreSound}
use Rattle.core_state.specs.State.{CoreState, IsSession, IsTableOf, no_table, seat_of, snapshot_of, table_at, xid_of}
use Rattle.core_state.specs.Views.{counts_under, in_sight, in_view, registered}
use Rattle.core_state.specs.declared.seat.State.{State}
use Rattle.core_looks.specs.Due.{claim_of}

-- ---- tables by their numbers

pub table_sound : (c : CoreState) (t : ℕ) → IsTableOf c.tables t → IsSound c → IsTable t c.xacts c.snaps (table_at c.tables t)
table_sound c zero of sound =
    let low = of.from_one in
    absurd (omega (arith, low))
table_sound c (suc i) of sound =
    let high = of.within in
    sound.tables i (table_at c.tables (suc i)) (read_there c.tables i no_table (omega (arith, high)))

pub table_made : (c : CoreState) (t : ℕ) → IsTableOf c.tables t → PartsAreSound c → IsTableMade (table_at c.tables t)
table_made c zero of parts =
    let low = of.from_one in
    absurd (omega (arith, low))
table_made c (suc i) of parts =
    let high = of.within in
    parts.tables (table_at c.tables (suc i)) (Contains-get_or c.tables i no_table (omega (arith, high)))

-- ---- what its transaction touched

abbrev pub pages_at : CoreState → ℕ → Pages
pages_at c t = (table_at c.tables t).rows.pages

abbrev pub state_at : CoreState → ℕ → State
state_at c s = (seat_of c s).state

pub untouched : (c : CoreState) (s t x : ℕ) (key : ℤ) → IsSession c.seats s → IsSound c → xid_of (state_at c s) ≡ Some x → holds_row (held_by c.locks s).rows (claim_of t key) ≡ false → IsUntouched x (pages_at c t) key
untouched c s t x key there sound mine unclaimed = record {
  inserter = λ tid version at e. apart tid version at (sound.touched.claimed x s t tid version runs at.there (inl e));
  ender = λ tid version at e. apart tid version at (sound.touched.claimed x s t tid version runs at.there (inr e));
}
  where
    runs : session_at c.xacts x ≡ Some s
    runs = (sound_of c s there sound).runs x mine

    apart : (tid : Tid) (version : Version) → IsVersionAt (pages_at c t) key tid version → holds_row (held_by c.locks s).rows (record { table = t; key = version.key }) ≡ true → ⊥
    apart tid version at claimed =
        let here : holds_row (held_by c.locks s).rows (claim_of t key) ≡ true = subst (λ (k : ℤ). holds_row (held_by c.locks s).rows (claim_of t k) ≡ true) (key_is version.key key at.of_key) claimed in
        absurd (cc)

-- ---- its worlds

-- what is there for its transaction now
pub one_now : (c : CoreState) (s t : ℕ) (key : ℤ) → IsSession c.seats s → IsTableOf c.tables t → IsSound c → IsOne (in_sight c.xacts (state_at c s)) (pages_at c t) key
one_now c s t key there of sound = by (xid_of (state_at c s)) refl
  where
    ones : AreOne c.xacts c.snaps (pages_at c t)
    ones = (table_sound c t of sound).one

    by : (own : Option ℕ) → xid_of (state_at c s) ≡ own → IsOne (counts_for c.xacts own) (pages_at c t) key
    by None mine = ones.each Latest key tt
    by (Some x) mine = ones.each (Own x) key (ap is_some ((sound_of c s there sound).runs x mine))

-- a registered snapshot
pub record IsRegistered (snaps : Snaps) (o : Option ℕ) (snapshot : Snapshot) : Type 0 where
  pub id : ℕ
  pub held : Held
  pub is : o ≡ Some id
  pub at : held_at snaps id ≡ Some held
  pub shows : held.snapshot ≡ snapshot

pub registered_is : (snaps : Snaps) (o : Option ℕ) (snapshot : Snapshot) → registered snaps o ≡ Some snapshot → IsRegistered snaps o snapshot
registered_is snaps None snapshot e = absurd (cc)
registered_is snaps (Some id) snapshot e = by (held_at snaps id) refl e
  where
    some_is : (a b : Snapshot) → Some a ≡ Some b → a ≡ b
    some_is a b e = cc

    by : (o : Option Held) → held_at snaps id ≡ o → option_map (λ (held : Held). held.snapshot) o ≡ Some snapshot → IsRegistered snaps (Some id) snapshot
    by None at e = absurd (cc)
    by (Some held) at e = record { id = id; held = held; is = refl; at = at; shows = some_is held.snapshot snapshot e }

-- what a registered snapshot shows
pub one_shown : (c : CoreState) (t : ℕ) (key : ℤ) (o : Option ℕ) (snapshot : Snapshot) → IsTableOf c.tables t → IsSound c → registered c.snaps o ≡ Some snapshot → IsOne (committed_in c.xacts snapshot) (pages_at c t) key
one_shown c t key o snapshot of sound e =
    let its = registered_is c.snaps o snapshot e in
    let one = (table_sound c t of sound).one.each (Shown its.id) key tt in
    let here : IsOne (committed_in c.xacts its.held.snapshot) (pages_at c t) key = subst (λ (h : Option Held). IsOne (λ (xid : ℕ). option_map_or (λ (held : Held). committed_in c.xacts held.snapshot xid) h false) (pages_at c t) key) its.at one in
    subst (λ (sn : Snapshot). IsOne (committed_in c.xacts sn) (pages_at c t) key) its.shows here

-- at a key that it has claimed it sees what is there for it now
pub view_now : (c : CoreState) (s t x : ℕ) (key : ℤ) (snapshot : Snapshot) → IsSession c.seats s → IsSound c → registered c.snaps (snapshot_of (state_at c s)) ≡ Some snapshot → xid_of (state_at c s) ≡ Some x → holds_row (held_by c.locks s).rows (claim_of t key) ≡ true
    → IsViewNow c.xacts snapshot x (pages_at c t) key
view_now c s t x key snapshot there sound shown mine claimed = (sound_of c s there sound).view.claimed snapshot x (claim_of t key) shown mine claimed

-- what it sees
pub one_seen : (c : CoreState) (s t : ℕ) (key : ℤ) → IsSession c.seats s → IsTableOf c.tables t → IsSound c → IsOne (in_view c.xacts c.snaps (state_at c s)) (pages_at c t) key
one_seen c s t key there of sound = by (registered c.snaps (snapshot_of (state_at c s))) (xid_of (state_at c s)) refl refl
  where
    by : (o : Option Snapshot) (own : Option ℕ) → registered c.snaps (snapshot_of (state_at c s)) ≡ o → xid_of (state_at c s) ≡ own → IsOne (counts_under c.xacts o own) (pages_at c t) key
    by None own shown mine = subst (λ (x : Option ℕ). IsOne (counts_for c.xacts x) (pages_at c t) key) mine (one_now c s t key there of sound)
    by (Some snapshot) None shown mine = one_shown c t key (snapshot_of (state_at c s)) snapshot of sound shown
    by (Some snapshot) (Some x) shown mine =
        one_viewed c.xacts snapshot x (pages_at c t) key (one_shown c t key (snapshot_of (state_at c s)) snapshot of sound shown)
        (subst (λ (own : Option ℕ). IsOne (counts_for c.xacts own) (pages_at c t) key) mine (one_now c s t key there of sound))
        (elim (cases_Bool (holds_row (held_by c.locks s).rows (claim_of t key))) [
          | inl claimed ↦ inr (view_now c s t x key snapshot there sound shown mine claimed)
          | inr unclaimed ↦ inl (untouched c s t x key there sound mine unclaimed)
        ])
