-- What a session finds at keys that it may claim: its view is what is there now, and nobody else is about to end it.
use Rattle.std.proofs.Common.{ap, arith, cond, inl, inr, refl, subst, sym, ◌∙◌}
use Rattle.std.proofs.lemmas.Bool.Decides.{nat_tests}
use Rattle.std.specs.Option.{option_and_then, option_map_or}
use Rattle.std.specs.Ordering.{int_cmp, is_eq}
use Rattle.std.specs.Prelude.{Bool, List, None, Option, Some, false, is_some, not, true, ℕ, ℤ, ◌&&◌, ◌==◌, ◌||◌, ◌≡◌, ◌≢◌, ◌⊎◌}
use Rattle.slot_page.specs.Pages.{item_in}
use Rattle.slot_page.specs.declared.line.Tid.{Tid}
use Rattle.xact_status.proofs.Events.{committed_assign}
use Rattle.xact_status.specs.Versions.{counts_for, is_there}
use Rattle.xact_status.specs.Xacts.{IsAssigned, Xacts, after_assign, is_committed, next_xid, session_at}
use Rattle.snapshot_registry.proofs.Moments.{stays_assign}
use Rattle.snapshot_registry.specs.Snapshots.{committed_in}
use Rattle.snapshot_registry.specs.declared.Snapshot.{Snapshot}
use Rattle.value_holders.specs.Stamps.{IsOpenFor}
use Rattle.row_versions.specs.Versions.{version_stamp}
use Rattle.row_versions.specs.declared.version.Version.{Version}
use Rattle.lock_table.specs.Held.{holds_row}
use Rattle.lock_table.specs.Locks.{held_by}
use Rattle.table_rows.proofs.Records.{moments_tell, since_stays, views_stay}
use Rattle.table_rows.proofs.Sessions.{there_parts}
use Rattle.table_rows.proofs.Worlds.{key_is, there_same}
use Rattle.table_rows.specs.Steps.{AreGiven}
use Rattle.table_rows.specs.Views.{IsSince, IsViewNow}
use Rattle.table_rows.specs.Worlds.{IsOne, Latest, tuple_at, tuple_in, tuple_of}
use Rattle.table_state.specs.Tables.{stored_of}
use Rattle.table_state.specs.declared.table.Table.{Table}
use Rattle.write_steps.specs.declared.stage.OldRow.{OldRow}
use Rattle.core_state.proofs.Seats.{seat_written, sound_of}
use Rattle.core_state.proofs.Uses.{inserter_given, table_is}
use Rattle.core_state.specs.Facts.{IsSound}
use Rattle.core_state.specs.State.{CoreState, IsSession, seat_of, snapshot_of, table_at, xid_of}
use Rattle.core_state.specs.Views.{counts_under, found_row, registered}
use Rattle.core_state.specs.declared.seat.Seat.{Seat}
use Rattle.core_looks.proofs.Found.{found_is}
use Rattle.core_looks.proofs.Sights.{pages_at, untouched}
use Rattle.core_looks.specs.Due.{claim_of}
use Rattle.core_writes.proofs.Claims.{IsFree}
use Rattle.core_writes.proofs.Given.{ender_given, given_next, seat_given, snapshot_with}

-- the snapshot of a session's transaction, if it has one
abbrev pub snapshot_at : CoreState → ℕ → Option Snapshot
snapshot_at c s = registered c.snaps (snapshot_of (seat_of c s).state)

-- ---- keys that may be claimed

-- no other session has claimed the key; and where this one hasn't either, the key is as its snapshot shows it, if it has one, and is there now only where the snapshot shows something
pub record MayClaim (c : CoreState) (s t : ℕ) (key : ℤ) : Type 0 where
  pub free : IsFree c.locks s t key
  pub since : (snapshot : Snapshot) → snapshot_at c s ≡ Some snapshot → holds_row (held_by c.locks s).rows (claim_of t key) ≡ false → IsSince c.xacts snapshot (pages_at c t) key false
  pub shown : (snapshot : Snapshot) → snapshot_at c s ≡ Some snapshot → holds_row (held_by c.locks s).rows (claim_of t key) ≡ false
      → (tuple_in (is_committed c.xacts) (pages_at c t) key ≡ None) ⊎ ((tid : Tid) × (tuple : List ℕ) × (tuple_at (committed_in c.xacts snapshot) (pages_at c t) key tid ≡ Some tuple))

one_latest : (c : CoreState) (t : ℕ) (key : ℤ) → IsSound c → IsOne (is_committed c.xacts) (pages_at c t) key
one_latest c t key sound =
    table_is c t (λ (table : Table). IsOne (is_committed c.xacts) table.rows.pages key) (record { same = λ a b x y e f. absurd (cc) }) (λ number table is. is.one.each Latest key tt) sound

-- with an xid a session sees at such a key what is there for it now
pub view_now : (c : CoreState) (s t x : ℕ) (key : ℤ) (snapshot : Snapshot) → IsSession c.seats s → IsSound c → xid_of (seat_of c s).state ≡ Some x → MayClaim c s t key → snapshot_at c s ≡ Some snapshot → IsViewNow c.xacts snapshot x (pages_at c t) key
view_now c s t x key snapshot there sound mine may taken = by (holds_row (held_by c.locks s).rows (claim_of t key)) refl
  where
    by : (b : Bool) → holds_row (held_by c.locks s).rows (claim_of t key) ≡ b → IsViewNow c.xacts snapshot x (pages_at c t) key
    by true e = (sound_of c s there sound).view.claimed snapshot x (claim_of t key) taken mine e
    by false e =
        views_stay.claimed c.xacts snapshot x (pages_at c t) key (untouched c s t x key there sound mine e) (one_latest c t key sound) (may.since snapshot taken e) (may.shown snapshot taken e)

-- ---- a row that was found

-- a version of the key that a test of xids has there, stored so
pub record IsRowAt (c : CoreState) (t : ℕ) (test : ℕ → Bool) (key : ℤ) (old : OldRow) : Type 0 where
  pub version : Version
  pub there : item_in (pages_at c t) old.tid ≡ Some version
  pub of_key : is_eq (int_cmp version.key key) ≡ true
  pub stored : old.stored ≡ stored_of (table_at c.tables t).rows.schema.storages version
  pub counts : is_there test version.inserter version.ender ≡ true

-- what a look-up finds is one
pub row_found_at : (c : CoreState) (t : ℕ) (test : ℕ → Bool) (key : ℤ) (old : OldRow) → found_row (table_at c.tables t) test key ≡ Some old → IsRowAt c t test key old
row_found_at c t test key old e =
    let at = found_is test (table_at c.tables t) key old e in
    record { version = at.version; there = at.there; of_key = at.of_key; stored = at.stored; counts = at.counted }

-- of a key that it may claim, a session with an xid finds what is there for it now
pub found_now : (c : CoreState) (s t x : ℕ) (key : ℤ) (old : OldRow) → IsSession c.seats s → IsSound c → xid_of (seat_of c s).state ≡ Some x → MayClaim c s t key
    → IsRowAt c t (counts_under c.xacts (snapshot_at c s) (Some x)) key old → IsRowAt c t (counts_for c.xacts (Some x)) key old
found_now c s t x key old there sound mine may at = record {
  version = at.version;
  there = at.there;
  of_key = at.of_key;
  stored = at.stored;
  counts = by (snapshot_at c s) refl at.counts;
}
  where
    by : (o : Option Snapshot) → snapshot_at c s ≡ o → is_there (counts_under c.xacts o (Some x)) at.version.inserter at.version.ender ≡ true → is_there (counts_for c.xacts (Some x)) at.version.inserter at.version.ender ≡ true
    by None e f = f
    by (Some snapshot) e f = sym ((view_now c s t x key snapshot there sound mine may e).on old.tid at.version (record { there = at.there; of_key = at.of_key })) ∙ f

-- and may end it: no other that runs is about to
pub open_now : (c : CoreState) (s t x : ℕ) (key : ℤ) (old : OldRow) → IsSession c.seats s → IsSound c → xid_of (seat_of c s).state ≡ Some x → IsFree c.locks s t key → (at : IsRowAt c t (counts_for c.xacts (Some x)) key old)
    → IsOpenFor c.xacts x (version_stamp at.version)
open_now c s t x key old there sound mine free at = record {
  inserted = parts.0;
  unended = record {
    not_ending = λ xid e. not_ending xid e (off xid e) (session_at c.xacts xid) refl;
    not_ended = λ xid e. (or_off (x == xid) (is_committed c.xacts xid) (off xid e)).1;
  };
}
  where
    parts : (counts_for c.xacts (Some x) at.version.inserter ≡ true) × (option_map_or (counts_for c.xacts (Some x)) at.version.ender false ≡ false)
    parts = there_parts (counts_for c.xacts (Some x)) at.version.inserter at.version.ender at.counts

    off : (xid : ℕ) → at.version.ender ≡ Some xid → counts_for c.xacts (Some x) xid ≡ false
    off xid e = sym (ap (λ (o : Option ℕ). option_map_or (counts_for c.xacts (Some x)) o false) e) ∙ parts.1

    or_off : (a b : Bool) → (a || b) ≡ false → (a ≡ false) × (b ≡ false)
    or_off true b e = absurd (cc)
    or_off false b e = (refl, e)

    some_is : (a b : ℕ) → Some a ≡ Some b → a ≡ b
    some_is a b e = cc

    clash : (owner xid : ℕ) → session_at c.xacts xid ≡ Some owner → at.version.ender ≡ Some xid → (x == xid) ≡ false → (b : Bool) → (owner == s) ≡ b → ⊥
    clash owner xid runs e other true f =
        let is : owner ≡ s = grind (arith, nat_tests, f) in
        let owns : xid_of (seat_of c s).state ≡ Some xid = subst (λ (n : ℕ). xid_of (seat_of c n).state ≡ Some xid) is (sound.owners xid owner runs).1 in
        let same : x ≡ xid = some_is x xid (sym mine ∙ owns) in
        let yes : (x == xid) ≡ true = grind (arith, nat_tests, same) in
        absurd (cc)
    clash owner xid runs e other false f =
        let differ : owner ≢ s = grind (arith, nat_tests, f) in
        let claimed = sound.touched.claimed xid owner t old.tid at.version runs at.there (inr e) in
        let never : holds_row (held_by c.locks owner).rows (claim_of t at.version.key) ≡ false = ap (λ (k : ℤ). holds_row (held_by c.locks owner).rows (claim_of t k)) (key_is at.version.key key at.of_key) ∙ free owner differ in
        absurd (cc)

    not_ending : (xid : ℕ) → at.version.ender ≡ Some xid → counts_for c.xacts (Some x) xid ≡ false → (o : Option ℕ) → session_at c.xacts xid ≡ o → is_some o ≡ false
    not_ending xid e f None g = refl
    not_ending xid e f (Some owner) g = absurd (clash owner xid g e (or_off (x == xid) (is_committed c.xacts xid) f).0 (owner == s) refl)

-- ---- once the session has an xid

-- an xid that was given counts for the new one as it counted for none
under_given : (xacts : Xacts) (s : ℕ) (o : Option Snapshot) (xid : ℕ) → IsAssigned xacts xid → counts_under (after_assign xacts s) o (Some (next_xid xacts)) xid ≡ counts_under xacts o None xid
under_given xacts s o xid given =
    let low = given.below_next in
    let differ : next_xid xacts ≢ xid = λ e. absurd (omega (arith, e, low)) in
    let apart : (next_xid xacts == xid) ≡ false = grind (arith, nat_tests, differ) in
    by o apart
  where
    by : (o : Option Snapshot) → (next_xid xacts == xid) ≡ false → counts_under (after_assign xacts s) o (Some (next_xid xacts)) xid ≡ counts_under xacts o None xid
    by None apart = ap (λ (b : Bool). b || is_committed (after_assign xacts s) xid) apart ∙ committed_assign xacts s xid
    by (Some snapshot) apart = ap (λ (b : Bool). b || committed_in (after_assign xacts s) snapshot xid) apart ∙ stays_assign xacts snapshot s xid

-- so does a version whose xids were given
there_under : (c : CoreState) (s t : ℕ) (tid : Tid) (version : Version) (o : Option Snapshot) → item_in (pages_at c t) tid ≡ Some version → IsSound c
    → is_there (counts_under (after_assign c.xacts s) o (Some (next_xid c.xacts))) version.inserter version.ender ≡ is_there (counts_under c.xacts o None) version.inserter version.ender
there_under c s t tid version o there sound =
    ap (λ (b : Bool). b && not (option_map_or (counts_under (after_assign c.xacts s) o (Some (next_xid c.xacts))) version.ender false)) (under_given c.xacts s o version.inserter (inserter_given c t tid version there sound))
    ∙ ap (λ (b : Bool). counts_under c.xacts o None version.inserter && not b) (by version.ender (λ xid e. ender_given c t tid version xid there e sound))
  where
    by : (o' : Option ℕ) → ((xid : ℕ) → o' ≡ Some xid → IsAssigned c.xacts xid) → option_map_or (counts_under (after_assign c.xacts s) o (Some (next_xid c.xacts))) o' false ≡ option_map_or (counts_under c.xacts o None) o' false
    by None given = refl
    by (Some xid) given = under_given c.xacts s o xid (given xid refl)

-- the seat of the session then
pub seat_given_is : (c : CoreState) (s : ℕ) → IsSession c.seats s → seat_of (given_next c s) s ≡ seat_given c s
seat_given_is c s there = seat_written c.seats s (seat_given c s) there

pub snapshot_given : (c : CoreState) (s : ℕ) → IsSession c.seats s → snapshot_at (given_next c s) s ≡ snapshot_at c s
snapshot_given c s there = ap (registered c.snaps) (ap (λ (seat : Seat). snapshot_of seat.state) (seat_given_is c s there) ∙ snapshot_with (seat_of c s).state (next_xid c.xacts))

pub row_given : (c : CoreState) (s t : ℕ) (key : ℤ) (old : OldRow) → IsSession c.seats s → IsSound c → IsRowAt c t (counts_under c.xacts (snapshot_at c s) None) key old
    → IsRowAt (given_next c s) t (counts_under (after_assign c.xacts s) (snapshot_at (given_next c s) s) (Some (next_xid c.xacts))) key old
row_given c s t key old there sound at = record {
  version = at.version;
  there = at.there;
  of_key = at.of_key;
  stored = at.stored;
  counts = ap (λ (o : Option Snapshot). is_there (counts_under (after_assign c.xacts s) o (Some (next_xid c.xacts))) at.version.inserter at.version.ender) (snapshot_given c s there)
      ∙ there_under c s t old.tid at.version (snapshot_at c s) at.there sound ∙ at.counts;
}

pub may_given : (c : CoreState) (s t : ℕ) (key : ℤ) → IsSession c.seats s → MayClaim c s t key → MayClaim (given_next c s) s t key
may_given c s t key there may = record {
  free = may.free;
  since = λ snapshot taken e. since_stays.assigned c.xacts snapshot s (pages_at c t) key false (may.since snapshot (sym (snapshot_given c s there) ∙ taken) e);
  shown = λ snapshot taken e. elim (may.shown snapshot (sym (snapshot_given c s there) ∙ taken) e) [
    | inl none ↦ inl (moments_tell.latest_at_start c.xacts s (pages_at c t) key ∙ none)
    | inr some ↦ inr (some.0, some.1, shown_same snapshot some.0 ∙ some.2)
  ];
}
  where
    shown_same : (snapshot : Snapshot) (tid : Tid) → tuple_at (committed_in (after_assign c.xacts s) snapshot) (pages_at c t) key tid ≡ tuple_at (committed_in c.xacts snapshot) (pages_at c t) key tid
    shown_same snapshot tid = by (item_in (pages_at c t) tid)
      where
        by : (o : Option Version) → option_and_then (tuple_of (committed_in (after_assign c.xacts s) snapshot) key) o ≡ option_and_then (tuple_of (committed_in c.xacts snapshot) key) o
        by None = refl
        by (Some version) = ap (λ (b : Bool). cond (is_eq (int_cmp version.key key) && b) (Some version.tuple) None)
            (there_same (committed_in (after_assign c.xacts s) snapshot) (committed_in c.xacts snapshot) version.inserter version.ender (λ xid. stays_assign c.xacts snapshot s xid))

-- where nothing is there for a session without an xid, nothing is there for it with one
pub given_pages : (c : CoreState) (t : ℕ) → IsSound c → AreGiven c.xacts (pages_at c t)
given_pages c t sound = record {
  inserter = λ tid version e. inserter_given c t tid version e sound;
  ender = λ tid version xid e f. ender_given c t tid version xid e f sound;
}

pub none_given : (c : CoreState) (s t : ℕ) (key : ℤ) → IsSound c → tuple_in (counts_for c.xacts None) (pages_at c t) key ≡ None → tuple_in (counts_for (after_assign c.xacts s) (Some (next_xid c.xacts))) (pages_at c t) key ≡ None
none_given c s t key sound none = moments_tell.new_at_start c.xacts s (pages_at c t) key (given_pages c t sound) ∙ none
