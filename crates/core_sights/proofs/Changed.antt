-- A row that a session sees has changed since its snapshot exactly where it is not the row that is there for it now.
use Rattle.std.proofs.Common.{ap, refl, subst, sym, ◌∙◌}
use Rattle.std.specs.Option.{option_map, option_map_or}
use Rattle.std.specs.Ordering.{int_cmp, is_eq}
use Rattle.std.specs.Prelude.{Bool, None, Option, Some, false, is_some, not, true, ℕ, ℤ, ◌&&◌, ◌==◌, ◌||◌, ◌≡◌}
use Rattle.slot_page.specs.Pages.{item_in}
use Rattle.xact_status.specs.Versions.{counts_for, is_there}
use Rattle.xact_status.specs.Xacts.{Xacts, is_committed}
use Rattle.snapshot_registry.specs.Snapshots.{committed_in, held_at, takes_effect}
use Rattle.snapshot_registry.specs.declared.Held.{Held}
use Rattle.snapshot_registry.specs.declared.Snapshot.{Snapshot}
use Rattle.row_versions.specs.declared.version.Version.{Version}
use Rattle.lock_table.specs.Held.{holds_row}
use Rattle.lock_table.specs.Locks.{held_by}
use Rattle.table_rows.specs.Views.{is_found}
use Rattle.write_steps.specs.declared.stage.OldRow.{OldRow}
use Rattle.core_state.proofs.Seats.{sound_of}
use Rattle.core_state.specs.State.{CoreState, seat_of, snapshot_of, table_at, xid_of}
use Rattle.core_state.specs.Views.{counts_under, in_view, registered, row_seen}
use Rattle.core_looks.proofs.Found.{IsAt, found_is}
use Rattle.core_looks.proofs.Sights.{pages_at, view_now}
use Rattle.core_looks.specs.Due.{claim_of, has_changed, is_ended_at}
use Rattle.core_sights.proofs.Looks.{snapshot_there}
use Rattle.core_sights.specs.Now.{is_there_now}
use Rattle.core_sights.specs.Ready.{CanLook}

-- ---- one version

both : (a b : Bool) → (a && b) ≡ true → (a ≡ true) × (b ≡ true)
both true b e = (refl, e)
both false b e = absurd (cc)

-- what takes effect in a snapshot counts
counts : (mine committed shown : Bool) → (mine || (committed && shown)) ≡ true → (mine || committed) ≡ true
counts true committed shown e = refl
counts false true shown e = refl
counts false false shown e = absurd (cc)

-- an end that takes no effect is not the transaction's own
not_own : (mine shown : Bool) → not (mine || shown) ≡ true → mine ≡ false
not_own true shown e = absurd (cc)
not_own false shown e = refl

-- what a transaction sees by a snapshot is there for it now unless the end has committed
pub there_unless : (xacts : Xacts) (snapshot : Snapshot) (own : Option ℕ) (inserter : ℕ) (ender : Option ℕ) → is_there (takes_effect xacts snapshot own) inserter ender ≡ true
    → is_there (counts_for xacts own) inserter ender ≡ not (option_map_or (is_committed xacts) ender false)
there_unless xacts snapshot own inserter None e =
    let parts = both (takes_effect xacts snapshot own inserter) true e in
    ap (λ (b : Bool). b && true) (counts (option_map_or (λ mine. mine == inserter) own false) (is_committed xacts inserter) _ parts.0)
there_unless xacts snapshot own inserter (Some end) e =
    let parts = both (takes_effect xacts snapshot own inserter) (not (takes_effect xacts snapshot own end)) e in
    ap (λ (b : Bool). b && not (counts_for xacts own end)) (counts (option_map_or (λ mine. mine == inserter) own false) (is_committed xacts inserter) _ parts.0)
    ∙ ap (λ (b : Bool). not (b || is_committed xacts end)) (not_own (option_map_or (λ mine. mine == end) own false) (committed_in xacts snapshot end) parts.1)

-- ---- a row that is seen

-- at a key that the session has claimed it is there now
claimed_there : (c : CoreState) (s t : ℕ) (key : ℤ) (snapshot : Snapshot) (own : Option ℕ) (old : OldRow) (at : IsAt (takes_effect c.xacts snapshot own) (table_at c.tables t) key old) → CanLook c s t → registered c.snaps (snapshot_of (seat_of c s).state) ≡ Some snapshot
    → xid_of (seat_of c s).state ≡ own → holds_row (held_by c.locks s).rows (claim_of t key) ≡ true → is_there (counts_for c.xacts own) at.version.inserter at.version.ender ≡ true
claimed_there c s t key snapshot None old at look shown mine claimed =
    let none = (sound_of c s look.there look.sound).locks.unclaimed (claim_of t key) mine in
    absurd (cc)
claimed_there c s t key snapshot (Some x) old at look shown mine claimed =
    sym ((view_now c s t x key snapshot look.there look.sound shown mine claimed).on old.tid at.version (record { there = at.there; of_key = at.of_key })) ∙ at.counted

-- what a look-up of what is there now finds of it
found_there : (c : CoreState) (t : ℕ) (key : ℤ) (own : Option ℕ) (old : OldRow) (version : Version) → item_in (pages_at c t) old.tid ≡ Some version → is_eq (int_cmp version.key key) ≡ true
    → is_found (counts_for c.xacts own) (pages_at c t) key old.tid ≡ is_there (counts_for c.xacts own) version.inserter version.ender
found_there c t key own old version there of_key =
    ap (λ (o : Option Version). option_map_or (λ version. is_eq (int_cmp version.key key)) o false && option_map_or (λ version. is_there (counts_for c.xacts own) version.inserter version.ender) o false) there
    ∙ ap (λ (b : Bool). b && is_there (counts_for c.xacts own) version.inserter version.ender) of_key

changed_by : (c : CoreState) (s t : ℕ) (key : ℤ) (snapshot : Snapshot) (old : OldRow) → CanLook c s t → registered c.snaps (snapshot_of (seat_of c s).state) ≡ Some snapshot → row_seen c s t key ≡ Some old
    → (is_ended_at c.xacts (table_at c.tables t) old.tid && not (holds_row (held_by c.locks s).rows (claim_of t key))) ≡ not (is_there_now c s t key old.tid)
changed_by c s t key snapshot old look shown seen =
    ap (λ (b : Bool). b && not (holds_row (held_by c.locks s).rows (claim_of t key))) ended
    ∙ by (holds_row (held_by c.locks s).rows (claim_of t key)) (option_map_or (is_committed c.xacts) at.version.ender false) refl refl
    ∙ sym (ap not (found_there c t key own old at.version at.there at.of_key))
  where
    own : Option ℕ
    own = xid_of (seat_of c s).state

    at : IsAt (takes_effect c.xacts snapshot own) (table_at c.tables t) key old
    at = subst (λ (o : Option Snapshot). IsAt (counts_under c.xacts o own) (table_at c.tables t) key old) shown (found_is (in_view c.xacts c.snaps (seat_of c s).state) (table_at c.tables t) key old seen)

    ended : is_ended_at c.xacts (table_at c.tables t) old.tid ≡ option_map_or (is_committed c.xacts) at.version.ender false
    ended = ap (λ (o : Option Version). option_map_or (λ version. option_map_or (is_committed c.xacts) version.ender false) o false) at.there

    unless : is_there (counts_for c.xacts own) at.version.inserter at.version.ender ≡ not (option_map_or (is_committed c.xacts) at.version.ender false)
    unless = there_unless c.xacts snapshot own at.version.inserter at.version.ender at.counted

    never : (a b : Bool) → b ≡ true → (a && false) ≡ not b
    never true true e = refl
    never false true e = refl
    never a false e = absurd (cc)

    twice : (a b : Bool) → b ≡ not a → (a && true) ≡ not b
    twice true true e = absurd (cc)
    twice true false e = refl
    twice false true e = refl
    twice false false e = absurd (cc)

    by : (claimed end : Bool) → holds_row (held_by c.locks s).rows (claim_of t key) ≡ claimed → option_map_or (is_committed c.xacts) at.version.ender false ≡ end → (end && not claimed) ≡ not (is_there (counts_for c.xacts own) at.version.inserter at.version.ender)
    by true end claimed ends = never end (is_there (counts_for c.xacts own) at.version.inserter at.version.ender) (claimed_there c s t key snapshot own old at look shown refl claimed)
    by false end claimed ends = twice end (is_there (counts_for c.xacts own) at.version.inserter at.version.ender) (unless ∙ ap not ends)

-- ---- whether it has changed

pub changed_is : (c : CoreState) (s t : ℕ) (key : ℤ) (id : ℕ) (old : OldRow) → CanLook c s t → snapshot_of (seat_of c s).state ≡ Some id → row_seen c s t key ≡ Some old
    → not (is_there_now c s t key old.tid) ≡ has_changed c s t key old
changed_is c s t key id old look mine seen = by (held_at c.snaps id) refl (snapshot_there c s t id look mine)
  where
    changed : Bool
    changed = is_ended_at c.xacts (table_at c.tables t) old.tid && not (holds_row (held_by c.locks s).rows (claim_of t key))

    by : (h : Option Held) → held_at c.snaps id ≡ h → is_some h ≡ true → not (is_there_now c s t key old.tid) ≡ has_changed c s t key old
    by None at there = absurd (cc)
    by (Some held) at there =
        let is : registered c.snaps (snapshot_of (seat_of c s).state) ≡ Some held.snapshot = ap (registered c.snaps) mine ∙ ap (option_map (λ (h : Held). h.snapshot)) at in
        sym (changed_by c s t key held.snapshot old look is seen) ∙ sym (ap (λ (o : Option Snapshot). is_some o && changed) is)
