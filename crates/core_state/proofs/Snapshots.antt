-- Every session goes on as it was when another takes a snapshot, has a share of one, or gives one up.
use Rattle.std.proofs.Common.{refl}
use Rattle.std.specs.Prelude.{Bool, Contains, None, Option, Some, false, slice_get, suc, true, ℕ, ◌≡◌}
use Rattle.slot_page.specs.declared.line.Tid.{Tid}
use Rattle.xact_status.specs.Xacts.{IsAssigned, Xacts}
use Rattle.snapshot_registry.proofs.Unprotected.{unprotected_stays}
use Rattle.snapshot_registry.specs.Laws.{IsUnprotected}
use Rattle.snapshot_registry.specs.Snapshots.{Snaps, after_release, after_share, after_take, is_protected, is_registered, sees_at}
use Rattle.value_holders.proofs.Events.{are_ended_stay}
use Rattle.value_holders.proofs.Readers.{readers_are_safe}
use Rattle.value_holders.specs.Holders.{AreEnded, AreSound, Holders}
use Rattle.lock_table.specs.Locks.{held_by}
use Rattle.table_state.specs.Holders.{holders_of}
use Rattle.core_state.proofs.Frames.{IsLaterFor}
use Rattle.core_state.proofs.Uses.{holders_sound, inserter_given, registered_use}
use Rattle.core_state.specs.Facts.{IsSound}
use Rattle.core_state.specs.State.{CoreState, table_at, uses_of, xid_of}
use Rattle.core_state.specs.declared.seat.Seat.{Seat}

-- what had not to be kept has not to be kept later
pub fewer_by : (xacts new : Xacts) (snaps later : Snaps) (inserter : ℕ) (ender : Option ℕ) → IsAssigned xacts inserter → (IsUnprotected xacts snaps inserter ender → IsUnprotected new later inserter ender)
    → is_protected new later inserter ender ≡ true → is_protected xacts snaps inserter ender ≡ true
fewer_by xacts new snaps later inserter ender given stays e = by (is_protected xacts snaps inserter ender) refl
  where
    by : (b : Bool) → is_protected xacts snaps inserter ender ≡ b → b ≡ true
    by true f = refl
    by false f =
        let after = (stays (record { given = given; unprotected = f })).unprotected in
        absurd (cc)

-- the snapshots are later ones for a session, the statuses are the same
later_snaps : (c : CoreState) (i : ℕ) (seat : Seat) (later : Snaps) → slice_get c.seats i ≡ Some seat → IsSound c
    → ((id inserter : ℕ) (ender : Option ℕ) → is_registered c.snaps id ≡ true → Contains (uses_of seat) id → sees_at c.xacts later id inserter ender None ≡ sees_at c.xacts c.snaps id inserter ender None)
    → ((inserter : ℕ) (ender : Option ℕ) → IsUnprotected c.xacts c.snaps inserter ender → IsUnprotected c.xacts later inserter ender)
    → ((xid : ℕ) (holders : Holders Tid) → AreSound c.xacts holders → AreEnded c.xacts c.snaps holders xid → AreEnded c.xacts later holders xid)
    → IsLaterFor c.xacts c.xacts c.snaps later c.tables (held_by c.locks (suc i)) (uses_of seat) (xid_of seat.state)
later_snaps c i seat later at sound shows stays ends = record {
  seen = λ id inserter ender used. shows id inserter ender (registered_use c i seat id at used sound) used;
  fewer = λ t tid version e f. fewer_by c.xacts c.xacts c.snaps later version.inserter version.ender (inserter_given c t tid version e sound) (stays version.inserter version.ender) f;
  counts = λ xid inserter e f. f;
  unended = λ ender e. e;
  ended = λ t xid value_id e f. ends xid (holders_of (table_at c.tables t).rows.schema.storages (table_at c.tables t).rows.pages value_id) (holders_sound c t value_id sound) f;
  alone = λ t xid key e f g. g;
}

-- another takes a snapshot
pub later_taken : (c : CoreState) (i : ℕ) (seat : Seat) → slice_get c.seats i ≡ Some seat → IsSound c
    → IsLaterFor c.xacts c.xacts c.snaps (after_take c.snaps c.xacts) c.tables (held_by c.locks (suc i)) (uses_of seat) (xid_of seat.state)
later_taken c i seat at sound =
    later_snaps c i seat (after_take c.snaps c.xacts) at sound
    (λ id inserter ender registered used. readers_are_safe.seen_past_take c.xacts c.snaps id inserter ender None registered)
    (λ inserter ender e. unprotected_stays.taken c.xacts c.snaps inserter ender e)
    (λ xid holders is e. are_ended_stay.taken c.xacts c.snaps xid holders is e)

-- another has a share of one
pub later_shared : (c : CoreState) (i : ℕ) (seat : Seat) (shared : ℕ) → is_registered c.snaps shared ≡ true → slice_get c.seats i ≡ Some seat → IsSound c
    → IsLaterFor c.xacts c.xacts c.snaps (after_share c.snaps shared) c.tables (held_by c.locks (suc i)) (uses_of seat) (xid_of seat.state)
later_shared c i seat shared there at sound =
    later_snaps c i seat (after_share c.snaps shared) at sound
    (λ id inserter ender registered used. readers_are_safe.seen_past_share c.xacts c.snaps shared id inserter ender None there)
    (λ inserter ender e. unprotected_stays.shared c.xacts c.snaps shared inserter ender e)
    (λ xid holders is e. are_ended_stay.shared c.xacts c.snaps shared xid holders is e)

-- another gives one up, of which this session's uses are left
pub later_released : (c : CoreState) (i : ℕ) (seat : Seat) (released : ℕ) → ((id : ℕ) → Contains (uses_of seat) id → is_registered (after_release c.snaps released) id ≡ true) → slice_get c.seats i ≡ Some seat → IsSound c
    → IsLaterFor c.xacts c.xacts c.snaps (after_release c.snaps released) c.tables (held_by c.locks (suc i)) (uses_of seat) (xid_of seat.state)
later_released c i seat released left at sound =
    later_snaps c i seat (after_release c.snaps released) at sound
    (λ id inserter ender registered used. readers_are_safe.seen_past_release c.xacts c.snaps released id inserter ender None (left id used))
    (λ inserter ender e. unprotected_stays.released c.xacts c.snaps released inserter ender e)
    (λ xid holders is e. are_ended_stay.released c.xacts c.snaps released xid holders is e)
