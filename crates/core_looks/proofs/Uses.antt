-- A core once a session uses a table: it is sound, stands for the state in which the plain store's transaction uses the table, and shows the session what it showed.
use Rattle.std.proofs.Common.{ap, arith, refl, subst, sym, ◌∙◌}
use Rattle.std.proofs.lemmas.Bool.Decides.{nat_tests}
use Rattle.std.specs.Option.{option_map, option_map_or}
use Rattle.std.specs.Prelude.{Bool, Contains, List, None, Option, Some, [], count_by, false, if◌then◌else◌, is_none, is_some, length, map as mapped, option_to_list, slice_get, slice_set, suc, true, ℕ, ◌&&◌, ◌++◌, ◌+◌, ◌-◌, ◌<◌, ◌==◌, ◌||◌, ◌∷◌, ◌≡◌, ◌≢◌}
use Rattle.list_facts.proofs.Changed.{set_same}
use Rattle.xact_status.specs.Versions.{counts_for}
use Rattle.xact_status.specs.Xacts.{Xacts}
use Rattle.snapshot_registry.proofs.Entries.{held_at_take, least_free_is_least}
use Rattle.snapshot_registry.proofs.Moments.{registry_take}
use Rattle.snapshot_registry.proofs.Unseen.{shown_now}
use Rattle.snapshot_registry.specs.Snapshots.{Snaps, after_take, held_at, holders_at, is_registered, least_free, snapshot_now, takes_effect}
use Rattle.snapshot_registry.specs.declared.Held.{Held}
use Rattle.snapshot_registry.specs.declared.Snapshot.{Snapshot}
use Rattle.value_ids.specs.Ids.{Pool}
use Rattle.lock_table.specs.Held.{holds_row}
use Rattle.lock_table.specs.Locks.{held_by}
use Rattle.lock_table.specs.declared.held.SessionLocks.{SessionLocks}
use Rattle.lock_table.specs.declared.lock.LockMode.TheVariants.{Use}
use Rattle.lock_table.specs.declared.lock.RowKey.{RowKey}
use Rattle.lock_table.specs.declared.lock.TableLock.{TableLock}
use Rattle.table_rows.proofs.Worlds.{agree_same}
use Rattle.table_rows.specs.Views.{IsViewNow}
use Rattle.table_state.specs.declared.table.Table.{Table}
use Rattle.core_state.proofs.Below.{below}
use Rattle.core_state.proofs.Frames.{IsLaterFor, seat_later}
use Rattle.core_state.proofs.Lists.{count_more, one_if, sum_set}
use Rattle.core_state.proofs.Moved.{ShowsBack, sound_moved, view_later}
use Rattle.core_state.proofs.Seats.{number_at, seat_there, sound_of, uses_by}
use Rattle.core_state.proofs.Snapshots.{later_taken}
use Rattle.core_state.proofs.Uses.{registered_use}
use Rattle.core_state.specs.Facts.{HandleIsSound, IsSound, JobIsSound, KeepsPointer, SeatIsSound, Uses, ViewIsSound, uses_in}
use Rattle.core_state.specs.Lines.{after_use, seated, takes_copy, with_snapshot}
use Rattle.core_state.specs.State.{CoreState, IsSession, is_open, is_past_moment, is_repeatable, job_snapshot, seat_of, snapshot_of, table_at, uses_of, xid_of}
use Rattle.core_state.specs.Views.{registered}
use Rattle.core_state.specs.declared.seat.Handle.{Handle}
use Rattle.core_state.specs.declared.seat.Job.{Job}
use Rattle.core_state.specs.declared.seat.Seat.{Seat}
use Rattle.core_state.specs.declared.seat.State.{State}
use Rattle.core_looks.proofs.Locks.{apart_used, keeps_used, locks_used, long_used, plain_own, rows_own, uses_kept}
use Rattle.core_looks.proofs.Sights.{state_at}
use Rattle.command_set.specs.declared.Level.TheVariants as levels
use Rattle.core_state.specs.declared.seat.Job.TheVariants as jobs
use Rattle.core_state.specs.declared.seat.State.TheVariants as states

-- ---- a snapshot that is taken

-- whose changes count under a snapshot of now: those that count now
pub effect_now : (xacts : Xacts) (own : Option ℕ) (z : ℕ) → takes_effect xacts (snapshot_now xacts) own z ≡ counts_for xacts own z
effect_now xacts own z = ap (λ (b : Bool). option_map_or (λ mine. mine == z) own false || b) (shown_now xacts z)

held_taken : (snaps : Snaps) (xacts : Xacts) (id : ℕ) → is_registered snaps id ≡ true → held_at (after_take snaps xacts) id ≡ held_at snaps id
held_taken snaps xacts id registered = by (id == least_free snaps) refl
  where
    by : (b : Bool) → (id == least_free snaps) ≡ b → held_at (after_take snaps xacts) id ≡ held_at snaps id
    by true e =
        let is : id ≡ least_free snaps = grind (arith, nat_tests, e) in
        let free : is_registered snaps id ≡ false = rw is (least_free_is_least snaps).free in
        absurd (cc)
    by false e = held_at_take xacts snaps id ∙ ap (λ (b : Bool). if b then Some (record { snapshot = snapshot_now xacts; holders = 1 }) else held_at snaps id) e

-- what is registered under an id that was before
pub registered_taken : (snaps : Snaps) (xacts : Xacts) (o : Option ℕ) → ((id : ℕ) → o ≡ Some id → is_registered snaps id ≡ true) → registered (after_take snaps xacts) o ≡ registered snaps o
registered_taken snaps xacts None there = refl
registered_taken snaps xacts (Some id) there = ap (option_map (λ (held : Held). held.snapshot)) (held_taken snaps xacts id (there id refl))

-- and under the new one
pub registered_new : (snaps : Snaps) (xacts : Xacts) → registered (after_take snaps xacts) (Some (least_free snaps)) ≡ Some (snapshot_now xacts)
registered_new snaps xacts =
    let same : (least_free snaps == least_free snaps) ≡ true = grind (arith, nat_tests) in
    ap (option_map (λ (held : Held). held.snapshot)) (held_at_take xacts snaps (least_free snaps) ∙ ap (λ (b : Bool). if b then Some (record { snapshot = snapshot_now xacts; holders = 1 }) else held_at snaps (least_free snaps)) same)

pub holders_taken : (snaps : Snaps) (xacts : Xacts) (id : ℕ) → holders_at (after_take snaps xacts) id ≡ one_if (least_free snaps == id) + holders_at snaps id
holders_taken snaps xacts id = by (id == least_free snaps) refl
  where
    at : (b : Bool) → (id == least_free snaps) ≡ b → holders_at (after_take snaps xacts) id ≡ option_map_or (λ (held : Held). held.holders) (if b then Some (record { snapshot = snapshot_now xacts; holders = 1 }) else held_at snaps id) 0
    at b e = ap (λ (o : Option Held). option_map_or (λ (held : Held). held.holders) o 0) (held_at_take xacts snaps id) ∙ ap (λ (c : Bool). option_map_or (λ (held : Held). held.holders) (if c then Some (record { snapshot = snapshot_now xacts; holders = 1 }) else held_at snaps id) 0) e

    none_held : (o : Option Held) → is_some o ≡ false → option_map_or (λ (held : Held). held.holders) o 0 ≡ 0
    none_held None e = refl
    none_held (Some held) e = absurd (cc)

    by : (b : Bool) → (id == least_free snaps) ≡ b → holders_at (after_take snaps xacts) id ≡ one_if (least_free snaps == id) + holders_at snaps id
    by true e =
        let is : id ≡ least_free snaps = grind (arith, nat_tests, e) in
        let new = at true e in
        let none : holders_at snaps id ≡ 0 = rw is (none_held (held_at snaps (least_free snaps)) (least_free_is_least snaps).free) in
        let same : (least_free snaps == id) ≡ true = grind (arith, nat_tests, is) in
        let one : one_if (least_free snaps == id) ≡ 1 = ap one_if same in
        omega (arith, new, none, one)
    by false e =
        let old = at false e in
        let apart : id ≢ least_free snaps = grind (arith, nat_tests, e) in
        let differ : (least_free snaps == id) ≡ false = grind (arith, nat_tests, apart) in
        let unused : one_if (least_free snaps == id) ≡ 0 = ap one_if differ in
        omega (arith, old, unused)

back_taken : (c : CoreState) (i : ℕ) (seat : Seat) → slice_get c.seats i ≡ Some seat → IsSound c → ShowsBack c.snaps (after_take c.snaps c.xacts) (uses_of seat)
back_taken c i seat at sound id held used is = (held, sym (held_taken c.snaps c.xacts id (registered_use c i seat id at used sound)) ∙ is, refl)

-- ---- a state with a snapshot

pub xid_with : (state : State) (id : ℕ) → xid_of (with_snapshot state id) ≡ xid_of state
xid_with states.Outside id = refl
xid_with states.Failed id = refl
xid_with (states.Open level xid snapshot) id = refl

pub open_with : (state : State) (id : ℕ) → is_open (with_snapshot state id) ≡ is_open state
open_with states.Outside id = refl
open_with states.Failed id = refl
open_with (states.Open level xid snapshot) id = refl

pub repeatable_with : (state : State) (id : ℕ) → is_repeatable (with_snapshot state id) ≡ is_repeatable state
repeatable_with states.Outside id = refl
repeatable_with states.Failed id = refl
repeatable_with (states.Open levels.Rc xid snapshot) id = refl
repeatable_with (states.Open levels.Rr xid snapshot) id = refl

pub snapshot_with : (state : State) (id : ℕ) → is_open state ≡ true → snapshot_of (with_snapshot state id) ≡ Some id
snapshot_with states.Outside id e = absurd (cc)
snapshot_with states.Failed id e = absurd (cc)
snapshot_with (states.Open level xid snapshot) id e = refl

-- one that takes a copy reads repeatably, and has no snapshot
pub record TakesCopy (state : State) : Type 0 where
  pub repeats : is_repeatable state ≡ true
  pub none : snapshot_of state ≡ None

pub takes_is : (state : State) → takes_copy state ≡ true → TakesCopy state
takes_is state e = by (is_repeatable state) (snapshot_of state) refl refl e
  where
    by : (b : Bool) (o : Option ℕ) → is_repeatable state ≡ b → snapshot_of state ≡ o → (b && is_none o) ≡ true → TakesCopy state
    by false o is none f = absurd (cc)
    by true None is none f = record { repeats = is; none = none }
    by true (Some id) is none f = absurd (cc)

-- ---- its seat

job_used : (xacts : Xacts) (snaps : Snaps) (ids : Pool) (held later : SessionLocks) (tables : List Table) (s : ℕ) (seat other : Seat) (job : Job) → is_past_moment job ≡ false → JobIsSound xacts snaps ids held tables s seat job → JobIsSound xacts snaps ids later tables s other job
job_used xacts snaps ids held later tables s seat other jobs.Idle before old = tt
job_used xacts snaps ids held later tables s seat other (jobs.Submitted command) before old = old
job_used xacts snaps ids held later tables s seat other (jobs.Reading t snapshot read) before old = absurd (cc)
job_used xacts snaps ids held later tables s seat other (jobs.Writing t write) before old = absurd (cc)

handle_used : (xacts : Xacts) (snaps : Snaps) (held later : SessionLocks) (tables : List Table) (own its : Option ℕ) (handle : Handle) → its ≡ own → ((t : ℕ) → Uses held t → Uses later t) → HandleIsSound xacts snaps held tables own handle → HandleIsSound xacts snaps later tables its handle
handle_used xacts snaps held later tables own its handle same uses old = record {
  of_table = old.of_table;
  used = uses handle.table old.used;
  kept = λ pointer e. subst (λ (o : Option ℕ). KeepsPointer xacts snaps (table_at tables handle.table) (handle.snapshot ∷ []) o pointer) (sym same) (old.kept pointer e);
  most = old.most;
}

pub seat_used : (xacts : Xacts) (snaps : Snaps) (ids : Pool) (held later : SessionLocks) (tables : List Table) (s : ℕ) (seat : Seat) (state : State) → is_past_moment seat.job ≡ false → is_open state ≡ true → xid_of state ≡ xid_of seat.state
    → later.rows ≡ held.rows → ((t : ℕ) → Uses held t → Uses later t) → ((lock : TableLock) → Contains later.tables lock → lock.mode ≡ Use) → ViewIsSound xacts snaps later tables state
    → SeatIsSound xacts snaps ids held tables s seat → SeatIsSound xacts snaps ids later tables s (record seat { state = state })
seat_used xacts snaps ids held later tables s seat state before opened same rows uses plain view old = record {
  runs = λ xid e. old.runs xid (sym same ∙ e);
  locks = record {
    outside = λ closed. absurd (cc);
    unclaimed = λ row e. ap (λ (its : List RowKey). holds_row its row) rows ∙ old.locks.unclaimed row (sym same ∙ e);
    used = λ row e. uses row.table (old.locks.used row (sym (ap (λ (its : List RowKey). holds_row its row) rows) ∙ e));
    plain = plain;
  };
  view = view;
  handles = record {
    outside = λ closed. absurd (cc);
    named = old.handles.named;
    each = λ handle e. handle_used xacts snaps held later tables (xid_of seat.state) (xid_of state) handle same uses (old.handles.each handle e);
  };
  job = job_used xacts snaps ids held later tables s seat (record seat { state = state }) seat.job before old.job;
  pins = old.pins;
  hands = old.hands;
}

-- a view by its rows
view_rows : (xacts : Xacts) (snaps : Snaps) (held later : SessionLocks) (tables : List Table) (state : State) → later.rows ≡ held.rows → ViewIsSound xacts snaps held tables state → ViewIsSound xacts snaps later tables state
view_rows xacts snaps held later tables state rows old = record {
  level = old.level;
  claimed = λ snapshot own row e f g. old.claimed snapshot own row e f (sym (ap (λ (its : List RowKey). holds_row its row) rows) ∙ g);
}

-- the view by a snapshot of now
view_new : (xacts : Xacts) (snaps : Snaps) (held : SessionLocks) (tables : List Table) (state : State) → is_repeatable state ≡ true → snapshot_of state ≡ Some (least_free snaps) → ViewIsSound xacts (after_take snaps xacts) held tables state
view_new xacts snaps held tables state repeats is = record {
  level = λ id e. repeats;
  claimed = λ snapshot own row e f g.
      let its : Some (snapshot_now xacts) ≡ Some snapshot = sym (registered_new snaps xacts) ∙ ap (registered (after_take snaps xacts)) (sym is) ∙ e in
      subst (λ (sn : Snapshot). IsViewNow xacts sn own (table_at tables row.table).rows.pages row.key) (some_is (snapshot_now xacts) snapshot its)
      (agree_same (takes_effect xacts (snapshot_now xacts) (Some own)) (counts_for xacts (Some own)) (table_at tables row.table).rows.pages row.key (effect_now xacts (Some own)));
}
  where
    some_is : (a b : Snapshot) → Some a ≡ Some b → a ≡ b
    some_is a b e = cc

-- ---- the whole core

-- statuses and snapshots that stay are later ones
pub later_same : (xacts : Xacts) (snaps : Snaps) (tables : List Table) (held : SessionLocks) (uses : List ℕ) (own : Option ℕ) → IsLaterFor xacts xacts snaps snaps tables held uses own
later_same xacts snaps tables held uses own = record {
  seen = λ id inserter ender e. refl;
  fewer = λ t tid version e f. f;
  counts = λ xid inserter e f. f;
  unended = λ ender e. e;
  ended = λ t xid value_id e f. f;
  alone = λ t xid key e f g. g;
}

within_locks : (c : CoreState) (s : ℕ) → IsSession c.seats s → IsSound c → s < length c.locks
within_locks c s there sound =
    let most = there.within in
    let places = sound.places in
    omega (arith, most, places)

-- where it has its copy, or takes none
sound_plain : (c : CoreState) (s t : ℕ) → IsSession c.seats s → is_open (state_at c s) ≡ true → is_past_moment (seat_of c s).job ≡ false → IsSound c → IsSound (record c { locks = locks_used c.locks s t })
sound_plain c s t there opened before sound =
    let locks = locks_used c.locks s t in
    let mine = sound_of c s there sound in
    subst (λ (seats : List Seat). IsSound (record c { locks = locks; seats = seats })) (set_same c.seats (s - 1) (seat_of c s) (seat_there c.seats s there))
    (sound_moved c s (seat_of c s) c.snaps locks there refl sound (long_used c.locks s t (within_locks c s there sound)) (keeps_used c.locks s t) (apart_used c.locks s t there.from_one sound.apart) sound.registry
    (λ id. sound.counted id ∙ sym (ap (λ (seats : List Seat). uses_in seats id) (set_same c.seats (s - 1) (seat_of c s) (seat_there c.seats s there))))
    (λ number table is. is)
    (λ i other differ at. (later_same c.xacts c.snaps c.tables (held_by c.locks (suc i)) (uses_of other) (xid_of other.state), λ id held used is. (held, is, refl)))
    (seat_used c.xacts c.snaps c.ids (held_by c.locks s) (held_by locks s) c.tables s (seat_of c s) (state_at c s) before opened refl (rows_own c.locks s t) (uses_kept c.locks s t) (plain_own c.locks s t mine.locks.plain)
    (view_rows c.xacts c.snaps (held_by c.locks s) (held_by locks s) c.tables (state_at c s) (rows_own c.locks s t) mine.view) mine))

-- where it takes its copy
sound_copied : (c : CoreState) (s t : ℕ) → IsSession c.seats s → is_open (state_at c s) ≡ true → is_past_moment (seat_of c s).job ≡ false → TakesCopy (state_at c s) → IsSound c
    → IsSound (seated (record c { locks = locks_used c.locks s t; snaps = after_take c.snaps c.xacts }) s (record (seat_of c s) { state = with_snapshot (state_at c s) (least_free c.snaps) }))
sound_copied c s t there opened before takes sound =
    let locks = locks_used c.locks s t in
    let mine = sound_of c s there sound in
    let later = after_take c.snaps c.xacts in
    let state = with_snapshot (state_at c s) (least_free c.snaps) in
    let moved = seat_later c.xacts c.xacts c.snaps later c.ids c.tables (held_by c.locks s) s (seat_of c s) own_later mine.runs (view_later c.xacts c.snaps later (held_by c.locks s) c.tables (seat_of c s) own_back mine.view) mine in
    sound_moved c s (record (seat_of c s) { state = state }) later locks there (xid_with (state_at c s) (least_free c.snaps)) sound (long_used c.locks s t (within_locks c s there sound)) (keeps_used c.locks s t) (apart_used c.locks s t there.from_one sound.apart)
    (registry_take c.xacts c.snaps sound.registry) counted
    (λ number table is. below.moments.taken number c.xacts c.snaps table is)
    (λ i other differ at. (later_taken c i other at sound, back_taken c i other at sound))
    (seat_used c.xacts later c.ids (held_by c.locks s) (held_by locks s) c.tables s (seat_of c s) state before (open_with (state_at c s) (least_free c.snaps) ∙ opened) (xid_with (state_at c s) (least_free c.snaps)) (rows_own c.locks s t) (uses_kept c.locks s t) (plain_own c.locks s t mine.locks.plain)
    (view_new c.xacts c.snaps (held_by locks s) c.tables state (repeatable_with (state_at c s) (least_free c.snaps) ∙ takes.repeats) (snapshot_with (state_at c s) (least_free c.snaps) opened)) moved)
  where
    own_later : IsLaterFor c.xacts c.xacts c.snaps (after_take c.snaps c.xacts) c.tables (held_by c.locks s) (uses_of (seat_of c s)) (xid_of (state_at c s))
    own_later =
        subst (λ (n : ℕ). IsLaterFor c.xacts c.xacts c.snaps (after_take c.snaps c.xacts) c.tables (held_by c.locks n) (uses_of (seat_of c s)) (xid_of (state_at c s))) (number_at s there.from_one)
        (later_taken c (s - 1) (seat_of c s) (seat_there c.seats s there) sound)

    own_back : ShowsBack c.snaps (after_take c.snaps c.xacts) (uses_of (seat_of c s))
    own_back = back_taken c (s - 1) (seat_of c s) (seat_there c.seats s there) sound

    new : Seat
    new = record (seat_of c s) { state = with_snapshot (state_at c s) (least_free c.snaps) }

    -- the seat's other uses
    rest : List ℕ
    rest = option_to_list (job_snapshot (seat_of c s).job) ++ mapped (λ (handle : Handle). handle.snapshot) (seat_of c s).handles

    uses_old : (id : ℕ) → uses_by id (seat_of c s) ≡ count_by (λ other. other == id) rest
    uses_old id = ap (λ (o : Option ℕ). count_by (λ (n : ℕ). n == id) (option_to_list o ++ rest)) takes.none

    uses_new : (id : ℕ) → uses_by id new ≡ one_if (least_free c.snaps == id) + count_by (λ other. other == id) rest
    uses_new id = ap (λ (o : Option ℕ). count_by (λ (n : ℕ). n == id) (option_to_list o ++ rest)) (snapshot_with (state_at c s) (least_free c.snaps) opened) ∙ count_more (λ (n : ℕ). n == id) (least_free c.snaps) rest

    counted : (id : ℕ) → holders_at (after_take c.snaps c.xacts) id ≡ uses_in (slice_set c.seats (s - 1) new) id
    counted id =
        let same = sound.counted id in
        let taken = holders_taken c.snaps c.xacts id in
        let both = sum_set (uses_by id) c.seats (s - 1) (seat_of c s) new (seat_there c.seats s there) in
        let old = uses_old id in
        let next = uses_new id in
        omega (arith, same, taken, both, old, next)

pub sound_used : (c : CoreState) (s t : ℕ) → IsSession c.seats s → is_open (state_at c s) ≡ true → is_past_moment (seat_of c s).job ≡ false → IsSound c → IsSound (after_use c s t)
sound_used c s t there opened before sound = by (takes_copy (state_at c s)) refl
  where
    by : (b : Bool) → takes_copy (state_at c s) ≡ b
        → IsSound (if b then seated (record c { locks = locks_used c.locks s t; snaps = after_take c.snaps c.xacts }) s (record (seat_of c s) { state = with_snapshot (state_at c s) (least_free c.snaps) }) else record c { locks = locks_used c.locks s t })
    by true e = sound_copied c s t there opened before (takes_is (state_at c s) e) sound
    by false e = sound_plain c s t there opened before sound
