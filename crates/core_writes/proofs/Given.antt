-- Every core is sound after a session's transaction is given its xid. Its moment is part of a write's, and no line of its own.
use Rattle.std.proofs.Common.{ap, arith, cond, inl, inr, refl, subst, sym, ◌∙◌}
use Rattle.std.proofs.lemmas.Bool.Decides.{nat_tests}
use Rattle.std.proofs.lemmas.List.{length-set}
use Rattle.std.specs.Option.{option_map_or}
use Rattle.std.specs.Prelude.{Bool, List, None, Option, Some, [], count_by, false, is_some, length, map, option_and_then, option_to_list, slice_index_or, slice_set, suc, true, ℕ, ◌++◌, ◌+◌, ◌-◌, ◌==◌, ◌||◌, ◌∷◌, ◌≡◌, ◌≢◌, ◌≤◌, ◌⊎◌}
use Rattle.slot_page.specs.Pages.{item_in}
use Rattle.slot_page.specs.declared.line.Tid.{Tid}
use Rattle.xact_status.proofs.Events.{assigned_assign, committed_assign}
use Rattle.xact_status.proofs.Places.{assigned_from_running, xact_at_push}
use Rattle.xact_status.specs.Versions.{counts_for}
use Rattle.xact_status.specs.Xacts.{IsAssigned, Xacts, after_assign, next_xid, session_at, session_of, xact_at}
use Rattle.xact_status.specs.declared.Xact.TheVariants.{Running}
use Rattle.snapshot_registry.proofs.Moments.{registry_assign}
use Rattle.snapshot_registry.specs.Snapshots.{Snaps}
use Rattle.value_holders.proofs.Events.{are_ended_stay}
use Rattle.value_holders.proofs.Readers.{readers_are_safe}
use Rattle.value_holders.specs.Stamps.{IsUnended}
use Rattle.row_versions.specs.declared.version.Version.{Version}
use Rattle.value_ids.specs.Ids.{Pool}
use Rattle.lock_table.specs.Locks.{held_by}
use Rattle.lock_table.specs.declared.held.SessionLocks.{SessionLocks}
use Rattle.table_rows.proofs.Records.{moments_tell, own_changes_stay, views_stay}
use Rattle.table_state.proofs.Others.{unheld_stays}
use Rattle.table_state.proofs.Records.{moments_keep}
use Rattle.table_state.specs.Events.{IsUnheld}
use Rattle.table_state.specs.Holders.{holders_of}
use Rattle.table_state.specs.declared.table.Table.{Table}
use Rattle.read_steps.specs.Reads.{Reading}
use Rattle.write_steps.specs.Writes.{Writing}
use Rattle.core_state.proofs.Lists.{sum_set, sum_stays}
use Rattle.core_state.proofs.Seats.{each_seated, seat_there, sound_of, uses_by, xid_written}
use Rattle.core_state.proofs.Uses.{holders_sound, inserter_given, table_is}
use Rattle.core_state.specs.Coming.{xid_logged}
use Rattle.core_state.specs.Facts.{HandleIsSound, IsSound, IsThereFor, JobIsSound, KeepsId, ReadIsSound, SeatIsSound, WriteIsSound}
use Rattle.core_state.specs.Lines.{with_xid}
use Rattle.core_state.specs.State.{CoreState, IsSession, is_open, is_past_moment, is_repeatable, job_snapshot, nobody, seat_of, snapshot_of, table_at, uses_of, xid_of}
use Rattle.core_state.specs.declared.seat.Handle.{Handle}
use Rattle.core_state.specs.declared.seat.Job.{Job}
use Rattle.core_state.specs.declared.seat.Seat.{Seat}
use Rattle.core_state.specs.declared.seat.State.{State}
use Rattle.command_set.specs.declared.Level.TheVariants as levels
use Rattle.core_state.specs.declared.seat.Job.TheVariants as jobs
use Rattle.core_state.specs.declared.seat.State.TheVariants as states

-- the seat of a session, and its core, once its transaction has the next xid and the log room for its end
abbrev pub seat_given : CoreState → ℕ → Seat
seat_given c s = record (seat_of c s) { state = with_xid (seat_of c s).state (next_xid c.xacts) }

abbrev pub given_next : CoreState → ℕ → CoreState
given_next c s = record c {
  xacts = after_assign c.xacts s;
  log = record c.log { ends = c.log.ends + 1 };
  seats = slice_set c.seats (s - 1) (seat_given c s);
}

-- ---- xids

new_apart : (xacts : Xacts) (xid : ℕ) → IsAssigned xacts xid → (xid == next_xid xacts) ≡ false
new_apart xacts xid given =
    let low = given.below_next in
    let differ : xid ≢ next_xid xacts = λ e. absurd (omega (arith, e, low)) in
    grind (arith, nat_tests, differ)

session_given : (xacts : Xacts) (s xid : ℕ) → session_at (after_assign xacts s) xid ≡ cond (xid == next_xid xacts) (Some s) (session_at xacts xid)
session_given xacts s xid = ap (option_and_then session_of) (xact_at_push xacts (Running s) xid) ∙ by (xid == next_xid xacts)
  where
    by : (b : Bool) → option_and_then session_of (cond b (Some (Running s)) (xact_at xacts xid)) ≡ cond b (Some s) (session_at xacts xid)
    by true = refl
    by false = refl

pub session_old : (xacts : Xacts) (s xid : ℕ) → IsAssigned xacts xid → session_at (after_assign xacts s) xid ≡ session_at xacts xid
session_old xacts s xid given = session_given xacts s xid ∙ ap (λ (b : Bool). cond b (Some s) (session_at xacts xid)) (new_apart xacts xid given)

pub session_new : (xacts : Xacts) (s : ℕ) → session_at (after_assign xacts s) (next_xid xacts) ≡ Some s
session_new xacts s =
    let same : (next_xid xacts == next_xid xacts) ≡ true = grind (arith, nat_tests) in
    session_given xacts s (next_xid xacts) ∙ ap (λ (b : Bool). cond b (Some s) (session_at xacts (next_xid xacts))) same

session_back : (xacts : Xacts) (s xid t : ℕ) → session_at (after_assign xacts s) xid ≡ Some t → ((xid ≡ next_xid xacts) × (t ≡ s)) ⊎ (session_at xacts xid ≡ Some t)
session_back xacts s xid t e = by (xid == next_xid xacts) refl (sym (session_given xacts s xid) ∙ e)
  where
    some_is : (a b : ℕ) → Some a ≡ Some b → a ≡ b
    some_is a b is = cc

    by : (b : Bool) → (xid == next_xid xacts) ≡ b → cond b (Some s) (session_at xacts xid) ≡ Some t → ((xid ≡ next_xid xacts) × (t ≡ s)) ⊎ (session_at xacts xid ≡ Some t)
    by true f g =
        let is : xid ≡ next_xid xacts = grind (arith, nat_tests, f) in
        inl (is, sym (some_is s t g))
    by false f g = inr g

pub counts_given : (xacts : Xacts) (s : ℕ) (own : Option ℕ) (xid : ℕ) → counts_for (after_assign xacts s) own xid ≡ counts_for xacts own xid
counts_given xacts s own xid = ap (λ (b : Bool). option_map_or (λ (mine : ℕ). mine == xid) own false || b) (committed_assign xacts s xid)

-- ---- versions

pub ender_given : (c : CoreState) (t : ℕ) (tid : Tid) (version : Version) (xid : ℕ) → item_in (table_at c.tables t).rows.pages tid ≡ Some version → version.ender ≡ Some xid → IsSound c → IsAssigned c.xacts xid
ender_given c t tid version xid e mine sound =
    table_is c t (λ (table : Table). item_in table.rows.pages tid ≡ Some version → version.ender ≡ Some xid → IsAssigned c.xacts xid) (λ f. absurd (cc)) (λ number table is f g. is.given.ender tid version xid f g) sound e mine

-- the xid of a version was given
pub names_given : (c : CoreState) (t : ℕ) (tid : Tid) (version : Version) (xid : ℕ) → item_in (table_at c.tables t).rows.pages tid ≡ Some version → (version.inserter ≡ xid) ⊎ (version.ender ≡ Some xid) → IsSound c → IsAssigned c.xacts xid
names_given c t tid version xid e by sound = elim by [
  | inl h ↦ subst (λ (n : ℕ). IsAssigned c.xacts n) h (inserter_given c t tid version e sound)
  | inr h ↦ ender_given c t tid version xid e h sound
]

pub unended_given : (c : CoreState) (s t : ℕ) (tid : Tid) (version : Version) → item_in (table_at c.tables t).rows.pages tid ≡ Some version → IsSound c → IsUnended c.xacts version.ender → IsUnended (after_assign c.xacts s) version.ender
unended_given c s t tid version e sound old = record {
  not_ending = λ xid f. ap is_some (session_old c.xacts s xid (ender_given c t tid version xid e f sound)) ∙ old.not_ending xid f;
  not_ended = λ xid f. committed_assign c.xacts s xid ∙ old.not_ended xid f;
}

unheld_given : (c : CoreState) (s t value_id : ℕ) → IsSound c → IsUnheld c.xacts c.snaps (table_at c.tables t) value_id → IsUnheld (after_assign c.xacts s) c.snaps (table_at c.tables t) value_id
unheld_given c s t value_id sound old =
    table_is c t (λ (table : Table). IsUnheld c.xacts c.snaps table value_id → IsUnheld (after_assign c.xacts s) c.snaps table value_id)
    (λ before. record { none = λ tid stamp protects. let e = protects.there in absurd (cc) })
    (λ number table is before. unheld_stays.assigned number c.xacts c.snaps s table value_id sound.registry is before) sound old

-- ---- what is kept for a reader

-- an xid that a session had it has, and one without may have one
abbrev pub IsOwnStill : Option ℕ → Option ℕ → Type 0
IsOwnStill own later = (xid : ℕ) → own ≡ Some xid → later ≡ Some xid

there_given : (xacts : Xacts) (s : ℕ) (snaps : Snaps) (uses : List ℕ) (own later : Option ℕ) (version : Version) → IsOwnStill own later → IsThereFor xacts snaps uses own version → IsThereFor (after_assign xacts s) snaps uses later version
there_given xacts s snaps uses own later version still old = elim old [
  | inl h ↦ inl (still version.inserter h)
  | inr h ↦ inr (h.0, h.1, readers_are_safe.seen_past_assign xacts snaps s h.0 version.inserter version.ender None ∙ h.2)
]

id_given : (xacts : Xacts) (s : ℕ) (snaps : Snaps) (table : Table) (uses : List ℕ) (own : Option ℕ) (value_id : ℕ) → KeepsId xacts snaps table uses own value_id → KeepsId (after_assign xacts s) snaps table uses own value_id
id_given xacts s snaps table uses own value_id old = record { tid = old.tid; version = old.version; there = old.there; holds = old.holds; seen = there_given xacts s snaps uses own own old.version (λ xid e. e) old.seen }

read_given : (xacts : Xacts) (s : ℕ) (snaps : Snaps) (table : Table) (n : ℕ) (seat : Seat) (read : Reading) → ReadIsSound xacts snaps table n seat read → ReadIsSound (after_assign xacts s) snaps table n seat read
read_given xacts s snaps table n seat read old = record {
  session = old.session;
  walk = old.walk;
  can = old.can;
  comes = old.comes;
  batch = old.batch;
  kept = λ value_id e. id_given xacts s snaps table (uses_of seat) (xid_of seat.state) value_id (old.kept value_id e);
}

handle_given : (xacts : Xacts) (s : ℕ) (snaps : Snaps) (held : SessionLocks) (tables : List Table) (own later : Option ℕ) (handle : Handle) → IsOwnStill own later → HandleIsSound xacts snaps held tables own handle → HandleIsSound (after_assign xacts s) snaps held tables later handle
handle_given xacts s snaps held tables own later handle still old = record {
  of_table = old.of_table;
  used = old.used;
  kept = λ pointer e.
      let before = old.kept pointer e in
      record { tid = before.tid; version = before.version; there = before.there; holds = before.holds; seen = there_given xacts s snaps (handle.snapshot ∷ []) own later before.version still before.seen };
  most = old.most;
}

-- ---- another session

write_given : (c : CoreState) (s : ℕ) (held : SessionLocks) (n t : ℕ) (state : State) (write : Writing) → IsSound c → WriteIsSound c.xacts c.snaps c.ids held (table_at c.tables t) n t state write → WriteIsSound (after_assign c.xacts s) c.snaps c.ids held (table_at c.tables t) n t state write
write_given c s held n t state write sound old = record {
  own = old.own;
  stands = old.stands;
  rows = record {
    old = λ row version e f.
        let before = old.rows.old row version e f in
        (before.0, before.1, record { inserted = counts_given c.xacts s (Some write.owner.xid) version.inserter ∙ before.2.inserted; unended = unended_given c s t row.tid version f sound before.2.unended });
    alone = λ stored e f. moments_tell.own_at_start c.xacts s write.owner.xid (table_at c.tables t).rows.pages stored.key ∙ old.rows.alone stored e f;
  };
  new = old.new;
  fresh = record { each = λ value_id e. unheld_given c s t value_id sound (old.fresh.each value_id e) };
  dropping = λ pointer e.
      let before = old.dropping pointer e in
      record {
        tid = before.tid;
        version = before.version;
        there = before.there;
        holds = before.holds;
        inserted = counts_given c.xacts s (Some write.owner.xid) before.version.inserter ∙ before.inserted;
        ended_by = before.ended_by;
        ended = are_ended_stay.assigned c.xacts c.snaps s write.owner.xid (holders_of (table_at c.tables t).rows.schema.storages (table_at c.tables t).rows.pages pointer.value_id) sound.registry (holders_sound c t pointer.value_id sound) before.ended;
      };
}

job_given : (c : CoreState) (s : ℕ) (held : SessionLocks) (n : ℕ) (seat : Seat) (job : Job) → IsSound c → JobIsSound c.xacts c.snaps c.ids held c.tables n seat job → JobIsSound (after_assign c.xacts s) c.snaps c.ids held c.tables n seat job
job_given c s held n seat jobs.Idle sound old = tt
job_given c s held n seat (jobs.Submitted command) sound old = old
job_given c s held n seat (jobs.Reading t snapshot read) sound old = (old.0, read_given c.xacts s c.snaps (table_at c.tables t) n seat read old.1)
job_given c s held n seat (jobs.Writing t write) sound old = (old.0, write_given c s held n t seat.state write sound old.1)

other_given : (c : CoreState) (s : ℕ) (held : SessionLocks) (n : ℕ) (seat : Seat) → IsSound c → SeatIsSound c.xacts c.snaps c.ids held c.tables n seat → SeatIsSound (after_assign c.xacts s) c.snaps c.ids held c.tables n seat
other_given c s held n seat sound old = record {
  runs = λ xid e. session_old c.xacts s xid (assigned_from_running c.xacts xid (ap is_some (old.runs xid e))) ∙ old.runs xid e;
  locks = old.locks;
  view = record {
    level = old.view.level;
    claimed = λ snapshot own row e f g. views_stay.assigned c.xacts snapshot own s (table_at c.tables row.table).rows.pages row.key (old.view.claimed snapshot own row e f g);
  };
  handles = record {
    outside = old.handles.outside;
    named = old.handles.named;
    each = λ handle e. handle_given c.xacts s c.snaps held c.tables (xid_of seat.state) (xid_of seat.state) handle (λ xid f. f) (old.handles.each handle e);
  };
  job = job_given c s held n seat seat.job sound old.job;
  pins = old.pins;
  hands = old.hands;
}

-- ---- the session itself

pub xid_with : (state : State) (xid : ℕ) → is_open state ≡ true → xid_of (with_xid state xid) ≡ Some xid
xid_with states.Outside xid e = absurd (cc)
xid_with states.Failed xid e = absurd (cc)
xid_with (states.Open level own snapshot) xid e = refl

pub snapshot_with : (state : State) (xid : ℕ) → snapshot_of (with_xid state xid) ≡ snapshot_of state
snapshot_with states.Outside xid = refl
snapshot_with states.Failed xid = refl
snapshot_with (states.Open level own snapshot) xid = refl

pub open_with : (state : State) (xid : ℕ) → is_open (with_xid state xid) ≡ is_open state
open_with states.Outside xid = refl
open_with states.Failed xid = refl
open_with (states.Open level own snapshot) xid = refl

pub repeatable_with : (state : State) (xid : ℕ) → is_repeatable (with_xid state xid) ≡ is_repeatable state
repeatable_with states.Outside xid = refl
repeatable_with states.Failed xid = refl
repeatable_with (states.Open levels.Rc own snapshot) xid = refl
repeatable_with (states.Open levels.Rr own snapshot) xid = refl

-- a job before its moment rests on no statuses, snapshots and locks
pub job_before : (xacts later : Xacts) (snaps : Snaps) (ids : Pool) (held : SessionLocks) (tables : List Table) (s : ℕ) (seat other : Seat) (job : Job) → is_past_moment job ≡ false → JobIsSound xacts snaps ids held tables s seat job → JobIsSound later snaps ids held tables s other job
job_before xacts later snaps ids held tables s seat other jobs.Idle e old = tt
job_before xacts later snaps ids held tables s seat other (jobs.Submitted command) e old = old
job_before xacts later snaps ids held tables s seat other (jobs.Reading t snapshot read) e old = absurd (cc)
job_before xacts later snaps ids held tables s seat other (jobs.Writing t write) e old = absurd (cc)

own_given : (c : CoreState) (s : ℕ) → IsSession c.seats s → is_open (seat_of c s).state ≡ true → xid_of (seat_of c s).state ≡ None → is_past_moment (seat_of c s).job ≡ false → IsSound c
    → SeatIsSound (after_assign c.xacts s) c.snaps c.ids (held_by c.locks s) c.tables s (seat_given c s)
own_given c s there opened none before sound =
    let old = sound_of c s there sound in
    let mine = xid_with (seat_of c s).state (next_xid c.xacts) opened in
    record {
      runs = λ xid e. ap (session_at (after_assign c.xacts s)) (some_is xid (next_xid c.xacts) (sym e ∙ mine)) ∙ session_new c.xacts s;
      locks = record {
        outside = λ e. absurd (clash (open_with (seat_of c s).state (next_xid c.xacts) ∙ opened) e);
        unclaimed = λ row e. absurd (some_none (sym mine ∙ e));
        used = old.locks.used;
        plain = old.locks.plain;
      };
      view = record {
        level = λ id e. repeatable_with (seat_of c s).state (next_xid c.xacts) ∙ old.view.level id (sym (snapshot_with (seat_of c s).state (next_xid c.xacts)) ∙ e);
        claimed = λ snapshot own row e f g.
            let free = old.locks.unclaimed row none in
            absurd (cc);
      };
      handles = record {
        outside = λ e. absurd (clash (open_with (seat_of c s).state (next_xid c.xacts) ∙ opened) e);
        named = old.handles.named;
        each = λ handle e. handle_given c.xacts s c.snaps (held_by c.locks s) c.tables (xid_of (seat_of c s).state) (xid_of (with_xid (seat_of c s).state (next_xid c.xacts))) handle (λ xid f. absurd (some_none (sym f ∙ none))) (old.handles.each handle e);
      };
      job = job_before c.xacts (after_assign c.xacts s) c.snaps c.ids (held_by c.locks s) c.tables s (seat_of c s) (seat_given c s) (seat_of c s).job before old.job;
      pins = old.pins;
      hands = old.hands;
    }
  where
    some_is : (a b : ℕ) → Some a ≡ Some b → a ≡ b
    some_is a b is = cc

    some_none : {n : ℕ} → Some n ≡ None → ⊥
    some_none e = cc

    clash : {b : Bool} → b ≡ true → b ≡ false → ⊥
    clash e f = absurd (cc)

-- ---- a whole core

uses_given : (c : CoreState) (s id : ℕ) → uses_by id (seat_given c s) ≡ uses_by id (seat_of c s)
uses_given c s id =
    ap (λ (o : Option ℕ). count_by (λ (n : ℕ). n == id) (option_to_list o ++ (option_to_list (job_snapshot (seat_of c s).job) ++ map (λ (handle : Handle). handle.snapshot) (seat_of c s).handles))) (snapshot_with (seat_of c s).state (next_xid c.xacts))

pub sound_given : (c : CoreState) (s : ℕ) → IsSession c.seats s → is_open (seat_of c s).state ≡ true → xid_of (seat_of c s).state ≡ None → is_past_moment (seat_of c s).job ≡ false → IsSound c → IsSound (given_next c s)
sound_given c s there opened none before sound =
    let mine = xid_with (seat_of c s).state (next_xid c.xacts) opened in
    record {
      few = (sound.few.0, rw (length-set c.seats (s - 1) (seat_given c s)) sound.few.1);
      places = rw (length-set c.seats (s - 1) (seat_given c s)) sound.places;
      registry = registry_assign c.xacts c.snaps s sound.registry;
      counted = λ id. sound.counted id ∙ sym (sum_stays (uses_by id) c.seats (s - 1) (seat_of c s) (seat_given c s) (seat_there c.seats s there) (uses_given c s id));
      room =
          let same = sound.room in
          let both = sum_set (λ (x : Seat). length (option_to_list (xid_of x.state))) c.seats (s - 1) (seat_of c s) (seat_given c s) (seat_there c.seats s there) in
          let no_room : length (option_to_list (xid_of (seat_of c s).state)) ≡ 0 = ap (λ (o : Option ℕ). length (option_to_list o)) none in
          let one : length (option_to_list (xid_of (seat_given c s).state)) ≡ 1 = ap (λ (o : Option ℕ). length (option_to_list o)) mine in
          omega (arith, same, both, no_room, one);
      tables = λ i table e. moments_keep.assigned (suc i) c.xacts c.snaps s table sound.registry (sound.tables i table e);
      each = each_seated c s (seat_given c s) (after_assign c.xacts s) c.snaps c.ids c.locks c.tables there sound (own_given c s there opened none before sound)
          (λ i other differ at old. other_given c s (held_by c.locks (suc i)) (suc i) other sound old);
      owners = λ xid t runs. owners xid t mine (session_back c.xacts s xid t runs);
      apart = sound.apart;
      hands = sound.hands;
      touched = record {
        used = λ xid owner t tid version runs at by. sound.touched.used xid owner t tid version (sym (session_old c.xacts s xid (names_given c t tid version xid at by sound)) ∙ runs) at by;
        claimed = λ xid owner t tid version runs at by. sound.touched.claimed xid owner t tid version (sym (session_old c.xacts s xid (names_given c t tid version xid at by sound)) ∙ runs) at by;
      };
      log = record {
        given = λ entry e. assigned_assign c.xacts s (xid_logged entry) (sound.log.given entry e);
        put = λ entry e runs. sound.log.put entry e (sym (ap is_some (session_old c.xacts s (xid_logged entry) (sound.log.given entry e))) ∙ runs);
        changed = λ entry owner p e runs names.
            let was = sound.log.changed entry owner p e (sym (session_old c.xacts s (xid_logged entry) (sound.log.given entry e)) ∙ runs) names in
            record { claimed = was.claimed; own = own_changes_stay.assigned c.xacts (xid_logged entry) s (table_at c.tables p.table).rows.pages p.key was.own };
      };
    }
  where
    owners : (xid t : ℕ) → xid_of (with_xid (seat_of c s).state (next_xid c.xacts)) ≡ Some (next_xid c.xacts) → ((xid ≡ next_xid c.xacts) × (t ≡ s)) ⊎ (session_at c.xacts xid ≡ Some t)
        → (1 ≤ t) × (xid_of (slice_index_or (slice_set c.seats (s - 1) (seat_given c s)) (t - 1) nobody).state ≡ Some xid)
    owners xid t mine back = elim back [
      | inl h ↦
          let from_one = there.from_one in
          let same = h.1 in
          let low : 1 ≤ t = omega (arith, from_one, same) in
          (low, xid_written c.seats s t xid (seat_given c s) there low (λ is. mine ∙ ap Some (sym h.0)) (λ differ. absurd (differ h.1)))
      | inr h ↦
          let owns = sound.owners xid t h in
          (owns.0, xid_written c.seats s t xid (seat_given c s) there owns.0 (λ is. absurd (clash (sym none ∙ ap (λ (n : ℕ). xid_of (slice_index_or c.seats (n - 1) nobody).state) (sym is) ∙ owns.1))) (λ differ. owns.1))
    ]
      where
        clash : None ≡ Some xid → ⊥
        clash e = absurd (cc)
