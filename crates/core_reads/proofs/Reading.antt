-- A step of a read, whole: the core stays sound, it stands for the same states, and what is left falls.
use Rattle.std.proofs.Common.{ap, arith, inl, inr, refl, subst, sym, ◌∙◌}
use Rattle.std.proofs.lemmas.Bool.Decides.{nat_tests}
use Rattle.std.proofs.lemmas.List.{length-set}
use Rattle.std.specs.Prelude.{Bool, Contains, IfSome, IsSome, List, None, Option, Some, [], false, length, map, option_to_list, slice_get, slice_set, suc, true, zero, ℕ, ℤ, ◌++◌, ◌+◌, ◌-◌, ◌<◌, ◌==◌, ◌∷◌, ◌≡◌, ◌≢◌, ◌≤◌}
use Rattle.list_facts.proofs.Changed.{after_set, get_set_other, get_set_same}
use Rattle.list_facts.proofs.Members.{first_in, later_in}
use Rattle.tuple_layout.specs.declared.cell.Cell.{Cell}
use Rattle.slot_page.specs.Pages.{item_in}
use Rattle.slot_page.specs.declared.line.Tid.{Tid}
use Rattle.xact_status.specs.Xacts.{Xacts, is_committed}
use Rattle.snapshot_registry.specs.Snapshots.{Snaps, holders_at, is_registered}
use Rattle.row_versions.specs.Relations.{Relation}
use Rattle.row_versions.specs.declared.version.Version.{Version}
use Rattle.value_holders.specs.Holders.{AreEnded}
use Rattle.chunk_index.specs.Leaves.{Leaf}
use Rattle.chunk_index.specs.Pinned.{pin_of}
use Rattle.chunk_index.specs.declared.entry.Pin.{Pin}
use Rattle.change_log.specs.declared.entry.LogEntry.{LogEntry}
use Rattle.lock_table.specs.Locks.{held_by}
use Rattle.lock_table.specs.declared.held.SessionLocks.{SessionLocks}
use Rattle.toast_store.specs.Fetches.{Fetching}
use Rattle.toast_store.specs.Stores.{Store}
use Rattle.toast_store.specs.Walks.{CanStep, Walking}
use Rattle.command_set.specs.declared.Reply.{Reply}
use Rattle.command_set.specs.declared.state.Plain.{Plain}
use Rattle.table_rows.specs.Views.{IsOwnAt}
use Rattle.table_state.specs.Holders.{holders_of}
use Rattle.table_state.specs.Tables.{IsTable}
use Rattle.table_state.specs.declared.table.Table.{Table}
use Rattle.read_steps.specs.Reads.{GoesOn, Leaves, Reading, fetch_due, read_after, read_left, reply_of, store_read}
use Rattle.read_steps.specs.Sound.{IsReadStage}
use Rattle.read_steps.specs.declared.stage.ReadStep.{ReadStep}
use Rattle.core_state.proofs.Answered.{within}
use Rattle.core_state.proofs.Below.{Below}
use Rattle.core_state.proofs.Ended.{uses_most}
use Rattle.core_state.proofs.Frames.{IsLaterFor, seat_later}
use Rattle.core_state.proofs.Lists.{count_more, read_found, read_there, sum_set, sum_stays}
use Rattle.core_state.proofs.Moved.{state_uses, view_later}
use Rattle.core_state.proofs.Released.{Released, released_all, seen_back, some_holders, times}
use Rattle.core_state.proofs.Seats.{each_seated, number_at, owners_same, place_within, seat_there, seat_written, sound_of, uses_by}
use Rattle.core_state.proofs.Snapshots.{fewer_by}
use Rattle.core_state.proofs.Standing.{session_by}
use Rattle.core_state.proofs.Uses.{counted_in, holders_sound, inserter_given, sum_at_least}
use Rattle.core_state.specs.Coming.{xid_logged}
use Rattle.core_state.specs.Events.{left, left_by, read_on_by, read_told, told_by_read}
use Rattle.core_state.specs.Facts.{AreTouched, HasPut, HasVersion, IsSound, JobIsSound, LogIsSound, MayHold, MayPin, PartsAreSound, PinsAreSound, ReadIsSound, SeatIsSound, WorksOn, read_has_batch, uses_in}
use Rattle.core_state.specs.Lines.{once_released, seated, tables_read}
use Rattle.core_state.specs.Moves.{Ends, Stays}
use Rattle.core_state.specs.Stands.{SessionStands, Stands, coming, pending_of}
use Rattle.core_state.specs.State.{CoreState, IsSession, IsTableOf, is_past_moment, no_table, seat_of, snapshot_of, table_at, uses_of, xid_of}
use Rattle.core_state.specs.Views.{registered}
use Rattle.core_state.specs.declared.seat.Handle.{Handle}
use Rattle.core_state.specs.declared.seat.Job.{Job}
use Rattle.core_state.specs.declared.seat.Seat.{Seat}
use Rattle.core_reads.proofs.Repins.{Repins, handle_repinned, repinned, repins_at, rows_repinned, seat_repinned, view_repinned, works_repinned}
use Rattle.core_reads.proofs.Stepped.{ids_stepped, pins_stepped, set_repins, some_steps, store_repins, table_other, table_written, walks_stepped}
use Rattle.core_reads.proofs.Values.{pending_repins, registered_left, row_repins, session_repins}
use Rattle.core_reads.specs.Laws.{LeavesRead}
use Rattle.change_log.specs.declared.entry.LogEntry.TheVariants as entries
use Rattle.core_state.specs.declared.seat.Job.TheVariants as jobs
use Rattle.read_steps.specs.declared.stage.ReadStep.TheVariants as steps
use Rattle.toast_store.specs.Walks as walk_steps

-- a session's seat with another job
abbrev pub with_job : CoreState → ℕ → Job → Seat
with_job c s job = record (seat_of c s) { job = job }

-- ---- snapshots that are given up

-- another's, and this session's, are later ones
pub later_given_up : (c : CoreState) (later : Snaps) (ids : List ℕ) (held : SessionLocks) (uses : List ℕ) (own : Option ℕ) → Released c.xacts c.snaps later ids → ((id : ℕ) → Contains uses id → is_registered later id ≡ true) → IsSound c
    → IsLaterFor c.xacts c.xacts c.snaps later c.tables held uses own
later_given_up c later ids held uses own gives there sound = record {
  seen = λ id inserter ender used. seen_back c.xacts c.snaps later id inserter ender (there id used) (gives.back id);
  fewer = λ t tid version e f. fewer_by c.xacts c.xacts c.snaps later version.inserter version.ender (inserter_given c t tid version e sound) (gives.unprotected version.inserter version.ender) f;
  counts = λ xid inserter e f. f;
  unended = λ ender e. e;
  ended = λ t xid value_id e f. gives.ended xid (holders_of (table_at c.tables t).rows.schema.storages (table_at c.tables t).rows.pages value_id) (holders_sound c t value_id sound) f;
  alone = λ t xid key e f g. g;
}

-- they are so on tables with the same rows
later_rows : (xacts : Xacts) (snaps later : Snaps) (tables after : List Table) (held : SessionLocks) (uses : List ℕ) (own : Option ℕ) → ((t : ℕ) → (table_at after t).rows ≡ (table_at tables t).rows)
    → IsLaterFor xacts xacts snaps later tables held uses own → IsLaterFor xacts xacts snaps later after held uses own
later_rows xacts snaps later tables after held uses own same old = record {
  seen = old.seen;
  fewer = λ t tid version e f. old.fewer t tid version (ap (λ (rows : Relation). item_in rows.pages tid) (sym (same t)) ∙ e) f;
  counts = old.counts;
  unended = old.unended;
  ended = λ t xid value_id e f.
      let before = subst (λ (rows : Relation). AreEnded xacts snaps (holders_of rows.schema.storages rows.pages value_id) xid) (same t) f in
      subst (λ (rows : Relation). AreEnded xacts later (holders_of rows.schema.storages rows.pages value_id) xid) (sym (same t)) (old.ended t xid value_id e before);
  alone = λ t xid key e f g. g;
}

-- ---- what tables have

put_repins : (tables later : List Table) (s t xid : ℕ) (key : ℤ) (cells : List Cell) → Repins tables later s → HasPut (table_at tables t) xid key cells → HasPut (table_at later t) xid key cells
put_repins tables later s t xid key cells repins old =
    repins_at tables later s t (λ (table : Table). HasPut table xid key cells) repins
    (λ pins same before. record { tid = before.tid; version = before.version; there = before.there; inserter = before.inserter; of_key = before.of_key; is = before.is }) old

version_repins : (tables later : List Table) (s : ℕ) (entry : LogEntry) → Repins tables later s → HasVersion tables entry → HasVersion later entry
version_repins tables later s (entries.Chunk xid t value_id seq bytes) repins old = tt
version_repins tables later s (entries.Insert xid t key cells) repins old = put_repins tables later s t xid key cells repins old
version_repins tables later s (entries.Update xid t from to cells) repins old = put_repins tables later s t xid to cells repins old
version_repins tables later s (entries.Delete xid t key) repins old = tt
version_repins tables later s (entries.Commit xid) repins old = old
version_repins tables later s (entries.Abort xid) repins old = old

touched_repins : (xacts : Xacts) (locks : List SessionLocks) (tables later : List Table) (s : ℕ) → Repins tables later s → AreTouched xacts locks tables → AreTouched xacts locks later
touched_repins xacts locks tables later s repins old = record {
  used = λ xid owner t tid version runs at by. old.used xid owner t tid version runs (was t tid version at) by;
  claimed = λ xid owner t tid version runs at by. old.claimed xid owner t tid version runs (was t tid version at) by;
}
  where
    was : (t : ℕ) (tid : Tid) (version : Version) → item_in (table_at later t).rows.pages tid ≡ Some version → item_in (table_at tables t).rows.pages tid ≡ Some version
    was t tid version at = ap (λ (rows : Relation). item_in rows.pages tid) (sym (rows_repinned tables later s t repins)) ∙ at

log_repins : (xacts : Xacts) (locks : List SessionLocks) (log : List LogEntry) (tables later : List Table) (s : ℕ) → Repins tables later s → LogIsSound xacts locks log tables → LogIsSound xacts locks log later
log_repins xacts locks log tables later s repins old = record {
  given = old.given;
  put = λ entry e running. version_repins tables later s entry repins (old.put entry e running);
  changed = λ entry owner p e runs names.
      let was = old.changed entry owner p e runs names in
      record { claimed = was.claimed; own = subst (λ (rows : Relation). IsOwnAt xacts (xid_logged entry) rows.pages p.key) (sym (rows_repinned tables later s p.table repins)) was.own };
}

-- each of the later tables is one of the earlier with other pins
table_of_later : (tables later : List Table) (s i : ℕ) (table : Table) → Repins tables later s → slice_get later i ≡ Some table → (was : Table) × (slice_get tables i ≡ Some was) × (pins : List Pin) × (table ≡ repinned was pins)
table_of_later tables later s i table repins e =
    let count = repins.count in
    let low = within later i table e in
    let there = read_there tables i no_table (omega (arith, count, low)) in
    let is = read_found later i table no_table e in
    let its = repins.each (suc i) in
    (table_at tables (suc i), there, its.0, sym is ∙ its.1)

-- ---- uses that are given up

-- what giving them up leaves
gives_up : (c : CoreState) (s : ℕ) (job : Job) (ids : List ℕ) → IsSession c.seats s → ((id : ℕ) → uses_by id (with_job c s job) + times id ids ≡ uses_by id (seat_of c s)) → IsSound c → Released c.xacts c.snaps (once_released c.snaps ids) ids
gives_up c s job ids there uses sound = released_all c.xacts c.snaps ids (λ id. fewer id)
  where
    fewer : (id : ℕ) → times id ids ≤ holders_at c.snaps id
    fewer id =
        let most = uses_most c s there sound id in
        let has = uses id in
        omega (arith, most, has)

counted_left : (c : CoreState) (s : ℕ) (job : Job) (ids : List ℕ) → IsSession c.seats s → ((id : ℕ) → uses_by id (with_job c s job) + times id ids ≡ uses_by id (seat_of c s)) → IsSound c
    → (id : ℕ) → holders_at (once_released c.snaps ids) id ≡ uses_in (slice_set c.seats (s - 1) (with_job c s job)) id
counted_left c s job ids there uses sound id =
    let after = (gives_up c s job ids there uses sound).holders id in
    let same = sound.counted id in
    let both = sum_set (uses_by id) c.seats (s - 1) (seat_of c s) (with_job c s job) (seat_there c.seats s there) in
    let has = uses id in
    omega (arith, after, same, both, has)

-- each snapshot that a session uses then is registered still
left_registered : (c : CoreState) (s : ℕ) (job : Job) (ids : List ℕ) → IsSession c.seats s → ((id : ℕ) → uses_by id (with_job c s job) + times id ids ≡ uses_by id (seat_of c s)) → IsSound c
    → (i : ℕ) (x : Seat) (id : ℕ) → slice_get (slice_set c.seats (s - 1) (with_job c s job)) i ≡ Some x → Contains (uses_of x) id → is_registered (once_released c.snaps ids) id ≡ true
left_registered c s job ids there uses sound i x id at used =
    let some = counted_in (uses_of x) id used in
    let most = sum_at_least (uses_by id) (slice_set c.seats (s - 1) (with_job c s job)) i x at in
    let same = counted_left c s job ids there uses sound id in
    some_holders (once_released c.snaps ids) id (omega (arith, some, most, same))

own_place : (c : CoreState) (s : ℕ) (job : Job) → IsSession c.seats s → slice_get (slice_set c.seats (s - 1) (with_job c s job)) (s - 1) ≡ Some (with_job c s job)
own_place c s job there = get_set_same c.seats (s - 1) (with_job c s job) (place_within c.seats s there)

-- ---- a whole core

-- the pins of a session change, some of its uses of snapshots are given up, and its job is another
sound_read : (below : Below) (c : CoreState) (s : ℕ) (job : Job) (ids : List ℕ) (tables : List Table) → IsSession c.seats s → Repins c.tables tables s
    → ((id : ℕ) → uses_by id (with_job c s job) + times id ids ≡ uses_by id (seat_of c s))
    → SeatIsSound c.xacts c.snaps c.ids (held_by c.locks s) tables s (with_job c s job) → IsSound c
    → IsSound (seated (record c { snaps = once_released c.snaps ids; tables = tables }) s (with_job c s job))
sound_read below c s job ids tables there repins uses here sound =
    let gives = gives_up c s job ids there uses sound in
    let number = length-set c.seats (s - 1) (with_job c s job) in
    record {
      few = (rw repins.count sound.few.0, rw number sound.few.1);
      places = rw number sound.places;
      registry = gives.registry sound.registry;
      counted = counted_left c s job ids there uses sound;
      room = sound.room ∙ sym (sum_stays (λ (x : Seat). length (option_to_list (xid_of x.state))) c.seats (s - 1) (seat_of c s) (with_job c s job) (seat_there c.seats s there) refl);
      tables = λ i table e.
          let was = table_of_later c.tables tables s i table repins e in
          let old = gives.table below.moments (suc i) was.0 (sound.tables i was.0 was.1) in
          subst (λ (its : Table). IsTable (suc i) c.xacts (once_released c.snaps ids) its) (sym was.3)
          (below.chunks.pinned (suc i) c.xacts (once_released c.snaps ids) was.0 (Table.toast (repinned was.0 was.2)) refl (record { pages = refl; entries = refl }) old);
      each = each_seated c s (with_job c s job) c.xacts (once_released c.snaps ids) c.ids c.locks tables there sound
          (seat_later c.xacts c.xacts c.snaps (once_released c.snaps ids) c.ids tables (held_by c.locks s) s (with_job c s job)
          (later_rows c.xacts c.snaps (once_released c.snaps ids) c.tables tables (held_by c.locks s) (uses_of (with_job c s job)) (xid_of (seat_of c s).state) (λ t. rows_repinned c.tables tables s t repins)
          (later_given_up c (once_released c.snaps ids) ids (held_by c.locks s) (uses_of (with_job c s job)) (xid_of (seat_of c s).state) gives
          (λ id used. left_registered c s job ids there uses sound (s - 1) (with_job c s job) id (own_place c s job there) used) sound))
          here.runs (view_later c.xacts c.snaps (once_released c.snaps ids) (held_by c.locks s) tables (with_job c s job) (λ id held used e. gives.back id held e) here.view) here)
          (λ i other differ at old.
          let place : i ≢ s - 1 = λ e. differ (ap suc e ∙ number_at s there.from_one) in
          let still = get_set_other c.seats (s - 1) i (with_job c s job) place ∙ at in
          seat_repinned c.xacts (once_released c.snaps ids) c.ids (held_by c.locks (suc i)) c.tables tables s (suc i) other differ repins
          (seat_later c.xacts c.xacts c.snaps (once_released c.snaps ids) c.ids c.tables (held_by c.locks (suc i)) (suc i) other
          (later_given_up c (once_released c.snaps ids) ids (held_by c.locks (suc i)) (uses_of other) (xid_of other.state) gives (λ id used. left_registered c s job ids there uses sound i other id still used) sound)
          old.runs (view_later c.xacts c.snaps (once_released c.snaps ids) (held_by c.locks (suc i)) c.tables other (λ id held used e. gives.back id held e) old.view) old));
      owners = owners_same c s (with_job c s job) there refl sound;
      apart = sound.apart;
      hands = sound.hands;
      touched = touched_repins c.xacts c.locks c.tables tables s repins sound.touched;
      log = log_repins c.xacts c.locks c.log.entries c.tables tables s repins sound.log;
    }

-- it stands for the same states, where the job makes the same change and what it comes to has been told
stands_read : (c : CoreState) (s : ℕ) (job : Job) (ids : List ℕ) (tables : List Table) (m : Plain) (told : List (Option Reply)) → IsSession c.seats s → Repins c.tables tables s
    → ((id : ℕ) → uses_by id (with_job c s job) + times id ids ≡ uses_by id (seat_of c s)) → IsSound c
    → coming c.tables job ≡ coming c.tables (seat_of c s).job → ((said : Reply) → pending_of tables job ≡ Some said → slice_get told (s - 1) ≡ Some (Some said))
    → Stands c m told → Stands (seated (record c { snaps = once_released c.snaps ids; tables = tables }) s (with_job c s job)) m told
stands_read c s job ids tables m told there repins uses sound same says stands = record {
  latest = λ p. stands.latest p ∙ sym (row_repins c.tables tables s (is_committed c.xacts) p repins);
  count = stands.count ∙ sym (length-set c.seats (s - 1) (with_job c s job));
  sessions = λ i other its at at_its. elim (after_set c.seats (s - 1) (with_job c s job) i other at) [
    | inl h ↦
        let was = stands.sessions i (seat_of c s) its (ap (slice_get c.seats) h.0 ∙ seat_there c.seats s there) at_its in
        let by_job = session_by c.xacts c.snaps (held_by c.locks (suc i)) c.log.entries c.tables m.latest (seat_of c s) job (seat_of c s).state its same was in
        let moved = session_repins c.xacts c.snaps (once_released c.snaps ids) (held_by c.locks (suc i)) c.log.entries c.tables tables s m.latest (with_job c s job) (seat_of c s).state its repins
        (still (s - 1) (with_job c s job) (own_place c s job there)) by_job in
        subst (λ (x : Seat). SessionStands c.xacts (once_released c.snaps ids) (held_by c.locks (suc i)) c.log.entries tables m.latest x x.state its) (sym h.1) moved
    | inr h ↦ session_repins c.xacts c.snaps (once_released c.snaps ids) (held_by c.locks (suc i)) c.log.entries c.tables tables s m.latest other other.state its repins (still i other at) (stands.sessions i other its h.1 at_its)
  ];
  upkeep = stands.upkeep;
  pending = λ i other said at pends. elim (after_set c.seats (s - 1) (with_job c s job) i other at) [
    | inl h ↦ rw h.0 (says said (sym (ap (λ (x : Seat). pending_of tables x.job) h.1) ∙ pends))
    | inr h ↦ stands.pending i other said h.1 (sym (pending_repins c.tables tables s other.job repins) ∙ pends)
  ];
}
  where
    still : (i : ℕ) (x : Seat) → slice_get (slice_set c.seats (s - 1) (with_job c s job)) i ≡ Some x → registered (once_released c.snaps ids) (snapshot_of x.state) ≡ registered c.snaps (snapshot_of x.state)
    still i x at = registered_left c.snaps (once_released c.snaps ids) (snapshot_of x.state) (λ id e. left_registered c s job ids there uses sound i x id at (state_uses x id e)) (gives_up c s job ids there uses sound).back

-- ---- a read's step

-- what is true of the read
its_read : (c : CoreState) (s t : ℕ) (snapshot : Option ℕ) (read : Reading) → IsSession c.seats s → (seat_of c s).job ≡ jobs.Reading t snapshot read → IsSound c
    → WorksOn (held_by c.locks s) c.tables t (seat_of c s).state × ReadIsSound c.xacts c.snaps (table_at c.tables t) s (with_job c s (jobs.Reading t snapshot read)) read
its_read c s t snapshot read there is sound = subst (λ (job : Job). JobIsSound c.xacts c.snaps c.ids (held_by c.locks s) c.tables s (with_job c s job) job) is (sound_of c s there sound).job

step_repins : (c : CoreState) (s t : ℕ) (snapshot : Option ℕ) (read : Reading) → IsSession c.seats s → (seat_of c s).job ≡ jobs.Reading t snapshot read → IsSound c → Repins c.tables (tables_read c.tables t read) s
step_repins c s t snapshot read there is sound =
    let its = its_read c s t snapshot read there is sound in
    set_repins c.tables t s (store_read (table_at c.tables t).toast read) its.0.of_table (store_repins (table_at c.tables t).toast read s its.1.can its.1.walk)

in_at : {T : Type 0} (xs : List T) (i : ℕ) (x : T) → slice_get xs i ≡ Some x → Contains xs x
in_at [] i x e = absurd (cc)
in_at (y ∷ xs) zero x e =
    let is : y ≡ x = cc in
    first_in y xs x is
in_at (y ∷ xs) (suc i) x e = later_in y xs x (in_at xs i x e)

table_in : (tables : List Table) (t : ℕ) → IsTableOf tables t → Contains tables (table_at tables t)
table_in tables zero there =
    let low = there.from_one in
    absurd (omega (arith, low))
table_in tables (suc i) there =
    let within = there.within in
    in_at tables i (table_at tables (suc i)) (read_there tables i no_table (omega (arith, within)))

-- a pin of the session is in the read's table, and has entries of a batch still to take
pin_left : (c : CoreState) (s t : ℕ) (snapshot : Option ℕ) (read : Reading) → IsSession c.seats s → (seat_of c s).job ≡ jobs.Reading t snapshot read → PartsAreSound c → IsSound c
    → (k : ℕ) (leaf : Leaf) → pin_of (table_at (tables_read c.tables t read) k).toast.index.pins s ≡ Some leaf → (t ≡ k) × (read_has_batch (Reading.stage (read_after (table_at c.tables t).toast read)) ≡ true)
pin_left c s t snapshot read there is parts sound k leaf pinned = by (k == t) refl
  where
    its : WorksOn (held_by c.locks s) c.tables t (seat_of c s).state × ReadIsSound c.xacts c.snaps (table_at c.tables t) s (with_job c s (jobs.Reading t snapshot read)) read
    its = its_read c s t snapshot read there is sound

    before : (n : ℕ) (l : Leaf) → pin_of (table_at c.tables n).toast.index.pins s ≡ Some l → (t ≡ n) × (read_has_batch read.stage ≡ true)
    before n l e = subst (λ (job : Job). MayPin n job) is ((sound_of c s there sound).pins.each n l e)

    new : Table
    new = record (table_at c.tables t) { toast = store_read (table_at c.tables t).toast read }

    by : (b : Bool) → (k == t) ≡ b → (t ≡ k) × (read_has_batch (Reading.stage (read_after (table_at c.tables t).toast read)) ≡ true)
    by true e =
        let same : k ≡ t = grind (arith, nat_tests, e) in
        let at : table_at (tables_read c.tables t read) k ≡ new = ap (table_at (tables_read c.tables t read)) same ∙ table_written c.tables t new its.0.of_table in
        let here = ap (λ (table : Table). pin_of table.toast.index.pins s) (sym at) ∙ pinned in
        (sym same, pins_stepped (table_at c.tables t).toast read s leaf (parts.tables (table_at c.tables t) (table_in c.tables t its.0.of_table)).toast.index.bounds_sorted its.1.walk (λ l e. (before t l e).1) here)
    by false e =
        let differ : k ≢ t = grind (arith, nat_tests, e) in
        let at = table_other c.tables t k new its.0.of_table.from_one differ in
        let was = before k leaf (ap (λ (table : Table). pin_of table.toast.index.pins s) (sym at) ∙ pinned) in
        absurd (differ (sym was.0))

-- the seat after a step: the session has no ids in hand
seat_read : (c : CoreState) (s t : ℕ) (snapshot : Option ℕ) (read : Reading) (job : Job) (tables : List Table) → IsSession c.seats s → (seat_of c s).job ≡ jobs.Reading t snapshot read → IsSound c → Repins c.tables tables s
    → JobIsSound c.xacts c.snaps c.ids (held_by c.locks s) tables s (with_job c s job) job → PinsAreSound tables s job → SeatIsSound c.xacts c.snaps c.ids (held_by c.locks s) tables s (with_job c s job)
seat_read c s t snapshot read job tables there is sound repins its pins =
    let old = sound_of c s there sound in
    record {
      runs = old.runs;
      locks = old.locks;
      view = view_repinned c.xacts c.snaps (held_by c.locks s) c.tables tables s (seat_of c s).state repins old.view;
      handles = record {
        outside = old.handles.outside;
        named = old.handles.named;
        each = λ handle e. handle_repinned c.xacts c.snaps (held_by c.locks s) c.tables tables s (xid_of (seat_of c s).state) handle repins (old.handles.each handle e);
      };
      job = its;
      pins = pins;
      hands = record { each = λ one e f. absurd (subst (λ (its : Job). MayHold one.table its) is (old.hands.each one e f)) };
    }

-- a read that goes on is sound
read_goes : (c : CoreState) (s t : ℕ) (snapshot : Option ℕ) (read : Reading) → IsSession c.seats s → (seat_of c s).job ≡ jobs.Reading t snapshot read → IsSound c
    → GoesOn (table_at c.tables t).toast read (store_read (table_at c.tables t).toast read) (read_after (table_at c.tables t).toast read)
    → ReadIsSound c.xacts c.snaps (table_at (tables_read c.tables t read) t) s (with_job c s (jobs.Reading t snapshot (read_after (table_at c.tables t).toast read))) (read_after (table_at c.tables t).toast read)
read_goes c s t snapshot read there is sound goes =
    let its = its_read c s t snapshot read there is sound in
    let old = its.1 in
    let toast = (table_at c.tables t).toast in
    subst (λ (table : Table). ReadIsSound c.xacts c.snaps table s (with_job c s (jobs.Reading t snapshot (read_after (table_at c.tables t).toast read))) (read_after (table_at c.tables t).toast read))
    (sym (table_written c.tables t (record (table_at c.tables t) { toast = store_read (table_at c.tables t).toast read }) its.0.of_table)) (record {
      session = old.session;
      walk = walks_stepped toast read.session s read.stage old.session old.walk;
      can = goes.can;
      comes = subst (λ (o : Option Reply). IsSome o) (sym goes.same) old.comes;
      batch = goes.batch old.batch;
      kept = λ value_id e.
          let before = old.kept value_id (ids_stepped toast read.session read.stage value_id e) in
          record { tid = before.tid; version = before.version; there = before.there; holds = before.holds; seen = before.seen };
    })

-- the uses of a read that goes on, and of one that is over, which gives up its own snapshot
uses_go : (c : CoreState) (s t : ℕ) (snapshot : Option ℕ) (read after : Reading) → (seat_of c s).job ≡ jobs.Reading t snapshot read → (id : ℕ) → uses_by id (with_job c s (jobs.Reading t snapshot after)) + times id [] ≡ uses_by id (seat_of c s)
uses_go c s t snapshot read after is id =
    let same : uses_by id (with_job c s (jobs.Reading t snapshot after)) ≡ uses_by id (seat_of c s) = ap (λ (job : Job). uses_by id (with_job c s job)) (sym is) in
    let none : times id [] ≡ 0 = refl in
    omega (arith, same, none)

pub uses_less : (id : ℕ) (own snapshot : Option ℕ) (rest : List ℕ) → times id (option_to_list own ++ ([] ++ rest)) + times id (option_to_list snapshot) ≡ times id (option_to_list own ++ (option_to_list snapshot ++ rest))
uses_less id None None rest =
    let none : times id [] ≡ 0 = refl in
    omega (arith, none)
uses_less id None (Some x) rest =
    let none : times id [] ≡ 0 = refl in
    let one = count_more (λ (n : ℕ). n == id) x [] in
    let more = count_more (λ (n : ℕ). n == id) x rest in
    omega (arith, none, one, more)
uses_less id (Some y) None rest =
    let none : times id [] ≡ 0 = refl in
    omega (arith, none)
uses_less id (Some y) (Some x) rest =
    let none : times id [] ≡ 0 = refl in
    let one = count_more (λ (n : ℕ). n == id) x [] in
    let more = count_more (λ (n : ℕ). n == id) x rest in
    let first = count_more (λ (n : ℕ). n == id) y rest in
    let both = count_more (λ (n : ℕ). n == id) y (x ∷ rest) in
    omega (arith, none, one, more, first, both)

uses_end : (c : CoreState) (s t : ℕ) (snapshot : Option ℕ) (read : Reading) → (seat_of c s).job ≡ jobs.Reading t snapshot read → (id : ℕ) → uses_by id (with_job c s jobs.Idle) + times id (option_to_list snapshot) ≡ uses_by id (seat_of c s)
uses_end c s t snapshot read is id =
    uses_less id (snapshot_of (seat_of c s).state) snapshot (map (λ (handle : Handle). handle.snapshot) (seat_of c s).handles) ∙ ap (λ (job : Job). uses_by id (with_job c s job)) (sym is)

-- ---- the laws

pub step_sound : (below : Below) (c : CoreState) (s t : ℕ) (snapshot : Option ℕ) (read : Reading) → IsSession c.seats s → (seat_of c s).job ≡ jobs.Reading t snapshot read → LeavesRead (table_at c.tables t).toast read → PartsAreSound c → IsSound c
    → IsSound (read_on_by c s t snapshot read (read_told c t read))
step_sound below c s t snapshot read there is leaves parts sound = by (read_told c t read) leaves
  where
    repins : Repins c.tables (tables_read c.tables t read) s
    repins = step_repins c s t snapshot read there is sound

    after : Reading
    after = read_after (table_at c.tables t).toast read

    by : (step : ReadStep) → Leaves (table_at c.tables t).toast read (store_read (table_at c.tables t).toast read) (read_after (table_at c.tables t).toast read) step → IsSound (read_on_by c s t snapshot read step)
    by steps.More goes =
        let its = its_read c s t snapshot read there is sound in
        let pins : PinsAreSound (tables_read c.tables t read) s (jobs.Reading t snapshot after) = record { each = λ k leaf e. pin_left c s t snapshot read there is parts sound k leaf e } in
        sound_read below c s (jobs.Reading t snapshot after) [] (tables_read c.tables t read) there repins (uses_go c s t snapshot read after is)
        (seat_read c s t snapshot read (jobs.Reading t snapshot after) (tables_read c.tables t read) there is sound repins
        (works_repinned (held_by c.locks s) c.tables (tables_read c.tables t read) s t (seat_of c s).state repins its.0, read_goes c s t snapshot read there is sound goes) pins) sound
    by (steps.Done reply) ends =
        let none : read_has_batch (Reading.stage (read_after (table_at c.tables t).toast read)) ≡ false = ap read_has_batch ends.over in
        let pins : PinsAreSound (tables_read c.tables t read) s jobs.Idle = record { each = λ k leaf e. clash none (pin_left c s t snapshot read there is parts sound k leaf e).1 } in
        sound_read below c s jobs.Idle (option_to_list snapshot) (tables_read c.tables t read) there repins (uses_end c s t snapshot read is)
        (seat_read c s t snapshot read jobs.Idle (tables_read c.tables t read) there is sound repins tt pins) sound
      where
        clash : {b : Bool} → b ≡ false → b ≡ true → ⊥
        clash e f = absurd (cc)

pub step_stays : (c : CoreState) (s t : ℕ) (snapshot : Option ℕ) (read : Reading) → IsSession c.seats s → (seat_of c s).job ≡ jobs.Reading t snapshot read → LeavesRead (table_at c.tables t).toast read → IsSound c
    → Stays c s (read_on_by c s t snapshot read (read_told c t read)) (told_by_read (read_told c t read))
step_stays c s t snapshot read there is leaves sound m told stands = by (read_told c t read) leaves
  where
    repins : Repins c.tables (tables_read c.tables t read) s
    repins = step_repins c s t snapshot read there is sound

    after : Reading
    after = read_after (table_at c.tables t).toast read

    -- what the read comes to was told at its moment
    was_told : (said : Reply) → reply_of (table_at c.tables t).toast read ≡ Some said → slice_get told (s - 1) ≡ Some (Some said)
    was_told said comes = stands.pending (s - 1) (seat_of c s) said (seat_there c.seats s there) (ap (pending_of c.tables) is ∙ comes)

    by : (step : ReadStep) → Leaves (table_at c.tables t).toast read (store_read (table_at c.tables t).toast read) (read_after (table_at c.tables t).toast read) step
        → Stands (read_on_by c s t snapshot read step) m told × Ends (s - 1) (seat_of (read_on_by c s t snapshot read step) s).job (told_by_read step) told
    by steps.More goes =
        let its = its_read c s t snapshot read there is sound in
        let written = table_written c.tables t (record (table_at c.tables t) { toast = store_read (table_at c.tables t).toast read }) its.0.of_table in
        let comes : reply_of (table_at (tables_read c.tables t read) t).toast after ≡ reply_of (table_at c.tables t).toast read = ap (λ (table : Table). reply_of table.toast after) written ∙ goes.same in (
          stands_read c s (jobs.Reading t snapshot after) [] (tables_read c.tables t read) m told there repins (uses_go c s t snapshot read after is) sound (sym (ap (coming c.tables) is))
              (λ said pends. was_told said (sym comes ∙ pends)) stands,
          ap (λ (seat : Seat). is_past_moment seat.job) (seat_written c.seats s (with_job c s (jobs.Reading t snapshot after)) there),
        )
    by (steps.Done reply) ends = (
      stands_read c s jobs.Idle (option_to_list snapshot) (tables_read c.tables t read) m told there repins (uses_end c s t snapshot read is) sound (sym (ap (coming c.tables) is)) (λ said pends. absurd (cc)) stands,
      (was_told reply ends.came, ap (λ (seat : Seat). seat.job) (seat_written c.seats s (with_job c s jobs.Idle) there)),
    )

pub step_falls : (c : CoreState) (s t : ℕ) (snapshot : Option ℕ) (read : Reading) → IsSession c.seats s → (seat_of c s).job ≡ jobs.Reading t snapshot read → IsReadStage read.session read.stage → LeavesRead (table_at c.tables t).toast read → IsSound c
    → left (read_on_by c s t snapshot read (read_told c t read)) s < left c s
step_falls c s t snapshot read there is made leaves sound = by (read_told c t read) leaves
  where
    after : Reading
    after = read_after (table_at c.tables t).toast read

    was : left c s ≡ read_left (table_at c.tables t).toast.index.entries read
    was = ap (left_by c s) is

    under_way : (f : Option Fetching) → IfSome f (λ (fetch : Fetching). CanStep (table_at c.tables t).toast.index (Fetching.walk fetch)) → IfSome f (λ (fetch : Fetching). walk_steps.IsUnderWay (Walking.stage (Fetching.walk fetch)))
    under_way None can = tt
    under_way (Some fetch) can = can.0

    by : (step : ReadStep) → Leaves (table_at c.tables t).toast read (store_read (table_at c.tables t).toast read) (read_after (table_at c.tables t).toast read) step → left (read_on_by c s t snapshot read step) s < left c s
    by steps.More goes =
        let its = its_read c s t snapshot read there is sound in
        let written = table_written c.tables t (record (table_at c.tables t) { toast = store_read (table_at c.tables t).toast read }) its.0.of_table in
        let now : left (read_on_by c s t snapshot read steps.More) s ≡ read_left (table_at (tables_read c.tables t read) t).toast.index.entries after =
        ap (λ (seat : Seat). left_by (read_on_by c s t snapshot read steps.More) s seat.job) (seat_written c.seats s (with_job c s (jobs.Reading t snapshot after)) there) in
        let at : read_left (table_at (tables_read c.tables t read) t).toast.index.entries after ≡ read_left (Store.index (store_read (table_at c.tables t).toast read)).entries after = ap (λ (table : Table). read_left table.toast.index.entries after) written in
        let fewer = goes.fewer in
        omega (arith, was, now, at, fewer)
    by (steps.Done reply) ends =
        let its = its_read c s t snapshot read there is sound in
        let now : left (read_on_by c s t snapshot read (steps.Done reply)) s ≡ 0 = ap (λ (seat : Seat). left_by (read_on_by c s t snapshot read (steps.Done reply)) s seat.job) (seat_written c.seats s (with_job c s jobs.Idle) there) in
        let some = some_steps (table_at c.tables t).toast.index.entries read.session read.stage made its.1.can.under_way (under_way (fetch_due read) its.1.can.can_step) in
        omega (arith, was, now, some)
