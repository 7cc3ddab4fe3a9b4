-- Every core is sound after an end of a transaction.
use Rattle.std.proofs.Common.{ap, arith, cond, inl, inr, refl, subst, sym, ◌∙◌}
use Rattle.std.proofs.lemmas.Bool.Decides.{nat_tests}
use Rattle.std.proofs.lemmas.List.{length-set}
use Rattle.std.proofs.lemmas.List.Sums.{sum_by-cons}
use Rattle.std.specs.Prelude.{Bool, Contains, List, None, Option, Some, [], count_by, false, find, is_some, length, not, option_map, option_to_list, slice_get, slice_index_or, slice_set, suc, sum_by, true, zero, ℕ, ℤ, ⊤, ◌++◌, ◌+◌, ◌-◌, ◌<◌, ◌==◌, ◌∷◌, ◌≡◌, ◌≢◌, ◌≤◌, ◌⊎◌}
use Rattle.list_facts.proofs.Members.{filter_holds}
use Rattle.tuple_layout.specs.Schemas.{TableSchema}
use Rattle.tuple_layout.specs.declared.cell.Cell.{Cell}
use Rattle.slot_page.specs.Pages.{item_in}
use Rattle.slot_page.specs.declared.line.Tid.{Tid}
use Rattle.xact_status.proofs.Places.{assigned_from_running}
use Rattle.xact_status.specs.Xacts.{Xacts, is_running, session_at}
use Rattle.snapshot_registry.specs.Laws.{IsRegistryOf, IsTakenFrom}
use Rattle.snapshot_registry.specs.Snapshots.{Snaps, held_at, holders_at, is_registered}
use Rattle.snapshot_registry.specs.declared.Held.{Held}
use Rattle.snapshot_registry.specs.declared.Snapshot.{Snapshot}
use Rattle.row_versions.specs.Relations.{Relation}
use Rattle.row_versions.specs.declared.version.Version.{Version}
use Rattle.chunk_index.specs.Leaves.{Leaf}
use Rattle.chunk_index.specs.Pinned.{pin_of, without_pin}
use Rattle.chunk_index.specs.declared.entry.Pin.{Pin}
use Rattle.value_ids.specs.Ids.{Pool}
use Rattle.value_ids.specs.declared.pool.InHand.{InHand}
use Rattle.change_log.specs.Logs.{LogState}
use Rattle.change_log.specs.declared.entry.LogEntry.{LogEntry}
use Rattle.lock_table.specs.Held.{holds_row, nothing}
use Rattle.lock_table.specs.Locks.{after_end, held_by}
use Rattle.lock_table.specs.declared.held.SessionLocks.{SessionLocks}
use Rattle.lock_table.specs.declared.lock.RowKey.{RowKey}
use Rattle.table_rows.specs.Views.{IsOwnAt}
use Rattle.table_rows.specs.Worlds.{IsUntouched}
use Rattle.table_state.specs.Holders.{holders_of}
use Rattle.table_state.specs.Tables.{IsTable}
use Rattle.table_state.specs.declared.table.Table.{Table}
use Rattle.core_state.proofs.Answered.{within}
use Rattle.core_state.proofs.Ends.{IsEnd, OneTouches, abort_ends, commit_ends, none_ends, one_touches, other_untouched}
use Rattle.core_state.proofs.Frames.{IsLaterFor, seat_later}
use Rattle.core_state.proofs.Hands.{same_released, seat_hands}
use Rattle.core_state.proofs.Lists.{in_append, only_one, read_found, read_other, read_there, read_written, sum_set}
use Rattle.core_state.proofs.Moved.{view_later}
use Rattle.core_state.proofs.Overs.{seat_bare}
use Rattle.core_state.proofs.Pins.{Unpins, rows_unpinned, seat_unpinned, unpinned, unpins_at}
use Rattle.core_state.proofs.Released.{Released, released_all, seen_back, some_holders, times}
use Rattle.core_state.proofs.Seats.{each_seated, number_at, seat_there, sound_of, uses_by, xid_written}
use Rattle.core_state.proofs.Snapshots.{fewer_by}
use Rattle.core_state.proofs.Uses.{counted_in, holders_sound, inserter_given, sum_at_least}
use Rattle.core_state.specs.Coming.{xid_logged}
use Rattle.core_state.specs.Facts.{AreApart, AreInHand, AreTouched, HandsAreSound, HasPut, HasVersion, IsSound, JobIsSound, LogIsSound, MayPin, PinsAreSound, SeatIsSound, Uses, ViewIsSound, ends_in, uses_in}
use Rattle.core_state.proofs.Below.{Below}
use Rattle.core_state.specs.Lines.{after_commit_of, after_end_of, after_failing, after_giving_up, failed_state, ids_released, once_aborted, once_committed, once_ended, once_released, once_unpinned, table_unpinned}
use Rattle.core_state.specs.State.{CoreState, IsBare, IsSession, IsTableOf, job_table, no_table, schemas_of, seat_of, snapshot_of, table_at, uses_of, xid_of}
use Rattle.core_state.specs.Views.{registered}
use Rattle.core_state.specs.declared.seat.Job.{Job}
use Rattle.core_state.specs.declared.seat.Seat.{Seat}
use Rattle.core_state.specs.declared.seat.State.{State}
use Rattle.change_log.specs.declared.entry.LogEntry.TheVariants as entries
use Rattle.core_state.specs.declared.seat.Job.TheVariants as jobs
use Rattle.core_state.specs.declared.seat.State.TheVariants as states

-- the entry of an end: of the session's xid, if it has one
abbrev pub IsEndEntry : Option ℕ → Option LogEntry → Type 0
IsEndEntry None None = ⊤
IsEndEntry None (Some entry) = ⊥
IsEndEntry (Some x) None = ⊥
IsEndEntry (Some x) (Some entry) = xid_logged entry ≡ x

-- ---- what is given up

-- a use of one session and one of another are two
sum_two : {T : Type 0} (f : T → ℕ) (xs : List T) (i k : ℕ) (x y : T) → i ≢ k → slice_get xs i ≡ Some x → slice_get xs k ≡ Some y → f x + f y ≤ sum_by f xs
sum_two f [] i k x y differ e g = absurd (cc)
sum_two f (z ∷ xs) zero zero x y differ e g = absurd (differ refl)
sum_two f (z ∷ xs) zero (suc k) x y differ e g =
    let is : z ≡ x = cc in
    let same : f z ≡ f x = ap f is in
    let rest = sum_at_least f xs k y g in
    let all = sum_by-cons f z xs in
    omega (arith, same, rest, all)
sum_two f (z ∷ xs) (suc i) zero x y differ e g =
    let is : z ≡ y = cc in
    let same : f z ≡ f y = ap f is in
    let rest = sum_at_least f xs i x e in
    let all = sum_by-cons f z xs in
    omega (arith, same, rest, all)
sum_two f (z ∷ xs) (suc i) (suc k) x y differ e g =
    let rest = sum_two f xs i k x y (λ is. differ (ap suc is)) e g in
    let all = sum_by-cons f z xs in
    omega (arith, rest, all)

-- the uses of a session are among those that are counted
pub uses_most : (c : CoreState) (s : ℕ) → IsSession c.seats s → IsSound c → (id : ℕ) → times id (uses_of (seat_of c s)) ≤ holders_at c.snaps id
uses_most c s there sound id =
    let most = sum_at_least (uses_by id) c.seats (s - 1) (seat_of c s) (seat_there c.seats s there) in
    let same = sound.counted id in
    omega (arith, most, same)

-- what another session uses is registered once this one's uses are given up
pub left_registered : (c : CoreState) (s i : ℕ) (other : Seat) (later : Snaps) → IsSession c.seats s → suc i ≢ s → slice_get c.seats i ≡ Some other → Released c.xacts c.snaps later (uses_of (seat_of c s)) → IsSound c
    → (id : ℕ) → Contains (uses_of other) id → is_registered later id ≡ true
left_registered c s i other later there differ at gives sound id used =
    let number = number_at s there.from_one in
    let apart : s - 1 ≢ i = λ e. differ (sym (ap suc e) ∙ number) in
    let both = sum_two (uses_by id) c.seats (s - 1) i (seat_of c s) other apart (seat_there c.seats s there) at in
    let some = counted_in (uses_of other) id used in
    let same = sound.counted id in
    let rest = gives.holders id in
    some_holders later id (omega (arith, both, some, same, rest))

-- ---- the tables

-- a store without a pin
store_unpinned : (below : Below) (number : ℕ) (xacts : Xacts) (snaps : Snaps) (table : Table) (s : ℕ) → IsTable number xacts snaps table → IsTable number xacts snaps (table_unpinned table s)
store_unpinned below number xacts snaps table s is = below.chunks.pinned number xacts snaps table (unpinned table.toast s) refl (record { pages = refl; entries = refl }) is

length_unpinned : (tables : List Table) (s : ℕ) (o : Option ℕ) → length (once_unpinned tables s o) ≡ length tables
length_unpinned tables s None = refl
length_unpinned tables s (Some t) = length-set tables (t - 1) _

-- writing a table with the schema that it has leaves the schemas
schemas_set : (tables : List Table) (i : ℕ) (table : Table) → ((was : Table) → slice_get tables i ≡ Some was → table.rows.schema ≡ was.rows.schema) → schemas_of (slice_set tables i table) ≡ schemas_of tables
schemas_set [] i table same = refl
schemas_set (was ∷ tables) zero table same = ap (λ (schema : TableSchema). schema ∷ schemas_of tables) (same was refl)
schemas_set (was ∷ tables) (suc i) table same = ap (λ (schemas : List TableSchema). was.rows.schema ∷ schemas) (schemas_set tables i table same)

pub once_unpins : (tables : List Table) (s : ℕ) (o : Option ℕ) → ((t : ℕ) → o ≡ Some t → IsTableOf tables t) → Unpins tables (once_unpinned tables s o) s
once_unpins tables s None there = record { count = refl; schemas = refl; each = λ t. inl refl }
once_unpins tables s (Some zero) there =
    let low = (there zero refl).from_one in
    absurd (omega (arith, low))
once_unpins tables s (Some (suc i)) there =
    let within = (there (suc i) refl).within in
    let place : suc i - 1 ≡ i = omega arith in
    let low : i < length tables = omega (arith, within) in
    rw place (record {
      count = length-set tables i _;
      schemas = schemas_set tables i _ (λ was e. ap (λ (table : Table). table.rows.schema) (read_found tables i was no_table e));
      each = λ t. by t low;
    })
  where
    by : (t : ℕ) → i < length tables → (table_at (slice_set tables i (table_unpinned (slice_index_or tables i no_table) s)) t ≡ table_at tables t) ⊎ (table_at (slice_set tables i (table_unpinned (slice_index_or tables i no_table) s)) t ≡ table_unpinned (table_at tables t) s)
    by zero low = inl refl
    by (suc k) low = at (k == i) refl
      where
        at : (b : Bool) → (k == i) ≡ b → (slice_index_or (slice_set tables i (table_unpinned (slice_index_or tables i no_table) s)) k no_table ≡ slice_index_or tables k no_table)
            ⊎ (slice_index_or (slice_set tables i (table_unpinned (slice_index_or tables i no_table) s)) k no_table ≡ table_unpinned (slice_index_or tables k no_table) s)
        at true e =
            let is : k ≡ i = grind (arith, nat_tests, e) in
            inr (rw is (read_written tables i (table_unpinned (slice_index_or tables i no_table) s) no_table low))
        at false e =
            let differ : k ≢ i = grind (arith, nat_tests, e) in
            inl (read_other tables i k (table_unpinned (slice_index_or tables i no_table) s) no_table differ)

-- a job's table is there
pub job_there : (c : CoreState) (s : ℕ) → IsSession c.seats s → IsSound c → (t : ℕ) → job_table (seat_of c s).job ≡ Some t → IsTableOf c.tables t
job_there c s there sound t e = by (seat_of c s).job (sound_of c s there sound).job e
  where
    some_is : (a b : ℕ) → Some a ≡ Some b → a ≡ b
    some_is a b is = cc

    by : (job : Job) → JobIsSound c.xacts c.snaps c.ids (held_by c.locks s) c.tables s (seat_of c s) job → job_table job ≡ Some t → IsTableOf c.tables t
    by jobs.Idle is f = absurd (cc)
    by (jobs.Submitted command) is f = absurd (cc)
    by (jobs.Reading n snapshot read) is f = subst (λ (k : ℕ). IsTableOf c.tables k) (some_is n t f) is.0.of_table
    by (jobs.Writing n write) is f = subst (λ (k : ℕ). IsTableOf c.tables k) (some_is n t f) is.0.of_table

-- each table of the later ones is one of the earlier, with or without the pin
table_of_later : (tables later : List Table) (s i : ℕ) (table : Table) → Unpins tables later s → slice_get later i ≡ Some table
    → (was : Table) × (slice_get tables i ≡ Some was) × ((table ≡ was) ⊎ (table ≡ table_unpinned was s))
table_of_later tables later s i table unpins e =
    let count = unpins.count in
    let low = within later i table e in
    let there = read_there tables i no_table (omega (arith, count, low)) in
    let is = read_found later i table no_table e in (
      slice_index_or tables i no_table,
      there,
      elim (unpins.each (suc i)) [
        | inl h ↦ inl (sym is ∙ h)
        | inr h ↦ inr (sym is ∙ h)
      ],
    )

-- ---- another session

registered_taken : (xacts : Xacts) (snaps : Snaps) (o : Option ℕ) (snapshot : Snapshot) → IsRegistryOf xacts snaps → registered snaps o ≡ Some snapshot → IsTakenFrom xacts snapshot
registered_taken xacts snaps None snapshot registry e = absurd (cc)
registered_taken xacts snaps (Some id) snapshot registry e = by (held_at snaps id) refl e
  where
    some_is : (a b : Snapshot) → Some a ≡ Some b → a ≡ b
    some_is a b is = cc

    by : (o : Option Held) → held_at snaps id ≡ o → option_map (λ (held : Held). held.snapshot) o ≡ Some snapshot → IsTakenFrom xacts snapshot
    by None f g = absurd (cc)
    by (Some held) f g = subst (λ (its : Snapshot). IsTakenFrom xacts its) (some_is held.snapshot snapshot g) (registry.each id held f)

other_ended : (below : Below) (c : CoreState) (s i : ℕ) (other : Seat) (xacts : Xacts) (later : Snaps) (tables : List Table) → IsSession c.seats s → suc i ≢ s → slice_get c.seats i ≡ Some other → IsSound c
    → IsEnd c.xacts xacts (xid_of (seat_of c s).state) s → Released c.xacts c.snaps later (uses_of (seat_of c s)) → Unpins c.tables tables s
    → SeatIsSound c.xacts c.snaps c.ids (held_by c.locks (suc i)) c.tables (suc i) other → SeatIsSound xacts later (ids_released c.ids s) (held_by c.locks (suc i)) tables (suc i) other
other_ended below c s i other xacts later tables there differ at sound ends gives unpins old =
    let registry = gives.registry sound.registry in
    let mine = (sound_of c s there sound).runs in
    let moves : IsLaterFor c.xacts xacts c.snaps later c.tables (held_by c.locks (suc i)) (uses_of other) (xid_of other.state) = record {
      seen = λ id inserter ender used. ends.seen later id inserter ender registry ∙ seen_back c.xacts c.snaps later id inserter ender (left_registered c s i other later there differ at gives sound id used) (gives.back id);
      fewer = λ t tid version e f. fewer_by c.xacts xacts c.snaps later version.inserter version.ender (inserter_given c t tid version e sound) (λ u. ends.unprotected later version.inserter version.ender registry (gives.unprotected version.inserter version.ender u)) f;
      counts = λ xid inserter e f. ends.counts xid inserter f;
      unended = ends.unended;
      ended = λ t xid value_id e f.
          let are = holders_sound c t value_id sound in
          ends.ended later xid (holders_of (table_at c.tables t).rows.schema.storages (table_at c.tables t).rows.pages value_id) registry are (gives.ended xid (holders_of (table_at c.tables t).rows.schema.storages (table_at c.tables t).rows.pages value_id) are f);
      alone = λ t xid key e claimed f. ends.alone below xid (table_at c.tables t).rows.pages key (λ x own. other_untouched c x s (suc i) t key (mine x own) differ claimed sound) ∙ f;
    } in
    let before = view_later c.xacts c.snaps later (held_by c.locks (suc i)) c.tables other (λ id held used e. gives.back id held e) old.view in
    let view : ViewIsSound xacts later (held_by c.locks (suc i)) c.tables other.state = record {
      level = before.level;
      claimed = λ snapshot own row e f g. ends.view below snapshot own (table_at c.tables row.table).rows.pages row.key (registered_taken c.xacts later (snapshot_of other.state) snapshot registry e)
          (λ x is. other_untouched c x s (suc i) row.table row.key (mine x is) differ g sound) (before.claimed snapshot own row e f g);
    } in
    seat_hands xacts later c.ids (ids_released c.ids s) (held_by c.locks (suc i)) tables (suc i) other (same_released c.ids s (suc i) differ)
    (seat_unpinned xacts later c.ids (held_by c.locks (suc i)) c.tables tables s (suc i) other unpins
    (seat_later c.xacts xacts c.snaps later c.ids c.tables (held_by c.locks (suc i)) (suc i) other moves (λ xid e. ends.others xid (suc i) differ (old.runs xid e)) view old))

-- ---- the session itself

pin_gone : (pins : List Pin) (s : ℕ) → pin_of (without_pin pins s) s ≡ None
pin_gone [] s = refl
pin_gone (pin ∷ pins) s = by (pin.session == s) refl (pin_gone pins s)
  where
    by : (b : Bool) → (pin.session == s) ≡ b → pin_of (without_pin pins s) s ≡ None → option_map (λ (p : Pin). p.leaf) (find (λ (p : Pin). p.session == s) (cond (not b) (pin ∷ without_pin pins s) (without_pin pins s))) ≡ None
    by true e rest = rest
    by false e rest = rw e rest

may_pin_table : (t : ℕ) (job : Job) → MayPin t job → job_table job ≡ Some t
may_pin_table t jobs.Idle e = absurd e
may_pin_table t (jobs.Submitted command) e = absurd e
may_pin_table t (jobs.Reading n snapshot read) e = ap Some e.0
may_pin_table t (jobs.Writing n write) e = ap Some e.0

unpinned_own : (tables : List Table) (s t : ℕ) → IsTableOf tables t → table_at (once_unpinned tables s (Some t)) t ≡ table_unpinned (table_at tables t) s
unpinned_own tables s zero there =
    let low = there.from_one in
    absurd (omega (arith, low))
unpinned_own tables s (suc i) there =
    let within = there.within in
    let place : suc i - 1 ≡ i = omega arith in
    let low : i < length tables = omega (arith, within) in
    rw place (read_written tables i (table_unpinned (slice_index_or tables i no_table) s) no_table low)

own_pins : (c : CoreState) (s : ℕ) → IsSession c.seats s → IsSound c → PinsAreSound (once_unpinned c.tables s (job_table (seat_of c s).job)) s jobs.Idle
own_pins c s there sound = record { each = λ t leaf e. clash t leaf e }
  where
    unpins : Unpins c.tables (once_unpinned c.tables s (job_table (seat_of c s).job)) s
    unpins = once_unpins c.tables s (job_table (seat_of c s).job) (job_there c s there sound)

    none : (t : ℕ) (leaf : Leaf) → pin_of (table_at (once_unpinned c.tables s (job_table (seat_of c s).job)) t).toast.index.pins s ≡ Some leaf → table_at (once_unpinned c.tables s (job_table (seat_of c s).job)) t ≡ table_unpinned (table_at c.tables t) s → ⊥
    none t leaf e h =
        let gone : pin_of (table_at (once_unpinned c.tables s (job_table (seat_of c s).job)) t).toast.index.pins s ≡ None = ap (λ (table : Table). pin_of table.toast.index.pins s) h ∙ pin_gone (table_at c.tables t).toast.index.pins s in
        absurd (cc)

    clash : (t : ℕ) (leaf : Leaf) → pin_of (table_at (once_unpinned c.tables s (job_table (seat_of c s).job)) t).toast.index.pins s ≡ Some leaf → ⊥
    clash t leaf e = elim (unpins.each t) [
      | inl h ↦
          let was = may_pin_table t (seat_of c s).job ((sound_of c s there sound).pins.each t leaf (ap (λ (table : Table). pin_of table.toast.index.pins s) (sym h) ∙ e)) in
          none t leaf e (ap (λ (o : Option ℕ). table_at (once_unpinned c.tables s o) t) was ∙ unpinned_own c.tables s t (job_there c s there sound t was))
      | inr h ↦ none t leaf e h
    ]

own_hands : (ids : Pool) (s : ℕ) → HandsAreSound (ids_released ids s).in_hand s jobs.Idle
own_hands ids s = record { each = λ one e f. clash one (filter_holds (λ (held : InHand). not (held.session == s)) ids.in_hand one e).1 f }
  where
    clash : (one : InHand) → not (one.session == s) ≡ true → one.session ≡ s → ⊥
    clash one e f =
        let same : (one.session == s) ≡ true = grind (arith, nat_tests, f) in
        let other : not (one.session == s) ≡ false = ap not same in
        absurd (cc)

-- ---- the log

log_room : (log : LogState) (own : Option ℕ) (end : Option LogEntry) → IsEndEntry own end → length (option_to_list own) ≤ log.ends → (once_ended log end).ends + length (option_to_list own) ≡ log.ends
log_room log None None is most = omega arith
log_room log None (Some entry) is most = absurd is
log_room log (Some x) None is most = absurd is
log_room log (Some x) (Some entry) is most =
    let one : length (x ∷ []) ≡ 1 = refl in
    let more : 1 ≤ log.ends = omega (arith, most, one) in
    let both : log.ends - 1 + 1 ≡ log.ends = omega (arith, more) in
    both

log_entries : (log : LogState) (own : Option ℕ) (end : Option LogEntry) (entry : LogEntry) → IsEndEntry own end → Contains (once_ended log end).entries entry → Contains log.entries entry ⊎ (own ≡ Some (xid_logged entry))
log_entries log own None entry is e = inl e
log_entries log None (Some end) entry is e = absurd is
log_entries log (Some x) (Some end) entry is e = elim (in_append log.entries (end ∷ []) entry e) [
  | inl h ↦ inl h
  | inr h ↦ inr (ap Some (sym is ∙ ap xid_logged (only_one end entry h)))
]

put_unpins : (tables later : List Table) (s t xid : ℕ) (key : ℤ) (cells : List Cell) → Unpins tables later s → HasPut (table_at tables t) xid key cells → HasPut (table_at later t) xid key cells
put_unpins tables later s t xid key cells unpins old =
    unpins_at tables later s t (λ (table : Table). HasPut table xid key cells) unpins (λ before. record { tid = before.tid; version = before.version; there = before.there; inserter = before.inserter; of_key = before.of_key; is = before.is }) old

version_unpins : (tables later : List Table) (s : ℕ) (entry : LogEntry) → Unpins tables later s → HasVersion tables entry → HasVersion later entry
version_unpins tables later s (entries.Chunk xid t value_id seq bytes) unpins old = tt
version_unpins tables later s (entries.Insert xid t key cells) unpins old = put_unpins tables later s t xid key cells unpins old
version_unpins tables later s (entries.Update xid t from to cells) unpins old = put_unpins tables later s t xid to cells unpins old
version_unpins tables later s (entries.Delete xid t key) unpins old = tt
version_unpins tables later s (entries.Commit xid) unpins old = old
version_unpins tables later s (entries.Abort xid) unpins old = old

running_session : (xacts : Xacts) (xid : ℕ) → is_running xacts xid ≡ true → (t : ℕ) × (session_at xacts xid ≡ Some t)
running_session xacts xid e = by (session_at xacts xid) refl e
  where
    by : (o : Option ℕ) → session_at xacts xid ≡ o → is_some o ≡ true → (t : ℕ) × (session_at xacts xid ≡ Some t)
    by None f g = absurd (cc)
    by (Some t) f g = (t, f)

-- ---- a whole core

pub held_other : (locks : List SessionLocks) (s other : ℕ) → other ≢ s → held_by (after_end locks s) other ≡ held_by locks other
held_other locks s other differ = read_other locks s other nothing nothing differ

held_own : (c : CoreState) (s : ℕ) → IsSession c.seats s → IsSound c → held_by (after_end c.locks s) s ≡ nothing
held_own c s there sound =
    let places = sound.places in
    let within = there.within in
    read_written c.locks s nothing nothing (omega (arith, places, within))

apart_ended : (c : CoreState) (s : ℕ) → IsSession c.seats s → IsSound c → AreApart (after_end c.locks s)
apart_ended c s there sound = record {
  nobody = held_other c.locks s 0 (λ e. low e) ∙ sound.apart.nobody;
  claims = λ one other row differ e. by one other row differ (one == s) (other == s) refl refl e;
}
  where
    low : 0 ≡ s → ⊥
    low e =
        let from_one = there.from_one in
        absurd (omega (arith, from_one, e))

    none : (n : ℕ) (row : RowKey) → n ≡ s → holds_row (held_by (after_end c.locks s) n).rows row ≡ false
    none n row is = ap (λ (k : ℕ). holds_row (held_by (after_end c.locks s) k).rows row) is ∙ ap (λ (held : SessionLocks). holds_row held.rows row) (held_own c s there sound)

    by : (one other : ℕ) (row : RowKey) → one ≢ other → (a b : Bool) → (one == s) ≡ a → (other == s) ≡ b → holds_row (held_by (after_end c.locks s) one).rows row ≡ true → holds_row (held_by (after_end c.locks s) other).rows row ≡ false
    by one other row differ true b e f claimed =
        let gone = none one row (grind (arith, nat_tests, e)) in
        absurd (cc)
    by one other row differ false true e f claimed = none other row (grind (arith, nat_tests, f))
    by one other row differ false false e f claimed =
        let one_differs : one ≢ s = grind (arith, nat_tests, e) in
        let other_differs : other ≢ s = grind (arith, nat_tests, f) in
        let was : holds_row (held_by c.locks one).rows row ≡ true = ap (λ (held : SessionLocks). holds_row held.rows row) (sym (held_other c.locks s one one_differs)) ∙ claimed in
        ap (λ (held : SessionLocks). holds_row held.rows row) (held_other c.locks s other other_differs) ∙ sound.apart.claims one other row differ was

-- who owns an xid that runs on is another session
owner_differs : (c : CoreState) (s xid owner : ℕ) → IsSession c.seats s → IsSound c → session_at c.xacts xid ≡ Some owner → xid_of (seat_of c s).state ≢ Some xid → owner ≢ s
owner_differs c s xid owner there sound runs other is = other (ap (λ (n : ℕ). xid_of (seat_of c n).state) (sym is) ∙ (sound.owners xid owner runs).1)

touched_ended : (c : CoreState) (s : ℕ) (xacts : Xacts) (tables : List Table) → IsSession c.seats s → IsSound c → IsEnd c.xacts xacts (xid_of (seat_of c s).state) s → Unpins c.tables tables s → AreTouched xacts (after_end c.locks s) tables
touched_ended c s xacts tables there sound ends unpins = record {
  used = λ xid owner t tid version runs at by.
      let before = ends.gone xid owner runs in
      let differ = owner_differs c s xid owner there sound before.0 before.1 in
      subst (λ (held : SessionLocks). Uses held t) (sym (held_other c.locks s owner differ)) (sound.touched.used xid owner t tid version before.0 (was t tid version at) by);
  claimed = λ xid owner t tid version runs at by.
      let before = ends.gone xid owner runs in
      let differ = owner_differs c s xid owner there sound before.0 before.1 in
      subst (λ (held : SessionLocks). holds_row held.rows (record { table = t; key = version.key }) ≡ true) (sym (held_other c.locks s owner differ)) (sound.touched.claimed xid owner t tid version before.0 (was t tid version at) by);
}
  where
    was : (t : ℕ) (tid : Tid) (version : Version) → item_in (table_at tables t).rows.pages tid ≡ Some version → item_in (table_at c.tables t).rows.pages tid ≡ Some version
    was t tid version at = ap (λ (rows : Relation). item_in rows.pages tid) (sym (rows_unpinned c.tables tables s t unpins)) ∙ at

log_ended : (below : Below) (c : CoreState) (s : ℕ) (xacts : Xacts) (tables : List Table) (end : Option LogEntry) → IsSession c.seats s → IsSound c → IsEnd c.xacts xacts (xid_of (seat_of c s).state) s → Unpins c.tables tables s
    → IsEndEntry (xid_of (seat_of c s).state) end → LogIsSound xacts (after_end c.locks s) (once_ended c.log end).entries tables
log_ended below c s xacts tables end there sound ends unpins is = record {
  given = λ entry e. elim (log_entries c.log (xid_of (seat_of c s).state) end entry is e) [
    | inl h ↦ ends.given (xid_logged entry) (sound.log.given entry h)
    | inr h ↦ ends.given (xid_logged entry) (assigned_from_running c.xacts (xid_logged entry) (ap is_some (mine (xid_logged entry) h)))
  ];
  put = λ entry e running.
      let runs = running_session xacts (xid_logged entry) running in
      let before = ends.gone (xid_logged entry) runs.0 runs.1 in
      elim (log_entries c.log (xid_of (seat_of c s).state) end entry is e) [
        | inl h ↦ version_unpins c.tables tables s entry unpins (sound.log.put entry h (ap is_some before.0))
        | inr h ↦ absurd (before.1 h)
      ];
  changed = λ entry owner p e runs names.
      let before = ends.gone (xid_logged entry) owner runs in
      let differ = owner_differs c s (xid_logged entry) owner there sound before.0 before.1 in
      elim (log_entries c.log (xid_of (seat_of c s).state) end entry is e) [
        | inl h ↦
            let was = sound.log.changed entry owner p h before.0 names in
            record {
              claimed = subst (λ (held : SessionLocks). holds_row held.rows (record { table = p.table; key = p.key }) ≡ true) (sym (held_other c.locks s owner differ)) was.claimed;
              own = subst (λ (rows : Relation). IsOwnAt xacts (xid_logged entry) rows.pages p.key) (sym (rows_unpinned c.tables tables s p.table unpins))
                  (ends.own_at below (xid_logged entry) (table_at c.tables p.table).rows.pages p.key (λ x own. other_untouched c x s owner p.table p.key (mine x own) differ was.claimed sound) was.own);
            }
        | inr h ↦ absurd (before.1 h)
      ];
}
  where
    mine : (xid : ℕ) → xid_of (seat_of c s).state ≡ Some xid → session_at c.xacts xid ≡ Some s
    mine xid e = (sound_of c s there sound).runs xid e

hands_ended : (ids : Pool) (s : ℕ) → AreInHand ids.in_hand → AreInHand (ids_released ids s).in_hand
hands_ended ids s old = record {
  once = λ a b e f. old.once a b (filter_holds (λ (held : InHand). not (held.session == s)) ids.in_hand a e).0 (filter_holds (λ (held : InHand). not (held.session == s)) ids.in_hand b f).0;
}

-- a session's transaction has ended, whichever way
pub sound_ended : (below : Below) (c : CoreState) (s : ℕ) (xacts : Xacts) (end : Option LogEntry) (state : State) → IsSession c.seats s → IsSound c → IsBare state → IsEnd c.xacts xacts (xid_of (seat_of c s).state) s
    → IsEndEntry (xid_of (seat_of c s).state) end → IsSound (after_end_of c s xacts end state)
sound_ended below c s xacts end state there sound bare ends is =
    let gives = released_all c.xacts c.snaps (uses_of (seat_of c s)) (uses_most c s there sound) in
    let unpins = once_unpins c.tables s (job_table (seat_of c s).job) (job_there c s there sound) in
    let number = length-set c.seats (s - 1) over in
    record {
      few = (rw (unpins.count) sound.few.0, rw number sound.few.1);
      places = length-set c.locks s nothing ∙ sound.places ∙ ap suc (sym number);
      registry = ends.registry (once_released c.snaps (uses_of (seat_of c s))) (gives.registry sound.registry);
      counted = λ id. counted id (gives.holders id);
      room = room;
      tables = λ i table e.
          let was = table_of_later c.tables (once_unpinned c.tables s (job_table (seat_of c s).job)) s i table unpins e in
          let old = ends.table below (suc i) (once_released c.snaps (uses_of (seat_of c s))) was.0 (gives.registry sound.registry) (one_of i was.0 was.1) (gives.table below.moments (suc i) was.0 (sound.tables i was.0 was.1)) in
          elim was.2 [
            | inl h ↦ subst (λ (its : Table). IsTable (suc i) xacts (once_released c.snaps (uses_of (seat_of c s))) its) (sym h) old
            | inr h ↦ subst (λ (its : Table). IsTable (suc i) xacts (once_released c.snaps (uses_of (seat_of c s))) its) (sym h) (store_unpinned below (suc i) xacts (once_released c.snaps (uses_of (seat_of c s))) was.0 s old)
          ];
      each = each_seated c s over xacts (once_released c.snaps (uses_of (seat_of c s))) (ids_released c.ids s) (after_end c.locks s) (once_unpinned c.tables s (job_table (seat_of c s).job)) there sound
          (subst (λ (held : SessionLocks). SeatIsSound xacts (once_released c.snaps (uses_of (seat_of c s))) (ids_released c.ids s) held (once_unpinned c.tables s (job_table (seat_of c s).job)) s over) (sym (held_own c s there sound))
          (seat_bare xacts (once_released c.snaps (uses_of (seat_of c s))) (ids_released c.ids s) (once_unpinned c.tables s (job_table (seat_of c s).job)) s state bare (own_pins c s there sound) (own_hands c.ids s)))
          (λ i other differ at old.
          subst (λ (held : SessionLocks). SeatIsSound xacts (once_released c.snaps (uses_of (seat_of c s))) (ids_released c.ids s) held (once_unpinned c.tables s (job_table (seat_of c s).job)) (suc i) other) (sym (held_other c.locks s (suc i) differ))
          (other_ended below c s i other xacts (once_released c.snaps (uses_of (seat_of c s))) (once_unpinned c.tables s (job_table (seat_of c s).job)) there differ at sound ends gives unpins old));
      owners = λ xid t runs.
          let before = ends.gone xid t runs in
          let owns = sound.owners xid t before.0 in
          let differ = owner_differs c s xid t there sound before.0 before.1 in
          (owns.0, xid_written c.seats s t xid over there owns.0 (λ same. absurd (differ same)) (λ e. owns.1));
      apart = apart_ended c s there sound;
      hands = hands_ended c.ids s sound.hands;
      touched = touched_ended c s xacts (once_unpinned c.tables s (job_table (seat_of c s).job)) there sound ends unpins;
      log = log_ended below c s xacts (once_unpinned c.tables s (job_table (seat_of c s).job)) end there sound ends unpins is;
    }
  where
    over : Seat
    over = record { state = state; handles = []; job = jobs.Idle }

    none_used : (id : ℕ) → uses_by id over ≡ 0
    none_used id = ap (λ (o : Option ℕ). count_by (λ (n : ℕ). n == id) (option_to_list o ++ ([] ++ []))) bare.snapshot

    counted : (id : ℕ) → holders_at (once_released c.snaps (uses_of (seat_of c s))) id + times id (uses_of (seat_of c s)) ≡ holders_at c.snaps id → holders_at (once_released c.snaps (uses_of (seat_of c s))) id ≡ uses_in (slice_set c.seats (s - 1) over) id
    counted id gives =
        let same = sound.counted id in
        let both = sum_set (uses_by id) c.seats (s - 1) (seat_of c s) over (seat_there c.seats s there) in
        let none = none_used id in
        omega (arith, gives, same, both, none)

    room : (once_ended c.log end).ends ≡ ends_in (slice_set c.seats (s - 1) over)
    room =
        let most = sum_at_least (λ (x : Seat). length (option_to_list (xid_of x.state))) c.seats (s - 1) (seat_of c s) (seat_there c.seats s there) in
        let same = sound.room in
        let left = log_room c.log (xid_of (seat_of c s).state) end is (omega (arith, most, same)) in
        let both = sum_set (λ (x : Seat). length (option_to_list (xid_of x.state))) c.seats (s - 1) (seat_of c s) over (seat_there c.seats s there) in
        let none : length (option_to_list (xid_of over.state)) ≡ 0 = ap (λ (o : Option ℕ). length (option_to_list o)) bare.xid in
        omega (arith, left, same, both, none)

    one_of : (i : ℕ) (was : Table) → slice_get c.tables i ≡ Some was → OneTouches c.xacts (xid_of (seat_of c s).state) was.rows.pages
    one_of i was at x y key own running differ =
        let its = running_session c.xacts y running in
        let mine = (sound_of c s there sound).runs x own in
        let apart : its.0 ≢ s = owner_differs c s y its.0 there sound its.1 (λ e. differ (some_is y x (sym e ∙ own))) in
        subst (λ (table : Table). IsUntouched x table.rows.pages key ⊎ IsUntouched y table.rows.pages key) (read_found c.tables i was no_table at) (one_touches c x y s its.0 (suc i) key mine its.1 apart sound)
      where
        some_is : (a b : ℕ) → Some a ≡ Some b → a ≡ b
        some_is a b e = cc

-- a commit, and an end without one
pub sound_committed : (below : Below) (c : CoreState) (s : ℕ) → IsSession c.seats s → IsSound c → IsSound (after_commit_of c s)
sound_committed below c s there sound =
    let own = own_end (xid_of (seat_of c s).state) (λ x e. (sound_of c s there sound).runs x e) in
    sound_ended below c s (once_committed c.xacts (xid_of (seat_of c s).state)) (option_map (λ xid. entries.Commit xid) (xid_of (seat_of c s).state)) states.Outside there sound (record { xid = refl; snapshot = refl }) own (entry (xid_of (seat_of c s).state))
  where
    own_end : (o : Option ℕ) → ((x : ℕ) → o ≡ Some x → session_at c.xacts x ≡ Some s) → IsEnd c.xacts (once_committed c.xacts o) o s
    own_end None runs = none_ends c.xacts s
    own_end (Some x) runs = commit_ends c.xacts x s (runs x refl)

    entry : (o : Option ℕ) → IsEndEntry o (option_map (λ xid. entries.Commit xid) o)
    entry None = tt
    entry (Some x) = refl

pub sound_given_up : (below : Below) (c : CoreState) (s : ℕ) (state : State) → IsSession c.seats s → IsSound c → IsBare state → IsSound (after_giving_up c s state)
sound_given_up below c s state there sound bare =
    let own = own_end (xid_of (seat_of c s).state) (λ x e. (sound_of c s there sound).runs x e) in
    sound_ended below c s (once_aborted c.xacts (xid_of (seat_of c s).state)) (option_map (λ xid. entries.Abort xid) (xid_of (seat_of c s).state)) state there sound bare own (entry (xid_of (seat_of c s).state))
  where
    own_end : (o : Option ℕ) → ((x : ℕ) → o ≡ Some x → session_at c.xacts x ≡ Some s) → IsEnd c.xacts (once_aborted c.xacts o) o s
    own_end None runs = none_ends c.xacts s
    own_end (Some x) runs = abort_ends c.xacts x s (runs x refl)

    entry : (o : Option ℕ) → IsEndEntry o (option_map (λ xid. entries.Abort xid) o)
    entry None = tt
    entry (Some x) = refl

-- a failed state is bare
pub failed_bare : (state : State) → IsBare (failed_state state)
failed_bare states.Outside = record { xid = refl; snapshot = refl }
failed_bare states.Failed = record { xid = refl; snapshot = refl }
failed_bare (states.Open level xid snapshot) = record { xid = refl; snapshot = refl }

pub sound_failed : (below : Below) (c : CoreState) (s : ℕ) → IsSession c.seats s → IsSound c → IsSound (after_failing c s)
sound_failed below c s there sound = sound_given_up below c s (failed_state (seat_of c s).state) there sound (failed_bare (seat_of c s).state)
