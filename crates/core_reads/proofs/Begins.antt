-- A session whose command has not passed its moment takes another job: it holds a read, or is over; it takes a snapshot for it, or has a share of its transaction's.
use Rattle.std.proofs.Common.{ap, arith, refl, subst, sym, ◌∙◌}
use Rattle.std.proofs.lemmas.Bool.Decides.{nat_tests}
use Rattle.std.specs.Prelude.{Bool, List, None, Option, Some, [], false, if◌then◌else◌, map, option_to_list, slice_get, slice_set, true, ℕ, ◌++◌, ◌+◌, ◌-◌, ◌==◌, ◌∷◌, ◌≡◌}
use Rattle.xact_status.specs.Xacts.{Xacts}
use Rattle.snapshot_registry.proofs.Entries.{held_at_take, least_free_is_least}
use Rattle.snapshot_registry.proofs.Moments.{registry_take}
use Rattle.snapshot_registry.specs.Snapshots.{Snaps, after_take, held_at, holders_at, is_registered, least_free, snapshot_now}
use Rattle.value_ids.specs.Ids.{Pool}
use Rattle.lock_table.specs.Locks.{held_by}
use Rattle.lock_table.specs.declared.held.SessionLocks.{SessionLocks}
use Rattle.command_set.specs.declared.Command.{Command}
use Rattle.table_state.specs.declared.table.Table.{Table}
use Rattle.core_state.proofs.Below.{below}
use Rattle.core_state.proofs.Frames.{IsLaterFor, seat_later}
use Rattle.core_state.proofs.Lists.{count_more, sum_set}
use Rattle.core_state.proofs.Moved.{KeepsLocks, ShowsBack, sound_moved, view_later}
use Rattle.core_state.proofs.Released.{times}
use Rattle.core_state.proofs.Seats.{number_at, seat_there, sound_of, sound_seated, uses_by}
use Rattle.core_state.proofs.Snapshots.{later_taken}
use Rattle.core_state.proofs.Uses.{registered_use}
use Rattle.core_state.specs.Facts.{IsSound, JobIsSound, MayHold, MayPin, SeatIsSound, uses_in}
use Rattle.core_state.specs.Lines.{seated}
use Rattle.core_state.specs.State.{CoreState, IsSession, job_snapshot, seat_of, snapshot_of, uses_of, xid_of}
use Rattle.core_state.specs.declared.seat.Handle.{Handle}
use Rattle.core_state.specs.declared.seat.Job.{Job}
use Rattle.core_state.specs.declared.seat.Seat.{Seat}
use Rattle.core_looks.proofs.Uses.{holders_taken}
use Rattle.core_reads.proofs.Reading.{uses_less, with_job}
use Rattle.core_state.specs.declared.seat.Job.TheVariants as jobs

-- ---- the seat

-- a seat with another job: while a command is submitted the session has no pin, and no id in hand
pub seat_goes : (xacts : Xacts) (snaps : Snaps) (ids : Pool) (held : SessionLocks) (tables : List Table) (s : ℕ) (seat : Seat) (command : Command) (job : Job) → seat.job ≡ jobs.Submitted command
    → JobIsSound xacts snaps ids held tables s (record seat { job = job }) job → SeatIsSound xacts snaps ids held tables s seat → SeatIsSound xacts snaps ids held tables s (record seat { job = job })
seat_goes xacts snaps ids held tables s seat command job is its old = record {
  runs = old.runs;
  locks = old.locks;
  view = old.view;
  handles = record { outside = old.handles.outside; named = old.handles.named; each = old.handles.each };
  job = its;
  pins = record { each = λ t leaf e. absurd (subst (MayPin t) is (old.pins.each t leaf e)) };
  hands = record { each = λ one there of. absurd (subst (MayHold one.table) is (old.hands.each one there of)) };
}

-- ---- a job that holds no snapshot of its own

pub sound_goes : (u : CoreState) (s : ℕ) (command : Command) (job : Job) → IsSession u.seats s → (seat_of u s).job ≡ jobs.Submitted command → job_snapshot job ≡ None
    → JobIsSound u.xacts u.snaps u.ids (held_by u.locks s) u.tables s (with_job u s job) job → IsSound u → IsSound (seated u s (with_job u s job))
sound_goes u s command job there is none its sound =
    sound_seated u s (with_job u s job) there refl
    (λ id. ap (λ (o : Option ℕ). times id (option_to_list (snapshot_of (seat_of u s).state) ++ (option_to_list o ++ map (λ (handle : Handle). handle.snapshot) (seat_of u s).handles))) (none ∙ sym (ap job_snapshot is)))
    (seat_goes u.xacts u.snaps u.ids (held_by u.locks s) u.tables s (seat_of u s) command job is its (sound_of u s there sound)) sound

-- ---- a job with a snapshot that is taken now

-- what is registered under the new id
pub held_new_id : (snaps : Snaps) (xacts : Xacts) → held_at (after_take snaps xacts) (least_free snaps) ≡ Some (record { snapshot = snapshot_now xacts; holders = 1 })
held_new_id snaps xacts =
    let same : (least_free snaps == least_free snaps) ≡ true = grind (arith, nat_tests) in
    held_at_take xacts snaps (least_free snaps) ∙ ap (λ (b : Bool). if b then Some (record { snapshot = snapshot_now xacts; holders = 1 }) else held_at snaps (least_free snaps)) same

pub held_taken : (snaps : Snaps) (xacts : Xacts) (id : ℕ) → is_registered snaps id ≡ true → held_at (after_take snaps xacts) id ≡ held_at snaps id
held_taken snaps xacts id registered = by (id == least_free snaps) refl
  where
    by : (b : Bool) → (id == least_free snaps) ≡ b → held_at (after_take snaps xacts) id ≡ held_at snaps id
    by true e =
        let is : id ≡ least_free snaps = grind (arith, nat_tests, e) in
        let free : is_registered snaps id ≡ false = rw is (least_free_is_least snaps).free in
        absurd (cc)
    by false e = held_at_take xacts snaps id ∙ ap (λ (b : Bool). if b then Some (record { snapshot = snapshot_now xacts; holders = 1 }) else held_at snaps id) e

-- what is registered of a session's uses stays
pub back_taken : (u : CoreState) (i : ℕ) (seat : Seat) → slice_get u.seats i ≡ Some seat → IsSound u → ShowsBack u.snaps (after_take u.snaps u.xacts) (uses_of seat)
back_taken u i seat at sound id held used is = (held, sym (held_taken u.snaps u.xacts id (registered_use u i seat id at used sound)) ∙ is, refl)

pub same_locks : (locks : List SessionLocks) (s : ℕ) → KeepsLocks locks locks s
same_locks locks s = record { others = λ other differ. refl; rows = λ row e. e; uses = λ t e. e }

-- the session's own facts under the snapshots then
pub own_taken : (u : CoreState) (s : ℕ) → IsSession u.seats s → IsSound u → SeatIsSound u.xacts (after_take u.snaps u.xacts) u.ids (held_by u.locks s) u.tables s (seat_of u s)
own_taken u s there sound =
    let mine = sound_of u s there sound in
    let moves : IsLaterFor u.xacts u.xacts u.snaps (after_take u.snaps u.xacts) u.tables (held_by u.locks s) (uses_of (seat_of u s)) (xid_of (seat_of u s).state) =
    subst (λ (n : ℕ). IsLaterFor u.xacts u.xacts u.snaps (after_take u.snaps u.xacts) u.tables (held_by u.locks n) (uses_of (seat_of u s)) (xid_of (seat_of u s).state)) (number_at s there.from_one)
    (later_taken u (s - 1) (seat_of u s) (seat_there u.seats s there) sound) in
    seat_later u.xacts u.xacts u.snaps (after_take u.snaps u.xacts) u.ids u.tables (held_by u.locks s) s (seat_of u s) moves mine.runs
    (view_later u.xacts u.snaps (after_take u.snaps u.xacts) (held_by u.locks s) u.tables (seat_of u s) (back_taken u (s - 1) (seat_of u s) (seat_there u.seats s there) sound) mine.view) mine

-- a core in which one snapshot is taken, and used once more by one session
pub sound_taking : (u : CoreState) (s : ℕ) (seat : Seat) → IsSession u.seats s → xid_of seat.state ≡ xid_of (seat_of u s).state → ((id : ℕ) → uses_by id seat ≡ uses_by id (seat_of u s) + times id (least_free u.snaps ∷ []))
    → SeatIsSound u.xacts (after_take u.snaps u.xacts) u.ids (held_by u.locks s) u.tables s seat → IsSound u → IsSound (seated (record u { snaps = after_take u.snaps u.xacts }) s seat)
sound_taking u s seat there same uses here sound =
    sound_moved u s seat (after_take u.snaps u.xacts) u.locks there same sound refl (same_locks u.locks s) sound.apart (registry_take u.xacts u.snaps sound.registry) counted
    (λ number table is. below.moments.taken number u.xacts u.snaps table is) (λ i other differ at. (later_taken u i other at sound, back_taken u i other at sound)) here
  where
    counted : (id : ℕ) → holders_at (after_take u.snaps u.xacts) id ≡ uses_in (slice_set u.seats (s - 1) seat) id
    counted id =
        let was = sound.counted id in
        let taken = holders_taken u.snaps u.xacts id in
        let both = sum_set (uses_by id) u.seats (s - 1) (seat_of u s) seat (seat_there u.seats s there) in
        let more = uses id in
        let none : times id [] ≡ 0 = refl in
        let one = count_more (λ (n : ℕ). n == id) (least_free u.snaps) [] in
        omega (arith, was, taken, both, more, none, one)

pub sound_takes : (u : CoreState) (s : ℕ) (command : Command) (job : Job) → IsSession u.seats s → (seat_of u s).job ≡ jobs.Submitted command → job_snapshot job ≡ Some (least_free u.snaps)
    → JobIsSound u.xacts (after_take u.snaps u.xacts) u.ids (held_by u.locks s) u.tables s (with_job u s job) job → IsSound u → IsSound (seated (record u { snaps = after_take u.snaps u.xacts }) s (with_job u s job))
sound_takes u s command job there is own its sound =
    sound_taking u s (with_job u s job) there refl uses (seat_goes u.xacts (after_take u.snaps u.xacts) u.ids (held_by u.locks s) u.tables s (seat_of u s) command job is its (own_taken u s there sound)) sound
  where
    rest : List ℕ
    rest = map (λ (handle : Handle). handle.snapshot) (seat_of u s).handles

    at : Option ℕ → ℕ → ℕ
    at o id = times id (option_to_list (snapshot_of (seat_of u s).state) ++ (option_to_list o ++ map (λ (handle : Handle). handle.snapshot) (seat_of u s).handles))

    uses : (id : ℕ) → uses_by id (with_job u s job) ≡ uses_by id (seat_of u s) + times id (least_free u.snaps ∷ [])
    uses id =
        let new : uses_by id (with_job u s job) ≡ at (Some (least_free u.snaps)) id = ap (λ (o : Option ℕ). at o id) own in
        let old : at None id ≡ uses_by id (seat_of u s) = ap (λ (o : Option ℕ). at o id) (sym (ap job_snapshot is)) in
        let both : at None id + times id (least_free u.snaps ∷ []) ≡ at (Some (least_free u.snaps)) id = uses_less id (snapshot_of (seat_of u s).state) (Some (least_free u.snaps)) rest in
        omega (arith, new, old, both)
