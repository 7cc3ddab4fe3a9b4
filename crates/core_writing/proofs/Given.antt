-- A granted write's begin, from the core in which its table is used and its keys are claimed.
use Rattle.std.proofs.Common.{ap, cond, refl, subst, sym, ◌∙◌}
use Rattle.std.specs.Option.{unwrap_or}
use Rattle.std.specs.Prelude.{Bool, List, Option, false, slice_index_or, slice_set, true, ℕ, ℤ, ◌-◌, ◌≡◌}
use Rattle.list_facts.proofs.Changed.{set_twice}
use Rattle.tuple_layout.specs.declared.cell.Stored.{Stored}
use Rattle.xact_status.specs.Xacts.{Xacts, next_xid}
use Rattle.snapshot_registry.specs.Snapshots.{Snaps, after_take, least_free}
use Rattle.change_log.specs.Logs.{LogState}
use Rattle.lock_table.specs.Locks.{granted, table_lock}
use Rattle.lock_table.specs.declared.lock.LockMode.TheVariants.{Use}
use Rattle.write_steps.specs.Writes.{Writing, new_write}
use Rattle.write_steps.specs.declared.stage.OldRow.{OldRow}
use Rattle.core_state.proofs.Seats.{seat_written, session_written}
use Rattle.core_state.specs.Begun.{plan_of, write_begun}
use Rattle.core_state.specs.Lines.{after_write_begun, once_assigned, once_claimed, once_kept, seated, takes_copy, with_snapshot, with_xid}
use Rattle.core_state.specs.State.{CoreState, IsSession, is_past_moment, seat_of, xid_of}
use Rattle.core_state.specs.declared.seat.Job.{Job}
use Rattle.core_state.specs.declared.seat.Seat.{Seat}
use Rattle.core_state.specs.declared.seat.State.{State}
use Rattle.core_looks.proofs.Uses.{xid_with}
use Rattle.core_writes.specs.Laws.{columns_of}
use Rattle.core_parts.proofs.Made.{copied_session}
use Rattle.core_parts.proofs.Stepping.{lent_seat}
use Rattle.core_parts.specs.Takes.{copied_snaps, copied_state, with_copy}
use Rattle.core_writing.specs.Begins.{keys_locked, once_begun, once_given, own_xid}
use Rattle.core_state.specs.declared.seat.Job.TheVariants as jobs

-- the core by whether the copy is taken
abbrev copied_by : Bool → CoreState → ℕ → CoreState
copied_by b v s = cond b (seated (record v { snaps = after_take v.snaps v.xacts }) s (record (seat_of v s) { state = with_snapshot (seat_of v s).state (least_free v.snaps) })) v

-- ---- the xid

pub xid_copied : (c : CoreState) (s : ℕ) → IsSession c.seats s → unwrap_or (xid_of (copied_state (seat_of c s).state c.snaps)) (next_xid c.xacts) ≡ own_xid (with_copy c s) s
xid_copied c s there = by (takes_copy (seat_of c s).state)
  where
    by : (b : Bool) → unwrap_or (xid_of (cond b (with_snapshot (seat_of c s).state (least_free c.snaps)) (seat_of c s).state)) (next_xid c.xacts)
        ≡ own_xid (copied_by b c s) s
    by true = ap (λ (seat : Seat). unwrap_or (xid_of seat.state) (next_xid c.xacts)) (sym (seat_written c.seats s (record (seat_of c s) { state = with_snapshot (seat_of c s).state (least_free c.snaps) }) there))
    by false = refl

pub own_copied : (c : CoreState) (s : ℕ) → IsSession c.seats s → own_xid (with_copy c s) s ≡ own_xid c s
own_copied c s there = by (takes_copy (seat_of c s).state)
  where
    by : (b : Bool) → own_xid (copied_by b c s) s ≡ own_xid c s
    by true =
        ap (λ (seat : Seat). unwrap_or (xid_of seat.state) (next_xid c.xacts)) (seat_written c.seats s (record (seat_of c s) { state = with_snapshot (seat_of c s).state (least_free c.snaps) }) there)
        ∙ ap (λ (o : Option ℕ). unwrap_or o (next_xid c.xacts)) (xid_with (seat_of c s).state (least_free c.snaps))
    by false = refl

-- the core once its seats are these, where a session that has this seat is given its xid
abbrev given_by : CoreState → ℕ → Seat → List Seat → CoreState
given_by v s seat seats = record v {
  xacts = once_assigned v.xacts s (xid_of seat.state);
  log = once_kept v.log (xid_of seat.state);
  seats = slice_set seats (s - 1) (record seat { state = with_xid seat.state (unwrap_or (xid_of seat.state) (next_xid v.xacts)) });
}

-- the parts as they are taken, one after the other
pub given_is : (c : CoreState) (s : ℕ) → IsSession c.seats s
    → ◌≡◌ {A = CoreState} (given_by (record c { snaps = copied_snaps (seat_of c s).state c.snaps c.xacts }) s (record (seat_of c s) { state = copied_state (seat_of c s).state c.snaps }) c.seats) (once_given c s)
given_is c s there = by (takes_copy (seat_of c s).state)
  where
    by : (b : Bool) → ◌≡◌ {A = CoreState} (given_by (record c { snaps = cond b (after_take c.snaps c.xacts) c.snaps }) s (record (seat_of c s) { state = cond b (with_snapshot (seat_of c s).state (least_free c.snaps)) (seat_of c s).state }) c.seats)
        (let copied = copied_by b c s in given_by copied s (seat_of copied s) copied.seats)
    by true =
        let new : Seat = record (seat_of c s) { state = with_snapshot (seat_of c s).state (least_free c.snaps) } in
        let core : CoreState = record c { snaps = after_take c.snaps c.xacts } in
        sym (ap (λ (seat : Seat). given_by core s seat (slice_set c.seats (s - 1) new)) (seat_written c.seats s new there)
        ∙ ap (λ (seats : List Seat). record (given_by core s new c.seats) { seats = seats }) (set_twice c.seats (s - 1) new (record new { state = with_xid new.state (unwrap_or (xid_of new.state) (next_xid c.xacts)) })))
    by false = refl

-- the core with these parts, and a state in a seat that was lent at a place
abbrev written : CoreState → Xacts → Snaps → LogState → ℕ → Seat → State → CoreState
written c xacts snaps log at seat new = record c { xacts = xacts; snaps = snaps; log = log; seats = slice_set c.seats at (record seat { state = new }) }

-- the same from what each part is taken as
pub given_at : (c old : CoreState) (s at : ℕ) (seat : Seat) (mid new : State) (snaps : Snaps) (xacts : Xacts) (log : LogState) → c ≡ old → IsSession old.seats s → at ≡ s - 1 → seat ≡ slice_index_or c.seats at seat
    → mid ≡ copied_state seat.state c.snaps → snaps ≡ copied_snaps seat.state c.snaps c.xacts
    → new ≡ with_xid mid (unwrap_or (xid_of mid) (next_xid c.xacts)) → xacts ≡ once_assigned c.xacts s (xid_of mid) → log ≡ once_kept c.log (xid_of mid) → written c xacts snaps log at seat new ≡ once_given old s
given_at c old s at seat mid new snaps xacts log same there at_is lent mid_is snaps_is new_is xacts_is log_is =
    let here : IsSession c.seats s = subst (λ (v : CoreState). IsSession v.seats s) (sym same) there in
    let seat_is = lent_seat c s at seat here at_is lent in
    ap (written c xacts snaps log at seat) new_is
    ∙ ap (λ (x : Xacts). written c x snaps log at seat (with_xid mid (unwrap_or (xid_of mid) (next_xid c.xacts)))) xacts_is
    ∙ ap (λ (x : LogState). written c (once_assigned c.xacts s (xid_of mid)) snaps x at seat (with_xid mid (unwrap_or (xid_of mid) (next_xid c.xacts)))) log_is
    ∙ ap (λ (n : ℕ). written c (once_assigned c.xacts s (xid_of mid)) snaps (once_kept c.log (xid_of mid)) n seat (with_xid mid (unwrap_or (xid_of mid) (next_xid c.xacts)))) at_is
    ∙ ap (λ (x : Snaps). given_by (record c { snaps = x }) s (record seat { state = mid }) c.seats) snaps_is
    ∙ ap (λ (x : State). given_by (record c { snaps = copied_snaps seat.state c.snaps c.xacts }) s (record seat { state = x }) c.seats) mid_is
    ∙ ap (λ (x : Seat). given_by (record c { snaps = copied_snaps x.state c.snaps c.xacts }) s (record x { state = copied_state x.state c.snaps }) c.seats) seat_is
    ∙ given_is c s here
    ∙ ap (λ (v : CoreState). once_given v s) same

-- ---- the job

-- the core with an xid and a job at once
abbrev job_by : CoreState → ℕ → Job → CoreState
job_by v s job = record v {
  xacts = once_assigned v.xacts s (xid_of (seat_of v s).state);
  log = once_kept v.log (xid_of (seat_of v s).state);
  seats = slice_set v.seats (s - 1) (record (seat_of v s) { state = with_xid (seat_of v s).state (own_xid v s); job = job });
}

job_given : (v : CoreState) (s : ℕ) (job : Job) → IsSession v.seats s → (let given = given_by v s (seat_of v s) v.seats in seated given s (record (seat_of given s) { job = job })) ≡ job_by v s job
job_given v s job there =
    let new : Seat = record (seat_of v s) { state = with_xid (seat_of v s).state (own_xid v s) } in
    ap (λ (seat : Seat). seated (given_by v s (seat_of v s) v.seats) s (record seat { job = job })) (seat_written v.seats s new there)
    ∙ ap (λ (seats : List Seat). record (job_by v s job) { seats = seats }) (set_twice v.seats (s - 1) new (record new { job = job }))

-- with the use and the claims before it is the whole moment
moment_is : (c : CoreState) (s t : ℕ) (keys : List ℤ) (write : Writing) → job_by (with_copy (keys_locked c s t keys) s) s (jobs.Writing t write) ≡ after_write_begun c s t keys write
moment_is c s t keys write = by (takes_copy (seat_of c s).state)
  where
    by : (b : Bool) → job_by (copied_by b (keys_locked c s t keys) s) s (jobs.Writing t write)
        ≡ (let used = copied_by b (record c { locks = granted c.locks s (table_lock t Use) }) s in job_by (record used { locks = once_claimed used.locks s t keys }) s (jobs.Writing t write))
    by true = refl
    by false = refl

pub begun_is : (c : CoreState) (s t : ℕ) (keys : List ℤ) (old : Option OldRow) (new : Option Stored) (plan : List ℕ) → IsSession c.seats s → plan ≡ plan_of (columns_of c t) new
    → once_begun (keys_locked c s t keys) s t old new plan ≡ after_write_begun c s t keys (write_begun c s t old new)
begun_is c s t keys old new plan there planned =
    let mid : CoreState = keys_locked c s t keys in
    let write : new_write t s (own_xid (with_copy mid s) s) old new plan ≡ write_begun c s t old new =
    ap (λ (xid : ℕ). new_write t s xid old new plan) (own_copied mid s there) ∙ ap (new_write t s (own_xid c s) old new) planned in
    job_given (with_copy mid s) s (jobs.Writing t (new_write t s (own_xid (with_copy mid s) s) old new plan)) (copied_session mid s there)
    ∙ moment_is c s t keys (new_write t s (own_xid (with_copy mid s) s) old new plan)
    ∙ ap (after_write_begun c s t keys) write

-- it goes on past its moment
pub past_begun : (c : CoreState) (s t : ℕ) (old : Option OldRow) (new : Option Stored) (plan : List ℕ) → IsSession c.seats s → is_past_moment (seat_of (once_begun c s t old new plan) s).job ≡ true
past_begun c s t old new plan there =
    let given = once_given c s in
    let seat : Seat = record (seat_of given s) { job = jobs.Writing t (new_write t s (own_xid (with_copy c s) s) old new plan) } in
    ap (λ (its : Seat). is_past_moment its.job) (seat_written given.seats s seat (session_written (with_copy c s).seats s s _ (copied_session c s there)))
