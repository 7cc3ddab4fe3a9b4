-- A command that ends for want of memory: the core is sound then, and stands for the state in which the session's open transaction has failed.
use Rattle.std.proofs.Common.{ap, cond, inl, inr, refl, subst, sym, ◌∙◌}
use Rattle.std.specs.Prelude.{Bool, List, Option, [], false, option_map, slice_set, true, ℕ, ◌-◌, ◌≡◌, ◌⊎◌}
use Rattle.list_facts.proofs.Changed.{set_twice}
use Rattle.lock_table.specs.Locks.{after_end, table_lock}
use Rattle.lock_table.specs.declared.held.SessionLocks.{SessionLocks}
use Rattle.lock_table.specs.declared.lock.LockMode.TheVariants.{Use}
use Rattle.snapshot_registry.specs.Snapshots.{Snaps, after_take, least_free}
use Rattle.command_set.specs.Answers.{failed_session, with_failure, with_use}
use Rattle.command_set.specs.Plain.{session_of, with_session}
use Rattle.command_set.specs.declared.Reply.{Reply}
use Rattle.command_set.specs.declared.state.Plain.{Plain}
use Rattle.command_set.specs.declared.state.Session.{Session}
use Rattle.command_set.specs.declared.state.Transaction.{Transaction}
use Rattle.core_looks.proofs.Proved.{granted_tell, uses_keep}
use Rattle.core_looks.proofs.Replies.{has_open}
use Rattle.core_state.proofs.Proved.{ends_keep, ends_stand}
use Rattle.core_state.proofs.Seats.{seat_written, session_written}
use Rattle.core_state.specs.Facts.{IsSound}
use Rattle.core_state.specs.Lines.{after_failing, after_use, failed_state, ids_released, once_aborted, once_ended, once_released, once_unpinned, seated, takes_copy, with_snapshot}
use Rattle.core_state.specs.Moves.{Falls, OthersStay}
use Rattle.core_state.specs.Stands.{Stands}
use Rattle.core_state.specs.State.{CoreState, IsSession, is_open, is_past_moment, job_table, seat_of, uses_of, xid_of}
use Rattle.core_state.specs.declared.seat.Job.{Job}
use Rattle.core_state.specs.declared.seat.Seat.{Seat}
use Rattle.core_state.specs.declared.seat.State.{State}
use Rattle.core_parts.proofs.Ending.{asks_granted, asks_nothing}
use Rattle.core_events.specs.Advanced.{FailsBy}
use Rattle.core_events.proofs.Staying.{others_failing, others_through, others_use}
use Rattle.core_parts.proofs.Taking.{copy_is}
use Rattle.core_parts.specs.Moments.{idled}
use Rattle.core_parts.specs.Takes.{copied_snaps, copied_state, locked, with_copy}
use Rattle.change_log.specs.declared.entry.LogEntry.TheVariants as entries
use Rattle.command_set.specs.declared.state.Session.TheVariants as plain
use Rattle.core_state.specs.declared.seat.Job.TheVariants as jobs
use Rattle.core_state.specs.declared.seat.State.TheVariants as states

-- ---- the core without its command

idled_session : (c : CoreState) (s : ℕ) → IsSession c.seats s → IsSession (idled c s).seats s
idled_session c s there = session_written c.seats s s (record (seat_of c s) { job = jobs.Idle }) there

idled_seat : (c : CoreState) (s : ℕ) → IsSession c.seats s → seat_of (idled c s) s ≡ record (seat_of c s) { job = jobs.Idle }
idled_seat c s there = seat_written c.seats s (record (seat_of c s) { job = jobs.Idle }) there

-- ---- the core after it

-- the core after a session has failed that has this seat
abbrev failed_with : CoreState → ℕ → Snaps → Seat → List Seat → CoreState
failed_with c s snaps x seats = record c {
  ids = ids_released c.ids s;
  xacts = once_aborted c.xacts (xid_of x.state);
  snaps = once_released snaps (uses_of x);
  locks = after_end c.locks s;
  log = once_ended c.log (option_map (λ xid. entries.Abort xid) (xid_of x.state));
  tables = once_unpinned c.tables s (job_table x.job);
  seats = slice_set seats (s - 1) (record { state = failed_state x.state; handles = []; job = jobs.Idle });
}

fails_written : (c : CoreState) (s : ℕ) (snaps : Snaps) (x : Seat) → IsSession c.seats s → after_failing (record c { snaps = snaps; seats = slice_set c.seats (s - 1) x }) s ≡ failed_with c s snaps x c.seats
fails_written c s snaps x there =
    ap (λ (y : Seat). failed_with c s snaps y (slice_set c.seats (s - 1) x)) (seat_written c.seats s x there)
    ∙ ap (λ (seats : List Seat). record (failed_with c s snaps x c.seats) { seats = seats }) (set_twice c.seats (s - 1) x (record { state = failed_state x.state; handles = []; job = jobs.Idle }))

-- with its copy
abbrev copied : Seat → Snaps → Seat
copied x snaps = record x { state = copied_state x.state snaps }

fails_copied : (c : CoreState) (s : ℕ) → IsSession c.seats s → after_failing (with_copy c s) s ≡ failed_with c s (copied_snaps (seat_of c s).state c.snaps c.xacts) (copied (seat_of c s) c.snaps) c.seats
fails_copied c s there =
    ap (λ (v : CoreState). after_failing v s) (sym (copy_is c s there))
    ∙ fails_written c s (copied_snaps (seat_of c s).state c.snaps c.xacts) (copied (seat_of c s) c.snaps) there

-- a command that is not past its moment holds nothing by itself
job_holds_none : (c : CoreState) (s : ℕ) (snaps : Snaps) (x : Seat) (job : Job) → is_past_moment job ≡ false → failed_with c s snaps (record x { job = jobs.Idle }) c.seats ≡ failed_with c s snaps (record x { job = job }) c.seats
job_holds_none c s snaps x jobs.Idle before = refl
job_holds_none c s snaps x (jobs.Submitted command) before = refl
job_holds_none c s snaps x (jobs.Reading t snapshot read) before = absurd (cc)
job_holds_none c s snaps x (jobs.Writing t write) before = absurd (cc)

-- that the command is taken out makes no difference
fails_taken : (c : CoreState) (s : ℕ) → IsSession c.seats s → is_past_moment (seat_of c s).job ≡ false → after_failing (with_copy (idled c s) s) s ≡ after_failing (with_copy c s) s
fails_taken c s there before =
    fails_copied (idled c s) s (idled_session c s there)
    ∙ ap (λ (x : Seat). failed_with (idled c s) s (copied_snaps x.state c.snaps c.xacts) (copied x c.snaps) (idled c s).seats) (idled_seat c s there)
    ∙ ap (λ (seats : List Seat). record (failed_with c s snaps taken c.seats) { seats = seats }) (set_twice c.seats (s - 1) (record (seat_of c s) { job = jobs.Idle }) (record { state = failed_state taken.state; handles = []; job = jobs.Idle }))
    ∙ job_holds_none c s snaps (copied (seat_of c s) c.snaps) (seat_of c s).job before
    ∙ sym (fails_copied c s there)
  where
    snaps : Snaps
    snaps = copied_snaps (seat_of c s).state c.snaps c.xacts

    taken : Seat
    taken = record (copied (seat_of c s) c.snaps) { job = jobs.Idle }

-- nor does a table that it uses
fails_using : (c : CoreState) (s t : ℕ) → IsSession c.seats s → IsSound c → after_failing (with_copy c s) s ≡ after_failing (after_use c s t) s
fails_using c s t there sound = by (takes_copy (seat_of c s).state)
  where
    ended : after_end c.locks s ≡ after_end (locked c s t).locks s
    ended = sym (asks_granted c s c (table_lock t Use) there sound.places (asks_nothing c s) refl).locks

    by : (b : Bool) → after_failing (cond b (seated (record c { snaps = after_take c.snaps c.xacts }) s (record (seat_of c s) { state = with_snapshot (seat_of c s).state (least_free c.snaps) })) c) s
        ≡ after_failing (cond b (seated (record (locked c s t) { snaps = after_take c.snaps c.xacts }) s (record (seat_of c s) { state = with_snapshot (seat_of c s).state (least_free c.snaps) })) (locked c s t)) s
    by true = ap (λ (locks : List SessionLocks). record (after_failing (seated (record c { snaps = after_take c.snaps c.xacts }) s (record (seat_of c s) { state = with_snapshot (seat_of c s).state (least_free c.snaps) })) s) { locks = locks }) ended
    by false = ap (λ (locks : List SessionLocks). record (after_failing c s) { locks = locks }) ended

-- and in no open transaction there is no copy
copies_none : (c : CoreState) (s : ℕ) → is_open (seat_of c s).state ≡ false → with_copy c s ≡ c
copies_none c s closed = ap (λ (b : Bool). cond b (seated (record c { snaps = after_take c.snaps c.xacts }) s (record (seat_of c s) { state = with_snapshot (seat_of c s).state (least_free c.snaps) })) c) (by (seat_of c s).state closed)
  where
    by : (state : State) → is_open state ≡ false → takes_copy state ≡ false
    by states.Outside e = refl
    by states.Failed e = refl
    by (states.Open level xid snapshot) e = absurd (cc)

-- ---- what it comes to

record Fails (c : CoreState) (s : ℕ) (new : CoreState) : Type 0 where
  sound : IsSound new
  falls : Falls c s new
  others : OthersStay c s new

fails_now : (c : CoreState) (s : ℕ) → IsSession c.seats s → IsSound c → Fails c s (after_failing c s)
fails_now c s there sound = record { sound = ends_keep.failed c s there sound; falls = ends_stand.failed c s there sound; others = others_failing c s there sound }

fails_used : (c : CoreState) (s : ℕ) → IsSession c.seats s → IsSound c → is_past_moment (seat_of c s).job ≡ false → is_open (seat_of c s).state ≡ true → Fails c s (after_failing (after_use c s 0) s)
fails_used c s there sound before inside =
    let later = uses_keep.session c s 0 there in
    let kept = uses_keep.sound c s 0 there inside before sound in
    let fell = ends_stand.failed (after_use c s 0) s later kept in
    record {
      sound = ends_keep.failed (after_use c s 0) s later kept;
      falls = record { stands = λ m replies stands. stood fell m replies stands; over = fell.over };
      others = others_through c (after_use c s 0) (after_failing (after_use c s 0) s) s (others_use c s 0) (others_failing (after_use c s 0) s later kept);
    }
  where
    twice : (m : Plain) (tr used : Transaction) → session_of m s ≡ plain.Open tr → session_of (with_session m s (plain.Open used)) s ≡ plain.Open used → with_failure (with_session m s (plain.Open used)) s ≡ with_failure m s
    twice m tr used was is =
        ap (λ (x : Session). with_session (with_session m s (plain.Open used)) s (failed_session x)) is
        ∙ ap (λ (sessions : List Session). record m { sessions = sessions }) (set_twice m.sessions (s - 1) (plain.Open used) plain.Failed)
        ∙ sym (ap (λ (x : Session). with_session m s (failed_session x)) was)

    stood : Falls (after_use c s 0) s (after_failing (after_use c s 0) s) → (m : Plain) (replies : List (Option Reply)) → Stands c m replies → Stands (after_failing (after_use c s 0) s) (with_failure m s) replies
    stood fell m replies stands =
        let opened = has_open c m replies s there stands inside in
        let tr = opened.transaction in
        subst (λ (n : Plain). Stands (after_failing (after_use c s 0) s) n replies) (twice m tr (with_use m tr 0) opened.is (granted_tell.its c s m replies (with_use m tr 0) there stands))
        (fell.stands (with_session m s (plain.Open (with_use m tr 0))) replies (uses_keep.stands c m replies s 0 tr there before sound stands opened.is))

fails_by : (c : CoreState) (s : ℕ) (new : CoreState) → IsSession c.seats s → IsSound c → FailsBy c s new → Fails c s new
fails_by c s new there sound failed = elim failed [
  | inl is ↦ subst (λ (v : CoreState). Fails c s v) (sym is) (fails_now c s there sound)
  | inr h ↦ by h.0 (h.1 ∙ fails_taken c s there h.0) (is_open (seat_of c s).state) refl
]
  where
    by : is_past_moment (seat_of c s).job ≡ false → new ≡ after_failing (with_copy c s) s → (b : Bool) → is_open (seat_of c s).state ≡ b → Fails c s new
    by before is true inside = subst (λ (v : CoreState). Fails c s v) (sym (is ∙ fails_using c s 0 there sound)) (fails_used c s there sound before inside)
    by before is false closed = subst (λ (v : CoreState). Fails c s v) (sym (is ∙ ap (λ (v : CoreState). after_failing v s) (copies_none c s closed))) (fails_now c s there sound)

pub failed_sound : (c : CoreState) (s : ℕ) (new : CoreState) → IsSession c.seats s → IsSound c → FailsBy c s new → IsSound new
failed_sound c s new there sound failed = (fails_by c s new there sound failed).sound

pub failed_falls : (c : CoreState) (s : ℕ) (new : CoreState) → IsSession c.seats s → IsSound c → FailsBy c s new → Falls c s new
failed_falls c s new there sound failed = (fails_by c s new there sound failed).falls

pub failed_others : (c : CoreState) (s : ℕ) (new : CoreState) → IsSession c.seats s → IsSound c → FailsBy c s new → OthersStay c s new
failed_others c s new there sound failed = (fails_by c s new there sound failed).others
