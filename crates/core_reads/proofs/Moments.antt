-- What a core stands for once a session whose command has not passed its moment has another job: the reply of that is told.
use Rattle.std.proofs.Common.{ap, refl, sym, ◌∙◌}
use Rattle.std.specs.Prelude.{List, None, Option, Some, [], length, option_map, slice_get, slice_set, true, ℕ, ◌-◌, ◌<◌, ◌≡◌}
use Rattle.list_facts.proofs.Changed.{get_set_other, get_set_same}
use Rattle.snapshot_registry.specs.Snapshots.{after_take}
use Rattle.snapshot_registry.specs.declared.Held.{Held}
use Rattle.lock_table.specs.Locks.{held_by}
use Rattle.command_set.specs.Plain.{session_of}
use Rattle.command_set.specs.declared.Command.{Command}
use Rattle.command_set.specs.declared.Reply.{Reply}
use Rattle.command_set.specs.declared.state.Plain.{Plain}
use Rattle.command_set.specs.declared.state.Session.{Session}
use Rattle.command_set.specs.declared.state.Transaction.{Transaction}
use Rattle.core_state.proofs.Answered.{session_at_place, sessions_same}
use Rattle.core_state.proofs.Moved.{state_uses}
use Rattle.core_state.proofs.Seats.{seat_there}
use Rattle.core_state.proofs.Standing.{its_session, session_by, stands_seated}
use Rattle.core_state.proofs.Uses.{registered_use}
use Rattle.core_state.specs.Facts.{IsSound}
use Rattle.core_state.specs.Lines.{seated}
use Rattle.core_state.specs.Stands.{SessionStands, Stands, coming, pending_of}
use Rattle.core_state.specs.State.{CoreState, IsSession, is_open, seat_of, snapshot_of}
use Rattle.core_state.specs.Views.{registered}
use Rattle.core_state.specs.declared.seat.Job.{Job}
use Rattle.core_state.specs.declared.seat.Seat.{Seat}
use Rattle.core_state.specs.declared.seat.State.{State}
use Rattle.core_reads.proofs.Begins.{held_taken}
use Rattle.core_looks.proofs.Standing.{session_snaps, stands_moved}
use Rattle.core_reads.proofs.Reading.{with_job}
use Rattle.command_set.specs.declared.state.Session.TheVariants as plain
use Rattle.core_state.specs.declared.seat.Job.TheVariants as jobs
use Rattle.core_state.specs.declared.seat.State.TheVariants as states

-- a session in an open transaction stands for one of the plain store
pub open_of : (c : CoreState) (m : Plain) (told : List (Option Reply)) (s : ℕ) → IsSession c.seats s → Stands c m told → is_open (seat_of c s).state ≡ true → (tr : Transaction) × (session_of m s ≡ plain.Open tr)
open_of c m told s there stands inside =
    let its = its_session c s m told there stands in
    let is = by (seat_of c s).state its.session inside its.stands in
    (is.0, session_at_place m s its.session its.from_one its.at ∙ is.1)
  where
    by : (state : State) (session : Session) → is_open state ≡ true → SessionStands c.xacts c.snaps (held_by c.locks s) c.log.entries c.tables m.latest (seat_of c s) state session → (tr : Transaction) × (session ≡ plain.Open tr)
    by states.Outside session e stands = absurd (cc)
    by states.Failed session e stands = absurd (cc)
    by (states.Open level xid snapshot) plain.Outside e stands = absurd stands
    by (states.Open level xid snapshot) plain.Failed e stands = absurd stands
    by (states.Open level xid snapshot) (plain.Open tr) e stands = (tr, refl)

-- what is told last to a session is what its job comes to
told_last : (told : List (Option Reply)) (s : ℕ) (reply said : Reply) → s - 1 < length told → said ≡ reply → slice_get (slice_set told (s - 1) (Some reply)) (s - 1) ≡ Some (Some said)
told_last told s reply said counted same = get_set_same told (s - 1) (Some reply) counted ∙ ap (λ (r : Reply). Some (Some r)) (sym same)

-- the job is another
pub stands_goes : (u : CoreState) (s : ℕ) (command : Command) (job : Job) (m : Plain) (told : List (Option Reply)) (reply : Reply) → IsSession u.seats s → (seat_of u s).job ≡ jobs.Submitted command → s - 1 < length told → coming u.tables job ≡ []
    → ((said : Reply) → pending_of u.tables job ≡ Some said → said ≡ reply) → Stands u m told → Stands (seated u s (with_job u s job)) m (slice_set told (s - 1) (Some reply))
stands_goes u s command job m told reply there is counted none says stands =
    let its = its_session u s m told there stands in
    stands_seated u s (with_job u s job) m m told (slice_set told (s - 1) (Some reply)) its.session there stands refl refl refl (sessions_same m s its.session its.at)
    (session_by u.xacts u.snaps (held_by u.locks s) u.log.entries u.tables m.latest (seat_of u s) job (seat_of u s).state its.session (none ∙ sym (ap (coming u.tables) is)) its.stands)
    (λ said pends. told_last told s reply said counted (says said pends)) (λ i differ. get_set_other told (s - 1) i (Some reply) differ)

-- what a session has of the registered snapshots is the same where one is taken
pub registered_same : (u : CoreState) (i : ℕ) (seat : Seat) → slice_get u.seats i ≡ Some seat → IsSound u → registered (after_take u.snaps u.xacts) (snapshot_of seat.state) ≡ registered u.snaps (snapshot_of seat.state)
registered_same u i seat at sound = by (snapshot_of seat.state) refl
  where
    by : (o : Option ℕ) → snapshot_of seat.state ≡ o → registered (after_take u.snaps u.xacts) o ≡ registered u.snaps o
    by None e = refl
    by (Some id) e = ap (option_map (λ (held : Held). held.snapshot)) (held_taken u.snaps u.xacts id (registered_use u i seat id at (state_uses seat id e) sound))

-- the job is another, and a snapshot is taken for it
pub stands_takes : (u : CoreState) (s : ℕ) (command : Command) (job : Job) (m : Plain) (told : List (Option Reply)) (reply : Reply) → IsSession u.seats s → (seat_of u s).job ≡ jobs.Submitted command → s - 1 < length told → coming u.tables job ≡ []
    → ((said : Reply) → pending_of u.tables job ≡ Some said → said ≡ reply) → IsSound u → Stands u m told → Stands (seated (record u { snaps = after_take u.snaps u.xacts }) s (with_job u s job)) m (slice_set told (s - 1) (Some reply))
stands_takes u s command job m told reply there is counted none says sound stands =
    let its = its_session u s m told there stands in
    let by_job = session_by u.xacts u.snaps (held_by u.locks s) u.log.entries u.tables m.latest (seat_of u s) job (seat_of u s).state its.session (none ∙ sym (ap (coming u.tables) is)) its.stands in
    stands_moved u s (with_job u s job) (after_take u.snaps u.xacts) u.locks m m told (slice_set told (s - 1) (Some reply)) its.session there stands refl refl refl (sessions_same m s its.session its.at)
    (λ i other differ at. registered_same u i other at sound) (λ other differ. refl)
    (session_snaps u.xacts u.snaps (after_take u.snaps u.xacts) (held_by u.locks s) u.log.entries u.tables m.latest (with_job u s job) (seat_of u s).state its.session (registered_same u (s - 1) (seat_of u s) (seat_there u.seats s there) sound) by_job)
    (λ said pends. told_last told s reply said counted (says said pends)) (λ i differ. get_set_other told (s - 1) i (Some reply) differ)
