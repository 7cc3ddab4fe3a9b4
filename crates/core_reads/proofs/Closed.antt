-- The granted moment of a close: a handle is closed, and gives up its use of its snapshot.
use Rattle.std.proofs.Common.{ap, arith, cond, refl, subst, sym, ◌∙◌}
use Rattle.std.proofs.lemmas.Bool.Decides.{nat_tests}
use Rattle.std.proofs.lemmas.List.{length-set}
use Rattle.std.specs.Cmp.{nat_cmp_total}
use Rattle.std.specs.FinMap as map
use Rattle.std.specs.List.{filter}
use Rattle.std.specs.Option.{option_map_or}
use Rattle.std.specs.Ordering.{eq_by_cmp, nat_cmp}
use Rattle.std.specs.Prelude.{Bool, Contains, List, None, Option, Some, [], false, not, option_map, option_to_list, slice_get, slice_set, suc, true, ℕ, ◌++◌, ◌+◌, ◌-◌, ◌<◌, ◌==◌, ◌∷◌, ◌≡◌, ◌≢◌, ◌≤◌}
use Rattle.list_facts.proofs.Changed.{get_set_other, get_set_same}
use Rattle.list_facts.proofs.Members.{filter_holds, found_in}
use Rattle.xact_status.specs.Xacts.{Xacts}
use Rattle.snapshot_registry.specs.Snapshots.{Snaps, after_release, holders_at, is_registered}
use Rattle.value_ids.specs.Ids.{Pool}
use Rattle.lock_table.specs.Locks.{held_by}
use Rattle.lock_table.specs.declared.held.SessionLocks.{SessionLocks}
use Rattle.command_set.specs.Answers.{effect}
use Rattle.command_set.specs.Plain.{session_of, with_session}
use Rattle.command_set.specs.Replies.{is_granted, transaction_of}
use Rattle.command_set.specs.declared.Command.{Command}
use Rattle.command_set.specs.declared.Reply.{Reply}
use Rattle.command_set.specs.declared.state.Answered.{Answered}
use Rattle.command_set.specs.declared.state.Session.{Session}
use Rattle.command_set.specs.declared.state.Transaction.{Transaction}
use Rattle.table_state.specs.declared.table.Table.{Table}
use Rattle.core_looks.proofs.Replies.{none_used}
use Rattle.core_looks.proofs.Standing.{session_snaps, stands_moved}
use Rattle.core_looks.specs.Due.{granted_due, no_handle_due, reply_due}
use Rattle.core_state.proofs.Answered.{answered, session_at_place, sessions_set}
use Rattle.core_state.proofs.Begins.{left_over}
use Rattle.core_state.proofs.Below.{below}
use Rattle.core_state.proofs.Ended.{uses_most}
use Rattle.core_state.proofs.Frames.{seat_later}
use Rattle.core_state.proofs.Lists.{count_more, sum_set}
use Rattle.core_state.proofs.Moved.{sound_moved, state_uses, view_later}
use Rattle.core_state.proofs.Released.{Released, released_all, some_holders, times}
use Rattle.core_state.proofs.Seats.{number_at, place_within, seat_there, seat_written, sound_of, uses_by}
use Rattle.core_state.proofs.Standing.{its_session}
use Rattle.core_state.proofs.Uses.{counted_in, sum_at_least}
use Rattle.core_state.specs.Events.{Closed, MomentLine, Over, at_moment, left, line_granted}
use Rattle.core_state.specs.Facts.{IsSound, MayHold, MayPin, PartsAreSound, SeatIsSound, uses_in}
use Rattle.core_state.specs.Lines.{after_close}
use Rattle.core_state.specs.Moves.{Runs, Says}
use Rattle.core_state.specs.Stands.{SessionStands, Stands, coming}
use Rattle.core_state.specs.State.{CoreState, IsSession, handle_of, is_open, job_snapshot, seat_of, snapshot_of, uses_of, xid_of}
use Rattle.core_state.specs.Views.{held_value, registered}
use Rattle.core_state.specs.declared.seat.Handle.{Handle}
use Rattle.core_state.specs.declared.seat.Seat.{Seat}
use Rattle.core_reads.proofs.Begins.{same_locks}
use Rattle.core_reads.proofs.Due.{grants_handle, grants_inside}
use Rattle.core_reads.proofs.Handles.{found_closed, snapshots_of, sorted_closed, times_closed}
use Rattle.core_reads.proofs.Kept.{HandlesStand, session_kept}
use Rattle.core_reads.proofs.Moments.{open_of}
use Rattle.core_reads.proofs.Reading.{later_given_up}
use Rattle.core_reads.proofs.Told.{granted_answer}
use Rattle.core_reads.proofs.Values.{registered_left}
use Rattle.core_reads.specs.Laws.{Begins, told_then}
use Rattle.command_set.specs.declared.Command.TheVariants as commands
use Rattle.command_set.specs.declared.state.Session.TheVariants as plain
use Rattle.core_state.specs.declared.seat.Job.TheVariants as jobs

pub record CloseDue (c : CoreState) (s name : ℕ) : Type 0 where
  pub handle : Handle
  pub inside : is_open (seat_of c s).state ≡ true
  pub at : handle_of (seat_of c s).handles name ≡ Some handle
  pub named : handle.name ≡ name

close_granted : (c : CoreState) (s name : ℕ) → is_granted (reply_due c s (commands.Close name)) ≡ true → CloseDue c s name
close_granted c s name granted =
    let reply = granted_due c s (commands.Close name) in
    let opened = grants_inside (seat_of c s).state (no_handle_due c s name ∷ []) reply granted in
    let its = grants_handle (handle_of (seat_of c s).handles name) [] reply opened.rest in
    let found = (found_in (λ (h : Handle). h.name == name) (seat_of c s).handles its.is.0 its.is.1).1 in
    record { handle = its.is.0; inside = opened.is; at = its.is.1; named = grind (arith, nat_tests, found) }

-- the seat then
abbrev closed_seat : Seat → Handle → Seat
closed_seat seat handle = record seat { handles = filter (λ other. not (other.name == handle.name)) seat.handles; job = jobs.Idle }

-- ---- sound

uses_rest : (id : ℕ) (own : Option ℕ) (before after : List ℕ) (extra : ℕ) → times id after + extra ≡ times id before → times id (option_to_list own ++ ([] ++ after)) + extra ≡ times id (option_to_list own ++ ([] ++ before))
uses_rest id None before after extra same = same
uses_rest id (Some x) before after extra same =
    let new = count_more (λ (n : ℕ). n == id) x after in
    let old = count_more (λ (n : ℕ). n == id) x before in
    omega (arith, same, new, old)

close_uses : (c : CoreState) (s name : ℕ) (due : CloseDue c s name) → IsSession c.seats s → (seat_of c s).job ≡ jobs.Submitted (commands.Close name) → IsSound c → (id : ℕ)
    → uses_by id (closed_seat (seat_of c s) due.handle) + times id (due.handle.snapshot ∷ []) ≡ uses_by id (seat_of c s)
close_uses c s name due there is sound id =
    let at : handle_of (seat_of c s).handles due.handle.name ≡ Some due.handle = ap (handle_of (seat_of c s).handles) due.named ∙ due.at in
    uses_rest id (snapshot_of (seat_of c s).state) (snapshots_of (seat_of c s).handles) (snapshots_of (filter (λ other. not (other.name == due.handle.name)) (seat_of c s).handles)) (times id (due.handle.snapshot ∷ []))
    (times_closed id due.handle.name (seat_of c s).handles due.handle (sound_of c s there sound).handles.named at)
    ∙ ap (λ (o : Option ℕ). times id (option_to_list (snapshot_of (seat_of c s).state) ++ (option_to_list o ++ snapshots_of (seat_of c s).handles))) (sym (ap job_snapshot is))

close_gives : (c : CoreState) (s name : ℕ) (due : CloseDue c s name) → IsSession c.seats s → (seat_of c s).job ≡ jobs.Submitted (commands.Close name) → IsSound c → Released c.xacts c.snaps (after_release c.snaps due.handle.snapshot) (due.handle.snapshot ∷ [])
close_gives c s name due there is sound = released_all c.xacts c.snaps (due.handle.snapshot ∷ []) (λ id. most id)
  where
    most : (id : ℕ) → times id (due.handle.snapshot ∷ []) ≤ holders_at c.snaps id
    most id =
        let all = uses_most c s there sound id in
        let has = close_uses c s name due there is sound id in
        omega (arith, all, has)

close_counted : (c : CoreState) (s name : ℕ) (due : CloseDue c s name) → IsSession c.seats s → (seat_of c s).job ≡ jobs.Submitted (commands.Close name) → IsSound c → (id : ℕ)
    → holders_at (after_release c.snaps due.handle.snapshot) id ≡ uses_in (slice_set c.seats (s - 1) (closed_seat (seat_of c s) due.handle)) id
close_counted c s name due there is sound id =
    let after = (close_gives c s name due there is sound).holders id in
    let same = sound.counted id in
    let both = sum_set (uses_by id) c.seats (s - 1) (seat_of c s) (closed_seat (seat_of c s) due.handle) (seat_there c.seats s there) in
    let has = close_uses c s name due there is sound id in
    omega (arith, after, same, both, has)

close_left : (c : CoreState) (s name : ℕ) (due : CloseDue c s name) → IsSession c.seats s → (seat_of c s).job ≡ jobs.Submitted (commands.Close name) → IsSound c
    → (i : ℕ) (x : Seat) (id : ℕ) → slice_get (slice_set c.seats (s - 1) (closed_seat (seat_of c s) due.handle)) i ≡ Some x → Contains (uses_of x) id → is_registered (after_release c.snaps due.handle.snapshot) id ≡ true
close_left c s name due there is sound i x id at used =
    let some = counted_in (uses_of x) id used in
    let most = sum_at_least (uses_by id) (slice_set c.seats (s - 1) (closed_seat (seat_of c s) due.handle)) i x at in
    let same = close_counted c s name due there is sound id in
    some_holders (after_release c.snaps due.handle.snapshot) id (omega (arith, some, most, same))

own_place : (c : CoreState) (s : ℕ) (seat : Seat) → IsSession c.seats s → slice_get (slice_set c.seats (s - 1) seat) (s - 1) ≡ Some seat
own_place c s seat there = get_set_same c.seats (s - 1) seat (place_within c.seats s there)

other_place : (c : CoreState) (s i : ℕ) (seat other : Seat) → IsSession c.seats s → suc i ≢ s → slice_get c.seats i ≡ Some other → slice_get (slice_set c.seats (s - 1) seat) i ≡ Some other
other_place c s i seat other there differ at = get_set_other c.seats (s - 1) i seat (λ e. differ (ap suc e ∙ number_at s there.from_one)) ∙ at

-- the seat, before its handle's snapshot is given up
seat_closed : (xacts : Xacts) (snaps : Snaps) (ids : Pool) (held : SessionLocks) (tables : List Table) (s : ℕ) (seat : Seat) (command : Command) (handle : Handle) → seat.job ≡ jobs.Submitted command → is_open seat.state ≡ true
    → SeatIsSound xacts snaps ids held tables s seat → SeatIsSound xacts snaps ids held tables s (closed_seat seat handle)
seat_closed xacts snaps ids held tables s seat command handle is inside old = record {
  runs = old.runs;
  locks = old.locks;
  view = old.view;
  handles = record {
    outside = λ closed. absurd (cc);
    named = sorted_closed seat.handles handle.name old.handles.named;
    each = λ other e. old.handles.each other (filter_holds (λ (h : Handle). not (h.name == handle.name)) seat.handles other e).0;
  };
  job = tt;
  pins = record { each = λ t leaf e. absurd (subst (MayPin t) is (old.pins.each t leaf e)) };
  hands = record { each = λ one there of. absurd (subst (MayHold one.table) is (old.hands.each one there of)) };
}

close_sound : (c : CoreState) (s name : ℕ) (due : CloseDue c s name) → IsSession c.seats s → (seat_of c s).job ≡ jobs.Submitted (commands.Close name) → IsSound c → IsSound (after_close c s due.handle)
close_sound c s name due there is sound =
    let gives = close_gives c s name due there is sound in
    let later = after_release c.snaps due.handle.snapshot in
    let seat = closed_seat (seat_of c s) due.handle in
    let before = seat_closed c.xacts c.snaps c.ids (held_by c.locks s) c.tables s (seat_of c s) (commands.Close name) due.handle is due.inside (sound_of c s there sound) in
    let own = close_left c s name due there is sound in
    sound_moved c s seat later c.locks there refl sound refl (same_locks c.locks s) sound.apart (gives.registry sound.registry) (close_counted c s name due there is sound) (λ number table its. gives.table below.moments number table its)
    (λ i other differ at. (
      later_given_up c later (due.handle.snapshot ∷ []) (held_by c.locks (suc i)) (uses_of other) (xid_of other.state) gives (λ id used. own i other id (other_place c s i seat other there differ at) used) sound,
      λ id held used e. gives.back id held e,
    ))
    (seat_later c.xacts c.xacts c.snaps later c.ids c.tables (held_by c.locks s) s seat
    (later_given_up c later (due.handle.snapshot ∷ []) (held_by c.locks s) (uses_of seat) (xid_of (seat_of c s).state) gives (λ id used. own (s - 1) seat id (own_place c s seat there) used) sound)
    before.runs (view_later c.xacts c.snaps later (held_by c.locks s) c.tables seat (λ id held used e. gives.back id held e) before.view) before)

-- ---- in terms of the plain store

same_number : (h n : ℕ) → eq_by_cmp nat_cmp h n ≡ (h == n)
same_number h n = grind (arith, nat_tests)

close_handles : (tables : List Table) (handles : List Handle) (values : map.FinMap nat_cmp (List ℕ)) (handle : Handle) (name : ℕ) → handle.name ≡ name → HandlesStand tables handles values
    → HandlesStand tables (filter (λ other. not (other.name == handle.name)) handles) (map.remove values name)
close_handles tables handles values handle name named stand n =
    map.get-remove nat_cmp_total values name n
    ∙ ap (λ (b : Bool). cond b None (map.get values n)) (same_number n name)
    ∙ ap (λ (o : Option (List ℕ)). cond (n == name) None o) (stand n)
    ∙ by (n == name) (handle_of handles n)
    ∙ ap (λ (k : ℕ). option_map (λ (h : Handle). held_value tables h.table h.held) (cond (n == k) None (handle_of handles n))) (sym named)
    ∙ sym (ap (option_map (λ (h : Handle). held_value tables h.table h.held)) (found_closed handles handle.name n))
  where
    by : (b : Bool) (o : Option Handle) → cond b None (option_map (λ (h : Handle). held_value tables h.table h.held) o) ≡ option_map (λ (h : Handle). held_value tables h.table h.held) (cond b None o)
    by true o = refl
    by false o = refl

close_runs : (c : CoreState) (s name : ℕ) (due : CloseDue c s name) → IsSession c.seats s → (seat_of c s).job ≡ jobs.Submitted (commands.Close name) → is_granted (reply_due c s (commands.Close name)) ≡ true → PartsAreSound c → IsSound c
    → Runs c s (commands.Close name) (after_close c s due.handle) (told_then c s (commands.Close name))
close_runs c s name due there is granted parts sound m told counted stands =
    let opened = open_of c m told s there stands due.inside in
    let its = its_session c s m told there stands in
    let session : its.session ≡ plain.Open opened.0 = sym (session_at_place m s its.session its.from_one its.at) ∙ opened.1 in
    let old = subst (λ (x : Session). SessionStands c.xacts c.snaps (held_by c.locks s) c.log.entries c.tables m.latest (seat_of c s) (seat_of c s).state x) session its.stands in
    let same = ap (λ (x : Session). answered reply (effect m s (transaction_of x) command)) opened.1 in
    subst (λ (a : Answered). Stands (after_close c s due.handle) a.after (slice_set told (s - 1) (Some a.reply)) × Says command (seat_of (after_close c s due.handle) s).job (told_then c s command) a.reply)
    (sym (granted_answer c s command m m told there is granted parts sound stands (none_used m s (session_of m s)) ∙ same)) (
      moved opened.0 old its.session its.at,
      (refl, ap (λ (x : Seat). x.job) (seat_written c.seats s seat there)),
    )
  where
    command : Command
    command = commands.Close name

    reply : Reply
    reply = reply_due c s (commands.Close name)

    seat : Seat
    seat = closed_seat (seat_of c s) due.handle

    later : Snaps
    later = after_release c.snaps due.handle.snapshot

    still : (i : ℕ) (x : Seat) → slice_get (slice_set c.seats (s - 1) (closed_seat (seat_of c s) due.handle)) i ≡ Some x → registered (after_release c.snaps due.handle.snapshot) (snapshot_of x.state) ≡ registered c.snaps (snapshot_of x.state)
    still i x at = registered_left c.snaps later (snapshot_of x.state) (λ id e. close_left c s name due there is sound i x id at (state_uses x id e)) (close_gives c s name due there is sound).back

    moved : (tr : Transaction) → SessionStands c.xacts c.snaps (held_by c.locks s) c.log.entries c.tables m.latest (seat_of c s) (seat_of c s).state (plain.Open tr) → (before : Session) → slice_get m.sessions (s - 1) ≡ Some before
        → Stands (after_close c s due.handle) (with_session m s (plain.Open (record tr { handles = map.remove tr.handles name }))) (slice_set told (s - 1) (Some reply))
    moved tr old before at =
        let next = record tr { handles = map.remove tr.handles name } in
        let kept = session_kept c.xacts c.snaps (held_by c.locks s) c.log.entries c.tables m.latest (seat_of c s) (seat_of c s).state tr (filter (λ other. not (other.name == due.handle.name)) (seat_of c s).handles) jobs.Idle (map.remove tr.handles name)
        (sym (ap (coming c.tables) is)) (λ stand. close_handles c.tables (seat_of c s).handles tr.handles due.handle name due.named stand) old in
        stands_moved c s seat later c.locks m (with_session m s (plain.Open next)) told (slice_set told (s - 1) (Some reply)) (plain.Open next) there stands refl refl (length-set m.sessions (s - 1) (plain.Open next)) (sessions_set m s before (plain.Open next) at)
        (λ i other differ found. still i other (other_place c s i seat other there differ found)) (λ other differ. refl)
        (session_snaps c.xacts c.snaps later (held_by c.locks s) c.log.entries c.tables m.latest seat (seat_of c s).state (plain.Open next) (still (s - 1) seat (own_place c s seat there)) kept)
        (λ said pends. absurd (cc)) (λ i differ. get_set_other told (s - 1) i (Some reply) differ)

close_line : (c : CoreState) (s name : ℕ) (handle : Handle) → handle_of (seat_of c s).handles name ≡ Some handle → line_granted c s (commands.Close name) ≡ Closed handle
close_line c s name handle at = ap (λ (o : Option Handle). option_map_or Closed o (Over (seat_of c s).state)) at

pub close_begins : (name : ℕ) → Begins (commands.Close name)
close_begins name = record {
  sound = λ c s there is granted parts sound.
      let due = close_granted c s name granted in
      subst (λ (line : MomentLine). IsSound (at_moment line c s)) (sym (close_line c s name due.handle due.at)) (close_sound c s name due there is sound);
  runs = λ c s there is granted parts sound.
      let due = close_granted c s name granted in
      subst (λ (line : MomentLine). Runs c s (commands.Close name) (at_moment line c s) (told_then c s (commands.Close name))) (sym (close_line c s name due.handle due.at)) (close_runs c s name due there is granted parts sound);
  falls = λ c s there is granted.
      let due = close_granted c s name granted in
      subst (λ (line : MomentLine). left (at_moment line c s) s < left c s) (sym (close_line c s name due.handle due.at))
      (left_over c (after_close c s due.handle) s (commands.Close name) is (ap (λ (x : Seat). x.job) (seat_written c.seats s (closed_seat (seat_of c s) due.handle) there)));
}
