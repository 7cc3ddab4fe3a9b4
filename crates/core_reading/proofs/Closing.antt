-- The moment of a close, by what it finds.
use Rattle.std.proofs.Common.{ap, arith, ◌∙◌}
use Rattle.std.proofs.lemmas.Bool.Decides.{nat_tests}
use Rattle.std.specs.List.{filter}
use Rattle.std.specs.Option.{option_map_or}
use Rattle.std.specs.Prelude.{Option, Some, [], is_none, map, not, option_to_list, true, ℕ, ◌++◌, ◌-◌, ◌==◌, ◌∷◌, ◌≡◌}
use Rattle.list_facts.proofs.Members.{found_in}
use Rattle.snapshot_registry.specs.Snapshots.{after_release, is_registered}
use Rattle.command_set.specs.Replies.{answers_if, first_of}
use Rattle.core_state.proofs.Lists.{in_append_right, mapped_in}
use Rattle.core_state.proofs.Seats.{seat_there, seat_written}
use Rattle.core_state.proofs.Uses.{registered_use}
use Rattle.core_state.specs.Events.{Closed, Over}
use Rattle.core_state.specs.Lines.{after_close, seated}
use Rattle.core_state.specs.State.{CoreState, handle_of, job_snapshot, seat_of, snapshot_of}
use Rattle.core_state.specs.declared.advance.Advance.{Advance}
use Rattle.core_state.specs.declared.seat.Handle.{Handle}
use Rattle.core_state.specs.declared.seat.Job.{Job}
use Rattle.core_state.specs.declared.seat.Seat.{Seat}
use Rattle.core_looks.specs.Due.{granted_due, no_handle_due, reply_due}
use Rattle.core_parts.proofs.Made.{first_inside, made_over}
use Rattle.core_parts.specs.Moments.{IsMade}
use Rattle.core_parts.specs.Takes.{without_named}
use Rattle.core_reading.specs.Handles.{InTransaction}
use Rattle.core_sights.specs.Ready.{IsReady}
use Rattle.command_set.specs.declared.Command.TheVariants as commands
use Rattle.command_set.specs.declared.Reply.TheVariants as replies
use Rattle.core_state.specs.declared.advance.Advance.TheVariants as advances
use Rattle.core_state.specs.declared.seat.Job.TheVariants as jobs

-- an open handle's snapshot is registered
pub used_there : (c : CoreState) (s name : ℕ) (handle : Handle) → IsReady c s → handle_of (seat_of c s).handles name ≡ Some handle → is_registered c.snaps handle.snapshot ≡ true
used_there c s name handle ready at =
    let among = (found_in (λ (h : Handle). h.name == name) (seat_of c s).handles handle at).0 in
    let mapped = mapped_in (λ (h : Handle). h.snapshot) (seat_of c s).handles handle among in
    let later = in_append_right (option_to_list (job_snapshot (seat_of c s).job)) (map (λ (h : Handle). h.snapshot) (seat_of c s).handles) handle.snapshot mapped in
    registered_use c (s - 1) (seat_of c s) handle.snapshot (seat_there c.seats s ready.there)
    (in_append_right (option_to_list (snapshot_of (seat_of c s).state)) (option_to_list (job_snapshot (seat_of c s).job) ++ map (λ (h : Handle). h.snapshot) (seat_of c s).handles) handle.snapshot later) ready.sound

-- it is given up
closed_is : (c : CoreState) (s name : ℕ) (handle : Handle) → (seat_of c s).job ≡ jobs.Idle → handle_of (seat_of c s).handles name ≡ Some handle → without_named c s name handle.snapshot ≡ after_close c s handle
closed_is c s name handle idle at =
    let found = (found_in (λ (h : Handle). h.name == name) (seat_of c s).handles handle at).1 in
    let same : name ≡ handle.name = grind (arith, nat_tests, found) in
    ap (λ (job : Job). seated (record c { snaps = after_release c.snaps handle.snapshot }) s (record (seat_of c s) { handles = filter (λ (other : Handle). not (other.name == name)) (seat_of c s).handles; job = job })) idle
    ∙ ap (λ (n : ℕ). seated (record c { snaps = after_release c.snaps handle.snapshot }) s (record (seat_of c s) { handles = filter (λ (other : Handle). not (other.name == n)) (seat_of c s).handles; job = jobs.Idle })) same

-- ---- its moment

named_due : (c : CoreState) (s name : ℕ) (o : Option Handle) → InTransaction c s → handle_of (seat_of c s).handles name ≡ o → reply_due c s (commands.Close name) ≡ first_of (answers_if (is_none o) replies.NoHandle ∷ []) replies.Okay
named_due c s name o inside at =
    first_inside (seat_of c s).state (no_handle_due c s name ∷ []) (granted_due c s (commands.Close name)) inside.inside
    ∙ ap (λ (x : Option Handle). first_of (answers_if (is_none x) replies.NoHandle ∷ []) replies.Okay) at

pub close_made : (c : CoreState) (s name : ℕ) (handle : Handle) (new : CoreState) (advance : Advance) → InTransaction c s → handle_of (seat_of c s).handles name ≡ Some handle → new ≡ without_named c s name handle.snapshot → advance ≡ advances.Done replies.Okay → IsMade c s (commands.Close name) new advance
close_made c s name handle new advance inside at is told =
    let closed = is ∙ closed_is c s name handle inside.ready.idle at in
    made_over c s (commands.Close name) replies.Okay (Closed handle) new advance (named_due c s name (Some handle) inside at)
    (ap (λ (o : Option Handle). option_map_or Closed o (Over (seat_of c s).state)) at) closed
    (ap (λ (v : CoreState). (seat_of v s).job) closed ∙ ap (λ (seat : Seat). seat.job) (seat_written c.seats s _ inside.ready.there)) told
