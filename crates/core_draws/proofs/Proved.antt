-- The laws of the ids in use and of the draws that are owed.
use Rattle.std.proofs.Common.{ap, arith, inl, inr, refl, subst, sym}
use Rattle.std.specs.Prelude.{Bool, List, [], false, slice_index_or, suc, true, zero, ℕ, ◌+◌, ◌-◌, ◌||◌, ◌∷◌, ◌≡◌, ◌≤◌, ◌⊎◌}
use Rattle.tuple_layout.specs.Schemas.{TableSchema}
use Rattle.value_ids.specs.Ids.{id_count, ids_from}
use Rattle.toast_store.specs.Stores.{is_used}
use Rattle.command_set.specs.declared.Command.{Command}
use Rattle.write_steps.specs.Writes.{Writing}
use Rattle.core_state.proofs.Ended.{job_there}
use Rattle.core_state.proofs.Lists.{sum_set}
use Rattle.core_state.proofs.Seats.{seat_there}
use Rattle.core_state.specs.Events.{Event, IsDrawRefused, IsDue, IsMoment, IsWriteDue, IsWriteOn, at_moment, line_due, line_granted}
use Rattle.core_state.specs.Lines.{after_submit}
use Rattle.core_state.specs.Moves.{OthersStay}
use Rattle.core_state.specs.State.{CoreState, job_table, no_table, nobody, seat_of}
use Rattle.core_state.specs.declared.advance.Advance.{Advance}
use Rattle.core_state.specs.declared.seat.Job.{Job}
use Rattle.core_state.specs.declared.seat.Seat.{Seat}
use Rattle.core_parts.specs.First.{first_core, tables_from}
use Rattle.core_events.specs.Laws.{IsSoundAt}
use Rattle.core_draws.proofs.Counts.{count_none, sum_none}
use Rattle.core_draws.proofs.Lines.{copied_most, failed_most, most_by, uses_at_moment, used_most}
use Rattle.core_draws.proofs.Steps.{is_write_at, read_most, refused_all, write_most}
use Rattle.core_draws.specs.Draws.{draws_begun, draws_counted, draws_of, ids_used, in_use_for}
use Rattle.core_draws.specs.Laws.{DrawsKeep, DrawsMost, DrawsRefused}
use Rattle.command_set.specs.declared.Reply.TheVariants as replies
use Rattle.core_state.specs.Events as lines
use Rattle.core_state.specs.declared.advance.Advance.TheVariants as advances
use Rattle.core_state.specs.declared.seat.Job.TheVariants as jobs

-- ---- a new core

first_unused : (number : ℕ) (schemas : List TableSchema) (i id : ℕ) → is_used (slice_index_or (tables_from number schemas) i no_table).toast id ≡ false
first_unused number [] i id = refl
first_unused number (schema ∷ schemas) zero id = refl
first_unused number (schema ∷ schemas) (suc i) id = first_unused (number + 1) schemas i id

first_draws : (schemas : List TableSchema) (low high sessions t : ℕ) → draws_counted (first_core schemas low high sessions) t ≡ 0
first_draws schemas low high sessions t =
    let c = first_core schemas low high sessions in
    let used : ids_used c t ≡ 0 = count_none (in_use_for c t) (ids_from c.ids.low (id_count c.ids)) (λ id. unused t id) in
    let owed = sum_none (λ (seat : Seat). draws_of t seat.job) nobody sessions refl in
    omega (arith, used, owed)
  where
    unused : (n id : ℕ) → in_use_for (first_core schemas low high sessions) n id ≡ false
    unused zero id = refl
    unused (suc i) id = by (is_used (slice_index_or (tables_from 1 schemas) i no_table).toast id) (first_unused 1 schemas i id)
      where
        by : (b : Bool) → b ≡ false → (b || false) ≡ false
        by true e = e
        by false e = refl

-- ---- an advance

at_line : (c new : CoreState) (s t : ℕ) (job : Job) (line : lines.MomentLine) → IsSoundAt c s → OthersStay c s new → draws_of t (seat_of c s).job ≡ 0 → new ≡ at_moment line c s → DrawsMost c new t (draws_of t (seat_of new s).job)
at_line c new s t job line at others none is = subst (λ (v : CoreState). OthersStay c s v → DrawsMost c v t (draws_of t (seat_of v s).job)) (sym is) (λ stay.
    let v = at_moment line c s in
    let left = uses_at_moment c s t line at.there at.sound in
    let used = used_most c v t left in
    most_by c v s t (draws_of t (seat_of v s).job) at.there stay left.range (omega (arith, used, none))) others

moment_most : (c new : CoreState) (s t : ℕ) (command : Command) (advance : Advance) → IsSoundAt c s → OthersStay c s new → draws_of t (seat_of c s).job ≡ 0 → IsMoment c s command new advance → DrawsMost c new t (draws_of t (seat_of new s).job)
moment_most c new s t command advances.Idle at others none due = absurd due
moment_most c new s t command advances.More at others none due = at_line c new s t (seat_of c s).job (line_granted c s command) at others none due.0
moment_most c new s t command (advances.Done reply) at others none due = at_line c new s t (seat_of c s).job (line_due c s command reply) at others none due.0

due_cases : (c : CoreState) (s t : ℕ) (write : Writing) (new : CoreState) (advance : Advance) → IsWriteDue c s t write new advance → IsWriteOn c s t write new advance ⊎ IsDrawRefused c s t write new
due_cases c s t write new (advances.Done replies.NoValueId) due = inr due
due_cases c s t write new advance due = inl due

advanced_most : (c : CoreState) (s : ℕ) (new : CoreState) (advance : Advance) (t : ℕ) → IsSoundAt c s → OthersStay c s new → Event c s new advance → DrawsMost c new t (draws_begun (seat_of c s).job (seat_of new s).job t)
advanced_most c s new advance t at others event = by (seat_of c s).job refl event.is
  where
    by : (job : Job) → (seat_of c s).job ≡ job → IsDue job c s new advance → DrawsMost c new t (draws_begun job (seat_of new s).job t)
    by jobs.Idle is due =
        let same : DrawsMost c c t 0 = record { most = omega arith; range = record { low = refl; high = refl } } in
        subst (λ (v : CoreState). DrawsMost c v t 0) (sym due.0) same
    by (jobs.Submitted command) is due = moment_most c new s t command advance at others (ap (draws_of t) is) due
    by (jobs.Reading n snapshot read) is due = read_most c new s n t snapshot read at.there (job_there c s at.there at.sound n (ap job_table is)) others due.0
    by (jobs.Writing n write) is due = elim (due_cases c s n write new advance due) [
      | inl on ↦ write_most c new s n t write advance at.there at.sound at.parts others is on
      | inr refused ↦ failed_most c new s t at.there at.sound others refused.is
    ]

submitted_most : (c : CoreState) (s : ℕ) (command : Command) (t : ℕ) → IsSoundAt c s → DrawsMost c (after_submit c s command) t 0
submitted_most c s command t at = record {
  most =
      let sums = sum_set (λ (seat : Seat). draws_of t seat.job) c.seats (s - 1) (seat_of c s) (record (seat_of c s) { job = jobs.Submitted command }) (seat_there c.seats s at.there) in
      omega (arith, sums);
  range = record { low = refl; high = refl };
}

pub draws_keep : DrawsKeep
draws_keep = record {
  first = first_draws;
  submitted = submitted_most;
  advanced = advanced_most;
  failed = λ c s new t at others fails. elim fails [
    | inl h ↦ failed_most c new s t at.there at.sound others h
    | inr h ↦ copied_most c new s t at.there others h.1
  ];
}

refused_most : (c : CoreState) (s : ℕ) (new : CoreState) (t : ℕ) (write : Writing) → IsSoundAt c s → (seat_of c s).job ≡ jobs.Writing t write → Event c s new (advances.Done replies.NoValueId) → id_count c.ids ≤ draws_counted c t
refused_most c s new t write at is event =
    let due : IsDrawRefused c s t write new = subst (λ (job : Job). IsDue job c s new (advances.Done replies.NoValueId)) is event.is in
    let all = refused_all c new s t write at.parts.ids (is_write_at c s t write at.there at.sound at.parts is) due in
    omega (arith, all)

pub draws_refused : DrawsRefused
draws_refused = record { refused = refused_most }
