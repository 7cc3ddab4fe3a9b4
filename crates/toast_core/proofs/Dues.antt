-- What is due of a session, as its event has it.
use Rattle.std.proofs.Common.{ap, refl, subst, sym, ◌∙◌}
use Rattle.std.specs.Prelude.{List, ℕ, ◌-◌, ◌≡◌}
use Rattle.list_facts.proofs.Changed.{set_same}
use Rattle.command_set.specs.declared.Command.{Command}
use Rattle.core_state.proofs.Seats.{seat_there}
use Rattle.core_state.specs.Lines.{seated}
use Rattle.core_state.specs.State.{CoreState, IsSession, seat_of}
use Rattle.core_state.specs.declared.advance.Advance.{Advance}
use Rattle.core_state.specs.declared.seat.Job.{Job}
use Rattle.core_state.specs.declared.seat.Seat.{Seat}
use Rattle.core_parts.specs.Later.{IsStepMade}
use Rattle.core_parts.specs.Moments.{IsMade, idled}
use Rattle.core_events.specs.Advanced.{IsAdvanced, IsAdvancedBy}
use Rattle.toast_core.proofs.Idled.{made_idled}
use Rattle.toast_core.specs.Taken.{due_of, job_left, once_taken}
use Rattle.toast_core.specs.declared.events.Due.{Due}
use Rattle.core_state.specs.declared.seat.Job.TheVariants as jobs
use Rattle.toast_core.specs.declared.events.Due.TheVariants as dues

-- ---- a moment

job_submitted : (job : Job) (command : Command) → due_of job ≡ dues.Moment command → job ≡ jobs.Submitted command
job_submitted jobs.Idle command e = absurd (cc)
job_submitted (jobs.Submitted own) command e = cc
job_submitted (jobs.Reading t snapshot read) command e = absurd (cc)
job_submitted (jobs.Writing t write) command e = absurd (cc)

pub submitted_is : (c : CoreState) (s : ℕ) (command : Command) (due : Due) → due ≡ due_of (seat_of c s).job → due ≡ dues.Moment command → (seat_of c s).job ≡ jobs.Submitted command
submitted_is c s command due due_is is = job_submitted (seat_of c s).job command (sym due_is ∙ is)

pub taken_is : (c : CoreState) (s : ℕ) (command : Command) (v : CoreState) → (seat_of c s).job ≡ jobs.Submitted command → v ≡ seated c s (once_taken (seat_of c s)) → v ≡ idled c s
taken_is c s command v job is = is ∙ ap (λ (j : Job). seated c s (record (seat_of c s) { job = job_left j })) job

pub moment_advances : (c : CoreState) (s : ℕ) (command : Command) (v new : CoreState) (advance : Advance) → IsSession c.seats s → (seat_of c s).job ≡ jobs.Submitted command → v ≡ idled c s → IsMade v s command new advance → IsAdvanced c s new advance
moment_advances c s command v new advance there job is made = record {
  by = subst (λ (j : Job). IsAdvancedBy j c s new advance) (sym job) (made_idled c s command new advance there job (subst (λ (x : CoreState). IsMade x s command new advance) is made));
}

-- ---- a later step

job_stays : (job : Job) → due_of job ≡ dues.Step → job_left job ≡ job
job_stays jobs.Idle e = absurd (cc)
job_stays (jobs.Submitted own) e = absurd (cc)
job_stays (jobs.Reading t snapshot read) e = refl
job_stays (jobs.Writing t write) e = refl

pub step_same : (c : CoreState) (s : ℕ) (due : Due) (v : CoreState) → IsSession c.seats s → due ≡ due_of (seat_of c s).job → due ≡ dues.Step → v ≡ seated c s (once_taken (seat_of c s)) → v ≡ c
step_same c s due v there due_is is taken =
    taken
    ∙ ap (λ (job : Job). seated c s (record (seat_of c s) { job = job })) (job_stays (seat_of c s).job (sym due_is ∙ is))
    ∙ ap (λ (seats : List Seat). record c { seats = seats }) (set_same c.seats (s - 1) (seat_of c s) (seat_there c.seats s there))

pub step_advances : (c : CoreState) (s : ℕ) (due : Due) (v new : CoreState) (advance : Advance) → due ≡ due_of (seat_of c s).job → due ≡ dues.Step → v ≡ c → IsStepMade v s new advance → IsAdvanced c s new advance
step_advances c s due v new advance due_is is same made = record { by = by (seat_of c s).job (sym due_is ∙ is) (subst (λ (x : CoreState). IsStepMade x s new advance) same made) }
  where
    by : (job : Job) → due_of job ≡ dues.Step → IsStepMade c s new advance → IsAdvancedBy job c s new advance
    by jobs.Idle e step = step
    by (jobs.Submitted own) e step = absurd (cc)
    by (jobs.Reading t snapshot read) e step = step
    by (jobs.Writing t write) e step = step
