-- A session whose event has found no memory can be ended, and its command has failed then.
use Rattle.std.proofs.Common.{ap, cond, inl, inr, refl, subst, sym, ◌∙◌}
use Rattle.std.specs.Prelude.{Bool, false, true, ℕ, ◌≡◌}
use Rattle.snapshot_registry.specs.Snapshots.{after_take, least_free}
use Rattle.command_set.specs.declared.Command.{Command}
use Rattle.core_state.proofs.Proved.{over_keeps}
use Rattle.core_state.proofs.Seats.{seat_written, session_written, sound_of}
use Rattle.core_state.specs.Commands.{IsFitting}
use Rattle.core_state.specs.Facts.{IsSound, JobIsSound, PartsAreSound}
use Rattle.core_state.specs.Lines.{after_failing, seated, takes_copy, with_snapshot}
use Rattle.core_state.specs.State.{CoreState, IsSession, is_open, is_past_moment, is_repeatable, schemas_of, seat_of}
use Rattle.core_state.specs.declared.seat.Job.{Job}
use Rattle.core_state.specs.declared.seat.Seat.{Seat}
use Rattle.core_state.specs.declared.seat.State.{State}
use Rattle.lock_table.specs.Locks.{held_by}
use Rattle.core_looks.proofs.Proved.{uses_keep}
use Rattle.core_looks.proofs.Uses.{takes_is}
use Rattle.core_parts.proofs.Ending.{can_end, end_asked, fails_asked}
use Rattle.core_parts.specs.Ends.{CanEnd}
use Rattle.core_parts.specs.Moments.{HasAsked, IsCutShort, idled}
use Rattle.core_parts.specs.Takes.{locked, with_copy}
use Rattle.core_sights.specs.Ready.{IsReady}
use Rattle.core_events.specs.Advanced.{FailsBy}
use Rattle.core_events.specs.Laws.{IsSoundAt}
use Rattle.toast_core.proofs.Idled.{fails_idled}
use Rattle.toast_core.proofs.Parts.{parts_copied}
use Rattle.toast_core.specs.Taken.{IsCut, IsCutAt}
use Rattle.core_state.specs.declared.seat.Job.TheVariants as jobs
use Rattle.core_state.specs.declared.seat.State.TheVariants as states

-- ---- the core without its command

idled_session : (c : CoreState) (s : ℕ) → IsSession c.seats s → IsSession (idled c s).seats s
idled_session c s there = session_written c.seats s s (record (seat_of c s) { job = jobs.Idle }) there

idled_job : (c : CoreState) (s : ℕ) → IsSession c.seats s → (seat_of (idled c s) s).job ≡ jobs.Idle
idled_job c s there = ap (λ (seat : Seat). seat.job) (seat_written c.seats s (record (seat_of c s) { job = jobs.Idle }) there)

idled_sound : (c : CoreState) (s : ℕ) (command : Command) → IsSoundAt c s → (seat_of c s).job ≡ jobs.Submitted command → IsSound (idled c s)
idled_sound c s command at job = over_keeps.refused c s command at.there job at.sound

-- it is ready for the moment of its command, which fits the tables
pub ready : (c : CoreState) (s : ℕ) (command : Command) → IsSoundAt c s → (seat_of c s).job ≡ jobs.Submitted command → IsReady (idled c s) s
ready c s command at job = record {
  there = idled_session c s at.there;
  idle = idled_job c s at.there;
  sound = idled_sound c s command at job;
  parts = record { ids = at.parts.ids; tables = at.parts.tables };
}

pub fits : (c : CoreState) (s : ℕ) (command : Command) → IsSoundAt c s → (seat_of c s).job ≡ jobs.Submitted command → IsFitting (schemas_of c.tables) command
fits c s command at job = subst (λ (j : Job). JobIsSound c.xacts c.snaps c.ids (held_by c.locks s) c.tables s (seat_of c s) j) job (sound_of c s at.there at.sound).job

-- ---- it can be ended

-- one that takes its copy is open
open_copies : (state : State) → takes_copy state ≡ true → is_open state ≡ true
open_copies state copies = by state (takes_is state copies).repeats
  where
    by : (state : State) → is_repeatable state ≡ true → is_open state ≡ true
    by states.Outside e = absurd (cc)
    by states.Failed e = absurd (cc)
    by (states.Open level xid snapshot) e = refl

-- once it has its copy too, as after a table is used
end_copied : (c : CoreState) (s : ℕ) → IsSession c.seats s → is_past_moment (seat_of c s).job ≡ false → IsSound c → CanEnd (with_copy c s) s
end_copied c s there before sound = by (takes_copy (seat_of c s).state) refl
  where
    copied_by : Bool → CoreState → CoreState
    copied_by b v = cond b (seated (record v { snaps = after_take c.snaps c.xacts }) s (record (seat_of c s) { state = with_snapshot (seat_of c s).state (least_free c.snaps) })) v

    by : (b : Bool) → takes_copy (seat_of c s).state ≡ b → CanEnd (copied_by b c) s
    by false none = can_end c s there sound
    by true copies =
        let used = can_end (copied_by (takes_copy (seat_of c s).state) (locked c s 0)) s (uses_keep.session c s 0 there) (uses_keep.sound c s 0 there (open_copies (seat_of c s).state copies) before sound) in
        let can : CanEnd (copied_by true (locked c s 0)) s = subst (λ (b : Bool). CanEnd (copied_by b (locked c s 0)) s) copies used in
        record { leaves = record { session = can.leaves.session; uses = can.leaves.uses; table = can.leaves.table }; runs = can.runs; room = can.room }

short_ends : (c : CoreState) (s : ℕ) (command : Command) (new : CoreState) → IsSoundAt c s → (seat_of c s).job ≡ jobs.Submitted command → IsCutShort (idled c s) s new → CanEnd new s
short_ends c s command new at job short = elim short [
  | inl asked ↦ end_asked (idled c s) s new asked (can_end (idled c s) s (idled_session c s at.there) (idled_sound c s command at job))
  | inr asked ↦ end_asked (with_copy (idled c s) s) s new asked (end_copied (idled c s) s (idled_session c s at.there) (ap is_past_moment (idled_job c s at.there)) (idled_sound c s command at job))
]

pub cut_ends : (c : CoreState) (s : ℕ) (new : CoreState) → IsSoundAt c s → IsCut c s new → CanEnd new s
cut_ends c s new at cut = by (seat_of c s).job refl cut.by
  where
    by : (job : Job) → (seat_of c s).job ≡ job → IsCutAt job c s new → CanEnd new s
    by jobs.Idle is never = absurd never
    by (jobs.Submitted command) is short = short_ends c s command new at is short
    by (jobs.Reading t snapshot read) is same = subst (λ (v : CoreState). CanEnd v s) (sym same) (can_end c s at.there at.sound)
    by (jobs.Writing t write) is same = subst (λ (v : CoreState). CanEnd v s) (sym same) (can_end c s at.there at.sound)

-- ---- its command has failed then

short_fails : (c : CoreState) (s : ℕ) (command : Command) (new : CoreState) → IsSession c.seats s → (seat_of c s).job ≡ jobs.Submitted command → IsCutShort (idled c s) s new → FailsBy c s (after_failing new s)
short_fails c s command new there job short = elim short [
  | inl asked ↦ inl (fails_asked (idled c s) s new asked ∙ fails_idled c s command there job)
  | inr asked ↦ inr (ap is_past_moment job, fails_asked (with_copy (idled c s) s) s new asked)
]

pub cut_fails : (c : CoreState) (s : ℕ) (new : CoreState) → IsSession c.seats s → IsCut c s new → FailsBy c s (after_failing new s)
cut_fails c s new there cut = by (seat_of c s).job refl cut.by
  where
    by : (job : Job) → (seat_of c s).job ≡ job → IsCutAt job c s new → FailsBy c s (after_failing new s)
    by jobs.Idle is never = absurd never
    by (jobs.Submitted command) is short = short_fails c s command new there is short
    by (jobs.Reading t snapshot read) is same = inl (ap (λ (v : CoreState). after_failing v s) same)
    by (jobs.Writing t write) is same = inl (ap (λ (v : CoreState). after_failing v s) same)

-- and the parts are sound

parts_asked : (c : CoreState) (s : ℕ) (new : CoreState) → HasAsked c s new → PartsAreSound c → PartsAreSound new
parts_asked c s new asked parts = subst PartsAreSound (sym asked.is) (record { ids = parts.ids; tables = parts.tables })

pub cut_parts : (c : CoreState) (s : ℕ) (new : CoreState) → IsCut c s new → PartsAreSound c → PartsAreSound new
cut_parts c s new cut parts = by (seat_of c s).job cut.by
  where
    taken : PartsAreSound (idled c s)
    taken = record { ids = parts.ids; tables = parts.tables }

    by : (job : Job) → IsCutAt job c s new → PartsAreSound new
    by jobs.Idle never = absurd never
    by (jobs.Submitted command) short = elim short [
      | inl asked ↦ parts_asked (idled c s) s new asked taken
      | inr asked ↦ parts_asked (with_copy (idled c s) s) s new asked (parts_copied (idled c s) s taken)
    ]
    by (jobs.Reading t snapshot read) same = subst PartsAreSound (sym same) parts
    by (jobs.Writing t write) same = subst PartsAreSound (sym same) parts
