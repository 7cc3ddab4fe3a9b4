-- A write's moment is made, from how it has begun or why it has not.
use Rattle.std.proofs.Common.{ap, inl, refl, subst, sym, ◌∙◌}
use Rattle.std.specs.Prelude.{Err, IfErr, IfOk, IsErrAnd, IsErrOf, Ok, OnErr, OnOk, Option, Result, Some, ℕ, ◌≡◌}
use Rattle.std.specs.declared.alloc.AllocError.{AllocError}
use Rattle.command_set.specs.Answers.{table_of}
use Rattle.command_set.specs.declared.Command.{Command}
use Rattle.command_set.specs.declared.Reply.{Reply}
use Rattle.core_state.specs.Events.{GivenUp, Looked, line_due, line_granted}
use Rattle.core_state.specs.Facts.{IsSound}
use Rattle.core_state.specs.Lines.{after_failing, after_looking, failed_state}
use Rattle.core_state.specs.State.{CoreState, IsSession, seat_of}
use Rattle.core_state.specs.declared.advance.Advance.{Advance}
use Rattle.core_looks.proofs.Refused.{job_given, job_looked, line_by}
use Rattle.core_looks.proofs.Refusing.{fails_by}
use Rattle.core_looks.specs.Due.{reply_due}
use Rattle.core_parts.proofs.Ending.{can_end, end_asked, fails_asked}
use Rattle.core_parts.proofs.Made.{made_on, made_over}
use Rattle.core_parts.specs.Ends.{CanEnd}
use Rattle.core_parts.specs.Moments.{HasAsked, IsCutShort, IsMade}
use Rattle.core_writing.specs.Begins.{HasBegun}
use Rattle.core_writing.specs.Stops.{IsAnswered, IsRefused, IsStopBy, IsStopped}
use Rattle.core_writing.specs.declared.stop.Stop.{Stop}
use Rattle.command_set.specs.declared.Reply.TheVariants as replies
use Rattle.core_state.specs.declared.advance.Advance.TheVariants as advances
use Rattle.core_writing.specs.declared.stop.Stop.TheVariants as stops

-- ---- stops

-- for want of memory
pub stopped_memory : (c : CoreState) (s : ℕ) (command : Command) (new : CoreState) (stop : Stop) → stop ≡ stops.Memory → IsCutShort c s new → IsStopped c s command new stop
stopped_memory c s command new stop is cut = subst (IsStopped c s command new) (sym is) cut

-- or by a refusal
pub stopped_by : (c : CoreState) (s : ℕ) (command : Command) (new : CoreState) (due : Option Reply) (stop : Stop) → HasAsked c s new → ((reply : Reply) → due ≡ Some reply → reply_due c s command ≡ reply) → IsStopBy due stop → IsStopped c s command new stop
stopped_by c s command new due stops.Memory asked first by = inl asked
stopped_by c s command new due (stops.Refused reply) asked first by = record { asked = asked; due = first reply by.0; fails_it = by.1 }

-- as a call's error is passed on
pub memory_passed : {T : Type 0} (c : CoreState) (s : ℕ) (command : Command) (new : CoreState) (begun : Result T Stop) → IsErrAnd begun (λ stop. stop ≡ stops.Memory) → IsCutShort c s new → IfErr begun (IsStopped c s command new)
memory_passed c s command new (Ok x) is cut = tt
memory_passed c s command new (Err stop) is cut = stopped_memory c s command new stop is cut

pub stop_passed : {T : Type 0} (c : CoreState) (s : ℕ) (command : Command) (new : CoreState) (due : Option Reply) (stop : Stop) (begun : Result T Stop) → IsErrAnd begun (λ its. its ≡ stop) → HasAsked c s new
    → ((reply : Reply) → due ≡ Some reply → reply_due c s command ≡ reply) → IsStopBy due stop → IfErr begun (IsStopped c s command new)
stop_passed c s command new due stop (Ok x) is asked first by = tt
stop_passed c s command new due stop (Err its) is asked first by = subst (IsStopped c s command new) (sym is) (stopped_by c s command new due stop asked first by)

-- ---- the answer

-- a refusal's transaction can be failed
pub can_fail : (c : CoreState) (s : ℕ) (command : Command) (mid : CoreState) (begun : Result (Unit {0}) Stop) (reply : Reply) → IsSession c.seats s → IsSound c → IfErr begun (IsStopped c s command mid) → IsErrOf begun (stops.Refused reply) → CanEnd mid s
can_fail c s command mid begun reply there sound stopped is =
    let refused : IsRefused c s command mid reply = subst (λ (r : Result (Unit {0}) Stop). IfErr r (IsStopped c s command mid)) is stopped in
    end_asked c s mid refused.asked (can_end c s there sound)

begun_made : (c : CoreState) (s : ℕ) (command : Command) (mid new : CoreState) (advance : Advance) → HasBegun c s command mid → new ≡ mid → advance ≡ advances.More → IsMade c s command new advance
begun_made c s command mid new advance begun same told =
    subst (λ (v : CoreState). IsMade c s command v advance) (sym same) (made_on c s command replies.Okay (line_granted c s command) mid advance begun.due refl begun.is begun.past told)

refused_made : (c : CoreState) (s : ℕ) (command : Command) (mid new : CoreState) (reply : Reply) (advance : Advance) → IsSession c.seats s → IsRefused c s command mid reply → new ≡ after_failing mid s → advance ≡ advances.Done reply → IsMade c s command new advance
refused_made c s command mid new reply advance there refused failed told =
    let kind = fails_by reply refused.fails_it in
    let line : line_due c s command reply ≡ GivenUp (failed_state (seat_of c s).state) = line_by c s command reply kind.refuses ∙ kind.line (seat_of c s).state (table_of command) in
    let is : new ≡ after_failing c s = failed ∙ fails_asked c s mid refused.asked in
    made_over c s command reply (GivenUp (failed_state (seat_of c s).state)) new advance refused.due line is (ap (λ (v : CoreState). (seat_of v s).job) is ∙ job_given c s (failed_state (seat_of c s).state) there) told

-- what a moment's answer is
pub record IsMoment (c : CoreState) (s : ℕ) (command : Command) (new : CoreState) (answered : Result Advance AllocError) : Type 0 where
  pub ok : IfOk answered (IsMade c s command new)
  pub err : OnErr answered (IsCutShort c s new)

pub answered_made : (c : CoreState) (s : ℕ) (command : Command) (mid new : CoreState) (begun : Result (Unit {0}) Stop) (answered : Result Advance AllocError) → IsSession c.seats s
    → OnOk begun (HasBegun c s command mid) → IfErr begun (IsStopped c s command mid) → IsAnswered mid s begun new answered → IsMoment c s command new answered
answered_made c s command mid new (Ok t) answered there begun stopped is =
    subst (IsMoment c s command new) (sym is.1) (record { ok = begun_made c s command mid new advances.More begun is.0 refl; err = tt })
answered_made c s command mid new (Err stops.Memory) answered there begun stopped is =
    subst (IsMoment c s command new) (sym is.1) (record { ok = tt; err = subst (IsCutShort c s) (sym is.0) stopped })
answered_made c s command mid new (Err (stops.Refused reply)) answered there begun stopped is =
    subst (IsMoment c s command new) (sym is.1) (record { ok = refused_made c s command mid new reply (advances.Done reply) there stopped is.0 refl; err = tt })

-- ---- a look-up that finds no row

pub absent_made : (c : CoreState) (s t : ℕ) (command : Command) (new : CoreState) (answered : Result Advance AllocError) → IsSession c.seats s → reply_due c s command ≡ replies.Absent → line_due c s command replies.Absent ≡ Looked t → OnOk answered (new ≡ after_looking c s t)
    → IfOk answered (λ advance. advance ≡ advances.Done replies.Absent) → IfOk answered (IsMade c s command new)
absent_made c s t command new (Ok advance) there due line is told = made_over c s command replies.Absent (Looked t) new advance due line is (ap (λ (v : CoreState). (seat_of v s).job) is ∙ job_looked c s t there) told
absent_made c s t command new (Err e) there due line is told = tt
