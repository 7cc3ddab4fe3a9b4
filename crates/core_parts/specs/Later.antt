-- What a step past a moment makes of a core.
use Rattle.std.specs.Prelude.{None, Option, Some, slice_set, ℕ, ◌-◌, ◌≡◌, ◌⊎◌}
use Rattle.value_ids.specs.declared.fault.DrawFault.TheVariants.{NoValueId}
use Rattle.core_state.specs.Lines.{after_failing, with_table}
use Rattle.core_state.specs.State.{CoreState, job_table, seat_of, table_at}
use Rattle.core_state.specs.declared.advance.Advance.{Advance}
use Rattle.core_parts.specs.Steps.{IsStepCause, Lent, Steps, lent_of}
use Rattle.command_set.specs.declared.Reply.TheVariants as replies
use Rattle.core_state.specs.declared.advance.Advance.TheVariants as advances

-- what a step of a session's job, which works on this table, is lent
abbrev pub lent_at : CoreState → ℕ → ℕ → Lent
lent_at c s t = lent_of (seat_of c s) (table_at c.tables t) c.ids c.snaps c.log

-- the core with these parts in place of what was lent
abbrev pub given_back : CoreState → ℕ → ℕ → Lent → CoreState
given_back c s t lent = record c {
  ids = lent.ids;
  snaps = lent.snaps;
  log = lent.log;
  tables = with_table c.tables t lent.table;
  seats = slice_set c.seats (s - 1) lent.seat;
}

-- the step is made
pub record HasStepped (c : CoreState) (s t : ℕ) (new : CoreState) (advance : Advance) : Type 0 where
  pub lent : Lent
  pub steps : Steps (lent_at c s t) s lent advance
  pub is : new ≡ given_back c s t lent

-- its draw is refused, since every id is in use, which fails the transaction
pub record HasRefused (c : CoreState) (s t : ℕ) (new : CoreState) (advance : Advance) : Type 0 where
  pub in_use : ℕ
  pub cause : IsStepCause (lent_at c s t) (seat_of c s).job (NoValueId in_use)
  pub is : new ≡ after_failing c s
  pub told : advance ≡ advances.Done replies.NoValueId

-- by the table that the session's job works on, if it has one past its moment
abbrev pub StepsBy : Option ℕ → CoreState → ℕ → CoreState → Advance → Type 0
StepsBy None c s new advance = (new ≡ c) × (advance ≡ advances.Idle)
StepsBy (Some t) c s new advance = HasStepped c s t new advance ⊎ HasRefused c s t new advance

pub record IsStepMade (c : CoreState) (s : ℕ) (new : CoreState) (advance : Advance) : Type 0 where
  pub by : StepsBy (job_table (seat_of c s).job) c s new advance
