-- What an advance makes of a core: the moment of the command that is submitted, or the next step of what is past it; or, where memory is wanting, the end of the transaction.
use Rattle.std.specs.Prelude.{Option, false, ℕ, ◌≡◌, ◌⊎◌}
use Rattle.core_state.specs.Lines.{after_failing}
use Rattle.core_state.specs.State.{CoreState, is_past_moment, seat_of}
use Rattle.core_state.specs.declared.advance.Advance.{Advance}
use Rattle.core_state.specs.declared.seat.Job.{Job}
use Rattle.core_parts.specs.Later.{IsStepMade}
use Rattle.core_parts.specs.Moments.{IsMade, idled}
use Rattle.core_parts.specs.Takes.{with_copy}
use Rattle.core_state.specs.declared.seat.Job.TheVariants as jobs

abbrev pub IsAdvancedBy : Job → CoreState → ℕ → CoreState → Advance → Type 0
IsAdvancedBy jobs.Idle c s new advance = IsStepMade c s new advance
IsAdvancedBy (jobs.Submitted command) c s new advance = IsMade c s command new advance
IsAdvancedBy (jobs.Reading t snapshot read) c s new advance = IsStepMade c s new advance
IsAdvancedBy (jobs.Writing t write) c s new advance = IsStepMade c s new advance

pub record IsAdvanced (c : CoreState) (s : ℕ) (new : CoreState) (advance : Advance) : Type 0 where
  pub by : IsAdvancedBy (seat_of c s).job c s new advance

-- memory is wanting, and the session's transaction has failed, which before its command's moment may have taken its copy
abbrev pub FailsBy : CoreState → ℕ → CoreState → Type 0
FailsBy c s new = (new ≡ after_failing c s) ⊎ ((is_past_moment (seat_of c s).job ≡ false) × (new ≡ after_failing (with_copy (idled c s) s) s))
