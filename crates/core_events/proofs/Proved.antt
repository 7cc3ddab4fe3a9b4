-- The laws of an advance, from the lemmas on moments, steps and ends.
use Rattle.core_events.proofs.Advancing.{advanced_event, advanced_falls, advanced_moved, advanced_sound}
use Rattle.core_events.proofs.Failing.{failed_falls, failed_others, failed_sound}
use Rattle.core_events.proofs.Staying.{advanced_others}
use Rattle.core_events.specs.Laws.{AdvancesKeep, AdvancesRun, FailuresKeep}

pub advances_keep : AdvancesKeep
advances_keep = record {
  sound = λ c s new advance at made. advanced_sound c s new advance at.there at.sound at.parts made;
  others = λ c s new advance at made. advanced_others c s new advance at.there at.sound made;
}

pub advances_run : AdvancesRun
advances_run = record {
  event = λ c s new advance at made. advanced_event c s new advance at.there at.sound at.parts made;
  moved = λ c s new advance at made. advanced_moved c s new advance at.there at.sound at.parts made;
  falls = λ c s new advance at busy made. advanced_falls c s new advance at.there at.sound at.parts busy made;
}

pub failures_keep : FailuresKeep
failures_keep = record {
  sound = λ c s new at failed. failed_sound c s new at.there at.sound failed;
  others = λ c s new at failed. failed_others c s new at.there at.sound failed;
  falls = λ c s new at failed. failed_falls c s new at.there at.sound failed;
}
