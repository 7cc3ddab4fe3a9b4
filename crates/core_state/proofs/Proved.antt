-- The laws of the lines, from the lemmas on each.
use Rattle.core_state.proofs.Below.{below}
use Rattle.core_state.proofs.Begins.{begin_granted, begin_refused, commit_left, commit_refused, data_refused_failed, data_refused_outside, rollback_left, rollback_refused, left_over}
use Rattle.core_state.proofs.Ended.{sound_committed, sound_failed, sound_given_up}
use Rattle.core_state.proofs.Overs.{sound_refused, sound_submitted, sound_turned}
use Rattle.core_state.proofs.Standing.{stands_submitted}
use Rattle.core_state.proofs.Falls.{falls, rolled_back}
use Rattle.core_state.specs.Laws.{EndsKeep, EndsStand, LeftFalls, OverKeeps, OverRuns, SubmitKeeps}

pub submit_keeps : SubmitKeeps
submit_keeps = record { sound = sound_submitted; stands = stands_submitted }

pub over_keeps : OverKeeps
over_keeps = record { refused = sound_refused; turned = sound_turned }

pub over_runs : OverRuns
over_runs = record {
  data_outside = data_refused_outside;
  data_failed = data_refused_failed;
  commit_outside = commit_refused;
  rollback_outside = rollback_refused;
  begin_inside = begin_refused;
  begin = begin_granted;
  commit_failed = commit_left;
  rollback_failed = rollback_left;
}

pub ends_keep : EndsKeep
ends_keep = record { committed = sound_committed below; given_up = sound_given_up below; failed = sound_failed below }

pub ends_stand : EndsStand
ends_stand = record { failed = falls below.tells below.since; rolled_back = rolled_back below.tells below.since }

pub left_falls : LeftFalls
left_falls = record { over = left_over }
