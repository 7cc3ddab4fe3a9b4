-- The laws of worlds, from the lemmas of each event.
use Rattle.table_rows.specs.Laws.{AreOneStays, StepsTell, MomentsTell, LookUpsFind, OwnChangesStay, ViewsStay, SinceStays, CallsAreSteps}
use Rattle.table_rows.proofs.Unique.{are_one_put, are_one_ended, are_one_replaced, are_one_taken, are_one_unchanged, are_one_assigned, are_one_committed, are_one_aborted, are_one_taken_now, are_one_shared, are_one_released}
use Rattle.table_rows.proofs.Steps as steps
use Rattle.table_rows.proofs.Moments as moments
use Rattle.table_rows.proofs.Sessions as sessions
use Rattle.table_rows.proofs.Pages.{is_put, is_ended, is_replaced, takes_dead, same_reaped, given_from, assigned_from}
use Rattle.table_rows.proofs.Views.{found_in, unfound_in, seen_is_found, view_unwritten, view_written, one_viewed}

pub are_one_stays : AreOneStays
are_one_stays = record {
  put = are_one_put;
  ended = are_one_ended;
  replaced = are_one_replaced;
  pruned = are_one_taken;
  unchanged = are_one_unchanged;
  assigned = are_one_assigned;
  committed = are_one_committed;
  aborted = are_one_aborted;
  taken = are_one_taken_now;
  shared = are_one_shared;
  released = are_one_released;
}

pub steps_tell : StepsTell
steps_tell = record {
  put_own = steps.put_own;
  put_others = steps.put_others;
  ended_own = steps.ended_own;
  ended_others = steps.ended_others;
  replaced_own = steps.replaced_own;
  replaced_others = steps.replaced_others;
  pruned = steps.taken_stays;
  unchanged = steps.unchanged_stays;
}

pub moments_tell : MomentsTell
moments_tell = record {
  latest_at_start = moments.latest_at_start;
  own_at_start = moments.own_at_start;
  new_at_start = moments.new_at_start;
  shown_at_start = moments.shown_at_start;
  latest_at_commit = moments.latest_at_commit;
  own_at_commit = moments.own_at_commit;
  own_follows_commit = moments.own_follows_commit;
  shown_at_commit = moments.shown_at_commit;
  latest_at_abort = moments.latest_at_abort;
  own_at_abort = moments.own_at_abort;
  shown_at_abort = moments.shown_at_abort;
  taken = moments.taken_at;
  shown = moments.shown_held;
  shown_stays = moments.shown_stays;
}

pub look_ups_find : LookUpsFind
look_ups_find = record {
  found = found_in;
  unfound = unfound_in;
  seen = seen_is_found;
  unwritten = view_unwritten;
  written = view_written;
  one = one_viewed;
}

pub own_changes_stay : OwnChangesStay
own_changes_stay = record {
  none = sessions.own_none;
  updated = sessions.own_updated;
  put = sessions.own_put;
  ended = sessions.own_ended;
  replaced = sessions.own_replaced;
  left = sessions.own_left;
  committed = sessions.own_committed_by;
  aborted = sessions.own_aborted_by;
  assigned = sessions.own_assigned_by;
}

pub views_stay : ViewsStay
views_stay = record {
  claimed = sessions.view_claimed;
  put = sessions.view_put;
  ended = sessions.view_ended;
  replaced = sessions.view_replaced;
  left = sessions.view_left;
  committed = sessions.view_committed;
  aborted = sessions.view_aborted;
  assigned = sessions.view_assigned;
}

pub since_stays : SinceStays
since_stays = record {
  taken = sessions.since_taken;
  put = sessions.since_put;
  ended = sessions.since_ended;
  replaced = sessions.since_replaced;
  left = sessions.since_left;
  untouched = sessions.since_untouched;
  changed = sessions.since_changed;
  aborted = sessions.since_aborted;
  assigned = sessions.since_assigned;
}

pub calls_are_steps : CallsAreSteps
calls_are_steps = record {
  put = is_put;
  ended = is_ended;
  replaced = is_replaced;
  pruned = takes_dead;
  reaped = same_reaped;
  given = given_from;
  assigned = assigned_from;
}
