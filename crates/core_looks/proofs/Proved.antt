-- The laws, from the lemmas on each.
use Rattle.core_state.proofs.Begins.{left_over}
use Rattle.core_state.specs.Events.{at_moment, line_due}
use Rattle.core_state.specs.Lines.{after_commit_of}
use Rattle.core_looks.proofs.Answering.{runs_refused}
use Rattle.core_looks.proofs.Before.{session_in_use, used_at}
use Rattle.core_looks.proofs.Commits.{commit_runs, job_committed}
use Rattle.core_looks.proofs.Granting.{answer_granted}
use Rattle.core_looks.proofs.Refused.{refused_is}
use Rattle.core_looks.proofs.Replies.{reply_is}
use Rattle.core_looks.proofs.Used.{sees_used, session_used, sound_looked, stands_looked, stands_used, used_is}
use Rattle.core_looks.proofs.Uses.{sound_used}
use Rattle.core_looks.proofs.Views.{open_as, seen_is, there_is}
use Rattle.core_looks.specs.Due.{reply_due}
use Rattle.core_looks.specs.Laws.{CommitsRun, GrantedTell, LooksTell, RefusedMoments, RepliesAreDue, UsesKeep}
use Rattle.command_set.specs.declared.Command.TheVariants as commands
use Rattle.command_set.specs.declared.state.Session.TheVariants as plain

pub uses_keep : UsesKeep
uses_keep = record {
  sound = sound_used;
  stands = stands_used;
  session = session_used;
  leaves = used_is;
  sees = sees_used;
  looked = sound_looked;
  answered = stands_looked;
}

pub looks_tell : LooksTell
looks_tell = record {
  view = λ c s t key m replies tr there of before sound parts stands is. seen_is c m s t key tr there of before sound parts (open_as c m replies s tr there stands is);
  now = λ c s t key m replies tr there of before sound parts stands is. there_is c m s t key tr there of before sound parts (open_as c m replies s tr there stands is);
}

pub replies_are_due : RepliesAreDue
replies_are_due = reply_is

pub refused_moments : RefusedMoments
refused_moments = record {
  sound = λ c s command there sound job refuses. (refused_is c s command there sound job refuses).sound;
  runs = runs_refused;
  falls = λ c s command there sound job refuses. left_over c (at_moment (line_due c s command (reply_due c s command)) c s) s command job (refused_is c s command there sound job refuses).over;
}

pub granted_tell : GrantedTell
granted_tell = record {
  is = answer_granted;
  used = λ c s t m replies tr stands is. used_at m s t tr stands.upkeep is;
  its = λ c s m replies tr there stands. session_in_use c m replies s (plain.Open tr) there stands;
}

pub commits_run : CommitsRun
commits_run = record { runs = commit_runs; falls = λ c s there job. left_over c (after_commit_of c s) s commands.Commit job (job_committed c s there) }
