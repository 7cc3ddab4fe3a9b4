use Rattle.std.proofs.Common.{◌≡◌, true}
use Rattle.write_steps.specs.Writes.{parts_of}
use Rattle.write_steps.specs.Standing.{WriteStands}
use Rattle.write_trials.proofs.writes.run.Given as goal

abbrev pub invariant-loop-n : goal.invariant-loop-n
invariant-loop-n g l = l.more ≡ true → WriteStands (parts_of l.desk.rows l.desk.toast l.desk.ids l.desk.log) l.job
