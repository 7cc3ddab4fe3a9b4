use Rattle.row_versions.specs.Relations.{AreAssigned}
use Rattle.row_trials.proofs.versions.put_each.Given as goal

abbrev pub invariant-loop-key : goal.invariant-loop-key
invariant-loop-key g l = AreAssigned l.xacts l.rel.pages
