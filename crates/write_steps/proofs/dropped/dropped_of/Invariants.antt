use Rattle.std.proofs.Common.{◌≡◌, ◌++◌, drop}
use Rattle.write_steps.specs.Dropped.{dropped_of}
use Rattle.write_steps.proofs.dropped.dropped_of.Given as goal

-- with those of the columns still to come, all
abbrev pub invariant-loop-at : goal.invariant-loop-at
invariant-loop-at l = l.dropped ++ dropped_of (drop l.at l.cells) (drop l.at l.news) ≡ dropped_of l.cells l.news
