use Rattle.rewrite_full.specs.Moves.{ArePassed}
use Rattle.rewrite_full.proofs.Places.{way_left}
use Rattle.rewrite_full.proofs.visits.next_chosen.Given as goal

-- no version up to here is chosen
abbrev pub invariant-loop-tid : goal.invariant-loop-tid
invariant-loop-tid l = ArePassed l.xacts l.snaps l.rows.pages l.fn.from l.here

abbrev pub decreases-loop-tid : goal.decreases-loop-tid
decreases-loop-tid l = way_left l.rows.pages l.here
