use Rattle.std.proofs.Common.{◌-◌}
use Rattle.rewrite_facts.specs.Holds.{RewriteHolds}
use Rattle.rewrite_facts.specs.Rewrites.{at_stage, table_of}
use Rattle.rewrite_facts.specs.declared.stage.RewriteStage.TheVariants.{Placing}
use Rattle.rewrite_full.specs.Moves.{HasNoMore}
use Rattle.rewrite_full.proofs.rewrite.Rewrite.pass_shared.Given as goal

-- what holds of a rewrite that puts this copy from here on, and that no more steps are left than at first
abbrev pub invariant-loop-at : goal.invariant-loop-at
invariant-loop-at l = let old = table_of l.old.rows.now l.old.toast.now in RewriteHolds l.old.xacts.now l.old.snaps.now old (at_stage l.self (Placing l.copy l.columns l.at)) × HasNoMore old l.self (Placing l.fn.copy l.columns l.fn.at) l.self (Placing l.copy l.columns l.at)

abbrev pub decreases-loop-at : goal.decreases-loop-at
decreases-loop-at l = l.count - l.at
