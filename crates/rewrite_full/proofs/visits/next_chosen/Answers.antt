use Rattle.std.proofs.Common.{◌∙◌, sym}
use Rattle.rewrite_full.proofs.Places.{passed_none, passed_over, passed_to}
use Rattle.rewrite_full.proofs.visits.next_chosen.Goals as goal

pub loop-tid-init : goal.loop-tid-init
loop-tid-init c = passed_none c.args.xacts.now c.args.snaps.now c.args.rows.now.pages c.args.from

pub returns-then-is_chosen-clause-passed : goal.returns-then-is_chosen-clause-passed
returns-then-is_chosen-clause-passed c = passed_to c.args.xacts.now c.args.snaps.now c.args.rows.now.pages c.args.from c.loop-tid.here c.in-Some.tid c.loop-tid.invariant c.in-Some.ensures.found

pub loop-tid-preserved : goal.loop-tid-preserved
loop-tid-preserved c = rw c.next_place-here.ensures.place (passed_over c.args.xacts.now c.args.snaps.now c.args.rows.now.pages c.args.from c.loop-tid.here c.in-Some.tid c.in-Some-version_at.version.now c.loop-tid.invariant c.in-Some.ensures.found (sym c.in-Some-version_at.ensures.version) (sym c.is_chosen.ensures ∙ c.if-is_chosen.false))

pub returns-clause-passed : goal.returns-clause-passed
returns-clause-passed c = c.loop-tid.invariant
