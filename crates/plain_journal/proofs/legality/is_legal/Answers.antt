use Rattle.std.proofs.Common.{ap, rules}
use Rattle.command_set.specs.Journals.{may_follow_on}
use Rattle.plain_journal.proofs.SoFar.{begins, goes_on, legal_next}
use Rattle.plain_journal.proofs.legality.is_legal.Goals as goal

pub loop-entry-init : goal.loop-entry-init
loop-entry-init c = (begins c.args.script.now c.args.journal.now _ c.requires c.in_ok-run.ensures, ap (λ run. may_follow_on c.args.script.now run c.args.journal.now) c.in_ok-run.ensures)

pub loop-entry-preserved : goal.loop-entry-preserved
loop-entry-preserved c = (
  goes_on c.args.script.now c.args.journal.now c.loop-entry.entry-index c.loop-entry.run c.in_ok-run-2.run' _ c.loop-entry-test.true (search rules) c.in_ok-run-2.ensures.ok c.loop-entry.invariant.0,
  legal_next c.args.script.now c.args.journal.now c.loop-entry.entry-index c.loop-entry.run c.in_ok-run-2.run' _ c.loop-entry-test.true (search rules) c.in_ok-run-2.ensures.ok (search rules) c.loop-entry.invariant.1,
)
