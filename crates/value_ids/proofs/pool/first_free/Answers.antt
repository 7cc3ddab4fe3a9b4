use Rattle.std.proofs.Common.{sym, ◌∙◌}
use Rattle.std.proofs.lemmas.Bool.{not-false}
use Rattle.value_ids.proofs.Drawn.{free_later}
use Rattle.value_ids.proofs.pool.first_free.Goals as goal

pub loop-number-preserved : goal.loop-number-preserved
loop-number-preserved g c = sym (free_later (g.T.IdTest.is_used c.args.test.now) c.args.in_hand.now c.args.table c.loop-number.number c.args.end c.loop-number-test.true (not-false _ (sym c.if-is_free.ensures))) ∙ c.loop-number.invariant
