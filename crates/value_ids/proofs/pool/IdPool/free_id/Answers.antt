use Rattle.std.proofs.Common.{sym, ◌∙◌}
use Rattle.value_ids.proofs.Drawn.{free_above, free_below}
use Rattle.value_ids.proofs.pool.IdPool.free_id.Goals as goal

pub returns-in-Some-clause-id : goal.returns-in-Some-clause-id
returns-in-Some-clause-id g c =
    let found = rw (c.from-next.ensures, c.from.ensures, c.deref.ensures.value) at c.in-Some.ensures in
    rw (← c.self.view_is) (sym (free_above (g.T.IdTest.is_used c.args.test.now) _ c.args.table c.in-Some.id (sym found)))

pub returns-in-None-clause-id : goal.returns-in-None-clause-id
returns-in-None-clause-id g c =
    let none = rw (c.from-next.ensures, c.from.ensures, c.deref.ensures.value) at c.in-None.ensures in
    let found = rw (c.from-next.ensures, c.from-in-None.ensures, c.deref-in-None.ensures.value) at c.first_free-in-None.ensures in
    rw (← c.self.view_is) (found ∙ sym (free_below (g.T.IdTest.is_used c.args.test.now) _ c.args.table (sym none)))
