use Rattle.std.proofs.Common.{◌≡◌, ◌-◌}
use Rattle.value_ids.specs.Ids.{first_free_of, ids_from}
use Rattle.value_ids.proofs.pool.first_free.Given as goal

abbrev pub invariant-loop-number : goal.invariant-loop-number
invariant-loop-number g l = first_free_of (g.T.IdTest.is_used l.test) l.in_hand l.table (ids_from l.number (l.end - l.number)) ≡ first_free_of (g.T.IdTest.is_used l.test) l.in_hand l.table (ids_from l.from (l.end - l.from))
