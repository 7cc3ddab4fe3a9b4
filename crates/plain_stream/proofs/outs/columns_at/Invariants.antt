use Rattle.std.proofs.Common.{◌≡◌}
use Rattle.std.specs.VecDeque.Iter.{deque_iter_rest}
use Rattle.plain_stream.specs.States.{outs_in}
use Rattle.plain_stream.proofs.outs.columns_at.Given as goal

abbrev pub invariant-loop-edit : goal.invariant-loop-edit
invariant-loop-edit l = outs_in l.schemas l.log.items l.place ≡ outs_in l.schemas (deque_iter_rest l.edit-iterator) l.place
