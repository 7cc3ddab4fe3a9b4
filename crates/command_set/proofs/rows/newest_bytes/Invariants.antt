use Rattle.std.proofs.Common.{◌≡◌}
use Rattle.std.specs.VecDeque.Iter.{deque_iter_rest}
use Rattle.command_set.specs.Logs.{newest_value}
use Rattle.command_set.proofs.rows.newest_bytes.Given as goal

abbrev pub invariant-loop-edit : goal.invariant-loop-edit
invariant-loop-edit l = newest_value l.log.items l.handle ≡ newest_value (deque_iter_rest l.edit-iterator) l.handle
