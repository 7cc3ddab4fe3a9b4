use Rattle.std.proofs.Common.{◌≡◌}
use Rattle.std.specs.VecDeque.Iter.{deque_iter_rest}
use Rattle.command_set.specs.Logs.{newest}
use Rattle.command_set.proofs.rows.newest_row.Given as goal

abbrev pub invariant-loop-edit : goal.invariant-loop-edit
invariant-loop-edit l = newest l.log.items l.place ≡ newest (deque_iter_rest l.edit-iterator) l.place
