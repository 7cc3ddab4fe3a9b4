use Rattle.std.proofs.Common.{◌≡◌, ◌≤◌, ◌+◌, ◌*◌, ◌++◌, length, drop}
use Rattle.tuple_layout.specs.Tuples.{data_from, tuple}
use Rattle.tuple_layout.proofs.form.put_tuple.Given as goal

abbrev pub invariant-loop-storage : goal.invariant-loop-storage
invariant-loop-storage l = record {
  bound : l.at ≤ 8 + 65543 * length l.yielded;
  rest : l.out.items ++ data_from l.at (drop (length l.yielded) l.fn.schema.storages) (drop (length l.yielded) l.fn.stored.cells) ≡ l.fn.out.items ++ tuple l.fn.schema.storages l.fn.stored;
}
