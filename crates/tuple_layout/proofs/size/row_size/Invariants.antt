use Rattle.std.proofs.Common.{◌≡◌, ◌≤◌, ◌+◌, ◌*◌, length, drop}
use Rattle.tuple_layout.specs.Sizes.{data_end_from}
use Rattle.tuple_layout.specs.Tuples.{cell_widths}
use Rattle.tuple_layout.proofs.size.row_size.Given as goal

abbrev pub invariant-loop-storage : goal.invariant-loop-storage
invariant-loop-storage l = record {
  bound : l.end ≤ 8 + 65543 * length l.yielded;
  rest : data_end_from l.end (drop (length l.yielded) l.fn.schema.storages) (cell_widths (drop (length l.yielded) l.cells)) ≡ data_end_from 8 l.fn.schema.storages (cell_widths l.cells);
}
