use Rattle.std.proofs.Common.{◌≡◌, ◌≤◌, ◌+◌, ◌*◌, length, drop}
use Rattle.std.specs.Prelude.{◌||◌}
use Rattle.std.specs.List.{list_any}
use Rattle.tuple_layout.specs.Sizes.{data_end_from, is_missing}
use Rattle.tuple_layout.specs.Tuples.{cell_widths}
use Rattle.tuple_toaster.specs.Pushed.{moved}
use Rattle.tuple_toaster.proofs.Walks.{left_of}
use Rattle.tuple_toaster.proofs.choice.size_with.Given as goal

abbrev pub invariant-loop-storage : goal.invariant-loop-storage
invariant-loop-storage l = record {
  count : l.column ≡ length l.yielded;
  bound : l.end ≤ 8 + 65543 * length l.yielded;
  rest : data_end_from l.end (drop (length l.yielded) l.fn.schema.storages) (left_of l.fn.out l.fn.cells (length l.yielded)) ≡ data_end_from 8 l.fn.schema.storages (moved l.fn.out (cell_widths l.fn.cells));
  null : (l.has_null || list_any is_missing (left_of l.fn.out l.fn.cells (length l.yielded))) ≡ list_any is_missing (moved l.fn.out (cell_widths l.fn.cells));
}
