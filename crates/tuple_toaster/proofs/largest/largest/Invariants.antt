use Rattle.std.proofs.Common.{◌≡◌, ◌+◌, length, drop}
use Rattle.tuple_layout.specs.Tuples.{cell_widths}
use Rattle.tuple_toaster.specs.Pushed.{eligible_from, moved}
use Rattle.tuple_toaster.specs.Largest.{first_of, longer}
use Rattle.tuple_toaster.proofs.Walks.{left_of}
use Rattle.tuple_toaster.proofs.largest.largest.Given as goal

abbrev pub invariant-loop-storage : goal.invariant-loop-storage
invariant-loop-storage l = record {
  count : l.column ≡ length l.yielded;
  best : longer l.best (first_of (eligible_from (length l.yielded + 1) (drop (length l.yielded) l.fn.schema.storages) (left_of l.fn.out l.fn.cells (length l.yielded)))) ≡ first_of (eligible_from 1 l.fn.schema.storages (moved l.fn.out (cell_widths l.fn.cells)));
}
