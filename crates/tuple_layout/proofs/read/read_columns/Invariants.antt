use Rattle.std.proofs.Common.{◌≡◌, ◌≤◌, length, drop}
use Rattle.tuple_layout.specs.Faults.{end_of}
use Rattle.tuple_layout.specs.Reading.{HoldsFirst}
use Rattle.tuple_layout.proofs.read.read_columns.Given as goal

abbrev pub invariant-loop-storage : goal.invariant-loop-storage
invariant-loop-storage l = record {
  count : length l.cells ≡ l.storage-index;
  place : l.at ≡ end_of l.fn.schema.storages l.cells;
  within : l.at ≤ length l.body;
  holds : HoldsFirst l.fn.schema.storages l.bitmap l.body l.cells (drop l.at l.body);
}
