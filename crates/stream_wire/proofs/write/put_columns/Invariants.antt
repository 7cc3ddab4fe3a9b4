use Rattle.std.proofs.Common.{◌≡◌, ◌++◌, length, take}
use Rattle.std.specs.Int.{w16, to_be_bytes}
use Rattle.std.specs.List.{flat_map}
use Rattle.stream_wire.specs.Spelling.{column_bytes}
use Rattle.stream_wire.proofs.write.put_columns.Given as goal

abbrev pub invariant-loop-column : goal.invariant-loop-column
invariant-loop-column l = l.out ≡ l.fn.out ++ (to_be_bytes w16 (length l.fn.columns) ++ flat_map column_bytes (take l.column-index l.column-items))
