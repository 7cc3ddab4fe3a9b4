use Rattle.std.proofs.Common.{◌≡◌, ℕ, ◌++◌, take, drop, map, None, if◌then◌else◌}
use Rattle.std.specs.List.{list_any}
use Rattle.decode_stream.specs.Decoding.{column_of}
use Rattle.decode_stream.specs.States.{found_in}
use Rattle.decode_stream.specs.Rows.{planned, points_to}
use Rattle.decode_stream.proofs.row.fill.Given as goal

-- the columns of the cells so far are filled, the others planned; the values of the cells so far are taken
abbrev pub invariant-loop-i : goal.invariant-loop-i
invariant-loop-i l = record {
  columns : l.columns ≡ map (column_of (found_in l.fn.values.entries) l.table) (take l.i l.cells) ++ planned (found_in l.fn.values.entries) l.table (take l.i l.cells) (drop l.i l.cells);
  values : (value_id : ℕ) → found_in l.values.entries l.table value_id ≡ (if list_any (points_to value_id) (take l.i l.cells) then None else found_in l.fn.values.entries l.table value_id);
}
