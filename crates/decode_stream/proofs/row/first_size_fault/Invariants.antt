use Rattle.std.proofs.Common.{◌≡◌, [], filter_map, take}
use Rattle.decode_stream.specs.Decoding.{cell_fault}
use Rattle.decode_stream.specs.States.{found_in}
use Rattle.decode_stream.proofs.row.first_size_fault.Given as goal

-- no cell so far has a fault
abbrev pub invariant-loop-cell : goal.invariant-loop-cell
invariant-loop-cell l = filter_map (cell_fault (found_in l.values.entries) l.table) (take l.cell-index l.cells) ≡ []
