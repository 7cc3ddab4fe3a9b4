use Rattle.std.proofs.Common.{◌≡◌, ◌<◌, ◌+◌, ◌*◌, ◌^◌, drop, map}
use Rattle.tuple_layout.specs.Tuples.{cell_widths, is_there, number_of_bits, present_bits}
use Rattle.tuple_layout.proofs.header.present_bits.Given as goal

abbrev pub invariant-loop-cell : goal.invariant-loop-cell
invariant-loop-cell l = record {
  below : l.bits < l.bit;
  power : l.bit ≡ 2 ^ (l.cell-index + 1);
  rest : l.bits + l.bit * number_of_bits (map is_there (cell_widths (drop l.cell-index l.cells))) ≡ present_bits (cell_widths l.cells);
}
