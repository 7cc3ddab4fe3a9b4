use Rattle.std.proofs.Common.{◌≡◌}
use Rattle.std.specs.Prelude.{if◌then◌else◌}
use Rattle.tuple_layout.specs.Tuples.{cell_width, is_there}
use Rattle.tuple_layout.proofs.DataLemmas.{bit_is, bits_more, bit_adds}
use Rattle.tuple_layout.proofs.HeaderLemmas.{power_more}
use Rattle.tuple_layout.proofs.header.present_bits.Goals as goal

pub loop-cell-preserved : goal.loop-cell-preserved
loop-cell-preserved c =
    let l = c.loop-cell in
    let cell = c.cell-item.result in
    let bit : c.from.result ≡ (if is_there (cell_width cell) then 1 else 0) = bit_is c.from.result c.is_null.result _ c.from.ensures c.is_null.ensures in
    record {
      below = rw bit (bit_adds l.bits l.bit (is_there (cell_width cell)) l.invariant.below);
      power = power_more l.bit l.cell-index l.invariant.power;
      rest = rw bit (bits_more l.bits l.bit l.cell-index _ c.args.cells.now cell c.loop-cell-test.true c.cell-item.is l.invariant.rest);
    }
