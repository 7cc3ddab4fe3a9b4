use Rattle.std.proofs.Common.{◌≡◌, ◌+◌, sym, ◌∙◌, arith, length}
use Rattle.std.proofs.lemmas.List.{length-map}
use Rattle.tuple_layout.specs.Tuples.{cell_width, cell_widths, data_start, present_bits}
use Rattle.tuple_layout.proofs.HeaderLemmas.{front_plain, front_null, start_is, two_of}
use Rattle.tuple_layout.proofs.header.header_of.Goals as goal

pub returns-then-has_null-clause-header : goal.returns-then-has_null-clause-header
returns-then-has_null-clause-header c =
    let cells = c.args.cells.now in
    let ws = cell_widths cells in
    let len : length ws ≡ length cells = length-map cells cell_width in
    let start : c.header_size-size.result ≡ data_start ws = start_is cells _ c.has_null-has_null.result c.header_size-size.ensures c.has_null-has_null.ensures in
    front_null ws (length cells + 1) c.flags.result c.header_size-size.result _ _ (omega arith) (omega arith) c.flags.ensures (omega arith) start (sym c.has_null-has_null.ensures ∙ c.if-has_null.true)
    (two_of c.to_le_bytes.result c.present_bits.result (present_bits ws) c.to_le_bytes.ensures c.present_bits.ensures)

pub returns-else-has_null-clause-header : goal.returns-else-has_null-clause-header
returns-else-has_null-clause-header c =
    let cells = c.args.cells.now in
    let ws = cell_widths cells in
    let len : length ws ≡ length cells = length-map cells cell_width in
    let start : c.header_size-size.result ≡ data_start ws = start_is cells _ c.has_null-has_null.result c.header_size-size.ensures c.has_null-has_null.ensures in
    front_plain ws (length cells + 1) c.flags.result c.header_size-size.result (omega arith) (omega arith) c.flags.ensures (omega arith) start (sym c.has_null-has_null.ensures ∙ c.if-has_null.false)
