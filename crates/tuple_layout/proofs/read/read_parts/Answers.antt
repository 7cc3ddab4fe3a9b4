use Rattle.std.proofs.Common.{◌≡◌, List, sym, ap, arith, ◌∙◌, inr}
use Rattle.std.proofs.lemmas.Result.{err_from_is_err_and}
use Rattle.std.proofs.lemmas.Int.{to_z-of_z, ints}
use Rattle.std.specs.Int.RustNames.{FitsSigned}
use Rattle.std.specs.Int.{cast_signed as to_z, cast_unsigned as of_z}
use mir.Syntax.{w64}
use Rattle.tuple_layout.specs.declared.cell.Cell.{Cell}
use Rattle.tuple_layout.specs.Tuples.{cell_widths, header}
use Rattle.tuple_layout.proofs.ColumnLemmas.{columns_fault, goes_past, holds_all, other_header, whole, differ, same_bytes, past_end, at_end}
use Rattle.tuple_layout.proofs.read.read_parts.Goals as goal

pub returns-in_err-cells-clause-fault : goal.returns-in_err-cells-clause-fault
returns-in_err-cells-clause-fault c =
    let start = c.in_ok-start in
    let p = err_from_is_err_and c.from_residual-in_err-cells.result c.from_residual-in_err-cells.ensures.1 in
    let fault = rw (c.read_bitmap.ensures, c.split_at.ensures.back) at c.in_err-cells.ensures.fault in
    rw (p.1, p.2) (columns_fault c.args.schema.now.storages c.args.bytes.now start.start c.in_err-cells.field-0.0 start.ensures.header.0 start.ensures.header.1 start.ensures.key fault)

pub returns-then-rest-gt0-clause-fault : goal.returns-then-rest-gt0-clause-fault
returns-then-rest-gt0-clause-fault c =
    let start = c.in_ok-start in
    let holds = rw (c.read_bitmap.ensures, c.split_at.ensures.back) at c.in_ok-cells.ensures.found in
    let more = past_end c.args.bytes.now c.split_at.result.1.now start.start c.in_ok-cells.end c.split_at.ensures.back c.if-rest-gt0.true in
    goes_past c.args.schema.now.storages c.args.bytes.now start.start c.in_ok-cells.end c.in_ok-cells.cells start.ensures.header.0 start.ensures.header.1 start.ensures.key holds c.in_ok-cells.ensures.all c.in_ok-cells.ensures.end.0 more

pub returns-then-ne-clause-fault : goal.returns-then-ne-clause-fault
returns-then-ne-clause-fault c =
    let start = c.in_ok-start in
    let cells = c.in_ok-cells.cells in
    let bytes = c.args.bytes.now in
    let holds = rw (c.read_bitmap.ensures, c.split_at.ensures.back) at c.in_ok-cells.ensures.found in
    let past = at_end c.args.bytes.now c.split_at.result.1.now start.start c.in_ok-cells.end c.split_at.ensures.back c.if-rest-gt0.false in
    let all = holds_all c.args.schema.now.storages bytes start.start c.in_ok-cells.end cells start.ensures.header.0 start.ensures.header.1 start.ensures.key holds past in
    let wanted = c.header_of-size.ensures.header ∙ ap (λ (x : List Cell). header (cell_widths x)) c.as_slice.ensures in
    inr (other_header c.args.schema.now.storages bytes start.start cells _ all start.ensures.header.1 c.in_ok-cells.ensures.all wanted (λ e. differ _ _ c.ne.result c.ne.ensures c.if-ne.true (c.split_at.ensures.front ∙ e)))

pub returns-clause-found : goal.returns-clause-found
returns-clause-found c =
    let start = c.in_ok-start in
    let cells = c.in_ok-cells.cells in
    let bytes = c.args.bytes.now in
    let key = c.read_key-key.result in
    let holds = rw (c.read_bitmap.ensures, c.split_at.ensures.back) at c.in_ok-cells.ensures.found in
    let past = at_end c.args.bytes.now c.split_at.result.1.now start.start c.in_ok-cells.end c.split_at.ensures.back c.if-rest-gt0.false in
    let all = holds_all c.args.schema.now.storages bytes start.start c.in_ok-cells.end cells start.ensures.header.0 start.ensures.header.1 start.ensures.key holds past in
    let wanted = c.header_of-size.ensures.header ∙ ap (λ (x : List Cell). header (cell_widths x)) c.as_slice.ensures in
    let front = sym c.split_at.ensures.front ∙ same_bytes _ _ c.ne.result c.ne.ensures c.if-ne.false ∙ wanted in
    let fits : FitsSigned w64 key = omega (arith, ints, c.read_key-key.type_inv) in
    let same : to_z w64 (of_z w64 key) ≡ key = to_z-of_z w64 key fits in
    rw same (whole c.args.schema.now.storages bytes (record { key = key; cells = cells }) all c.in_ok-cells.ensures.all fits
    (rw (← start.ensures.header.1) front) (rw (← start.ensures.header.1, ← c.split_at.ensures.back) c.read_key-key.ensures))
