-- A cell whose value was taken is filled, and any other has its column already.
use Rattle.std.proofs.Common.{◌≡◌, ◌+◌, ◌∷◌, ◌++◌, List, [], take, drop, map, length, ap, ◌∙◌, arith}
use Rattle.std.proofs.lemmas.List.{length-map, length-take}
use Rattle.tuple_layout.specs.declared.cell.Cell.{Cell}
use Rattle.stream_wire.specs.declared.message.Sent.TheVariants as columns
use Rattle.decode_stream.specs.Decoding.{Found, column_of}
use Rattle.decode_stream.specs.States.{found_in}
use Rattle.decode_stream.specs.Rows.{planned}
use Rattle.decode_stream.proofs.Lists.{take_more, drop_is}
use Rattle.decode_stream.proofs.Columns.{filled_stays, filled_more, planned_stays, taken_is, left_after}
use Rattle.decode_stream.proofs.row.fill.Goals as goal
use Rattle.decode_stream.proofs.row.fill.Goals.{in-Some, in_default}

pub loop-i-preserved : goal.loop-i-preserved
loop-i-preserved c =
    let found : Found = found_in c.args.values.now.entries in
    let table = c.args.table in
    let cells = c.args.cells.now in
    let i = c.loop-i.i in
    let cell = c.index-cells-i.result in
    let before = take i cells in
    let rest = drop (i + 1) cells in
    let left = c.loop-i.invariant.values in
    let more : take (i + 1) cells ≡ before ++ cell ∷ [] = take_more cells i cell c.loop-i-test.true c.index-cells-i.is in
    let front : c.loop-i.columns ≡ map (column_of found table) before ++ planned found table before (cell ∷ rest) =
    c.loop-i.invariant.columns ∙ ap (λ (l : List Cell). map (column_of found table) before ++ planned found table before l) (drop_is cells i cell c.loop-i-test.true c.index-cells-i.is)
    in
    let len : length (map (column_of found table) before) ≡ i = omega (arith, length-map before (column_of found table), length-take i cells) in
    elim c.match-taken.branch [
      | in-Some w ↦ rw more (record {
        columns =
            w.columns-is ∙ w.set.ensures
            ∙ filled_more found table before cell rest c.loop-i.columns i (columns.Value w.into_bytes.result) len
            (ap columns.Value w.into_bytes.ensures ∙ taken_is found (found_in c.loop-i.values.entries) table before left cell w.in-Some.value w.in-Some.ensures.value)
            front;
        values = left_after found (found_in c.loop-i.values.entries) table before left (found_in c.taken.new.values.entries) cell w.in-Some.ensures.left;
      })
      | in_default w ↦ rw more (record {
        columns = w.columns-is ∙ filled_stays found table before cell rest c.loop-i.columns (planned_stays found (found_in c.loop-i.values.entries) table before left cell w.in_default.ensures.value) front;
        values = left_after found (found_in c.loop-i.values.entries) table before left (found_in c.taken.new.values.entries) cell w.in_default.ensures.left;
      })
    ]
