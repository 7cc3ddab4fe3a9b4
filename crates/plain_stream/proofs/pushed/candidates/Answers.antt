use Rattle.std.proofs.Common.{◌≡◌, ◌+◌, ◌∙◌, arith, length}
use Rattle.std.specs.Prelude.{min}
use Rattle.tuple_toaster.specs.Pushed.{is_among}
use Rattle.plain_stream.proofs.Widths.{none_past}
use Rattle.plain_stream.proofs.pushed.candidates.Goals as goal

pub loop-at-init : goal.loop-at-init
loop-at-init c =
    let e : c.min-at.result ≡ min (length c.args.schema.now) (length c.args.row.now) = c.min-at.ensures in
    record {
      within_schema = omega (arith, e);
      within_row = omega (arith, e);
      so_far = c.new-all.ensures.items ∙ none_past (is_among c.args.kept.now) (c.min-at.result + 1) c.args.schema.now c.args.row.now c.min-at.result e;
    }
