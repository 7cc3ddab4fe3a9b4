use Rattle.std.proofs.Common.{arith, refl}
use Rattle.tuple_toaster.specs.Pushed.{is_among}
use Rattle.plain_stream.proofs.Widths.{none_left, one_more}
use Rattle.plain_stream.proofs.pushed.data_end.Goals as goal

pub returns-in-None-clause-end : goal.returns-in-None-clause-end
returns-in-None-clause-end c = none_left (is_among c.args.kept.now) c.args.out.now c.loop-column.at c.loop-column.column _ c.args.schema.now c.args.row.now c.in-None.ensures.lookup.3 c.loop-column.invariant.1

pub loop-column-preserved : goal.loop-column-preserved
loop-column-preserved c = (
  omega (arith, c.column_end-at.ensures.near, c.loop-column.invariant.0),
  one_more (is_among c.args.kept.now) c.args.out.now c.loop-column.at c.loop-column.column _ _ c.args.schema.now c.args.row.now _ _ _ _ c.loop-column-test.true c.in-Some.ensures.lookup.3.0 refl c.in-Some.ensures.lookup.1 c.column_end-at.ensures.end c.loop-column.invariant.1,
)
