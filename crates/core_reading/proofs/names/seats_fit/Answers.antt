use Rattle.std.proofs.Common.{arith, subst}
use Rattle.std.specs.Prelude.{List, length, ◌≤◌}
use Rattle.core_state.proofs.Answered.{within}
use Rattle.core_state.specs.declared.seat.Handle.{Handle}
use Rattle.core_state.specs.declared.seat.Seat.{Seat}
use Rattle.core_reading.proofs.Few.{each_more, there_at}
use Rattle.core_reading.specs.Handles.{AreNamed}
use Rattle.core_reading.proofs.names.seats_fit.Goals as goal

pub loop-seat-preserved : goal.loop-seat-preserved
loop-seat-preserved c =
    each_more (λ (seat : Seat). AreNamed seat.handles → length seat.handles ≤ 65536) c.args.seats.now c.loop-seat.seat-index c.seat-item.result
    (there_at c.args.seats.now c.loop-seat.seat-index c.seat-item.result c.loop-seat-test.true c.seat-item.is)
    (subst (λ (handles : List Handle). AreNamed handles → length handles ≤ 65536) c.as_slice.ensures c.handles_fit.ensures) c.loop-seat.invariant

pub returns : goal.returns
returns c = record {
  each = λ i seat at.
      let h = within c.args.seats.now i seat at in
      c.loop-seat.invariant i seat (omega (arith, h)) at;
}
