use Rattle.std.proofs.Common.{◌≤◌, ◌+◌, ℕ, length, arith, length-take}
use Rattle.toast_io.proofs.Answered.{memory_answered}
use Rattle.toast_io.proofs.Taken.{takes_one_more, takes_within}
use Rattle.toast_io.proofs.whole.read_by_pieces.Goals as goal

pub returns-in-Ok-clause-bytes : goal.returns-in-Ok-clause-bytes
returns-in-Ok-clause-bytes g c =
    let small : length c.read.new.buf ≤ c.loop-bytes.room + 1 = omega (arith, c.read.auto.buf, length-take {A = ℕ}) in
    takes_one_more _ _ _ c.loop-bytes.bytes c.read.new.buf c.in-Ok.count c.loop-bytes.room c.args.limit
    c.loop-bytes.invariant.taken c.in-Ok.ensures.bytes.0 c.in-Ok.ensures.bound.0 small c.loop-bytes.invariant.room c.if-count-room.true

pub returns-in_err-extend_from_slice-in-Ok-2-clause-bytes : goal.returns-in_err-extend_from_slice-in-Ok-2-clause-bytes
returns-in_err-extend_from_slice-in-Ok-2-clause-bytes g c =
    memory_answered c.args.limit _ _ c.from_residual.result c.from_residual.ensures.1
    (takes_within _ _ _ c.loop-bytes.bytes c.read.new.buf c.in-Ok.count c.loop-bytes.room c.args.limit
    c.loop-bytes.invariant.taken c.in-Ok.ensures.bytes.0 c.in-Ok.ensures.bound.0 c.loop-bytes.invariant.room c.if-count-room.false)
