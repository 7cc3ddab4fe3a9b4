use Rattle.std.proofs.Common.{length, ◌≤◌, arith}
use Rattle.lock_table.proofs.Padding.{padded_more}
use Rattle.lock_table.proofs.locks.put_past.Goals as goal

pub loop-place-preserved : goal.loop-place-preserved
loop-place-preserved c =
    let below : length c.args.sessions.now.items ≤ c.loop-place._place = omega arith in
    padded_more _ _ _ _ c.new.result below c.loop-place.invariant c.new.ensures c.in_ok-push.ensures.items
