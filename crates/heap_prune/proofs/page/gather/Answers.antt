use Rattle.std.proofs.Common.{◌<◌, ◌++◌, length, arith, sym, ◌∙◌}
use Rattle.heap_prune.specs.Lines.{pruned}
use Rattle.slot_page.specs.DeadSlots.{is_dead_line, tids_where}
use Rattle.slot_page.proofs.Gathered.{gathered_all}
use Rattle.heap_prune.proofs.Gathering.{gathered_one, gathered_none, front_kept}
use Rattle.heap_prune.proofs.page.gather.Goals as goal
use Rattle.heap_prune.proofs.page.gather.Goals.{then-is_dead_after+in_ok-push, else-is_dead_after}

pub loop-slot-preserved : goal.loop-slot-preserved
loop-slot-preserved g c =
    let prunes = pruned g.T.Stamped.stamp_of c.args.xacts.now c.args.horizon in
    let page = c.args.page.now in
    let slot = c.loop-slot.slot in
    let so_far = c.loop-slot.invariant in
    let after = c.if-is_dead_after.dead in
    let all = c.args.dead.now ++ tids_where (λ line. is_dead_line (prunes line)) c.args.number 0 page in
    let within : slot < length page = omega (arith, c.loop-slot-test.true, c.len-slot-end.ensures.count) in
    elim c.if-is_dead_after.branch [
      | then-is_dead_after+in_ok-push w ↦ record {
        gathered = gathered_one (λ line. is_dead_line (prunes line)) c.args.number slot page c.loop-slot.dead after all within (sym w.if-is_dead_after.true ∙ c.is_dead_after.ensures) (w.dead-is ∙ w.in_ok-push.ensures.ok) so_far.gathered;
        kept = front_kept c.args.dead.now c.loop-slot.dead after (record { page = c.args.number; slot = slot }) (w.dead-is ∙ w.in_ok-push.ensures.ok) so_far.kept;
      }
      | else-is_dead_after w ↦ record {
        gathered = gathered_none (λ line. is_dead_line (prunes line)) c.args.number slot page c.loop-slot.dead after all within (sym w.if-is_dead_after.false ∙ c.is_dead_after.ensures) w.dead-is so_far.gathered;
        kept = rw w.dead-is so_far.kept;
      }
    ]

pub returns-clause-gathered : goal.returns-clause-gathered
returns-clause-gathered g c = gathered_all is_dead_line (pruned g.T.Stamped.stamp_of c.args.xacts.now c.args.horizon) c.args.number c.loop-slot.slot c.args.page.now c.loop-slot.dead c.args.dead.now (omega (arith, c.len-slot-end.ensures.count)) c.loop-slot.invariant.gathered
