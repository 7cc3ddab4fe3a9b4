-- What both halves know, the joined pass knows.
use Rattle.std.proofs.Common.{arith, refl, ◌+◌, ◌-◌, ◌/◌}
use Rattle.shared_store.proofs.Moves.{done_both, done_one}
use Rattle.shared_store.proofs.run.+fn-run_sessions-back+fn-run_sessions-front+run_sessions.Goals as goal

pub returns-then-count-eq1-clause-done : goal.returns-then-count-eq1-clause-done
returns-then-count-eq1-clause-done g t c = done_one c.args.store.now.fixed c.args.from c.args.count c.run_session.result.seen (omega (arith, c.if-count-eq1.true)) c.run_session.ensures.done

pub returns-clause-done : goal.returns-clause-done
returns-clause-done g t c =
    let low = c.args.count / 2 in
    done_both c.args.store.now.fixed c.args.from low (c.args.from + low) (c.args.count - low) c.args.count _ _ c.join.new.pass.seen refl (omega arith)
    c.join-pass.ensures.first.2 c.join-pass.ensures.second.2 c.join.ensures.seen.0 c.join.ensures.seen.1 c.join.ensures.own.seen
