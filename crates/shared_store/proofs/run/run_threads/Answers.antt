-- Each session is over, so the journal is complete.
use Rattle.std.proofs.Common.{arith}
use Rattle.shared_store.proofs.Moves.{done_all, done_later}
use Rattle.shared_store.proofs.run.run_threads.Goals as goal

pub returns-clause-done : goal.returns-clause-done
returns-clause-done g c =
    done_all c.args.store.now.fixed c.join.new.pass.seen c.join.ensures.own.seen (λ s one within.
    done_later c.args.store.now.fixed s c.run_sessions-other.result.seen c.join.new.pass.seen
    (c.run_sessions-other.ensures.done.each s one (omega (arith, within, c.requires.sessions)))
    c.join.ensures.seen.1 c.join.ensures.own.seen)
