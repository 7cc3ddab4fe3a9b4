-- Each half has fewer sessions.
use Rattle.std.proofs.Common.{◌+◌, ◌*◌}
use Rattle.shared_store.proofs.run.+fn-run_sessions-back+fn-run_sessions-front+run_sessions.Given as goal

abbrev pub decreases-back : goal.decreases-back
decreases-back g l = 2 * l.high + 1

abbrev pub decreases-front : goal.decreases-front
decreases-front g l = 2 * l.low + 1

abbrev pub decreases-run_sessions : goal.decreases-run_sessions
decreases-run_sessions g l = 2 * l.count
