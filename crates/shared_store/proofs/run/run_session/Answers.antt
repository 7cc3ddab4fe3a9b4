-- The last turn found nothing left.
use Rattle.shared_store.proofs.Moves.{turn_done}
use Rattle.shared_store.proofs.run.run_session.Goals as goal

pub returns-in-Nothing-clause-done : goal.returns-in-Nothing-clause-done
returns-in-Nothing-clause-done g c = turn_done c.args.store.now.fixed c.loop.pass c.call.new.pass c.args.session c.call.result c.call.ensures.made c.in-Nothing.is
