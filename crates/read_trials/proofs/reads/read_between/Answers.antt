use Rattle.read_trials.proofs.Passing.{pins_alive}
use Rattle.read_trials.proofs.reads.read_between.Goals as goal

pub finish_between-requires-clause-alive : goal.finish_between-requires-clause-alive
finish_between-requires-clause-alive g c = pins_alive c.args.xacts.now 16385 c.args.store.now c.find.new.store c.in_ok-find.ensures.same c.requires.alive
