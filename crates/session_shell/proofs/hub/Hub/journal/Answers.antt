-- What is true of every hub.
use Rattle.session_shell.specs.contracts.hub.Hub.{the_view}
use Rattle.session_shell.proofs.Laters.{tells}
use Rattle.session_shell.proofs.News.{of_turns}
use Rattle.session_shell.proofs.hub.Hub.journal.Goals as goal

pub returns-clause-own : goal.returns-clause-own
returns-clause-own c = rw (← c.self.view_is) (tells (the_view c.self.inside) c.self.inside.progress.items c.self.invariant.0)

pub returns-clause-turned : goal.returns-clause-turned
returns-clause-turned c = rw (← c.self.view_is) c.self.invariant.3

pub returns-clause-follows : goal.returns-clause-follows
returns-clause-follows c = rw (← c.self.view_is) (of_turns (the_view c.self.inside) c.self.invariant.3)

pub returns-clause-draws : goal.returns-clause-draws
returns-clause-draws c = rw (← c.self.view_is) c.self.invariant.4.reached
