use Rattle.store_trials.proofs.Readers.{read_keeps, read_leaves}
use Rattle.store_trials.proofs.vacuums.read.Goals as goal

pub returns-in-More-clause-others : goal.returns-in-More-clause-others
returns-in-More-clause-others g c = read_leaves c.args.store.now c.step.new.store c.args.session c.args.reader c.in-Some.fetch c.step.new.self _ c.in-Some.is c.requires c.in_ok-step.ensures.ok

pub returns-in-More-clause-holds : goal.returns-in-More-clause-holds
returns-in-More-clause-holds g c = read_keeps c.args.store.now c.step.new.store c.in-Some.fetch c.step.new.self _ c.in_ok-step.ensures.ok

pub returns-in-Done-clause-others : goal.returns-in-Done-clause-others
returns-in-Done-clause-others g c = read_leaves c.args.store.now c.step.new.store c.args.session c.args.reader c.in-Some.fetch c.step.new.self _ c.in-Some.is c.requires c.in_ok-step.ensures.ok

pub returns-in-Done-clause-holds : goal.returns-in-Done-clause-holds
returns-in-Done-clause-holds g c = read_keeps c.args.store.now c.step.new.store c.in-Some.fetch c.step.new.self _ c.in_ok-step.ensures.ok
