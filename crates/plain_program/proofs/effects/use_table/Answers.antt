use Rattle.plain_program.proofs.Taken.{used_back}
use Rattle.plain_program.proofs.effects.use_table.Goals as goal

pub returns : goal.returns
returns c =
    used_back c.args.store.now c.take_open-transaction.new.store c.set_session.new.self c.args.session c.take_open-transaction.result c.take_copy.new.transaction c.push.new.self c.args.table
    c.take_open-transaction.ensures.after c.take_open-transaction.ensures.taken c.in_ok-take_copy.ensures c.in_ok-push.ensures.ok c.set_session.ensures
