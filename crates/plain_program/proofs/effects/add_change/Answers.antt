use Rattle.plain_program.proofs.Taken.{changed_back}
use Rattle.plain_program.proofs.effects.add_change.Goals as goal

pub returns : goal.returns
returns c =
    changed_back c.args.store.now c.take_open-transaction.new.store c.set_session.new.self c.args.session c.take_open-transaction.result c.push.new.self c.args.change
    c.take_open-transaction.ensures.after c.take_open-transaction.ensures.taken c.in_ok-push.ensures.ok c.set_session.ensures
