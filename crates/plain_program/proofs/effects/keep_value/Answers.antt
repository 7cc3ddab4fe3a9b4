use Rattle.std.specs.FinMap as map
use Rattle.plain_program.proofs.Taken.{handled_back}
use Rattle.command_set.specs.Logs.{Handles}
use Rattle.plain_program.proofs.effects.keep_value.Goals as goal

pub returns : goal.returns
returns c =
    handled_back c.args.store.now c.take_open-transaction.new.store c.set_session.new.self c.args.session c.take_open-transaction.result c.put.new.self (λ (handles : Handles). map.insert handles c.args.handle c.args.bytes)
    c.take_open-transaction.ensures.after c.take_open-transaction.ensures.taken c.in_ok-put.ensures.ok c.set_session.ensures
