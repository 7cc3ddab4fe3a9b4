-- The hub was taken with all that the pass had seen.
use Rattle.session_shell.specs.History.{history_of}
use Rattle.shared_store.proofs.Moves.{turn_taken, waited_begins, waited_mine}
use Rattle.shared_store.proofs.store.SharedStore.call.Goals as goal

pub returns-clause-made : goal.returns-clause-made
returns-clause-made g c =
    let history = history_of c.take-hub.result.journal in
    turn_taken c.args.self.now.fixed c.args.pass.now c.take-hub.new.pass c.make.new.pass c.args.session c.make.result
    (waited_begins c.args.pass.now c.take-hub.new.pass history c.take-hub.ensures.took)
    (waited_mine c.args.pass.now c.take-hub.new.pass history c.take-hub.ensures.took)
    c.make.ensures.made
