-- The hub was taken with all that the pass had seen.
use Rattle.std.proofs.Common.{◌≡◌, subst}
use Rattle.session_shell.specs.History.{history_of}
use Rattle.shared_store.specs.Shares.{SharesTurn}
use Rattle.shared_store.proofs.Moves.{turn_taken, won_begins, won_mine}
use Rattle.shared_store.proofs.store.SharedStore.try_advance.Goals as goal

pub returns-in-Some-clause-made : goal.returns-in-Some-clause-made
returns-in-Some-clause-made c = λ turn is.
    let same : c.make.result ≡ turn = cc in
    let history = history_of c.in-Some.hub.journal in
    subst (SharesTurn c.args.self.now.fixed c.args.pass.now c.args.session c.make.new.pass) same
    (turn_taken c.args.self.now.fixed c.args.pass.now c.try_take.new.pass c.make.new.pass c.args.session c.make.result
    (won_begins c.args.pass.now c.try_take.new.pass history c.in-Some.ensures.some)
    (won_mine c.args.pass.now c.try_take.new.pass history c.in-Some.ensures.some)
    c.make.ensures.made)
