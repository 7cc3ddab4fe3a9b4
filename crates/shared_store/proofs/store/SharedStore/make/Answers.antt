-- A turn adds at most one entry, so the hub may be given back, and the entry is the pass's own.
use Rattle.std.proofs.Common.{subst, sym}
use Rattle.command_set.specs.declared.Script.{Script}
use Rattle.turn_hall.specs.Passes.{Extends, HallModel}
use Rattle.session_shell.specs.History.{history_of}
use Rattle.session_shell.specs.Hubs.{IsScript}
use Rattle.shared_store.proofs.Moves.{turn_extends, turn_shared}
use Rattle.shared_store.proofs.store.SharedStore.make.Goals as goal

pub give-requires-clause-history : goal.give-requires-clause-history
give-requires-clause-history c =
    subst (λ h. Extends h (history_of c.turn-turn.new.self.journal)) (sym c.requires.seen)
    (turn_extends c.args.hub c.turn-turn.new.self c.args.session c.turn-turn.result c.turn-turn.ensures.made)

pub returns-clause-made : goal.returns-clause-made
returns-clause-made c =
    turn_shared c.args.self.now.fixed c.args.hub c.turn-turn.new.self c.args.pass.now c.give.new.pass c.args.session c.turn-turn.result
    (subst (λ (h : HallModel Script). IsScript h.fixed) c.self.view_is c.self.invariant)
    c.requires.script c.requires.seen c.turn-turn.ensures.made c.turn-turn.ensures.legal c.turn-turn.ensures.cause c.give.ensures.pass
