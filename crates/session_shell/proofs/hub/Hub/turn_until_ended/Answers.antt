use Rattle.std.proofs.Common.{◌≡◌, arith, length, subst}
use Rattle.session_shell.specs.Hubs.{HubState}
use Rattle.session_shell.specs.Turns.{places_in}
use Rattle.session_shell.specs.contracts.hub.Hub.{the_view}
use Rattle.session_shell.proofs.Made.{places_count}
use Rattle.session_shell.proofs.Whole.{whole_first, whole_more}
use Rattle.session_shell.proofs.hub.Hub.turn_until_ended.Goals as goal

pub loop-turn-init : goal.loop-turn-init
loop-turn-init c =
    let count = subst (λ (hub : HubState). length (places_in hub) ≡ length hub.script.sessions) c.self.view_is (places_count (the_view c.self.inside) c.self.inside.progress.items c.self.invariant.0) in
    whole_first c.args.self.now c.turn-turn.new.self c.args.session c.turn-turn.result c.turn-turn.ensures.made c.requires.from_one (omega (arith, count, c.requires.within)) c.turn-turn.ensures.under_way

pub loop-turn-preserved : goal.loop-turn-preserved
loop-turn-preserved c = whole_more c.args.self.now c.loop-turn.self c.turn-turn-in-More.new.self c.args.session c.loop-turn.turn c.turn-turn-in-More.result c.loop-turn.invariant c.in-More.is c.turn-turn-in-More.ensures.made c.requires.from_one c.turn-turn-in-More.ensures.under_way
