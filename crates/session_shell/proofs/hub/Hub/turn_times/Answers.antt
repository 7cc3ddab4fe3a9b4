use Rattle.std.proofs.Common.{◌≡◌, arith, sym, subst}
use Rattle.command_set.specs.declared.Script.{Script}
use Rattle.session_shell.specs.Hubs.{IsSessionOf}
use Rattle.session_shell.proofs.Turning.{RunsTimes, times_made, times_more, times_none}
use Rattle.session_shell.proofs.hub.Hub.turn_times.Goals as goal

pub loop-turn-init : goal.loop-turn-init
loop-turn-init c = times_none c.args.self.now c.args.session

pub turn-requires : goal.turn-requires
turn-requires c = subst (λ (s : Script). IsSessionOf s c.args.session) (sym c.loop-turn.invariant.ran.script) c.requires

pub loop-turn-preserved : goal.loop-turn-preserved
loop-turn-preserved c = times_more c.args.self.now c.loop-turn.self c.turn.new.self c.args.session c.loop-turn._turn c.turn.result c.loop-turn.invariant c.turn.ensures.made

pub returns : goal.returns
returns c =
    let end : c.loop-turn._turn ≡ c.args.count = omega (arith, c.loop-turn-test.false, c.loop-turn.auto._turn-end) in
    times_made c.args.self.now c.loop-turn.self c.args.session c.args.count (subst (RunsTimes c.args.self.now c.loop-turn.self c.args.session) end c.loop-turn.invariant)
