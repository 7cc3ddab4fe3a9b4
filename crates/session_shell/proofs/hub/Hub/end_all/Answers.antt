use Rattle.std.proofs.Common.{◌≡◌, arith, length, ap, ◌∙◌}
use Rattle.command_set.specs.declared.Script.{Script}
use Rattle.session_shell.specs.Hubs.{HubState}
use Rattle.session_shell.proofs.Finishing.{ended_all, ended_idle, ended_more, ended_none}
use Rattle.session_shell.proofs.hub.Hub.end_all.Goals as goal

pub loop-at-init : goal.loop-at-init
loop-at-init c = ended_none c.args.self.now

pub overflow_cast-session : goal.overflow_cast-session
overflow_cast-session c = omega (arith, c.loop-at-test.true, c.len-at-end.ensures, c.self.invariant.0.rules.sessions)

pub end_session-requires : goal.end_session-requires
end_session-requires c =
    let count = c.len-at-end.ensures ∙ ap (λ (hub : HubState). length hub.script.sessions) c.self.view_is in
    record { from_one = omega arith; within = omega (arith, c.loop-at-test.true, count, ap (λ (script : Script). length script.sessions) c.loop-at.invariant.ran.script) }

pub loop-at-preserved : goal.loop-at-preserved
loop-at-preserved c = ended_more c.args.self.now c.loop-at.self c.end_session.new.self c.loop-at.at c.loop-at.invariant c.end_session.ensures

pub returns-clause-ran : goal.returns-clause-ran
returns-clause-ran c =
    let count = c.len-at-end.ensures ∙ ap (λ (hub : HubState). length hub.script.sessions) c.self.view_is in
    let at : c.loop-at.at ≡ length c.args.self.now.script.sessions = omega (arith, c.loop-at-test.false, c.loop-at.auto.at-end, count) in
    ended_all c.args.self.now c.loop-at.self c.loop-at.at c.loop-at.invariant at

pub returns-clause-idle : goal.returns-clause-idle
returns-clause-idle c =
    let count = c.len-at-end.ensures ∙ ap (λ (hub : HubState). length hub.script.sessions) c.self.view_is in
    let at : c.loop-at.at ≡ length c.args.self.now.script.sessions = omega (arith, c.loop-at-test.false, c.loop-at.auto.at-end, count) in
    ended_idle c.args.self.now c.loop-at.self c.loop-at.at c.loop-at.invariant at
