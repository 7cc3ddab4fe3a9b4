use Rattle.std.proofs.Common.{◌≡◌, ℕ, true, ◌+◌, ◌≤◌, arith, length, ap, sym, subst, ◌∙◌}
use Rattle.command_set.specs.declared.Script.{Script}
use Rattle.command_set.specs.Journals.{is_complete, is_legal}
use Rattle.draw_counts.specs.Drawn.{ReachesIds}
use Rattle.session_shell.specs.Hubs.{HubState}
use Rattle.session_shell.specs.Turns.{places_in}
use Rattle.session_shell.specs.Follows.{IsOfTurns, IsOver}
use Rattle.session_shell.specs.contracts.hub.Hub.{the_view}
use Rattle.session_shell.proofs.Finishing.{complete, emptying_all, emptying_more, emptying_none, over_all}
use Rattle.session_shell.proofs.News.{of_turns}
use Rattle.session_shell.proofs.hub.Hub.empty_all.Goals as goal

pub loop-at-init : goal.loop-at-init
loop-at-init c = emptying_none c.args.self.now c.requires

pub overflow_cast-session : goal.overflow_cast-session
overflow_cast-session c = omega (arith, c.loop-at-test.true, c.len-at-end.ensures, c.self.invariant.0.rules.sessions)

pub empty_session-requires-clause-session : goal.empty_session-requires-clause-session
empty_session-requires-clause-session c =
    let count = c.len-at-end.ensures ∙ ap (λ (hub : HubState). length hub.script.sessions) c.self.view_is in
    record { from_one = omega arith; within = omega (arith, c.loop-at-test.true, count, ap (λ (script : Script). length script.sessions) c.loop-at.invariant.ran.script) }

pub loop-at-preserved : goal.loop-at-preserved
loop-at-preserved c = emptying_more c.args.self.now c.loop-at.self c.empty_session.new.self c.loop-at.at c.loop-at.invariant c.empty_session.ensures

pub empty_session-requires-clause-idle : goal.empty_session-requires-clause-idle
empty_session-requires-clause-idle c =
    let count = c.len-at-end.ensures ∙ ap (λ (hub : HubState). length hub.script.sessions) c.self.view_is in
    c.loop-at.invariant.idle.each (c.loop-at.at + 1) (record { from_one = omega arith; within = omega (arith, c.loop-at-test.true, count, ap (λ (script : Script). length script.sessions) c.loop-at.invariant.ran.script) })

pub returns-clause-ran : goal.returns-clause-ran
returns-clause-ran c =
    let count = c.len-at-end.ensures ∙ ap (λ (hub : HubState). length hub.script.sessions) c.self.view_is in
    let at : c.loop-at.at ≡ length c.args.self.now.script.sessions = omega (arith, c.loop-at-test.false, c.loop-at.auto.at-end, count) in
    emptying_all c.args.self.now c.loop-at.self c.loop-at.at c.loop-at.invariant at

pub returns-clause-complete : goal.returns-clause-complete
returns-clause-complete c =
    let count = c.len-at-end.ensures ∙ ap (λ (hub : HubState). length hub.script.sessions) c.self.view_is in
    let at : c.loop-at.at ≡ length c.args.self.now.script.sessions = omega (arith, c.loop-at-test.false, c.loop-at.auto.at-end, count) in
    let over = over_all c.args.self.now c.loop-at.self c.loop-at.at c.loop-at.invariant at in
    subst (λ (hub : HubState). is_complete hub.script hub.journal ≡ true) c.self-2.view_is
    (complete (the_view c.self-2.inside) c.self-2.inside.progress.items c.self-2.invariant.0
    (subst (λ (hub : HubState). (j : ℕ) → 1 ≤ j → j ≤ length hub.script.sessions → IsOver hub.script (places_in hub) j) (sym c.self-2.view_is) over))

pub returns-clause-legal : goal.returns-clause-legal
returns-clause-legal c = subst (λ (hub : HubState). is_legal hub.script hub.journal ≡ true) c.self-2.view_is c.self-2.invariant.0.legal

pub returns-clause-draws : goal.returns-clause-draws
returns-clause-draws c = subst (λ (hub : HubState). ReachesIds hub.script hub.journal) c.self-2.view_is c.self-2.invariant.4.reached

pub returns-clause-follows : goal.returns-clause-follows
returns-clause-follows c = subst (λ (hub : HubState). IsOfTurns hub.script hub.journal) c.self-2.view_is (of_turns (the_view c.self-2.inside) c.self-2.invariant.3)
