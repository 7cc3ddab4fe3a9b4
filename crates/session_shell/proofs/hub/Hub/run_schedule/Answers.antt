use Rattle.std.proofs.Common.{[], arith, length, subst, ap, ◌∙◌}
use Rattle.std.proofs.lemmas.List.{take_all}
use Rattle.command_set.specs.declared.Script.{Script}
use Rattle.session_shell.specs.Hubs.{HubState}
use Rattle.session_shell.specs.Follows.{RunsItems, items_in, items_of, passage_at}
use Rattle.session_shell.proofs.Turning.{runs_none, runs_passage}
use Rattle.session_shell.proofs.hub.Hub.run_schedule.Goals as goal

pub loop-passage-init : goal.loop-passage-init
loop-passage-init c = runs_none _

pub loop-passage-preserved : goal.loop-passage-preserved
loop-passage-preserved c =
    let more = subst (λ (script : Script). RunsItems c.loop-passage.self c.run_passage.new.self (items_in (passage_at script c.loop-passage.passage))) c.loop-passage.invariant.ran.script c.run_passage.ensures in
    let count = c.len-passage-end.ensures ∙ ap (λ (hub : HubState). length hub.script.schedule) c.self.view_is in
    runs_passage _ c.loop-passage.self c.run_passage.new.self _ c.loop-passage.passage (record { count = 0; items = [] }) (omega (arith, c.loop-passage-test.true, count)) c.loop-passage.invariant more

pub returns : goal.returns
returns c =
    let count = c.len-passage-end.ensures ∙ ap (λ (hub : HubState). length hub.script.schedule) c.self.view_is in
    subst (λ (passages : _). RunsItems c.args.self.now c.loop-passage.self (items_of passages)) (take_all c.loop-passage.passage c.args.self.now.script.schedule (omega (arith, c.loop-passage-test.false, count))) c.loop-passage.invariant
