use Rattle.std.proofs.Common.{◌≡◌, Some, slice_get, subst}
use Rattle.command_set.specs.declared.Script.{Script}
use Rattle.session_shell.specs.Follows.{passage_at}
use Rattle.session_shell.proofs.Turning.{runs_more, runs_none}
use Rattle.session_shell.proofs.hub.Hub.run_items.Goals as goal

pub loop-at-init : goal.loop-at-init
loop-at-init c = runs_none c.args.self.now

pub loop-at-preserved : goal.loop-at-preserved
loop-at-preserved c =
    let there = subst (λ (script : Script). slice_get (passage_at script c.args.passage).items c.loop-at.at ≡ Some c.item_at-item.result) c.loop-at.invariant.ran.script c.item_at-item.ensures.item in
    runs_more c.args.self.now c.loop-at.self c.run_item.new.self (passage_at c.args.self.now.script c.args.passage).items c.loop-at.at c.item_at-item.result c.loop-at.invariant there c.run_item.ensures
