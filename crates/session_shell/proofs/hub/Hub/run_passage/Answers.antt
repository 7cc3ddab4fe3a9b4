use Rattle.std.proofs.Common.{subst}
use Rattle.command_set.specs.declared.Script.{Script}
use Rattle.session_shell.specs.Follows.{RunsItems, passage_at}
use Rattle.session_shell.proofs.Turning.{runs_again, runs_none}
use Rattle.session_shell.proofs.hub.Hub.run_passage.Goals as goal

pub loop-round-init : goal.loop-round-init
loop-round-init c = runs_none c.args.self.now

pub loop-round-preserved : goal.loop-round-preserved
loop-round-preserved c =
    let again = subst (λ (script : Script). RunsItems c.loop-round.self c.run_items.new.self (passage_at script c.args.passage).items) c.loop-round.invariant.ran.script c.run_items.ensures in
    runs_again c.args.self.now c.loop-round.self c.run_items.new.self c.loop-round._round (passage_at c.args.self.now.script c.args.passage).items c.loop-round.invariant again
