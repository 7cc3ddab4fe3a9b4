use Rattle.std.proofs.Common.{subst, sym}
use Rattle.command_set.specs.declared.Command.{Command}
use Rattle.core_parts.specs.Moments.{IsMade}
use Rattle.toast_core.proofs.moments.moment.Goals as goal

pub returns-in-Commit-clause-ok : goal.returns-in-Commit-clause-ok
returns-in-Commit-clause-ok c = subst (λ (command : Command). IsMade c.args.core.now c.args.session command c.commit.new.self c.commit.result) (sym c.in-Commit.is) c.commit.ensures

pub returns-in-Close-clause-ok : goal.returns-in-Close-clause-ok
returns-in-Close-clause-ok c = subst (λ (command : Command). IsMade c.args.core.now c.args.session command c.close.new.core c.close.result) (sym c.in-Close.is) c.close.ensures
