use Rattle.std.proofs.Common.{sym, ◌∙◌}
use Rattle.command_set.proofs.Named.{named_by_any}
use Rattle.command_set.proofs.changes.names_place.Goals as goal

pub returns : goal.returns
returns c = c.is_named_by_any.ensures ∙ sym (named_by_any c.args.changes.now c.args.place.now)
