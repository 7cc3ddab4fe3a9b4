use Rattle.std.proofs.Common.{ap, refl, sym, ◌∙◌}
use Rattle.std.specs.Option.{option_map}
use Rattle.core_parts.proofs.Made.{open_is}
use Rattle.core_parts.specs.Found.{as_old}
use Rattle.core_writing.proofs.Made.{absent_made, answered_made, can_fail}
use Rattle.core_writing.proofs.Replies.{delete_absent}
use Rattle.command_set.specs.declared.Command.TheVariants as commands
use Rattle.core_writing.proofs.writes.delete.Goals as goal

pub returns-in_default-clause-ok : goal.returns-in_default-clause-ok
returns-in_default-clause-ok c =
    let inside = open_is _ _ _ _ (sym c.state.ensures ∙ c.in-Open.is) in
    let none = sym c.in_ok-found-in-Open.ensures ∙ ap (option_map as_old) c.in_default.is in
    absent_made c.args.core.now c.args.session c.args.table (commands.Delete c.args.table c.args.key.now) c.absent.new.core c.absent.result c.requires.ready.there (delete_absent c.args.core.now c.args.session c.args.table c.args.key.now inside none) refl c.absent.ensures.ok c.absent.ensures.done

pub answer-requires : goal.answer-requires
answer-requires c = λ reply e. can_fail c.args.core.now c.args.session (commands.Delete c.args.table c.args.key.now) c.begin_delete-begun.new.core c.begin_delete-begun.result reply c.requires.ready.there c.requires.ready.sound c.begin_delete-begun.ensures.err e

pub returns-in-Some-clause-ok : goal.returns-in-Some-clause-ok
returns-in-Some-clause-ok c =
    (answered_made c.args.core.now c.args.session (commands.Delete c.args.table c.args.key.now) c.begin_delete-begun.new.core c.answer.new.core c.begin_delete-begun.result c.answer.result c.requires.ready.there c.begin_delete-begun.ensures.ok c.begin_delete-begun.ensures.err c.answer.ensures).ok
