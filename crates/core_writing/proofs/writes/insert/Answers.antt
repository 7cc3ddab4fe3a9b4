use Rattle.core_writing.proofs.Made.{answered_made, can_fail}
use Rattle.command_set.specs.declared.Command.TheVariants as commands
use Rattle.core_writing.proofs.writes.insert.Goals as goal

pub answer-requires : goal.answer-requires
answer-requires c = λ reply e. can_fail c.args.core.now c.args.session (commands.Insert c.args.table c.args.key.now c.args.row) c.begin_insert-begun.new.core c.begin_insert-begun.result reply c.requires.ready.there c.requires.ready.sound c.begin_insert-begun.ensures.err e

pub returns-in-Open-clause-ok : goal.returns-in-Open-clause-ok
returns-in-Open-clause-ok c =
    (answered_made c.args.core.now c.args.session (commands.Insert c.args.table c.args.key.now c.args.row) c.begin_insert-begun.new.core c.answer.new.core c.begin_insert-begun.result c.answer.result c.requires.ready.there c.begin_insert-begun.ensures.ok c.begin_insert-begun.ensures.err c.answer.ensures).ok
