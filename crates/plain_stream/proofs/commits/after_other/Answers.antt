use Rattle.plain_stream.proofs.Following.{other_written}
use Rattle.plain_stream.proofs.commits.after_other.Goals as goal

pub returns-clause-written : goal.returns-clause-written
returns-clause-written c =
    other_written c.args.script.now c.args.streamed c.args.entry.now c.args.command.now c.args.came.now _ _ _ _ _ _ _ c.take_written-changes.ensures.after c.take_written-changes.ensures.taken c.as_slice.ensures c.in_ok-kept.ensures c.as_slice-kept.ensures
    c.in_ok-changes.ensures c.put_written.ensures
