use Rattle.std.proofs.Common.{sym, ◌∙◌}
use Rattle.plain_stream.proofs.Following.{commit_is, other_is}
use Rattle.plain_stream.proofs.commits.stream_after.Goals as goal

pub returns-then-commits : goal.returns-then-commits
returns-then-commits c =
    commit_is c.args.script.now c.args.streamed c.in_ok-after.after c.args.entry.now c.args.command.now c.args.came.now (sym c.commits.ensures ∙ c.if-commits.true) (c.requires.none_left (sym c.commits.ensures ∙ c.if-commits.true))
    c.in_ok-after.ensures.outs c.in_ok-after.ensures.written c.in_ok-after.ensures.sent

pub returns : goal.returns
returns c =
    other_is c.args.script.now c.args.streamed c.in_ok-after-2.after c.args.entry.now c.args.command.now c.args.came.now (sym c.commits.ensures ∙ c.if-commits.false)
    c.in_ok-after-2.ensures.outs c.in_ok-after-2.ensures.written c.in_ok-after-2.ensures.sent
