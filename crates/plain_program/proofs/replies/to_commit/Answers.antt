use Rattle.std.proofs.Common.{[], ◌∷◌}
use Rattle.plain_program.proofs.Said.{said_after}
use Rattle.command_set.specs.Replies.{outside, rolled_back}
use Rattle.command_set.specs.declared.Reply.TheVariants.{Okay}
use Rattle.plain_program.proofs.replies.to_commit.Goals as goal

pub returns : goal.returns
returns c =
    rw (c.unwrap_or.ensures, c.or.ensures, c.outside.ensures, c.rolled_back.ensures)
    (said_after (outside c.args.store.now c.args.session) (rolled_back c.args.store.now c.args.session ∷ []) Okay)
