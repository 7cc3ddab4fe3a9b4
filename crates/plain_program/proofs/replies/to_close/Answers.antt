use Rattle.std.proofs.Common.{[], ◌∷◌}
use Rattle.plain_program.proofs.Said.{said_after}
use Rattle.command_set.specs.Replies.{failed, no_handle, outside}
use Rattle.command_set.specs.declared.Reply.TheVariants.{Okay}
use Rattle.plain_program.proofs.replies.to_close.Goals as goal

pub returns : goal.returns
returns c =
    rw (c.unwrap_or.ensures, c.or-2.ensures, c.or.ensures, c.outside.ensures, c.failed.ensures, c.no_handle.ensures)
    (said_after (outside c.args.store.now c.args.session) (failed c.args.store.now c.args.session ∷ no_handle c.args.transaction.now c.args.handle ∷ []) Okay)
