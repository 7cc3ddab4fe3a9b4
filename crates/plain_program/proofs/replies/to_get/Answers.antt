use Rattle.std.proofs.Common.{[], ◌∷◌}
use Rattle.plain_program.proofs.Said.{said}
use Rattle.command_set.specs.Plain.{row_at, view_of}
use Rattle.command_set.specs.Replies.{absent, refused_before_use}
use Rattle.command_set.specs.declared.Reply.TheVariants.{Row}
use Rattle.plain_program.proofs.replies.to_get.Goals as goal

pub returns : goal.returns
returns c =
    rw (c.unwrap_or.ensures, c.or-refusal.ensures, c.refused_before_use.ensures, c.absent.ensures, c.row_reply.ensures, c.in_ok-row.ensures, c.in_ok-view.ensures)
    (said (refused_before_use c.args.store.now c.args.session c.args.place.now.table) (absent (view_of c.args.store.now c.args.transaction.now) c.args.place.now ∷ []) (Row c.args.place.now.key (row_at (view_of c.args.store.now c.args.transaction.now) c.args.place.now)))
