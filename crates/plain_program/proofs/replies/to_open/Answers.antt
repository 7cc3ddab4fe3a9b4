use Rattle.std.proofs.Common.{[], ◌∷◌}
use Rattle.plain_program.proofs.Said.{said}
use Rattle.command_set.specs.Plain.{row_at, value_at, view_of}
use Rattle.command_set.specs.Replies.{absent, handle_there, null, refused_before_use}
use Rattle.command_set.specs.declared.Reply.TheVariants.{Okay}
use Rattle.plain_program.proofs.replies.to_open.Goals as goal

pub returns : goal.returns
returns c =
    rw (c.unwrap_or.ensures, c.or-refusal.ensures, c.or-2.ensures, c.or.ensures, c.refused_before_use.ensures, c.handle_there.ensures, c.absent.ensures, c.null.ensures, c.in_ok-row.ensures, c.in_ok-view.ensures)
    (said (refused_before_use c.args.store.now c.args.session c.args.place.now.table) (handle_there c.args.transaction.now c.args.handle ∷ absent (view_of c.args.store.now c.args.transaction.now) c.args.place.now ∷ null (value_at (row_at (view_of c.args.store.now c.args.transaction.now) c.args.place.now) c.args.column) ∷ []) Okay)
