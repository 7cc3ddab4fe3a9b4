use Rattle.std.proofs.Common.{[], ◌∷◌, ◌++◌}
use Rattle.plain_program.proofs.Said.{unwrapped}
use Rattle.command_set.specs.Plain.{view_of}
use Rattle.command_set.specs.Replies.{absent, busy, changed, refused_before_use}
use Rattle.command_set.specs.declared.Reply.TheVariants.{Okay}
use Rattle.plain_program.proofs.replies.to_delete.Goals as goal

pub returns : goal.returns
returns c =
    rw (c.unwrap_or.ensures, c.in_ok-refusal.ensures)
    (unwrapped (refused_before_use c.args.store.now c.args.session c.args.place.now.table ++ absent (view_of c.args.store.now c.args.transaction.now) c.args.place.now ∷ busy c.args.store.now c.args.session c.args.place.now ∷ changed c.args.transaction.now c.args.place.now ∷ []) Okay)
