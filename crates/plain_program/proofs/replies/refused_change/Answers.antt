use Rattle.std.proofs.Common.{[], ◌∷◌}
use Rattle.plain_program.proofs.Said.{first_joined}
use Rattle.command_set.specs.Plain.{view_of}
use Rattle.command_set.specs.Replies.{absent, busy, changed, refused_before_use}
use Rattle.plain_program.proofs.replies.refused_change.Goals as goal

pub returns : goal.returns
returns c =
    rw (c.or-refusal.ensures, c.or-2.ensures, c.or.ensures, c.refused_before_use.ensures, c.absent.ensures, c.busy.ensures, c.changed.ensures, c.in_ok-view.ensures)
    (first_joined (refused_before_use c.args.store.now c.args.session c.args.place.now.table) (absent (view_of c.args.store.now c.args.transaction.now) c.args.place.now ∷ busy c.args.store.now c.args.session c.args.place.now ∷ changed c.args.transaction.now c.args.place.now ∷ []))
