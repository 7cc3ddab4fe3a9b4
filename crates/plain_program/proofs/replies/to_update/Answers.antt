use Rattle.std.proofs.Common.{[], ◌∷◌, ◌++◌, ◌∙◌}
use Rattle.plain_program.proofs.Said.{said}
use Rattle.command_set.specs.Plain.{view_of}
use Rattle.command_set.specs.Replies.{absent, busy, changed, refused_before_use, schema_of, too_big}
use Rattle.command_set.specs.declared.Reply.TheVariants.{Okay}
use Rattle.plain_program.proofs.replies.to_update.Goals as goal

pub returns-clause-ok : goal.returns-clause-ok
returns-clause-ok c =
    c.in_ok-reply.ensures.ok
    ∙ rw (c.in_ok-refusal.ensures, c.storages_of.ensures.all)
    (said (refused_before_use c.args.store.now c.args.session c.args.place.now.table ++ absent (view_of c.args.store.now c.args.transaction.now) c.args.place.now ∷ busy c.args.store.now c.args.session c.args.place.now ∷ changed c.args.transaction.now c.args.place.now ∷ []) (too_big (schema_of c.args.schemas.now c.args.place.now.table) c.args.row.now ∷ []) Okay)
