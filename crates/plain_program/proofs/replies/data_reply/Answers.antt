use Rattle.std.proofs.Common.{ap, ◌∙◌, []}
use Rattle.tuple_layout.specs.declared.Place.{Place}
use Rattle.command_set.specs.declared.Command.TheVariants.{Delete, Get, Open}
use Rattle.plain_program.specs.Words.{reply_within}
use Rattle.plain_program.proofs.replies.data_reply.Goals as goal

pub returns-in_ok-reply-in-Get-clause-ok : goal.returns-in_ok-reply-in-Get-clause-ok
returns-in_ok-reply-in-Get-clause-ok c =
    rw c.in-Get.is
    (c.in_ok-reply-in-Get.ensures
    ∙ ap (λ (p : Place). reply_within [] c.args.store.now c.args.session c.args.transaction.now (Get p.table p.key)) c.place_of.ensures)

pub returns-in_ok-reply-in-Delete-clause-ok : goal.returns-in_ok-reply-in-Delete-clause-ok
returns-in_ok-reply-in-Delete-clause-ok c =
    rw c.in-Delete.is
    (c.in_ok-reply-in-Delete.ensures
    ∙ ap (λ (p : Place). reply_within [] c.args.store.now c.args.session c.args.transaction.now (Delete p.table p.key)) c.place_of-in-Delete.ensures)

pub returns-in_ok-reply-in-Open-clause-ok : goal.returns-in_ok-reply-in-Open-clause-ok
returns-in_ok-reply-in-Open-clause-ok c =
    rw c.in-Open.is
    (c.in_ok-reply-in-Open.ensures
    ∙ ap (λ (p : Place). reply_within [] c.args.store.now c.args.session c.args.transaction.now (Open c.in-Open.handle p.table p.key c.in-Open.column)) c.place_of-place.ensures)
