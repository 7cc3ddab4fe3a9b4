use Rattle.std.proofs.Common.{ap, ◌∙◌}
use Rattle.tuple_layout.specs.declared.Place.{Place}
use Rattle.tuple_layout.specs.Places.{Row}
use Rattle.command_set.specs.Changes.{place}
use Rattle.command_set.specs.Plain.{row_at, row_with, view_of}
use Rattle.command_set.specs.declared.Command.TheVariants.{Insert}
use Rattle.plain_program.specs.Words.{rekey_reply, reply_within, update_reply}
use Rattle.plain_program.proofs.replies.put_reply.Goals as goal

pub returns-in_ok-reply-in-Insert-clause-ok : goal.returns-in_ok-reply-in-Insert-clause-ok
returns-in_ok-reply-in-Insert-clause-ok c =
    rw c.in-Insert.is
    (c.in_ok-reply-in-Insert.ensures.ok
    ∙ ap (λ (p : Place). reply_within c.args.schemas.now c.args.store.now c.args.session c.args.transaction.now (Insert p.table p.key c.in-Insert.row)) c.place_of-place.ensures)

pub returns-in_ok-reply-in-Update-clause-ok : goal.returns-in_ok-reply-in-Update-clause-ok
returns-in_ok-reply-in-Update-clause-ok c =
    let reply = λ (p : Place) (row : Row). update_reply c.args.schemas.now c.args.store.now c.args.session c.args.transaction.now p row in
    rw c.in-Update.is
    (c.in_ok-reply-in-Update.ensures.ok
    ∙ ap (reply c.place_of-place-in-Update.result) c.in_ok-row-in-Update.ensures
    ∙ ap (λ (p : Place). reply p (row_with (row_at (view_of c.args.store.now c.args.transaction.now) p) c.in-Update.sets)) c.place_of-place-in-Update.ensures)

pub returns-in_ok-reply-in-Rekey-clause-ok : goal.returns-in_ok-reply-in-Rekey-clause-ok
returns-in_ok-reply-in-Rekey-clause-ok c =
    let reply = λ (p q : Place) (row : Row). rekey_reply c.args.schemas.now c.args.store.now c.args.session c.args.transaction.now p q row in
    let row = λ (p : Place). row_with (row_at (view_of c.args.store.now c.args.transaction.now) p) c.in-Rekey.sets in
    let from = place c.in-Rekey.table c.in-Rekey.from in
    rw c.in-Rekey.is
    (c.in_ok-reply-in-Rekey.ensures.ok
    ∙ ap (reply c.place_of-from.result c.place_of-to.result) c.in_ok-row-in-Rekey.ensures
    ∙ ap (λ (p : Place). reply p c.place_of-to.result (row p)) {y = from} c.place_of-from.ensures
    ∙ ap (λ (q : Place). reply from q (row from)) {y = place c.in-Rekey.table c.in-Rekey.to} c.place_of-to.ensures)
