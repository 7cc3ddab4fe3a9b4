use Rattle.std.proofs.Common.{ap, ◌∙◌, []}
use Rattle.tuple_layout.specs.declared.Place.{Place}
use Rattle.command_set.specs.Changes.{place}
use Rattle.command_set.specs.declared.Command.TheVariants.{Fetch, Part}
use Rattle.plain_program.specs.declared.measures.Span.{Span}
use Rattle.plain_program.specs.Words.{reply_within}
use Rattle.plain_program.proofs.replies.part_or_put_reply.Goals as goal

pub returns-in_ok-reply-in-Part-clause-ok : goal.returns-in_ok-reply-in-Part-clause-ok
returns-in_ok-reply-in-Part-clause-ok c =
    let reply = λ (p : Place) (span : Span). reply_within [] c.args.store.now c.args.session c.args.transaction.now (Part p.table p.key c.in-Part.column span.offset span.length) in
    rw c.in-Part.is
    (c.in_ok-reply-in-Part.ensures
    ∙ ap (λ (p : Place). reply p c.span_of-span.result) {y = place c.in-Part.table c.in-Part.key} c.place_of-place.ensures
    ∙ ap (reply (place c.in-Part.table c.in-Part.key)) c.span_of-span.ensures)

pub returns-in_ok-reply-in-Fetch-clause-ok : goal.returns-in_ok-reply-in-Fetch-clause-ok
returns-in_ok-reply-in-Fetch-clause-ok c =
    rw c.in-Fetch.is
    (c.in_ok-reply-in-Fetch.ensures
    ∙ ap (λ (span : Span). reply_within [] c.args.store.now c.args.session c.args.transaction.now (Fetch c.in-Fetch.handle span.offset span.length)) c.span_of-span-in-Fetch.ensures)
