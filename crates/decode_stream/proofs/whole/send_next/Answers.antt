-- The transaction that an entry commits, if any, is sent behind the others.
use Rattle.std.proofs.Common.{◌++◌, [], Option, sym, ap, ◌∙◌}
use Rattle.std.specs.List.{cons_option}
use Rattle.std.proofs.lemmas.List.{append-nil}
use Rattle.decode_stream.specs.Decoding.{TransactionState}
use Rattle.decode_stream.proofs.Wholes.{sent_next}
use Rattle.decode_stream.proofs.whole.send_next.Goals as goal

pub returns-in_ok-push-clause-ok : goal.returns-in_ok-push-clause-ok
returns-in_ok-push-clause-ok c =
    λ log is.
    sent_next log c.args.e.now c.args.decoder.now c.feed.new.self c.in_ok-transaction.field-0 c.args.sent.now c.push.new.self (c.in_ok-transaction.ensures.fed log is.decodes)
    (c.in_ok-push.ensures.ok ∙ ap (λ (o : Option TransactionState). c.args.sent.now ++ cons_option o []) (sym c.in-Some.is))
    is

pub returns-in_default-clause-ok : goal.returns-in_default-clause-ok
returns-in_default-clause-ok c =
    λ log is.
    sent_next log c.args.e.now c.args.decoder.now c.feed.new.self c.in_ok-transaction.field-0 c.args.sent.now c.args.sent.now (c.in_ok-transaction.ensures.fed log is.decodes)
    (sym (append-nil c.args.sent.now) ∙ ap (λ (o : Option TransactionState). c.args.sent.now ++ cons_option o []) (sym c.in_default.is))
    is
