-- What is told decides the answer.
use Rattle.std.proofs.Common.{◌≡◌, ◌+◌, ◌++◌, ◌∷◌, [], length, Some, None, Ok, Err, sym, ap, ◌∙◌}
use Rattle.std.proofs.lemmas.List.{append-nil}
use Rattle.decode_stream.specs.Decoding.{TransactionState}
use Rattle.decode_stream.specs.Parts.{Told}
use Rattle.decode_stream.proofs.Firsts.{fault_next}
use Rattle.decode_stream.proofs.Parts.{sent_more, sound_more, tells_some}
use Rattle.decode_stream.proofs.split.send_told.Goals as goal

pub returns-in_ok-push-in-Some-Ok-clause-ok : goal.returns-in_ok-push-in-Some-Ok-clause-ok
returns-in_ok-push-in-Some-Ok-clause-ok c =
    let changes = c.in-Some-Ok.changes in
    let told : c.args.told ≡ Some (Ok changes) = c.in-Some-Ok.is ∙ ap (λ (t : Told). Some t) c.in-Some-Ok.field-0-is in
    let made : TransactionState = record { number = length c.args.sent.now + 1; changes = changes } in
    let same : c.new.result ≡ made = λ i. record { number = (c.new.ensures.number ∙ ap (λ n. n + 1) c.len.ensures) i; changes = c.new.ensures.changes i } in
    rw told (λ log e h none is.
    sent_more log e (Some changes) c.args.sent.now c.push.new.self none h.0 h.1 is (c.in_ok-push-in-Some-Ok.ensures.ok ∙ ap (λ (t : TransactionState). c.args.sent.now ++ t ∷ []) same))

pub returns-in_ok-push-in-Some-Ok-clause-fault : goal.returns-in_ok-push-in-Some-Ok-clause-fault
returns-in_ok-push-in-Some-Ok-clause-fault c =
    let told : c.args.told ≡ Some (Ok c.in-Some-Ok.changes) = c.in-Some-Ok.is ∙ ap (λ (t : Told). Some t) c.in-Some-Ok.field-0-is in
    rw told (λ log e h none. sound_more log e none h.0)

pub returns-in-Some-Err-clause-fault : goal.returns-in-Some-Err-clause-fault
returns-in-Some-Err-clause-fault c =
    let told : c.args.told ≡ Some (Err c.in-Some-Err.fault) = c.in-Some-Err.is ∙ ap (λ (t : Told). Some t) c.in-Some-Err.field-0-is in
    rw told (λ log e h none. tells_some (Unit {0}) c.in-Some-Err.fault _ (fault_next log e none ∙ h))

pub returns-in-None-clause-ok : goal.returns-in-None-clause-ok
returns-in-None-clause-ok c = rw c.in-None.is (λ log e h none is. sent_more log e None c.args.sent.now c.args.sent.now none h.0 h.1 is (sym (append-nil c.args.sent.now)))

pub returns-in-None-clause-fault : goal.returns-in-None-clause-fault
returns-in-None-clause-fault c = rw c.in-None.is (λ log e h none. sound_more log e none h.0)
