-- Each entry is within its ranges after those before it, and no transaction is given before the second.
use Rattle.std.proofs.Common.{◌++◌, ◌∷◌, [], Option, Ok, arith, refl}
use Rattle.std.specs.List.{cons_option}
use Rattle.std.proofs.lemmas.List.Elements.{All-cons, All-nil}
use Rattle.std.proofs.lemmas.List.Sums.{sum_by-cons}
use Rattle.change_log.specs.declared.entry.LogEntry.{LogEntry}
use Rattle.change_log.specs.declared.entry.LogEntry.TheVariants.{Commit}
use Rattle.decode_stream.specs.Decoding.{TransactionState}
use Rattle.decode_stream.specs.Growing.{FitsFed}
use Rattle.decode_stream.specs.States.{DecoderState, Decodes, Feeds, IsDecodable}
use Rattle.decode_stream.proofs.Bounds.{IsRanged, abort_fits, decodable, few_commits, first_fits, weight}
use Rattle.decode_stream.proofs.Wholes.{fits_next, sent_next, sent_nothing}
use Rattle.stream_trials.proofs.decodings.a_fault_after_a_transaction.Goals as goal

fits_third : (start next last : DecoderState) (a b e : LogEntry) (x y : Option TransactionState) → Decodes start [] → Feeds [] a next (Ok x) → Feeds (a ∷ []) b last (Ok y) → IsDecodable (a ∷ b ∷ e ∷ []) → FitsFed last e
fits_third start next last a b e x y is first second can =
    fits_next (a ∷ b ∷ e ∷ []) (a ∷ b ∷ []) [] e last (cons_option x [] ++ cons_option y []) can refl
    (sent_next (a ∷ []) b next last y (cons_option x []) (cons_option x [] ++ cons_option y []) second refl (sent_next [] a start next x [] (cons_option x []) first refl (sent_nothing start [] is refl)))

pub feed-requires-clause-given : goal.feed-requires-clause-given
feed-requires-clause-given g c = λ h. omega (arith, c.in_ok-decoder.ensures.given, few_commits [])

pub feed-requires-clause-fits : goal.feed-requires-clause-fits
feed-requires-clause-fits g c =
    λ h. first_fits c.in_ok-decoder.decoder c.in_ok-insert.insert c.in_ok-decoder.ensures c.in_ok-insert.ensures.ranged (omega (arith, c.in_ok-insert.ensures.short))

pub feed-requires-3-clause-fits : goal.feed-requires-3-clause-fits
feed-requires-3-clause-fits g c =
    λ h.
    let insert = c.in_ok-insert.insert in
    let chunk = c.in_ok-chunk.chunk in
    let first = c.in_ok-feed.ensures.fed [] c.in_ok-decoder.ensures in
    let second = c.in_ok-transaction.ensures.fed (insert ∷ []) first.2 in
    fits_third c.in_ok-decoder.decoder c.feed.new.self c.feed-2.new.self insert (Commit 3) chunk c.in_ok-feed.field-0 c.in_ok-transaction.field-0 c.in_ok-decoder.ensures first second
    (decodable (insert ∷ Commit 3 ∷ chunk ∷ []) (omega arith)
    (omega (arith, sum_by-cons weight insert (Commit 3 ∷ chunk ∷ []), sum_by-cons weight (Commit 3) (chunk ∷ []), sum_by-cons weight chunk [], c.in_ok-insert.ensures.short, c.in_ok-chunk.ensures.short))
    (All-cons IsRanged insert (Commit 3 ∷ chunk ∷ []) c.in_ok-insert.ensures.ranged (All-cons IsRanged (Commit 3) (chunk ∷ []) tt (All-cons IsRanged chunk [] c.in_ok-chunk.ensures.ranged (All-nil IsRanged)))))

pub feed-requires-2-clause-fits : goal.feed-requires-2-clause-fits
feed-requires-2-clause-fits g c = λ h. (c.in_ok-insert.insert ∷ [], (c.in_ok-feed.ensures.fed [] c.in_ok-decoder.ensures).2, tt)

pub feed-requires-4-clause-fits : goal.feed-requires-4-clause-fits
feed-requires-4-clause-fits g c =
    λ h.
    let insert = c.in_ok-insert.insert in
    let first = c.in_ok-feed.ensures.fed [] c.in_ok-decoder.ensures in
    let second = c.in_ok-transaction.ensures.fed (insert ∷ []) first.2 in
    abort_fits (insert ∷ Commit 3 ∷ []) c.in_ok-chunk.chunk c.feed-2.new.self c.feed-3.new.self c.feed-3.result 3 second.2 (c.feed-3.ensures.fed (insert ∷ Commit 3 ∷ []) second.2) c.feed-3.ensures.memory
