-- A log that is decoded entry by entry.
use Rattle.std.proofs.Common.{◌≡◌, ◌≤◌, ◌<◌, ◌^◌, ℕ, ◌+◌, List, [], ◌∷◌, ◌++◌, Option, Some, None, Ok, Err, length, refl, sym, ap, ◌∙◌, append_assoc, add-zero, zero-add, arith, suc}
use Rattle.std.specs.List.{cons_option}
use Rattle.std.proofs.lemmas.List.{append-nil, length-append}
use Rattle.stream_wire.specs.declared.message.Message.{Message}
use Rattle.change_log.specs.declared.entry.LogEntry.{LogEntry}
use Rattle.decode_stream.specs.declared.fault.DecodeFault.{DecodeFault}
use Rattle.decode_stream.specs.declared.fault.DecodeFault.TheVariants.{ChunkOrder, SizeOf, Memory}
use Rattle.decode_stream.specs.Decoding.{TransactionState, fault_at, commit_at, first_fault, commits, numbered, decoded, with_fronts}
use Rattle.decode_stream.specs.Growing.{FitsFed}
use Rattle.decode_stream.specs.States.{DecoderState, Decodes, Feeds, IsDecodable, IsDecoded, next_of}
use Rattle.decode_stream.specs.Steps.{IsSent, Tells}
use Rattle.decode_stream.proofs.Firsts.{fault_next, fault_stays, commits_more, commits_stay, commits_after}

pub some_none : {X : Type 0} (x : X) → Some x ≡ None → ⊥
some_none x h = cc

-- one transaction more has the next number
numbered-push : (n : ℕ) (before : List (List Message)) (o : Option (List Message)) → numbered (n + 1) (before ++ cons_option o []) ≡ numbered (n + 1) before ++ cons_option (next_of (n + length before) o) []
numbered-push n [] None = refl
numbered-push n [] (Some changes) = ap (λ (g : ℕ). cons_option (next_of g (Some changes)) []) (sym (add-zero n))
numbered-push n (x ∷ xs) o =
    ap (λ (rest : List TransactionState). made (n + 1) x ∷ rest)
    (numbered-push (n + 1) xs o ∙ ap (λ (g : ℕ). numbered (n + 1 + 1) xs ++ cons_option (next_of g o) []) shifted)
  where
    made : ℕ → List Message → TransactionState
    made number changes = record { number = number; changes = changes }

    shifted : n + 1 + length xs ≡ n + suc (length xs)
    shifted = omega arith

pub numbered_more : (before : List (List Message)) (o : Option (List Message)) → numbered 1 (before ++ cons_option o []) ≡ numbered 1 before ++ cons_option (next_of (length before) o) []
numbered_more before o = numbered-push 0 before o ∙ ap (λ (g : ℕ). numbered 1 before ++ cons_option (next_of g o) []) (zero-add (length before))

module _ (log : List LogEntry) (e : LogEntry) where
  -- what has no fault had none
  pub none_before : first_fault (log ++ e ∷ []) ≡ None → first_fault log ≡ None
  none_before h = by (first_fault log) refl
    where
      by : (o : Option DecodeFault) → first_fault log ≡ o → o ≡ None
      by None is = refl
      by (Some f) is = absurd (some_none f (sym (fault_stays log e f is) ∙ h))

  -- transactions stay
  count_grows : length (commits log) ≤ length (commits (log ++ e ∷ []))
  count_grows = by (first_fault log) (fault_at (log, e)) refl refl
    where
      by : (o p : Option DecodeFault) → first_fault log ≡ o → fault_at (log, e) ≡ p → length (commits log) ≤ length (commits (log ++ e ∷ []))
      by (Some f) p is here = omega (arith, ap length (commits_after log e f is))
      by None (Some f) is here = omega (arith, ap length (commits_stay log e f is here))
      by None None is here = omega (arith, ap length (commits_more log e is here), length-append (commits log) (cons_option (commit_at (log, e)) []))

-- a first fault stays, and so do transactions, whatever follows
pub fault_lasts : (log rest : List LogEntry) (f : DecodeFault) → first_fault log ≡ Some f → first_fault (log ++ rest) ≡ Some f
fault_lasts log [] f is = ap first_fault (append-nil log) ∙ is
fault_lasts log (e ∷ rest) f is = ap first_fault (sym (append_assoc log (e ∷ []) rest)) ∙ fault_lasts (log ++ e ∷ []) rest f (fault_stays log e f is)

pub count_within : (log rest : List LogEntry) → length (commits log) ≤ length (commits (log ++ rest))
count_within log [] = omega (arith, ap (λ (l : List LogEntry). length (commits l)) (append-nil log))
count_within log (e ∷ rest) = omega (arith, count_grows log e, count_within (log ++ e ∷ []) rest, ap (λ (l : List LogEntry). length (commits l)) (append_assoc log (e ∷ []) rest))

module _ (log : List LogEntry) (e : LogEntry) where
  -- what is fed is sent
  pub sent_next : (old new : DecoderState) (answer : Option TransactionState) (before after : List TransactionState) → Feeds log e new (Ok answer) → after ≡ before ++ cons_option answer [] → IsSent old before log → IsSent new after (log ++ e ∷ [])
  sent_next old new answer before after fed more is =
      let here : fault_at (log, e) ≡ None = sym (fault_next log e is.sound) ∙ fed.0 in
      record {
        decodes = fed.2;
        sound = fed.0;
        sent = more ∙ (λ i. is.sent i ++ cons_option (fed.1 i) []) ∙ sym (numbered_more (commits log) (commit_at (log, e))) ∙ ap (numbered 1) (sym (commits_more log e is.sound here));
      }

  -- a fault that is answered is the first
  pub told_first : (X : Type 0) (new : DecoderState) (f : DecodeFault) → Feeds log e new (Err f) → Tells {X = X} (first_fault (log ++ e ∷ [])) (Err f)
  told_first X new (ChunkOrder got wanted) h = h.0
  told_first X new (SizeOf got wanted) h = h.0
  told_first X new Memory h = tt

-- a log of no entries sends nothing
pub sent_nothing : (state : DecoderState) (sent : List TransactionState) → Decodes state [] → sent ≡ [] → IsSent state sent []
unfolding first_fault commits with_fronts
sent_nothing state sent is none = record { decodes = is; sound = refl; sent = none }

-- a fault that is told of a log's part is the log's
pub told_of_part : (X : Type 0) (f : DecodeFault) (part rest log : List LogEntry) → log ≡ part ++ rest → Tells {X = X} (first_fault part) (Err f) → IsDecoded log (Err f)
told_of_part X (ChunkOrder got wanted) part rest log is h = ap (λ (o : Option DecodeFault). decoded o (numbered 1 (commits log))) (ap first_fault is ∙ fault_lasts part rest (ChunkOrder got wanted) h)
told_of_part X (SizeOf got wanted) part rest log is h = ap (λ (o : Option DecodeFault). decoded o (numbered 1 (commits log))) (ap first_fault is ∙ fault_lasts part rest (SizeOf got wanted) h)
told_of_part X Memory part rest log is h = tt

-- an entry that can be decoded after the log's part can be decoded by its decoder
pub fits_next : (log part rest : List LogEntry) (e : LogEntry) (state : DecoderState) (transactions : List TransactionState) → IsDecodable log → log ≡ part ++ e ∷ rest → IsSent state transactions part → FitsFed state e
fits_next log part rest e state transactions can is sent = (part, sent.decodes, can.fits part e rest is)

pub count_next : (log part rest : List LogEntry) (state : DecoderState) → IsDecodable log → log ≡ part ++ rest → Decodes state part → state.given + 1 < 2 ^ 32
count_next log part rest state can is decodes = omega (arith, can.count, decodes.given, count_within part rest, ap (λ (l : List LogEntry). length (commits l)) is)
