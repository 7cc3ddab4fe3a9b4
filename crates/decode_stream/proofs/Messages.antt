-- The messages of one transaction more.
use Rattle.std.proofs.Common.{◌≡◌, ℕ, ◌+◌, List, [], ◌∷◌, ◌++◌, refl, ap, ◌∙◌}
use Rattle.std.specs.Prelude.{flat_map}
use Rattle.std.specs.List.{enumerate_from}
use Rattle.std.proofs.lemmas.Grind.{flat_map-append}
use Rattle.std.proofs.lemmas.List.{append-nil}
use Rattle.stream_wire.specs.Transactions.{transaction}
use Rattle.stream_wire.specs.declared.message.Message.{Message}
use Rattle.decode_stream.specs.Decoding.{TransactionState, numbered}
use Rattle.decode_stream.specs.Laws.{MessagesGrow}
use Rattle.decode_stream.specs.Messages.{all_messages, messages_of}

one_behind : (before : List TransactionState) (next : TransactionState) → all_messages (before ++ next ∷ []) ≡ all_messages before ++ messages_of next
one_behind before next = flat_map-append messages_of before (next ∷ []) ∙ ap (λ (ms : List Message). all_messages before ++ ms) (append-nil (messages_of next))

numbered_messages : (n : ℕ) (lists : List (List Message)) → all_messages (numbered n lists) ≡ flat_map transaction (enumerate_from n lists)
numbered_messages n [] = refl
numbered_messages n (changes ∷ lists) = ap (λ (ms : List Message). transaction (n, changes) ++ ms) (numbered_messages (n + 1) lists)

pub messages_grow : MessagesGrow
messages_grow = record { none = refl; more = one_behind; numbered = numbered_messages 1 }
