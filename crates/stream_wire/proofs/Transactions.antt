-- The messages of one transaction more.
use Rattle.std.proofs.Common.{◌≡◌, ◌+◌, ℕ, List, [], ◌∷◌, ◌++◌, length, ap, ◌∙◌, arith, suc}
use Rattle.std.specs.List.{enumerate_from, flat_map}
use Rattle.std.proofs.lemmas.Grind.{flat_map-append}
use Rattle.std.proofs.lemmas.List.{append-nil}
use Rattle.stream_wire.specs.Transactions.{messages_of, transaction}
use Rattle.stream_wire.specs.declared.message.Message.{Message}

pub enumerate_from-append : {X : Type 0} (n : ℕ) (xs ys : List X) → enumerate_from n (xs ++ ys) ≡ enumerate_from n xs ++ enumerate_from (n + length xs) ys
enumerate_from-append n [] ys = let same : n ≡ n + 0 = omega arith in ap (λ k. enumerate_from k ys) same
enumerate_from-append n (x ∷ xs) ys = let same : n + 1 + length xs ≡ n + suc (length xs) = omega arith in ap (λ rest. (n, x) ∷ rest) (enumerate_from-append (n + 1) xs ys ∙ ap (λ k. enumerate_from (n + 1) xs ++ enumerate_from k ys) same)

-- one transaction more has the next number, and its messages come last
pub messages_of-push : (before : List (List Message)) (changes : List Message) → messages_of (before ++ changes ∷ []) ≡ messages_of before ++ transaction (1 + length before, changes)
messages_of-push before changes =
    ap (flat_map transaction) (enumerate_from-append 1 before (changes ∷ []))
    ∙ flat_map-append transaction (enumerate_from 1 before) ((1 + length before, changes) ∷ [])
    ∙ ap (λ ms. messages_of before ++ ms) (append-nil (transaction (1 + length before, changes)))
