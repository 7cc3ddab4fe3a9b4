-- The bytes of a pointer and the pointer determine each other.
use Rattle.std.proofs.Common.{◌≡◌, ℕ, ◌+◌, List, [], ◌∷◌, ◌++◌, length, get_or, take, drop, Result, Ok, Err, refl, sym, ap, subst, ◌∙◌, arith}
use Rattle.std.specs.Prelude.{IfOk, IfErr}
use Rattle.std.specs.Int.{w32, to_le_bytes}
use Rattle.std.proofs.lemmas.Nat.{from_le_bytes-to_le_bytes_4}
use Rattle.std.proofs.lemmas.List.{drop_all, length-drop, append-nil, take_at, drop_at}
use Rattle.std.proofs.Math.ListN.{set}
use Rattle.external_pointer.specs.declared.external.Pointer.{Pointer}
use Rattle.external_pointer.specs.declared.fault.PointerFault.{PointerFault}
use Rattle.external_pointer.specs.declared.fault.PointerFault.TheVariants.{WrongLength, BadHeader, BadTag, Compressed, BadSize}
use Rattle.external_pointer.specs.Spelling.{IsInRange, pointer_bytes}
use Rattle.external_pointer.specs.Fault.{word_at, IsFault}
use Rattle.external_pointer.proofs.Words.{IsBytes, to_le_bytes-word_at, four_fours}

pub length-pointer_bytes : (p : Pointer) → length (pointer_bytes p) ≡ 18
unfolding pointer_bytes
length-pointer_bytes p = refl

-- a pointer begins as an external datum on disk
pub pointer_bytes-front : (p : Pointer) → (get_or (pointer_bytes p) 0 0 ≡ 1) × (get_or (pointer_bytes p) 1 0 ≡ 18)
unfolding pointer_bytes
pointer_bytes-front p = (refl, refl)

-- what the words of a pointer's bytes are

pub word_at-raw_size : (p : Pointer) → IsInRange p → word_at 2 (pointer_bytes p) ≡ p.size + 4
unfolding pointer_bytes
word_at-raw_size p fits = from_le_bytes-to_le_bytes_4 (p.size + 4) (omega (arith, fits.size))

pub word_at-size : (p : Pointer) → IsInRange p → word_at 6 (pointer_bytes p) ≡ p.size
unfolding pointer_bytes
word_at-size p fits = from_le_bytes-to_le_bytes_4 p.size (omega (arith, fits.size))

pub word_at-value_id : (p : Pointer) → IsInRange p → word_at 10 (pointer_bytes p) ≡ p.value_id
unfolding pointer_bytes
word_at-value_id p fits = from_le_bytes-to_le_bytes_4 p.value_id fits.value_id

pub word_at-toast_rel : (p : Pointer) → IsInRange p → word_at 14 (pointer_bytes p) ≡ p.toast_rel
unfolding pointer_bytes
word_at-toast_rel p fits = from_le_bytes-to_le_bytes_4 p.toast_rel fits.toast_rel

abbrev made : ℕ → ℕ → ℕ → Pointer
made size value_id toast_rel = record { size = size; value_id = value_id; toast_rel = toast_rel }

same_pointer : (p q : Pointer) → p.size ≡ q.size → p.value_id ≡ q.value_id → p.toast_rel ≡ q.toast_rel → p ≡ q
same_pointer p q size value_id toast_rel =
    let same : made p.size p.value_id p.toast_rel ≡ made q.size q.value_id q.toast_rel = cc in same

-- one pointer has these bytes
pub one_pointer : (p q : Pointer) → IsInRange p → IsInRange q → pointer_bytes p ≡ pointer_bytes q → p ≡ q
one_pointer p q fits others same =
    same_pointer p q (sym (word_at-size p fits) ∙ ap (word_at 6) same ∙ word_at-size q others)
    (sym (word_at-value_id p fits) ∙ ap (word_at 10) same ∙ word_at-value_id q others)
    (sym (word_at-toast_rel p fits) ∙ ap (word_at 14) same ∙ word_at-toast_rel q others)

joined : (a b c d w x y z : List ℕ) → a ≡ w → b ≡ x → c ≡ y → d ≡ z → a ++ (b ++ (c ++ d)) ≡ w ++ (x ++ (y ++ z))
joined a b c d w x y z p q r s = cc

fronted : (a b : ℕ) (r s : List ℕ) → a ≡ 1 → b ≡ 18 → r ≡ s → a ∷ b ∷ r ≡ 1 ∷ 18 ∷ s
fronted a b r s p q h = cc

-- bytes with a pointer's front and words are those of the pointer
pub pointer_bytes-from : (bytes : List ℕ) (p : Pointer) → IsBytes bytes → length bytes ≡ 18 → get_or bytes 0 0 ≡ 1 → get_or bytes 1 0 ≡ 18
    → word_at 2 bytes ≡ p.size + 4 → word_at 6 bytes ≡ p.size → word_at 10 bytes ≡ p.value_id → word_at 14 bytes ≡ p.toast_rel → bytes ≡ pointer_bytes p
unfolding pointer_bytes
pointer_bytes-from (a ∷ b ∷ rest) p fits len header tag raw_size size value_id toast_rel =
    let bytes : List ℕ = a ∷ b ∷ rest in
    let first : take 4 rest ≡ to_le_bytes w32 (p.size + 4) = sym (to_le_bytes-word_at 2 bytes fits (omega arith)) ∙ ap (to_le_bytes w32) raw_size in
    let second : take 4 (drop 4 rest) ≡ to_le_bytes w32 p.size = sym (to_le_bytes-word_at 6 bytes fits (omega arith)) ∙ ap (to_le_bytes w32) size in
    let third : take 4 (drop 8 rest) ≡ to_le_bytes w32 p.value_id = sym (to_le_bytes-word_at 10 bytes fits (omega arith)) ∙ ap (to_le_bytes w32) value_id in
    let fourth : take 4 (drop 12 rest) ≡ to_le_bytes w32 p.toast_rel = sym (to_le_bytes-word_at 14 bytes fits (omega arith)) ∙ ap (to_le_bytes w32) toast_rel in
    fronted a b rest _ header tag (four_fours rest (omega arith) ∙ joined _ _ _ _ _ _ _ _ first second third fourth)
pointer_bytes-from _ p fits len header tag raw_size size value_id toast_rel = absurd (omega arith)

-- the bytes of a pointer have no fault
pub no_fault : (p : Pointer) (f : PointerFault) → IsInRange p → IsFault (pointer_bytes p) f → ⊥
unfolding pointer_bytes
no_fault p (WrongLength have) fits h = omega arith
no_fault p (BadHeader byte) fits h = omega arith
no_fault p (BadTag tag) fits h = omega arith
no_fault p (Compressed raw_size ext_info) fits h = omega (arith, word_at-raw_size p fits, word_at-size p fits, fits.size, h.0.raw_size_is, h.0.ext_info_is)
no_fault p (BadSize raw_size ext_info) fits h = h.2 (omega (arith, word_at-size p fits, fits.size, h.0.ext_info_is), omega (arith, word_at-raw_size p fits, word_at-size p fits, h.0.raw_size_is, h.0.ext_info_is), omega (arith, word_at-raw_size p fits, fits.size, h.0.raw_size_is))

-- a result that is right where it is Ok and right where it is an error gives the pointer
pub reads_again : (bytes : List ℕ) (r : Result Pointer PointerFault) → IfOk r (λ q. IsInRange q × (bytes ≡ pointer_bytes q)) → IfErr r (IsFault bytes)
    → (p : Pointer) → IsInRange p → bytes ≡ pointer_bytes p → r ≡ Ok p
reads_again bytes (Ok q) found fault p fits is = ap (λ (x : Pointer). Ok x) (one_pointer q p found.0 fits (sym found.1 ∙ is))
reads_again bytes (Err f) found fault p fits is = absurd (no_fault p f fits (subst (λ (x : List ℕ). IsFault x f) is fault))

ended : (rest a : List ℕ) → rest ≡ [] → a ++ rest ≡ a
ended rest a e = ap (λ (x : List ℕ). a ++ x) e ∙ append-nil a

-- the bytes with those of a number in the four places from `at` on
abbrev pub with_word : ℕ → ℕ → List ℕ → List ℕ
with_word at word bytes = take at bytes ++ (to_le_bytes w32 word ++ drop (at + 4) bytes)

-- writing the front and then each word gives the bytes of the pointer
pub written : (before a b c d : List ℕ) (p : Pointer) → length before ≡ 18 → a ≡ with_word 2 (p.size + 4) (set (set before 0 1) 1 18)
    → b ≡ with_word 6 p.size a → c ≡ with_word 10 p.value_id b → d ≡ with_word 14 p.toast_rel c → d ≡ pointer_bytes p
unfolding pointer_bytes
written (x ∷ y ∷ rest) a b c d p len a-is b-is c-is d-is =
    let all : d ≡ pointer_bytes p ++ drop 4 (drop 4 (drop 4 (drop 4 rest))) = d-is ∙ rw (c-is, b-is, a-is) refl in
    all ∙ ended (drop 4 (drop 4 (drop 4 (drop 4 rest)))) (pointer_bytes p) (drop_all 4 (drop 4 (drop 4 (drop 4 rest))) (omega (arith, length-drop 4 rest, length-drop 4 (drop 4 rest), length-drop 4 (drop 4 (drop 4 rest)))))
written _ a b c d p len a-is b-is c-is d-is = absurd (omega arith)
