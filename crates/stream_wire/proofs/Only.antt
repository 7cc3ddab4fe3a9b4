-- The bytes determine the message at their front.
use Rattle.std.proofs.Common.{◌≡◌, ℕ, ◌-◌, ◌≤◌, List, ◌++◌, length, take, drop, Some, None, refl, sym, ap, subst, ◌∙◌, arith}
use Rattle.std.proofs.lemmas.List.{take-append-drop, length-append, length-take}
use Rattle.std.proofs.Math.Seq.{take-append_seam}
use Rattle.stream_wire.specs.declared.message.Message.{Message}
use Rattle.stream_wire.specs.Spelling.{spelling, HasSpelling, BeginsWith}
use Rattle.stream_wire.specs.Reading.{message_at}
use Rattle.stream_wire.proofs.Fields.{IsBytes, some_is}
use Rattle.stream_wire.proofs.Messages.{message_takes, message_again}

-- the reading of the bytes, where they begin with a message
pub begins_reads : (bytes : List ℕ) (m : Message) (n : ℕ) → BeginsWith bytes m n → message_at bytes ≡ Some (m, drop n bytes)
begins_reads bytes m n h =
    let split : bytes ≡ spelling m ++ drop n bytes = sym (take-append-drop n bytes) ∙ ap (λ (front : List ℕ). front ++ drop n bytes) h.front in
    ap message_at split ∙ message_again m (drop n bytes) h.fits

pub begins_within : (bytes : List ℕ) (m : Message) (n : ℕ) → BeginsWith bytes m n → n ≤ length bytes
begins_within bytes m n h = omega (arith, h.len, ap length h.front, length-take n bytes)

-- what follows a spelling does not matter
pub spelling_begins : (m : Message) (rest : List ℕ) → HasSpelling m → BeginsWith (spelling m ++ rest) m (length (spelling m))
spelling_begins m rest fits = record { fits = fits; front = take-append_seam (spelling m) rest; len = refl }

-- a message that is read takes all but the rest
pub reads_begins : (bytes : List ℕ) (m : Message) (rest : List ℕ) → IsBytes bytes → message_at bytes ≡ Some (m, rest) → BeginsWith bytes m (length bytes - length rest)
reads_begins bytes m rest fits e =
    let t = message_takes bytes (m, rest) fits e in
    let len : length (spelling m) ≡ length bytes - length rest = omega (arith, ap length t.0.parts, length-append (spelling m) rest) in
    subst (λ (n : ℕ). BeginsWith bytes m n) len (subst (λ (b : List ℕ). BeginsWith b m (length (spelling m))) (sym t.0.parts) (spelling_begins m rest t.1))

pub no_message : (bytes : List ℕ) (m : Message) (n : ℕ) → message_at bytes ≡ None → BeginsWith bytes m n → ⊥
no_message bytes m n none h = let both = sym none ∙ begins_reads bytes m n h in cc

-- the message at the front and its length are determined
pub one_message : (bytes : List ℕ) (m k : Message) (rest : List ℕ) (n : ℕ) → message_at bytes ≡ Some (m, rest) → BeginsWith bytes k n → (m ≡ k) × (length bytes - length rest ≡ n)
one_message bytes m k rest n e h =
    let same = some_is (m, rest) (k, drop n bytes) (sym e ∙ begins_reads bytes k n h) in
    let rests : rest ≡ drop n bytes = ap (λ (p : Message × List ℕ). p.1) same in
    let parts = ap length (take-append-drop n bytes) in
    (ap (λ (p : Message × List ℕ). p.0) same, omega (arith, begins_within bytes k n h, ap length rests, parts, length-append (take n bytes) (drop n bytes), length-take n bytes))

-- no spelling begins another
pub one_spelling_of : (m k : Message) (x y : List ℕ) → HasSpelling m → HasSpelling k → spelling m ++ x ≡ spelling k ++ y → (m ≡ k) × (x ≡ y)
one_spelling_of m k x y fits_m fits_k same =
    let both = some_is (m, x) (k, y) (sym (message_again m x fits_m) ∙ ap message_at same ∙ message_again k y fits_k) in
    (ap (λ (p : Message × List ℕ). p.0) both, ap (λ (p : Message × List ℕ). p.1) both)

-- ---- what a reader answers, from what it read

-- it is the message that was written, where one was
pub found_again : (bytes : List ℕ) (m : Message) (rest : List ℕ) → message_at bytes ≡ Some (m, rest) → (k : Message) (after : List ℕ) → HasSpelling k → bytes ≡ spelling k ++ after → (m ≡ k) × (length bytes - length rest ≡ length (spelling k))
found_again bytes m rest e k after fits is = one_message bytes m k rest (length (spelling k)) e (subst (λ (b : List ℕ). BeginsWith b k (length (spelling k))) (sym is) (spelling_begins k after fits))

-- where nothing is found none was
pub none_again : (bytes : List ℕ) → message_at bytes ≡ None → (k : Message) (after : List ℕ) → HasSpelling k → bytes ≡ spelling k ++ after → ⊥
none_again bytes none k after fits is = no_message bytes k (length (spelling k)) none (subst (λ (b : List ℕ). BeginsWith b k (length (spelling k))) (sym is) (spelling_begins k after fits))

-- what is left is a part
pub rest_within : (bytes : List ℕ) (m : Message) (rest : List ℕ) → IsBytes bytes → message_at bytes ≡ Some (m, rest) → length rest ≤ length bytes
rest_within bytes m rest fits e =
    let t = message_takes bytes (m, rest) fits e in
    omega (arith, ap length t.0.parts, length-append (spelling m) rest)
