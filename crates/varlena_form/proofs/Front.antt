-- Spellings at the front of bytes, for this crate and those above it.
use Rattle.std.proofs.Common.{◌≡◌, ℕ, ◌+◌, ◌≤◌, List, ◌++◌, length, drop, refl, sym, ap, ◌∙◌, arith}
use Rattle.std.proofs.lemmas.List.{take-append-drop, length-take}
use Rattle.std.proofs.Math.Seq.{take-append_seam}
use Rattle.varlena_form.specs.Spelling.{Datum, short_form, plain_form, compressed_form, spelling, HasSpelling, BeginsWith}

pub length-short_form : (payload : List ℕ) → length (short_form payload) ≡ length payload + 1
unfolding short_form
length-short_form payload = omega arith

pub length-plain_form : (payload : List ℕ) → length (plain_form payload) ≡ length payload + 4
unfolding plain_form
length-plain_form payload = omega arith

-- the bytes that begin with a datum are its spelling and the rest
pub begins_split : (bytes : List ℕ) (d : Datum) (n : ℕ) → BeginsWith bytes d n → bytes ≡ spelling d ++ drop n bytes
begins_split bytes d n h = sym (take-append-drop n bytes) ∙ ap (λ (front : List ℕ). front ++ drop n bytes) h.front

pub begins_within : (bytes : List ℕ) (d : Datum) (n : ℕ) → BeginsWith bytes d n → n ≤ length bytes
begins_within bytes d n h = omega (arith, h.len, ap length h.front, length-take n bytes)

-- what follows a spelling does not matter
pub spelling_begins : (d : Datum) (rest : List ℕ) → HasSpelling d → BeginsWith (spelling d ++ rest) d (length (spelling d))
spelling_begins d rest fits = record { fits = fits; front = take-append_seam (spelling d) rest; len = refl }
