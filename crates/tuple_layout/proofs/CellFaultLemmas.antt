-- What the readers of a column answer, from what they found.
use Rattle.std.proofs.Common.{◌≡◌, ℕ, ◌+◌, ◌≤◌, ◌-◌, List, [], ◌∷◌, ◌++◌, length, take, drop, refl, sym, ap, subst, ◌∙◌, arith, inr}
use Rattle.std.specs.Prelude.{replicate}
use Rattle.tuple_layout.specs.Sizes.{aligned}
use Rattle.std.proofs.lemmas.List.{append_cancel_left, length-replicate, take-replicate, drop_at, drop-drop}
use Rattle.varlena_form.specs.Spelling.{Datum, short, plain, compressed, external, BeginsWith}
use Rattle.varlena_form.proofs.Front.{begins_split}
use Rattle.varlena_form.proofs.Only.{one_datum}
use Rattle.external_pointer.specs.Spelling.{pointer_bytes}
use Rattle.tuple_layout.specs.declared.Storage.{Storage}
use Rattle.tuple_layout.specs.declared.Storage.TheVariants.{Plain}
use Rattle.tuple_layout.specs.declared.cell.Cell.{Cell}
use Rattle.tuple_layout.specs.declared.cell.Cell.TheVariants.{Inline}
use Rattle.tuple_layout.specs.declared.read_cell.CellFault.{CellFault}
use Rattle.tuple_layout.specs.declared.read_cell.CellFault.TheVariants.{Compressed, Bad, Memory}
use Rattle.tuple_layout.specs.Tuples.{padding}
use Rattle.tuple_layout.specs.Faults.{StandsFirst, NoneStands, IsCompressed}
use Rattle.tuple_layout.specs.Reading.{IsAligned, IsCompressedPointer, IsOutFault, IsCellFault, IsMisplaced}
use Rattle.tuple_layout.proofs.CellLemmas.{IsOdd, IsEven, refuse_odd, refuse_even, plain_front}

same : (rest : List ℕ) (d e : Datum) (m n : ℕ) → BeginsWith rest d m → BeginsWith rest e n → d ≡ e
same rest d e m n h k = (one_datum rest d e m n h k).0

-- ---- an odd first byte

-- nothing begins there
pub odd_none : (storage : Storage) (at : ℕ) (rest : List ℕ) → IsOdd rest → ((d : Datum) (n : ℕ) → BeginsWith rest d n → ⊥) → NoneStands storage at rest × ¬ (IsCompressed at rest)
odd_none storage at rest odd none = refuse_odd storage at rest odd (λ value n e h. none (short value) n h) (λ p n fits h. none (external (pointer_bytes p)) n h) (λ bytes n c h. none (external bytes) n h)

-- a short datum begins there
pub odd_short : (storage : Storage) (at : ℕ) (rest payload : List ℕ) (n : ℕ) (f : CellFault) → IsOdd rest → BeginsWith rest (short payload) n → IsMisplaced (storage ≡ Plain) f → IsCellFault storage at rest f
odd_short storage at rest payload n Compressed odd h k = absurd k
odd_short storage at rest payload n Bad odd h k =
    refuse_odd storage at rest odd (λ value m e g. absurd (cc (k, e)))
    (λ p m fits g. let d : short payload ≡ external (pointer_bytes p) = same rest _ _ n m h g in absurd (cc d))
    (λ bytes m c g. let d : short payload ≡ external bytes = same rest _ _ n m h g in absurd (cc d))
odd_short storage at rest payload n Memory odd h k = tt

one_external : (a b : List ℕ) → external a ≡ external b → a ≡ b
one_external a b e = cc

-- an external datum begins there
pub odd_out : (storage : Storage) (at : ℕ) (rest bytes : List ℕ) (n : ℕ) (f : CellFault) → IsOdd rest → BeginsWith rest (external bytes) n → IsOutFault bytes f → IsCellFault storage at rest f
odd_out storage at rest bytes n Compressed odd h k =
    let n-is : n ≡ 18 = omega (arith, h.len, h.fits.0) in
    let front : bytes ≡ take 18 rest = sym h.front ∙ ap (λ (m : ℕ). take m rest) n-is in
    let at_front : IsCompressedPointer (take 18 rest) = subst (λ (x : List ℕ). IsCompressedPointer x) front k in
    inr (record { raw_size = at_front.raw_size; ext_info = at_front.ext_info; fault = at_front.fault })
odd_out storage at rest bytes n Bad odd h k =
    refuse_odd storage at rest odd (λ value m e g. let d : external bytes ≡ short value = same rest _ _ n m h g in absurd (cc d))
    (λ p m fits g. k.0 p fits (one_external _ _ (same rest _ _ n m h g)))
    (λ others m c g. k.1 (subst (λ (x : List ℕ). IsCompressedPointer x) (sym (one_external _ _ (same rest _ _ n m h g))) c))
odd_out storage at rest bytes n Memory odd h k = absurd k

-- ---- an even first byte

one_body : (at : ℕ) (rest body other : List ℕ) → rest ≡ padding at ++ body → rest ≡ padding at ++ other → body ≡ other
one_body at rest body other p q = append_cancel_left (padding at) body other (sym p ∙ q)

-- the zeros are not there
pub even_unpadded : (storage : Storage) (at : ℕ) (rest : List ℕ) → IsEven rest → ((body : List ℕ) → rest ≡ padding at ++ body → ⊥) → NoneStands storage at rest × ¬ (IsCompressed at rest)
even_unpadded storage at rest even none = refuse_even storage at rest even (λ value body n is k h. none body is) (λ payload body n is h. none body is)

-- what stands behind the zeros is none of these two
pub even_other : (storage : Storage) (at : ℕ) (rest body : List ℕ) → IsEven rest → rest ≡ padding at ++ body
    → ((value : List ℕ) (n : ℕ) → BeginsWith body (plain value) n → IsAligned storage (length value) → ⊥) → ((payload : List ℕ) (n : ℕ) → BeginsWith body (compressed payload) n → ⊥)
    → NoneStands storage at rest × ¬ (IsCompressed at rest)
even_other storage at rest body even is no_plain no_compressed =
    refuse_even storage at rest even
    (λ value other n q k h. no_plain value n (subst (λ (x : List ℕ). BeginsWith x (plain value) n) (sym (one_body at rest body other is q)) h) k)
    (λ payload other n q h. no_compressed payload n (subst (λ (x : List ℕ). BeginsWith x (compressed payload) n) (sym (one_body at rest body other is q)) h))

-- a short or an external datum stands there
pub even_short : (storage : Storage) (at : ℕ) (rest body payload : List ℕ) (n : ℕ) → IsEven rest → rest ≡ padding at ++ body → BeginsWith body (short payload) n → NoneStands storage at rest × ¬ (IsCompressed at rest)
even_short storage at rest body payload n even is h =
    even_other storage at rest body even is (λ value m g k. let d : short payload ≡ plain value = same body _ _ n m h g in absurd (cc d)) (λ others m g. let d : short payload ≡ compressed others = same body _ _ n m h g in absurd (cc d))

pub even_external : (storage : Storage) (at : ℕ) (rest body bytes : List ℕ) (n : ℕ) → IsEven rest → rest ≡ padding at ++ body → BeginsWith body (external bytes) n → NoneStands storage at rest × ¬ (IsCompressed at rest)
even_external storage at rest body bytes n even is h =
    even_other storage at rest body even is (λ value m g k. let d : external bytes ≡ plain value = same body _ _ n m h g in absurd (cc d)) (λ others m g. let d : external bytes ≡ compressed others = same body _ _ n m h g in absurd (cc d))

one_plain : (a b : List ℕ) → plain a ≡ plain b → a ≡ b
one_plain a b e = cc

-- a datum with a header of four bytes stands there
pub even_plain : (storage : Storage) (at : ℕ) (rest body payload : List ℕ) (n : ℕ) (f : CellFault) → IsEven rest → rest ≡ padding at ++ body → BeginsWith body (plain payload) n → IsMisplaced (¬ (IsAligned storage (length payload))) f
    → IsCellFault storage at rest f
even_plain storage at rest body payload n Compressed even is h k = absurd k
even_plain storage at rest body payload n Bad even is h k =
    even_other storage at rest body even is
    (λ value m g a. k (subst (λ (x : List ℕ). IsAligned storage (length x)) (sym (one_plain _ _ (same body _ _ n m h g))) a))
    (λ others m g. let d : plain payload ≡ compressed others = same body _ _ n m h g in absurd (cc d))
even_plain storage at rest body payload n Memory even is h k = tt

-- a cell with a header of four bytes is read
pub plain_stands : (storage : Storage) (at pad : ℕ) (rest body payload : List ℕ) (n : ℕ) (cell : Cell) → rest ≡ padding at ++ body → length (padding at) ≡ pad → BeginsWith body (plain payload) n → cell ≡ Inline payload
    → IsAligned storage (length payload) → StandsFirst storage at rest cell (drop (pad + n) rest)
plain_stands storage at pad rest body payload n cell is pads h cell-is kind =
    let past : drop pad rest ≡ body = ap (drop pad) is ∙ drop_at (padding at) body pad pads in
    let after : drop (pad + n) rest ≡ drop n body = sym (drop-drop n pad rest) ∙ ap (drop n) past in
    rw (cell-is, after) (record { there = refl; form = h.fits; front = is ∙ ap (λ (x : List ℕ). padding at ++ x) (begins_split body (plain payload) n h) ∙ plain_front storage at payload (drop n body) kind })

-- how many zeros stand before an aligned datum
pub padding_long : (at pad : ℕ) → at + pad ≡ aligned at → length (padding at) ≡ pad
padding_long at pad is = length-replicate (aligned at - at) 0 ∙ omega arith

pub zeros_are_padding : (at pad : ℕ) → at + pad ≡ aligned at → pad ≤ 3 → take pad (0 ∷ 0 ∷ 0 ∷ []) ≡ padding at
zeros_are_padding at pad is few =
    let n : pad ≡ aligned at - at = omega arith in
    take-replicate pad 3 0 few ∙ ap (λ (k : ℕ). replicate k 0) n
