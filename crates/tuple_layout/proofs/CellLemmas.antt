-- What stands at the front of the data where a cell does.
use Rattle.std.proofs.Common.{◌≡◌, ℕ, zero, suc, ◌+◌, ◌-◌, ◌%◌, ◌≤◌, true, false, List, ◌++◌, length, take, drop, get_or, refl, sym, ap, subst, ◌∙◌, append_assoc, arith, inl, inr, ◌⊎◌}
use Rattle.std.specs.Prelude.{replicate, nat_le}
use Rattle.std.proofs.lemmas.List.{length-append, length-replicate, get_or-take}
use Rattle.std.proofs.lemmas.Bool.{cases_lt}
use Rattle.std.proofs.lemmas.Bool.Decides.{nat_tests}
use Rattle.varlena_form.specs.Spelling.{Datum, short, plain, compressed, external, short_form, plain_form, compressed_form, spelling, HasSpelling, BeginsWith}
use Rattle.varlena_form.proofs.Front.{begins_split, spelling_begins, length-short_form, length-plain_form}
use Rattle.external_pointer.specs.declared.external.Pointer.{Pointer}
use Rattle.external_pointer.specs.Spelling.{IsInRange, pointer_bytes}
use Rattle.external_pointer.proofs.Spelled.{length-pointer_bytes, pointer_bytes-front}
use Rattle.tuple_layout.specs.declared.Storage.{Storage}
use Rattle.tuple_layout.specs.declared.Storage.TheVariants.{Plain, External}
use Rattle.tuple_layout.specs.declared.cell.Cell.{Cell}
use Rattle.tuple_layout.specs.declared.cell.Cell.TheVariants.{Null, Inline, Out}
use Rattle.tuple_layout.specs.Sizes.{aligned, longest_short, inline_end}
use Rattle.tuple_layout.specs.Tuples.{cell_bytes, inline_bytes, padding}
use Rattle.tuple_layout.specs.Faults.{StandsFirst, NoneStands, HoldsCompressed, PointsToCompressed, IsCompressed}
use Rattle.tuple_layout.specs.Reading.{IsAligned, IsCompressedPointer}

-- ---- first bytes

abbrev pub IsOdd : List ℕ → Type 0
IsOdd rest = get_or rest 0 0 % 2 ≡ 1

abbrev pub IsEven : List ℕ → Type 0
IsEven rest = get_or rest 0 0 % 2 ≡ 0

even_or_odd : (rest : List ℕ) → IsEven rest → IsOdd rest → ⊥
even_or_odd rest e o = omega arith

short_odd : (payload after : List ℕ) → IsOdd (short_form payload ++ after)
unfolding short_form
short_odd payload after = omega arith

plain_even : (payload after : List ℕ) → IsEven (plain_form payload ++ after)
unfolding plain_form
plain_even payload after = omega arith

compressed_even : (payload after : List ℕ) → IsEven (compressed_form payload ++ after)
unfolding compressed_form
compressed_even payload after = omega arith

pointer_odd : (p : Pointer) (after : List ℕ) → IsOdd (pointer_bytes p ++ after)
unfolding pointer_bytes
pointer_odd p after = refl

zeros_even : (n : ℕ) (body : List ℕ) → IsEven body → IsEven (replicate n 0 ++ body)
zeros_even zero body e = e
zeros_even (suc n) body e = refl

padded_even : (at : ℕ) (body : List ℕ) → IsEven body → IsEven (padding at ++ body)
padded_even at body e = zeros_even (aligned at - at) body e

-- ---- how an inline value is spelled

-- in a short datum, or behind zeros in one with a header of four bytes
data Spelled (storage : Storage) (at : ℕ) (value : List ℕ) : Type 0 where
  as_short : storage ≡ External → length value ≤ 126 → inline_bytes storage at value ≡ short_form value → Spelled storage at value
  as_plain : IsAligned storage (length value) → inline_bytes storage at value ≡ padding at ++ plain_form value → Spelled storage at value

spelled : (storage : Storage) (at : ℕ) (value : List ℕ) → Spelled storage at value
spelled Plain at value = as_plain refl refl
spelled External at value = elim (cases_lt 126 (length value)) [
  | inl long ↦ let test : nat_le (length value) longest_short ≡ false = grind (arith, nat_tests) in as_plain test (rw test refl)
  | inr few ↦ let test : nat_le (length value) longest_short ≡ true = grind (arith, nat_tests) in as_short refl few (rw test refl)
]

-- ---- what begins with an odd byte

begins_odd : (rest : List ℕ) (d : Datum) (n : ℕ) → BeginsWith rest d n → IsEven (spelling d ++ drop n rest) → IsOdd rest → ⊥
begins_odd rest d n h even odd = even_or_odd rest (subst (λ (x : List ℕ). IsEven x) (sym (begins_split rest d n h)) even) odd

pub odd_not_plain : (rest payload : List ℕ) (n : ℕ) → IsOdd rest → BeginsWith rest (plain payload) n → ⊥
odd_not_plain rest payload n odd h = begins_odd rest (plain payload) n h (plain_even payload (drop n rest)) odd

pub odd_not_compressed : (rest payload : List ℕ) (n : ℕ) → IsOdd rest → BeginsWith rest (compressed payload) n → ⊥
odd_not_compressed rest payload n odd h = begins_odd rest (compressed payload) n h (compressed_even payload (drop n rest)) odd

odd_not_padded : (at : ℕ) (rest body : List ℕ) → rest ≡ padding at ++ body → IsEven body → IsOdd rest → ⊥
odd_not_padded at rest body is even odd = even_or_odd rest (subst (λ (x : List ℕ). IsEven x) (sym is) (padded_even at body even)) odd

begins_front : (rest : List ℕ) (d : Datum) (after : List ℕ) → HasSpelling d → rest ≡ spelling d ++ after → BeginsWith rest d (length (spelling d))
begins_front rest d after fits is = subst (λ (x : List ℕ). BeginsWith x d (length (spelling d))) (sym is) (spelling_begins d after fits)

-- a cell with an odd first byte
pub data OddCell (storage : Storage) (rest : List ℕ) (cell : Cell) (after : List ℕ) : Type 0 where
  as_short : (value : List ℕ) → cell ≡ Inline value → storage ≡ External → BeginsWith rest (short value) (length (short_form value)) → rest ≡ short_form value ++ after → OddCell storage rest cell after
  as_out : (p : Pointer) → cell ≡ Out p → IsInRange p → BeginsWith rest (external (pointer_bytes p)) (length (pointer_bytes p)) → rest ≡ pointer_bytes p ++ after → OddCell storage rest cell after

pointer_fits : (p : Pointer) → HasSpelling (external (pointer_bytes p))
pointer_fits p = (length-pointer_bytes p, (pointer_bytes-front p).0, (pointer_bytes-front p).1)

pub odd_cell : (storage : Storage) (at : ℕ) (rest : List ℕ) (cell : Cell) (after : List ℕ) → IsOdd rest → StandsFirst storage at rest cell after → OddCell storage rest cell after
odd_cell storage at rest Null after odd h = absurd (cc (h.there))
odd_cell storage at rest (Inline value) after odd h = elim (spelled storage at value) [
  | as_short kind few is ↦ let front : rest ≡ short_form value ++ after = h.front ∙ ap (λ (x : List ℕ). x ++ after) is in
      as_short value refl kind (begins_front rest (short value) after few front) front
  | as_plain kind is ↦ let front : rest ≡ padding at ++ (plain_form value ++ after) = h.front ∙ ap (λ (x : List ℕ). x ++ after) is ∙ append_assoc (padding at) (plain_form value) after in
      absurd (odd_not_padded at rest (plain_form value ++ after) front (plain_even value after) odd)
]
odd_cell storage at rest (Out p) after odd h = as_out p refl h.form (begins_front rest (external (pointer_bytes p)) after (pointer_fits p) h.front) h.front

pub points_begin : (rest : List ℕ) → PointsToCompressed rest → BeginsWith rest (external (take 18 rest)) 18
points_begin rest h =
    let len : length (take 18 rest) ≡ 18 = h.fault.0.len in
    record { fits = (len, h.fault.0.header, h.fault.0.tag); front = refl; len = sym len }

-- why bytes that begin with an odd one are refused
pub refuse_odd : (storage : Storage) (at : ℕ) (rest : List ℕ) → IsOdd rest → ((value : List ℕ) (n : ℕ) → storage ≡ External → BeginsWith rest (short value) n → ⊥)
    → ((p : Pointer) (n : ℕ) → IsInRange p → BeginsWith rest (external (pointer_bytes p)) n → ⊥) → ((bytes : List ℕ) (n : ℕ) → IsCompressedPointer bytes → BeginsWith rest (external bytes) n → ⊥)
    → NoneStands storage at rest × ¬ (IsCompressed at rest)
refuse_odd storage at rest odd no_short no_out no_compressed = (
  λ cell after h. elim (odd_cell storage at rest cell after odd h) [
    | as_short value is kind begins front ↦ no_short value _ kind begins
    | as_out p is fits begins front ↦ no_out p _ fits begins
  ],
  λ h. elim h [
    | inl held ↦ odd_not_padded at rest held.tail held.padded (subst (λ (x : List ℕ). IsEven x) (sym (begins_split held.tail (compressed held.payload) held.len held.begins)) (compressed_even held.payload (drop held.len held.tail))) odd
    | inr points ↦ no_compressed (take 18 rest) 18 (record { raw_size = points.raw_size; ext_info = points.ext_info; fault = points.fault }) (points_begin rest points)
  ],
)

-- ---- what begins with an even byte

-- a cell with an even first byte
pub record EvenCell (storage : Storage) (at : ℕ) (rest : List ℕ) (cell : Cell) (after : List ℕ) : Type 0 where
  pub value : List ℕ
  pub is : cell ≡ Inline value
  pub kind : IsAligned storage (length value)
  pub padded : rest ≡ padding at ++ (plain_form value ++ after)
  pub begins : BeginsWith (plain_form value ++ after) (plain value) (length (plain_form value))

pub even_cell : (storage : Storage) (at : ℕ) (rest : List ℕ) (cell : Cell) (after : List ℕ) → IsEven rest → StandsFirst storage at rest cell after → EvenCell storage at rest cell after
even_cell storage at rest Null after even h = absurd (cc (h.there))
even_cell storage at rest (Inline value) after even h = elim (spelled storage at value) [
  | as_short kind few is ↦
      absurd (even_or_odd rest even (subst (λ (x : List ℕ). IsOdd x) (sym (h.front ∙ ap (λ (x : List ℕ). x ++ after) is)) (short_odd value after)))
  | as_plain kind is ↦ record {
    value = value;
    is = refl;
    kind = kind;
    padded = h.front ∙ ap (λ (x : List ℕ). x ++ after) is ∙ append_assoc (padding at) (plain_form value) after;
    begins = spelling_begins (plain value) after h.form;
  }
]
even_cell storage at rest (Out p) after even h = absurd (even_or_odd rest even (subst (λ (x : List ℕ). IsOdd x) (sym h.front) (pointer_odd p after)))

-- why bytes that begin with an even one are refused
pub refuse_even : (storage : Storage) (at : ℕ) (rest : List ℕ) → IsEven rest
    → ((value body : List ℕ) (n : ℕ) → rest ≡ padding at ++ body → IsAligned storage (length value) → BeginsWith body (plain value) n → ⊥)
    → ((payload body : List ℕ) (n : ℕ) → rest ≡ padding at ++ body → BeginsWith body (compressed payload) n → ⊥) → NoneStands storage at rest × ¬ (IsCompressed at rest)
refuse_even storage at rest even no_plain no_compressed = (
  λ cell after h.
      let found = even_cell storage at rest cell after even h in
      no_plain found.value _ _ found.padded found.kind found.begins,
  λ h. elim h [
    | inl held ↦ no_compressed held.payload held.tail held.len held.padded held.begins
    | inr points ↦
        let begins = points_begin rest points in
        let first : get_or rest 0 0 ≡ 1 = sym (get_or-take 18 rest 0 0 (omega arith)) ∙ begins.fits.1 in
        even_or_odd rest even (omega arith)
  ],
)

-- a datum with a header of four bytes behind the zeros is the cell
pub plain_front : (storage : Storage) (at : ℕ) (value after : List ℕ) → IsAligned storage (length value) → padding at ++ (plain_form value ++ after) ≡ cell_bytes storage at (Inline value) ++ after
plain_front storage at value after kind = rw kind (sym (append_assoc (padding at) (plain_form value) after))

-- where an inline value ends
pub inline_end_of : (storage : Storage) (at : ℕ) (value : List ℕ) → at + length (inline_bytes storage at value) ≡ inline_end storage at (length value)
inline_end_of Plain at value = omega (arith, length-append (padding at) (plain_form value), length-replicate (aligned at - at) zero, length-plain_form value)
inline_end_of External at value = elim (cases_lt 126 (length value)) [
  | inl long ↦
      let test : nat_le (length value) longest_short ≡ false = grind (arith, nat_tests) in
      rw test (let all : at + length (padding at ++ plain_form value) ≡ aligned at + 4 + length value = omega (arith, length-append (padding at) (plain_form value), length-replicate (aligned at - at) zero, length-plain_form value) in all)
  | inr few ↦
      let test : nat_le (length value) longest_short ≡ true = grind (arith, nat_tests) in
      rw test (let all : at + length (short_form value) ≡ at + 1 + length value = omega (arith, length-short_form value) in all)
]

pub parity : (rest : List ℕ) → IsEven rest ⊎ IsOdd rest
parity rest = elim (cases_lt (get_or rest 0 0 % 2) 1) [ inl lt ↦ inl (omega arith) | inr le ↦ inr (omega arith) ]

pub odd_compressed : (at : ℕ) (rest : List ℕ) → IsOdd rest → HoldsCompressed at rest → ⊥
odd_compressed at rest odd held =
    odd_not_padded at rest held.tail held.padded (subst (λ (x : List ℕ). IsEven x) (sym (begins_split held.tail (compressed held.payload) held.len held.begins)) (compressed_even held.payload (drop held.len held.tail))) odd

pub even_points : (rest : List ℕ) → IsEven rest → PointsToCompressed rest → ⊥
even_points rest even points =
    let begins = points_begin rest points in
    let first : get_or rest 0 0 ≡ 1 = sym (get_or-take 18 rest 0 0 (omega arith)) ∙ begins.fits.1 in
    even_or_odd rest even (omega arith)
