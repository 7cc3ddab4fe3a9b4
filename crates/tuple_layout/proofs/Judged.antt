-- The bytes determine what is read of them: one row, or one first fault.
use Rattle.std.proofs.Common.{◌≡◌, ◌≢◌, ℕ, ◌+◌, ◌<◌, ◌≤◌, List, [], length, take, Result, Ok, Err, refl, sym, ap, subst, ◌∙◌, arith, inl, inr}
use Rattle.std.specs.Prelude.{IfOk, IfErr}
use Rattle.tuple_layout.specs.declared.Storage.{Storage}
use Rattle.tuple_layout.specs.declared.cell.Cell.{Cell}
use Rattle.tuple_layout.specs.declared.cell.Stored.{Stored}
use Rattle.tuple_layout.specs.declared.fault.TupleFault.{TupleFault}
use Rattle.tuple_layout.specs.declared.fault.TupleFault.TheVariants.{Short, BadHeader, Compressed, BadColumn, Rest, Memory}
use Rattle.tuple_layout.specs.Tuples.{cell_widths, header, tuple, HasTuple}
use Rattle.tuple_layout.specs.Faults.{IsCompressed, NoneStands, HasHeader, HoldsCells, GoesOn, LacksKey, IsFault, start_in, end_of, next_storage}
use Rattle.tuple_layout.proofs.Exclusive.{Stops, one_stop, cell_not_compressed}
use Rattle.tuple_layout.proofs.HeaderRead.{tuple_holds, tuple_front, one_row}

-- ---- verdicts

-- a fault at the place where reading stops
abbrev Judged : List Storage → List ℕ → List Cell → List ℕ → TupleFault → Type 0
Judged schema bytes cells rest (Short need) = ⊥
Judged schema bytes cells rest BadHeader = (length cells ≡ length schema) × (length rest ≡ 0) × (take (start_in bytes) bytes ≢ header (cell_widths cells))
Judged schema bytes cells rest (Compressed column) = (length cells < length schema) × (column ≡ length cells + 1) × IsCompressed (end_of schema cells) rest
Judged schema bytes cells rest (BadColumn column) = (length cells < length schema) × (column ≡ length cells + 1) × ¬ (IsCompressed (end_of schema cells) rest)
Judged schema bytes cells rest (Rest at) = (length cells ≡ length schema) × (1 ≤ length rest) × (at ≡ start_in bytes + end_of schema cells)
Judged schema bytes cells rest Memory = ⊥

-- by how far reading comes
data Verdict (schema : List Storage) (bytes : List ℕ) (f : TupleFault) : Type 0 where
  too_short : length bytes < 23 → f ≡ Short 23 → Verdict schema bytes f
  other_numbers : 23 ≤ length bytes → (HasHeader schema bytes → ⊥) → f ≡ BadHeader → Verdict schema bytes f
  no_start : HasHeader schema bytes → length bytes < start_in bytes → f ≡ Short (start_in bytes) → Verdict schema bytes f
  no_key : LacksKey schema bytes → f ≡ BadColumn 0 → Verdict schema bytes f
  late : (cells : List Cell) (rest : List ℕ) → Stops schema bytes cells rest → Judged schema bytes cells rest f → Verdict schema bytes f

stops_all : (schema : List Storage) (bytes : List ℕ) (cells : List Cell) (rest : List ℕ) → HoldsCells schema bytes cells rest → length cells ≡ length schema → Stops schema bytes cells rest
stops_all schema bytes cells rest holds all = record { holds = holds; last = λ h. absurd (omega (arith, h)) }

stops_at : (schema : List Storage) (bytes : List ℕ) (cells : List Cell) (rest : List ℕ) → GoesOn schema bytes cells rest → NoneStands (next_storage schema cells) (end_of schema cells) rest → Stops schema bytes cells rest
stops_at schema bytes cells rest goes none = record { holds = goes.holds; last = λ h. (goes.there, none) }

verdict : (schema : List Storage) (bytes : List ℕ) (f : TupleFault) → f ≢ Memory → IsFault schema bytes f → Verdict schema bytes f
verdict schema bytes (Short need) named h = elim h.1 [
  | inl e ↦ too_short (omega (arith, e, h.0)) (ap (λ (n : ℕ). Short n) e)
  | inr k ↦ no_start k.0 (omega (arith, k.1, h.0)) (ap (λ (n : ℕ). Short n) k.1)
]
verdict schema bytes BadHeader named h = elim h [
  | inl k ↦ other_numbers k.0 k.1 refl
  | inr o ↦ late o.cells [] (stops_all schema bytes o.cells [] o.holds o.all) (o.all, refl, o.other)
]
verdict schema bytes (Compressed column) named h =
    late h.cells h.rest (stops_at schema bytes h.cells h.rest h.goes (λ cell after stands. cell_not_compressed (next_storage schema h.cells) (end_of schema h.cells) h.rest cell after stands h.stops)) (h.goes.more, h.is, h.stops)
verdict schema bytes (BadColumn column) named h = elim h [
  | inl k ↦ no_key k.1 (ap (λ (n : ℕ). BadColumn n) k.0)
  | inr s ↦ late s.cells s.rest (stops_at schema bytes s.cells s.rest s.goes s.stops.0) (s.goes.more, s.is, s.stops.1)
]
verdict schema bytes (Rest at) named h = late h.cells h.rest (stops_all schema bytes h.cells h.rest h.holds h.all) (h.all, h.some, h.is)
verdict schema bytes Memory named h = absurd (named refl)

-- ---- one fault

one_judged : (schema : List Storage) (bytes : List ℕ) (cells : List Cell) (rest : List ℕ) (f g : TupleFault) → Judged schema bytes cells rest f → Judged schema bytes cells rest g → f ≡ g
one_judged schema bytes cells rest (Short n) g h k = absurd h
one_judged schema bytes cells rest Memory g h k = absurd h
one_judged schema bytes cells rest BadHeader (Short n) h k = absurd k
one_judged schema bytes cells rest BadHeader BadHeader h k = refl
one_judged schema bytes cells rest BadHeader (Compressed d) h k = absurd (omega (arith, h.0, k.0))
one_judged schema bytes cells rest BadHeader (BadColumn d) h k = absurd (omega (arith, h.0, k.0))
one_judged schema bytes cells rest BadHeader (Rest at) h k = absurd (omega (arith, h.1, k.1))
one_judged schema bytes cells rest BadHeader Memory h k = absurd k
one_judged schema bytes cells rest (Compressed c) (Short n) h k = absurd k
one_judged schema bytes cells rest (Compressed c) BadHeader h k = absurd (omega (arith, h.0, k.0))
one_judged schema bytes cells rest (Compressed c) (Compressed d) h k = ap (λ (n : ℕ). Compressed n) (h.1 ∙ sym k.1)
one_judged schema bytes cells rest (Compressed c) (BadColumn d) h k = absurd (k.2 h.2)
one_judged schema bytes cells rest (Compressed c) (Rest at) h k = absurd (omega (arith, h.0, k.0))
one_judged schema bytes cells rest (Compressed c) Memory h k = absurd k
one_judged schema bytes cells rest (BadColumn c) (Short n) h k = absurd k
one_judged schema bytes cells rest (BadColumn c) BadHeader h k = absurd (omega (arith, h.0, k.0))
one_judged schema bytes cells rest (BadColumn c) (Compressed d) h k = absurd (h.2 k.2)
one_judged schema bytes cells rest (BadColumn c) (BadColumn d) h k = ap (λ (n : ℕ). BadColumn n) (h.1 ∙ sym k.1)
one_judged schema bytes cells rest (BadColumn c) (Rest at) h k = absurd (omega (arith, h.0, k.0))
one_judged schema bytes cells rest (BadColumn c) Memory h k = absurd k
one_judged schema bytes cells rest (Rest at) (Short n) h k = absurd k
one_judged schema bytes cells rest (Rest at) BadHeader h k = absurd (omega (arith, h.1, k.1))
one_judged schema bytes cells rest (Rest at) (Compressed d) h k = absurd (omega (arith, h.0, k.0))
one_judged schema bytes cells rest (Rest at) (BadColumn d) h k = absurd (omega (arith, h.0, k.0))
one_judged schema bytes cells rest (Rest at) (Rest place) h k = ap (λ (n : ℕ). Rest n) (h.2 ∙ sym k.2)
one_judged schema bytes cells rest (Rest at) Memory h k = absurd k

late_same : (schema : List Storage) (bytes : List ℕ) (xs ys : List Cell) (a b : List ℕ) (f g : TupleFault) → Stops schema bytes xs a → Stops schema bytes ys b → Judged schema bytes xs a f → Judged schema bytes ys b g → f ≡ g
late_same schema bytes xs ys a b f g h k j i =
    let same = one_stop schema bytes xs ys a b h k in
    let there : Judged schema bytes xs b g = subst (λ (zs : List Cell). Judged schema bytes zs b g) (sym same.0) i in
    one_judged schema bytes xs a f g j (subst (λ (r : List ℕ). Judged schema bytes xs r g) (sym same.1) there)

-- the fault that an early stop has is not that of reading on
one_verdict : (schema : List Storage) (bytes : List ℕ) (f g : TupleFault) → Verdict schema bytes f → Verdict schema bytes g → f ≡ g
one_verdict schema bytes f g (too_short h e) (too_short k d) = e ∙ sym d
one_verdict schema bytes f g (too_short h e) (other_numbers long n d) = absurd (omega arith)
one_verdict schema bytes f g (too_short h e) (no_start has k d) = absurd (omega (arith, has.long))
one_verdict schema bytes f g (too_short h e) (no_key lacks d) = absurd (omega (arith, lacks.has_header.long))
one_verdict schema bytes f g (too_short h e) (late ys b k j) = absurd (omega (arith, k.holds.has_header.long))
one_verdict schema bytes f g (other_numbers long n e) (too_short k d) = absurd (omega arith)
one_verdict schema bytes f g (other_numbers long n e) (other_numbers long' n' d) = e ∙ sym d
one_verdict schema bytes f g (other_numbers long n e) (no_start has k d) = absurd (n has)
one_verdict schema bytes f g (other_numbers long n e) (no_key lacks d) = absurd (n lacks.has_header)
one_verdict schema bytes f g (other_numbers long n e) (late ys b k j) = absurd (n k.holds.has_header)
one_verdict schema bytes f g (no_start has h e) (too_short k d) = absurd (omega (arith, has.long))
one_verdict schema bytes f g (no_start has h e) (other_numbers long n d) = absurd (n has)
one_verdict schema bytes f g (no_start has h e) (no_start has' k d) = e ∙ sym d
one_verdict schema bytes f g (no_start has h e) (no_key lacks d) = absurd (omega (arith, lacks.long))
one_verdict schema bytes f g (no_start has h e) (late ys b k j) = absurd (omega (arith, k.holds.has_key))
one_verdict schema bytes f g (no_key lacks e) (too_short k d) = absurd (omega (arith, lacks.has_header.long))
one_verdict schema bytes f g (no_key lacks e) (other_numbers long n d) = absurd (n lacks.has_header)
one_verdict schema bytes f g (no_key lacks e) (no_start has k d) = absurd (omega (arith, lacks.long))
one_verdict schema bytes f g (no_key lacks e) (no_key lacks' d) = e ∙ sym d
one_verdict schema bytes f g (no_key lacks e) (late ys b k j) = absurd (omega (arith, lacks.no_key, k.holds.has_key))
one_verdict schema bytes f g (late xs a h j) (too_short k d) = absurd (omega (arith, h.holds.has_header.long))
one_verdict schema bytes f g (late xs a h j) (other_numbers long n d) = absurd (n h.holds.has_header)
one_verdict schema bytes f g (late xs a h j) (no_start has k d) = absurd (omega (arith, h.holds.has_key))
one_verdict schema bytes f g (late xs a h j) (no_key lacks d) = absurd (omega (arith, lacks.no_key, h.holds.has_key))
one_verdict schema bytes f g (late xs a h j) (late ys b k i) = late_same schema bytes xs ys a b f g h k j i

-- ---- no fault

not_judged : (schema : List Storage) (bytes : List ℕ) (s : Stored) (f : TupleFault) → length s.cells ≡ length schema → take (start_in bytes) bytes ≡ header (cell_widths s.cells) → Judged schema bytes s.cells [] f → ⊥
not_judged schema bytes s (Short n) all front h = h
not_judged schema bytes s BadHeader all front h = h.2 front
not_judged schema bytes s (Compressed c) all front h = omega (arith, h.0)
not_judged schema bytes s (BadColumn c) all front h = omega (arith, h.0)
not_judged schema bytes s (Rest at) all front h = omega (arith, h.1)
not_judged schema bytes s Memory all front h = h

no_verdict : (schema : List Storage) (s : Stored) (f : TupleFault) → length schema ≤ 8 → HasTuple schema s → Verdict schema (tuple schema s) f → ⊥
no_verdict schema s f few has v =
    let bytes = tuple schema s in
    let holds = tuple_holds schema s few has in
    elim v [
      | too_short h e ↦ omega (arith, holds.has_header.long)
      | other_numbers long n e ↦ n holds.has_header
      | no_start header h e ↦ omega (arith, holds.has_key)
      | no_key lacks e ↦ omega (arith, lacks.no_key, holds.has_key)
      | late ys b k j ↦
          let same = one_stop schema bytes s.cells ys [] b (stops_all schema bytes s.cells [] holds has.one_each) k in
          let there : Judged schema bytes s.cells b f = subst (λ (zs : List Cell). Judged schema bytes zs b f) (sym same.0) j in
          not_judged schema bytes s f has.one_each (tuple_front schema s few has) (subst (λ (r : List ℕ). Judged schema bytes s.cells r f) (sym same.1) there)
    ]

same_row : (schema : List Storage) (s t : Stored) → length schema ≤ 8 → HasTuple schema s → HasTuple schema t → tuple schema s ≡ tuple schema t → s ≡ t
same_row schema s t few has others same =
    let bytes = tuple schema s in
    let holds = stops_all schema bytes s.cells [] (tuple_holds schema s few has) has.one_each in
    let other = stops_all schema bytes t.cells [] (subst (λ (x : List ℕ). HoldsCells schema x t.cells []) (sym same) (tuple_holds schema t few others)) others.one_each in
    one_row schema s t few has others (one_stop schema bytes s.cells t.cells [] [] holds other).0 same

-- ---- a result that is right where it is Ok and right where it is an error is the only one

pub reads_again : (schema : List Storage) (bytes : List ℕ) (r : Result Stored TupleFault) → length schema ≤ 8 → IfOk r (λ t. HasTuple schema t × (bytes ≡ tuple schema t)) → IfErr r (IsFault schema bytes)
    → (s : Stored) → HasTuple schema s → bytes ≡ tuple schema s → r ≢ Err Memory → r ≡ Ok s
reads_again schema bytes (Ok t) few found fault s has is named = ap (λ (x : Stored). Ok x) (same_row schema t s few found.0 has (sym found.1 ∙ is))
reads_again schema bytes (Err f) few found fault s has is named =
    absurd (no_verdict schema s f few has (subst (λ (x : List ℕ). Verdict schema x f) is (verdict schema bytes f (λ e. named (ap (λ (x : TupleFault). Err x) e)) fault)))

pub one_fault : (schema : List Storage) (bytes : List ℕ) (r : Result Stored TupleFault) → length schema ≤ 8 → IfOk r (λ t. HasTuple schema t × (bytes ≡ tuple schema t)) → IfErr r (IsFault schema bytes)
    → (f : TupleFault) → f ≢ Memory → IsFault schema bytes f → r ≢ Err Memory → r ≡ Err f
one_fault schema bytes (Ok t) few found fault f f_named h named = absurd (no_verdict schema t f few found.0 (subst (λ (x : List ℕ). Verdict schema x f) found.1 (verdict schema bytes f f_named h)))
one_fault schema bytes (Err g) few found fault f f_named h named =
    ap (λ (x : TupleFault). Err x) (one_verdict schema bytes g f (verdict schema bytes g (λ e. named (ap (λ (x : TupleFault). Err x) e)) fault) (verdict schema bytes f f_named h))
