-- The columns that may go out, in their order, and what moving the first of them leaves.
use Rattle.std.proofs.Common.{◌≡◌, ℕ, ◌+◌, ◌<◌, ◌≤◌, Bool, true, false, List, [], ◌∷◌, ◌++◌, Option, Some, None, length, refl, sym, ap, ◌∙◌, arith, inl, inr, ◌⊎◌}
use Rattle.std.specs.Prelude.{nat_le, ◌==◌, ◌||◌, if◌then◌else◌}
use Rattle.std.proofs.lemmas.Bool.Decides.{nat_tests}
use Rattle.std.proofs.lemmas.Bool.{cases_lt, cases_eq}
use Rattle.tuple_layout.specs.declared.Storage.{Storage}
use Rattle.tuple_layout.specs.declared.Storage.TheVariants.{Plain, External}
use Rattle.tuple_layout.specs.Sizes.{Width, Missing, Within, Outside, least_out}
use Rattle.tuple_toaster.specs.Pushed.{Columns, put_before, with_column, eligible_from, is_among, width_besides, moved_from}
use Rattle.tuple_toaster.specs.Largest.{first_of, longer, candidate}

-- ---- the order

-- the first is no longer than this
abbrev HeadAtMost : ℕ → Columns → Type 0
HeadAtMost n [] = Unit {0}
HeadAtMost n (c ∷ cs) = c.1 ≤ n

-- the lengths do not rise
abbrev Descends : Columns → Type 0
Descends [] = Unit {0}
Descends (c ∷ cs) = HeadAtMost c.1 cs × Descends cs

-- each column has at least this number
abbrev pub AreFrom : ℕ → Columns → Type 0
AreFrom n [] = Unit {0}
AreFrom n (c ∷ cs) = (n ≤ c.0) × AreFrom n cs

-- without the first entry of a column
abbrev pub without : ℕ → Columns → Columns
without column [] = []
without column (c ∷ cs) = if c.0 == column then cs else c ∷ without column cs

pub test_cases : (m n : ℕ) → ((m ≤ n) × (nat_le m n ≡ true)) ⊎ ((n < m) × (nat_le m n ≡ false))
test_cases m n = elim (cases_lt n m) [ inl lt ↦ inr (lt, grind (arith, nat_tests)) | inr le ↦ inl (le, grind (arith, nat_tests)) ]

pub same_cases : (m n : ℕ) → ((m ≡ n) × ((m == n) ≡ true)) ⊎ ((m ≡ n → ⊥) × ((m == n) ≡ false))
same_cases m n = elim (cases_eq m n) [ inl e ↦ inl (e, grind (arith, nat_tests)) | inr d ↦ inr (d, grind (arith, nat_tests)) ]

head_put : (n : ℕ) (c : ℕ × ℕ) (cs : Columns) → HeadAtMost n cs → c.1 ≤ n → HeadAtMost n (put_before c cs)
head_put n c [] h le = le
head_put n c (d ∷ ds) h le = elim (test_cases d.1 c.1) [ inl low ↦ rw low.1 le | inr high ↦ rw high.1 h ]

descends_put : (c : ℕ × ℕ) (cs : Columns) → Descends cs → Descends (put_before c cs)
descends_put c [] h = (tt, tt)
descends_put c (d ∷ ds) h = elim (test_cases d.1 c.1) [
  | inl low ↦ rw low.1 (low.0, h)
  | inr high ↦ rw high.1 (head_put d.1 c ds h.0 (omega (arith, high.0)), descends_put c ds h.1)
]

from_put : (n : ℕ) (c : ℕ × ℕ) (cs : Columns) → n ≤ c.0 → AreFrom n cs → AreFrom n (put_before c cs)
from_put n c [] le h = (le, tt)
from_put n c (d ∷ ds) le h = elim (test_cases d.1 c.1) [
  | inl low ↦ rw low.1 (le, h)
  | inr high ↦ rw high.1 (h.0, from_put n c ds le h.1)
]

from_less : (m n : ℕ) (cs : Columns) → m ≤ n → AreFrom n cs → AreFrom m cs
from_less m n [] le h = tt
from_less m n (c ∷ cs) le h = (omega (arith, h.0), from_less m n cs le h.1)

-- what holds of both a list and the list with a column put in holds after `with_column`
descends_with : (column : ℕ) (s : Storage) (w : Width) (cs : Columns) → Descends cs → Descends (with_column column s w cs)
descends_with column Plain (Within size) cs h = h
descends_with column s Missing cs h = h
descends_with column External (Within n) cs h = elim (test_cases least_out n) [ inl low ↦ rw low.1 (descends_put (column, n) cs h) | inr high ↦ rw high.1 h ]
descends_with column s Outside cs h = h

from_with : (column : ℕ) (s : Storage) (w : Width) (cs : Columns) → AreFrom (column + 1) cs → AreFrom column (with_column column s w cs)
from_with column Plain (Within size) cs h = from_less column (column + 1) cs (omega arith) h
from_with column s Missing cs h = from_less column (column + 1) cs (omega arith) h
from_with column External (Within n) cs h = elim (test_cases least_out n) [
  | inl low ↦ rw low.1 (from_put column (column, n) cs (omega arith) (from_less column (column + 1) cs (omega arith) h))
  | inr high ↦ rw high.1 (from_less column (column + 1) cs (omega arith) h)
]
from_with column s Outside cs h = from_less column (column + 1) cs (omega arith) h

eligible_descends : (column : ℕ) (schema : List Storage) (ws : List Width) → Descends (eligible_from column schema ws)
eligible_descends column [] ws = tt
eligible_descends column (s ∷ ss) [] = tt
eligible_descends column (s ∷ ss) (w ∷ ws) = descends_with column s w (eligible_from (column + 1) ss ws) (eligible_descends (column + 1) ss ws)

pub eligible_after : (column : ℕ) (schema : List Storage) (ws : List Width) → AreFrom column (eligible_from column schema ws)
eligible_after column [] ws = tt
eligible_after column (s ∷ ss) [] = tt
eligible_after column (s ∷ ss) (w ∷ ws) = from_with column s w (eligible_from (column + 1) ss ws) (eligible_after (column + 1) ss ws)

-- ---- one column less

without_none : (column n : ℕ) (cs : Columns) → column < n → AreFrom n cs → without column cs ≡ cs
without_none column n [] lt h = refl
without_none column n (c ∷ cs) lt h = elim (same_cases c.0 column) [
  | inl same ↦ absurd (omega (arith, h.0, same.0))
  | inr other ↦ rw other.1 (ap (λ (x : Columns). c ∷ x) (without_none column n cs lt h.1))
]

without_own : (column len n : ℕ) (cs : Columns) → column < n → AreFrom n cs → without column (put_before (column, len) cs) ≡ cs
without_own column len n [] lt h = elim (same_cases column column) [ inl same ↦ rw same.1 refl | inr other ↦ absurd (other.0 refl) ]
without_own column len n (d ∷ ds) lt h = elim (test_cases d.1 len) [
  | inl low ↦ elim (same_cases column column) [ inl same ↦ rw (low.1, same.1) refl | inr other ↦ absurd (other.0 refl) ]
  | inr high ↦ elim (same_cases d.0 column) [
    | inl same ↦ absurd (omega (arith, h.0, same.0))
    | inr other ↦ rw (high.1, other.1) (ap (λ (x : Columns). d ∷ x) (without_own column len n ds lt h.1))
  ]
]

put_front : (c : ℕ × ℕ) (n : ℕ) (cs : Columns) → HeadAtMost n cs → n ≤ c.1 → put_before c cs ≡ c ∷ cs
put_front c n [] h le = refl
put_front c n (d ∷ ds) h le = elim (test_cases d.1 c.1) [ inl low ↦ rw low.1 refl | inr high ↦ absurd (omega (arith, h, high.0)) ]

without_put : (column : ℕ) (c : ℕ × ℕ) (cs : Columns) → (c.0 ≡ column → ⊥) → Descends cs → put_before c (without column cs) ≡ without column (put_before c cs)
without_put column c [] ne h = elim (same_cases c.0 column) [ inl same ↦ absurd (ne same.0) | inr other ↦ rw other.1 refl ]
without_put column c (d ∷ ds) ne h = elim (same_cases c.0 column) [
  | inl same ↦ absurd (ne same.0)
  | inr other ↦ elim (test_cases d.1 c.1) [
    | inl low ↦ elim (same_cases d.0 column) [
      | inl mine ↦ simp (low.1, mine.1, other.1) (put_front c d.1 ds h.0 low.0)
      | inr not_mine ↦ simp (not_mine.1, low.1, other.1)
    ]
    | inr high ↦ elim (same_cases d.0 column) [
      | inl mine ↦ simp (mine.1, high.1)
      | inr not_mine ↦ simp (not_mine.1, high.1) (ap (λ (x : Columns). d ∷ x) (without_put column c ds ne h.1))
    ]
  ]
]

-- a column that is out of line is no candidate
skip_outside : (column : ℕ) (s : Storage) (cs : Columns) → with_column column s Outside cs ≡ cs
skip_outside column s cs = refl

-- a column that is or is not put in, and then taken away
without_with : (column : ℕ) (s : Storage) (w : Width) (cs : Columns) → AreFrom (column + 1) cs → without column (with_column column s w cs) ≡ cs
without_with column Plain (Within size) cs h = without_none column (column + 1) cs (omega arith) h
without_with column s Missing cs h = without_none column (column + 1) cs (omega arith) h
without_with column External (Within n) cs h = elim (test_cases least_out n) [
  | inl low ↦ rw low.1 (without_own column n (column + 1) cs (omega arith) h)
  | inr high ↦ rw high.1 (without_none column (column + 1) cs (omega arith) h)
]
without_with column s Outside cs h = without_none column (column + 1) cs (omega arith) h

-- another column that is taken away before or after
with_without : (other column : ℕ) (s : Storage) (w : Width) (cs : Columns) → (column ≡ other → ⊥) → Descends cs → with_column column s w (without other cs) ≡ without other (with_column column s w cs)
with_without other column Plain (Within size) cs ne h = refl
with_without other column s Missing cs ne h = refl
with_without other column External (Within n) cs ne h = elim (test_cases least_out n) [ inl low ↦ rw low.1 (without_put other (column, n) cs ne h) | inr high ↦ rw high.1 refl ]
with_without other column s Outside cs ne h = refl

or_false : (b : Bool) → (b || false) ≡ b
or_false true = refl
or_false false = refl

or_true : (b : Bool) → (b || true) ≡ true
or_true true = refl
or_true false = refl

or_assoc : (a b c : Bool) → (a || (b || c)) ≡ ((a || b) || c)
or_assoc true b c = refl
or_assoc false b c = refl

among_more : (out : List ℕ) (c column : ℕ) → is_among (out ++ c ∷ []) column ≡ (is_among out column || (c == column))
among_more [] c column = or_false (c == column)
among_more (d ∷ out) c column = ap (λ (b : Bool). (d == column) || b) (among_more out c column) ∙ or_assoc (d == column) (is_among out column) (c == column)

-- one column more out of line
width_own : (out : List ℕ) (c : ℕ) (w : Width) → width_besides (out ++ c ∷ []) c w ≡ Outside
width_own out c w = elim (same_cases c c) [
  | inl same ↦ ap (λ (b : Bool). if b then Outside else w) (among_more out c c ∙ ap (λ (b : Bool). is_among out c || b) same.1 ∙ or_true (is_among out c))
  | inr other ↦ absurd (other.0 refl)
]

width_other : (out : List ℕ) (c column : ℕ) (w : Width) → (column ≡ c → ⊥) → width_besides (out ++ c ∷ []) column w ≡ width_besides out column w
width_other out c column w ne = elim (same_cases c column) [
  | inl same ↦ absurd (ne (sym same.0))
  | inr other ↦ ap (λ (b : Bool). if b then Outside else w) (among_more out c column ∙ ap (λ (b : Bool). is_among out column || b) other.1 ∙ or_false (is_among out column))
]

-- the columns that may go out once another is out
pub eligible_more : (column c : ℕ) (schema : List Storage) (out : List ℕ) (ws : List Width) → eligible_from column schema (moved_from column (out ++ c ∷ []) ws) ≡ without c (eligible_from column schema (moved_from column out ws))
eligible_more column c [] out ws = refl
eligible_more column c (s ∷ ss) out [] = refl
eligible_more column c (s ∷ ss) out (w ∷ ws) =
    let rest = eligible_from (column + 1) ss (moved_from (column + 1) out ws) in
    let more : eligible_from (column + 1) ss (moved_from (column + 1) (out ++ c ∷ []) ws) ≡ without c rest = eligible_more (column + 1) c ss out ws in
    let after : AreFrom (column + 1) rest = eligible_after (column + 1) ss (moved_from (column + 1) out ws) in
    elim (same_cases column c) [
      | inl same ↦
          let mine : without c (with_column column s (width_besides out column w) rest) ≡ rest = ap (λ (n : ℕ). without n (with_column column s (width_besides out column w) rest)) (sym same.0) ∙ without_with column s (width_besides out column w) rest after in
          let gone : width_besides (out ++ c ∷ []) column w ≡ Outside = ap (λ (n : ℕ). width_besides (out ++ c ∷ []) n w) same.0 ∙ width_own out c w in
          ap (λ (v : Width). with_column column s v (eligible_from (column + 1) ss (moved_from (column + 1) (out ++ c ∷ []) ws))) gone ∙ skip_outside column s _ ∙ more
          ∙ without_none c (column + 1) rest (omega (arith, same.0)) after ∙ sym mine
      | inr other ↦
          ap (λ (v : Width). with_column column s v (eligible_from (column + 1) ss (moved_from (column + 1) (out ++ c ∷ []) ws))) (width_other out c column w other.0) ∙ ap (with_column column s (width_besides out column w)) more
          ∙ with_without c column s (width_besides out column w) rest other.0 (eligible_descends (column + 1) ss (moved_from (column + 1) out ws))
    ]

-- the first of a list taken away
pub without_first : (c : ℕ × ℕ) (cs : Columns) → without c.0 (c ∷ cs) ≡ cs
without_first c cs = elim (same_cases c.0 c.0) [ inl same ↦ rw same.1 refl | inr other ↦ absurd (other.0 refl) ]

length_put : (c : ℕ × ℕ) (cs : Columns) → length (put_before c cs) ≡ length cs + 1
length_put c [] = omega arith
length_put c (d ∷ ds) = elim (test_cases d.1 c.1) [ inl low ↦ rw low.1 (omega arith) | inr high ↦ rw high.1 (let all : length (d ∷ put_before c ds) ≡ length (d ∷ ds) + 1 = omega (arith, length_put c ds) in all) ]

one_more : (column : ℕ) (s : Storage) (w : Width) (cs : Columns) → length (with_column column s w cs) ≤ length cs + 1
one_more column Plain (Within size) cs = omega arith
one_more column s Missing cs = omega arith
one_more column External (Within n) cs = elim (test_cases least_out n) [ inl low ↦ rw low.1 (omega (arith, length_put (column, n) cs)) | inr high ↦ rw high.1 (omega arith) ]
one_more column s Outside cs = omega arith

pub few_eligible : (column : ℕ) (schema : List Storage) (ws : List Width) → length (eligible_from column schema ws) ≤ length schema
few_eligible column [] ws = omega arith
few_eligible column (s ∷ ss) [] = omega arith
few_eligible column (s ∷ ss) (w ∷ ws) = omega (arith, one_more column s w (eligible_from (column + 1) ss ws), few_eligible (column + 1) ss ws)

-- ---- the first of the order, by a walk from left to right

pub first_with : (column : ℕ) (s : Storage) (w : Width) (cs : Columns) → first_of (with_column column s w cs) ≡ longer (candidate column s w) (first_of cs)
first_with column Plain (Within size) cs = refl
first_with column s Missing cs = refl
first_with column External (Within n) [] = elim (test_cases least_out n) [ inl low ↦ rw low.1 refl | inr high ↦ rw high.1 refl ]
first_with column External (Within n) (d ∷ ds) = elim (test_cases least_out n) [
  | inl low ↦ elim (test_cases d.1 n) [ inl long ↦ rw (low.1, long.1) refl | inr short ↦ rw (low.1, short.1) refl ]
  | inr high ↦ rw high.1 refl
]
first_with column s Outside cs = refl

pub longer_assoc : (a b c : Option (ℕ × ℕ)) → longer a (longer b c) ≡ longer (longer a b) c
longer_assoc None b c = refl
longer_assoc (Some a) None c = refl
longer_assoc (Some a) (Some b) None = elim (test_cases b.1 a.1) [ inl low ↦ rw low.1 refl | inr high ↦ rw high.1 refl ]
longer_assoc (Some a) (Some b) (Some c) = elim (test_cases b.1 a.1) [
  | inl ab ↦ elim (test_cases c.1 b.1) [
    | inl bc ↦ elim (test_cases c.1 a.1) [ inl ac ↦ simp (bc.1, ab.1, ac.1) | inr ac ↦ absurd (omega (arith, ab.0, bc.0, ac.0)) ]
    | inr bc ↦ simp (bc.1, ab.1)
  ]
  | inr ab ↦ elim (test_cases c.1 b.1) [
    | inl bc ↦ simp (bc.1, ab.1)
    | inr bc ↦ elim (test_cases c.1 a.1) [ inl ac ↦ absurd (omega (arith, ab.0, bc.0, ac.0)) | inr ac ↦ simp (bc.1, ac.1, ab.1) ]
  ]
]
