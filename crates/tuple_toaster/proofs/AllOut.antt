-- With all out of line that may be, a row has one size, whatever was out of line before.
use Rattle.std.proofs.Common.{◌≡◌, ℕ, ◌+◌, ◌-◌, ◌<◌, ◌≤◌, Bool, true, false, List, [], ◌∷◌, Option, Some, None, length, map, refl, sym, ap, ◌∙◌, arith, inl, inr}
use Rattle.std.specs.Prelude.{◌==◌, ◌||◌, if◌then◌else◌}
use Rattle.tuple_layout.specs.declared.Storage.{Storage}
use Rattle.tuple_layout.specs.declared.Storage.TheVariants.{Plain, External}
use Rattle.tuple_layout.specs.Places.{Row}
use Rattle.tuple_layout.specs.Sizes.{Width, Missing, Within, Outside, width, widths, size, least_out, may_go_out, is_eligible, is_eligible_column, all_out_size}
use Rattle.tuple_toaster.specs.Pushed.{Columns, put_before, with_column, eligible_from, is_among, width_besides, moved_from, all_moved_size}
use Rattle.tuple_toaster.proofs.Ordered.{AreFrom, eligible_after, test_cases, same_cases}
use Rattle.tuple_toaster.proofs.Least.{widths_from, Agrees, agrees, eligible_at}

-- the columns of a list
abbrev columns : Columns → List ℕ
columns cs = map (λ c. c.0) cs

or_swap : (a b c : Bool) → (a || (b || c)) ≡ (b || (a || c))
or_swap true true c = refl
or_swap true false c = refl
or_swap false true c = refl
or_swap false false c = refl

among_put : (c : ℕ × ℕ) (cs : Columns) (m : ℕ) → is_among (columns (put_before c cs)) m ≡ ((c.0 == m) || is_among (columns cs) m)
among_put c [] m = refl
among_put c (d ∷ ds) m = elim (test_cases d.1 c.1) [
  | inl low ↦ rw low.1 refl
  | inr high ↦ rw high.1 (ap (λ (b : Bool). (d.0 == m) || b) (among_put c ds m) ∙ or_swap (d.0 == m) (c.0 == m) (is_among (columns ds) m))
]

among_none : (n m : ℕ) (cs : Columns) → m < n → AreFrom n cs → is_among (columns cs) m ≡ false
among_none n m [] lt h = refl
among_none n m (c ∷ cs) lt h = elim (same_cases c.0 m) [ inl same ↦ absurd (omega (arith, h.0, same.0)) | inr other ↦ rw other.1 (among_none n m cs lt h.1) ]

-- a column is among those that may go out where it may
abbrev may_go : Storage → Width → Bool
may_go s Missing = false
may_go s (Within n) = may_go_out s n
may_go s Outside = false

among_own : (n : ℕ) (s : Storage) (w : Width) (cs : Columns) → AreFrom (n + 1) cs → is_among (columns (with_column n s w cs)) n ≡ may_go s w
among_own n Plain (Within size) cs h = among_none (n + 1) n cs (omega arith) h
among_own n s Missing cs h = among_none (n + 1) n cs (omega arith) h
among_own n External (Within len) cs h = elim (test_cases least_out len) [
  | inl low ↦ rw low.1 (among_put (n, len) cs n ∙ (elim (same_cases n n) [ inl same ↦ ap (λ (b : Bool). b || is_among (columns cs) n) same.1 | inr other ↦ absurd (other.0 refl) ]))
  | inr high ↦ rw high.1 (among_none (n + 1) n cs (omega arith) h)
]
among_own n s Outside cs h = among_none (n + 1) n cs (omega arith) h

among_other : (n m : ℕ) (s : Storage) (w : Width) (cs : Columns) → n < m → is_among (columns (with_column n s w cs)) m ≡ is_among (columns cs) m
among_other n m Plain (Within size) cs lt = refl
among_other n m s Missing cs lt = refl
among_other n m External (Within len) cs lt = elim (test_cases least_out len) [
  | inl low ↦ rw low.1 (among_put (n, len) cs m ∙ (elim (same_cases n m) [ inl same ↦ absurd (omega (arith, same.0)) | inr other ↦ ap (λ (b : Bool). b || is_among (columns cs) m) other.1 ]))
  | inr high ↦ rw high.1 refl
]
among_other n m s Outside cs lt = refl

moved_same : (n : ℕ) (out others : List ℕ) (ws : List Width) → ((m : ℕ) → n ≤ m → is_among out m ≡ is_among others m) → moved_from n out ws ≡ moved_from n others ws
moved_same n out others [] h = refl
moved_same n out others (w ∷ ws) h =
    ap (λ (b : Bool). (if b then Outside else w) ∷ moved_from (n + 1) out ws) (h n (omega arith)) ∙ ap (λ (x : List Width). width_besides others n w ∷ x) (moved_same (n + 1) out others ws (λ m le. h m (omega arith)))

-- one column with all out of line that may be
all_one : (s : Storage) (v : Option (List ℕ)) (kept : Bool) → (kept ≡ true → is_eligible s v ≡ true) → (if may_go s (width v kept) then Outside else width v kept) ≡ width v (is_eligible s v)
all_one Plain None kept h = refl
all_one External None kept h = refl
all_one Plain (Some b) true h = absurd (cc (h refl))
all_one Plain (Some b) false h = refl
all_one External (Some b) true h = rw (h refl) refl
all_one External (Some b) false h = elim (test_cases least_out (length b)) [ inl low ↦ simp low.1 | inr high ↦ simp high.1 ]

all_columns : (n : ℕ) (schema : List Storage) (values : Row) (all kept : ℕ → Bool) → length values ≡ length schema → Agrees n schema values all kept
    → moved_from n (columns (eligible_from n schema (widths_from n values kept))) (widths_from n values kept) ≡ widths_from n values all
all_columns n [] [] all kept len h = refl
all_columns n (s ∷ ss) [] all kept len h = refl
all_columns n [] (v ∷ vs) all kept len h = absurd (omega (arith, len))
all_columns n (s ∷ ss) (v ∷ vs) all kept len h =
    let ws = widths_from (n + 1) vs kept in
    let rest = eligible_from (n + 1) ss ws in
    let w = width v (kept n) in
    let own : width_besides (columns (with_column n s w rest)) n w ≡ width v (all n) =
    ap (λ (b : Bool). if b then Outside else w) (among_own n s w rest (eligible_after (n + 1) ss ws)) ∙ all_one s v (kept n) h.1 ∙ ap (width v) (sym h.0) in
    let others : moved_from (n + 1) (columns (with_column n s w rest)) ws ≡ widths_from (n + 1) vs all =
    moved_same (n + 1) (columns (with_column n s w rest)) (columns rest) ws (λ m le. among_other n m s w rest (omega arith)) ∙ all_columns (n + 1) ss vs all kept (omega (arith, len)) h.2 in
    ap (λ (x : Width). x ∷ moved_from (n + 1) (columns (with_column n s w rest)) ws) own ∙ ap (λ (x : List Width). width v (all n) ∷ x) others

pub one_size : (schema : List Storage) (row : Row) (kept : ℕ → Bool) → length row ≡ length schema → ((column : ℕ) → kept column ≡ true → is_eligible_column schema row column ≡ true) → all_moved_size schema (widths row kept) ≡ all_out_size schema row
one_size schema row kept len only =
    let all = is_eligible_column schema row in
    let place : (k : ℕ) → 1 + k - 1 ≡ k = λ k. omega arith in
    let told : (k : ℕ) → all (1 + k) ≡ eligible_at schema row k = λ k. ap (eligible_at schema row) (place k) in
    ap (size schema) (all_columns 1 schema row all kept len (agrees 1 schema row all kept told (λ k e. sym (told k) ∙ only (1 + k) e)))
