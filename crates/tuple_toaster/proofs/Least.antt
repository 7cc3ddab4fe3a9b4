-- All values out of line that may be give the least size.
use Rattle.std.proofs.Common.{◌≡◌, ℕ, suc, ◌+◌, ◌-◌, ◌≤◌, Bool, true, false, List, [], ◌∷◌, Option, Some, None, length, map, refl, sym, ap, ◌∙◌, arith, inl, inr}
use Rattle.std.specs.Prelude.{nat_le, slice_get, ◌||◌}
use Rattle.std.specs.List.{list_any, enumerate_from}
use Rattle.std.specs.Option.{option_map_or}
use Rattle.std.proofs.lemmas.Bool.Decides.{nat_tests}
use Rattle.std.proofs.lemmas.Bool.{cases_lt}
use Rattle.tuple_layout.specs.declared.Storage.{Storage}
use Rattle.tuple_layout.specs.declared.Storage.TheVariants.{Plain, External}
use Rattle.tuple_layout.specs.Places.{Row}
use Rattle.tuple_layout.specs.Sizes.{Width, width, widths, is_missing, aligned, inline_end, column_end, data_end_from, header_size, size, least_out, is_eligible, is_eligible_column, all_out_size}

-- ---- one column

aligned_mono : (at to : ℕ) → at ≤ to → aligned at ≤ aligned to
aligned_mono at to h = omega arith

inline_mono : (s : Storage) (at to n : ℕ) → at ≤ to → inline_end s at n ≤ inline_end s to n
inline_mono Plain at to n h = omega (arith, aligned_mono at to h)
inline_mono External at to n h = grind (arith, nat_tests, aligned_mono at to h)

-- a pointer takes less than a value that may be out of line
pointer_less : (at to n : ℕ) → at ≤ to → least_out ≤ n → at + 18 ≤ inline_end External to n
pointer_less at to n h k = grind (arith, nat_tests)

-- the column's end is least where its value is out of line if it may be
column_least : (s : Storage) (value : Option (List ℕ)) (at to : ℕ) (out : Bool) → (out ≡ true → is_eligible s value ≡ true) → at ≤ to → column_end s at (width value (is_eligible s value)) ≤ column_end s to (width value out)
column_least s None at to out h le = le
column_least Plain (Some v) at to true h le = absurd (cc (h refl))
column_least Plain (Some v) at to false h le = inline_mono Plain at to (length v) le
column_least External (Some v) at to true h le = rw (h refl) (omega (arith, le))
column_least External (Some v) at to false h le = elim (cases_lt (length v) least_out) [
  | inl small ↦
      let test : nat_le least_out (length v) ≡ false = grind (arith, nat_tests) in
      rw test (inline_mono External at to (length v) le)
  | inr long ↦
      let test : nat_le least_out (length v) ≡ true = grind (arith, nat_tests) in
      rw test (pointer_less at to (length v) le long)
]

same_missing : (value : Option (List ℕ)) (a b : Bool) → is_missing (width value a) ≡ is_missing (width value b)
same_missing None a b = refl
same_missing (Some v) true true = refl
same_missing (Some v) true false = refl
same_missing (Some v) false true = refl
same_missing (Some v) false false = refl

-- ---- all columns

-- the widths of the values from a column on
abbrev pub widths_from : ℕ → Row → (ℕ → Bool) → List Width
widths_from n values out = map (λ (column, value). width value (out column)) (enumerate_from n values)

-- from a column on, all is what may be out of line, and out is some of it
abbrev pub Agrees : ℕ → List Storage → Row → (ℕ → Bool) → (ℕ → Bool) → Type 0
Agrees n schema [] all out = Unit {0}
Agrees n [] (v ∷ vs) all out = Unit {0}
Agrees n (s ∷ ss) (v ∷ vs) all out = (all n ≡ is_eligible s v) × (out n ≡ true → is_eligible s v ≡ true) × Agrees (n + 1) ss vs all out

end_least : (n : ℕ) (schema : List Storage) (values : Row) (all out : ℕ → Bool) (at to : ℕ) → Agrees n schema values all out → at ≤ to
    → data_end_from at schema (widths_from n values all) ≤ data_end_from to schema (widths_from n values out)
end_least n [] values all out at to h le = le
end_least n (s ∷ ss) [] all out at to h le = le
end_least n (s ∷ ss) (v ∷ vs) all out at to h le =
    rw h.0 (end_least (n + 1) ss vs all out (column_end s at (width v (is_eligible s v))) (column_end s to (width v (out n))) h.2 (column_least s v at to (out n) h.1 le))

null_same : (n : ℕ) (values : Row) (all out : ℕ → Bool) → list_any is_missing (widths_from n values all) ≡ list_any is_missing (widths_from n values out)
null_same n [] all out = refl
null_same n (v ∷ vs) all out = ap (λ (b : Bool). b || list_any is_missing (widths_from (n + 1) vs all)) (same_missing v (all n) (out n)) ∙ ap (λ (b : Bool). is_missing (width v (out n)) || b) (null_same (n + 1) vs all out)

-- whether the value at a place may be out of line
abbrev pub eligible_at : List Storage → Row → ℕ → Bool
eligible_at schema values k = option_map_or (λ storage. option_map_or (is_eligible storage) (slice_get values k) false) (slice_get schema k) false

pub agrees : (n : ℕ) (schema : List Storage) (values : Row) (all out : ℕ → Bool) → ((k : ℕ) → all (n + k) ≡ eligible_at schema values k) → ((k : ℕ) → out (n + k) ≡ true → eligible_at schema values k ≡ true) → Agrees n schema values all out
agrees n schema [] all out h g = tt
agrees n [] (v ∷ vs) all out h g = tt
agrees n (s ∷ ss) (v ∷ vs) all out h g =
    let here : n + 0 ≡ n = omega arith in
    let next : (k : ℕ) → (n + 1) + k ≡ n + suc k = λ k. omega arith in (
      ap all (sym here) ∙ h 0,
      λ e. g 0 (ap out here ∙ e),
      agrees (n + 1) ss vs all out (λ k. ap all (next k) ∙ h (suc k)) (λ k e. g (suc k) (sym (ap out (next k)) ∙ e)),
    )

pub least : (schema : List Storage) (row : Row) (out : ℕ → Bool) → ((column : ℕ) → out column ≡ true → is_eligible_column schema row column ≡ true) → all_out_size schema row ≤ size schema (widths row out)
least schema row out only =
    let all = is_eligible_column schema row in
    let place : (k : ℕ) → 1 + k - 1 ≡ k = λ k. omega arith in
    let told : (k : ℕ) → all (1 + k) ≡ eligible_at schema row k = λ k. ap (eligible_at schema row) (place k) in
    let found = agrees 1 schema row all out told (λ k e. sym (told k) ∙ only (1 + k) e) in
    let ends = end_least 1 schema row all out 8 8 found (omega arith) in
    let nulls = ap (header_size (length schema + 1)) (null_same 1 row all out) in
    omega (arith, ends, nulls)
