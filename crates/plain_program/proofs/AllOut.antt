-- The size of a row's tuple with every column out of line that may be, from value to value.
use Rattle.std.proofs.Common.{◌≡◌, ℕ, ◌+◌, ◌-◌, ◌≤◌, ◌<◌, get_or, length, List, [], ◌∷◌, Option, Some, None, Bool, true, false, refl, sym, ap, ◌∙◌, arith, zero-add, zero, suc, drop}
use Rattle.std.specs.Prelude.{map as mapped, slice_get, is_none, ◌||◌}
use Rattle.std.specs.List.{enumerate_from, list_any}
use Rattle.std.specs.Option.{option_map_or}
use Rattle.std.proofs.Math.Seq.{drop-cons}
use Rattle.tuple_layout.specs.declared.Storage.{Storage}
use Rattle.tuple_layout.specs.Places.{Row}
use Rattle.tuple_layout.specs.Sizes.{all_out_size, column_end, data_end_from, header_size, is_eligible, is_eligible_column, is_missing, width, widths}
use Rattle.plain_program.specs.Words.{data_end_all_out}

-- the data's end, where the test of each column says whether its value may be out of line
ends : (out : ℕ → Bool) (k at : ℕ) (ss : List Storage) (vs : Row) → ((j : ℕ) (s : Storage) (v : Option (List ℕ)) → slice_get ss j ≡ Some s → slice_get vs j ≡ Some v → out (j + k) ≡ is_eligible s v) → data_end_from at ss (mapped (λ (column, value). width value (out column)) (enumerate_from k vs)) ≡ data_end_all_out at ss vs
ends out k at [] vs each = refl
ends out k at (s ∷ ss) [] each = refl
ends out k at (s ∷ ss) (v ∷ vs) each =
    ap (λ b. data_end_from (column_end s at (width v b)) ss (mapped (λ (column, value). width value (out column)) (enumerate_from (k + 1) vs))) (ap out (sym (zero-add k)) ∙ each 0 s v refl refl)
    ∙ ends out (k + 1) (column_end s at (width v (is_eligible s v))) ss vs (λ j t w e f. let p : j + (k + 1) ≡ suc j + k = omega arith in ap out p ∙ each (suc j) t w e f)

eligible_at : (schema : List Storage) (row : Row) (i j : ℕ) (s : Storage) (v : Option (List ℕ)) → i ≡ j → slice_get schema j ≡ Some s → slice_get row j ≡ Some v → option_map_or (λ storage. option_map_or (is_eligible storage) (slice_get row i) false) (slice_get schema i) false ≡ is_eligible s v
eligible_at schema row i j s v p e f = ap (λ n. option_map_or (λ storage. option_map_or (is_eligible storage) (slice_get row n) false) (slice_get schema n) false) p ∙ ap (λ o. option_map_or (λ storage. option_map_or (is_eligible storage) (slice_get row j) false) o false) e ∙ ap (λ o. option_map_or (is_eligible s) o false) f

-- the data's end, each value out of line that may be
pub all_out_end : (at : ℕ) (schema : List Storage) (row : Row) → data_end_from at schema (widths row (is_eligible_column schema row)) ≡ data_end_all_out at schema row
all_out_end at schema row = ends (is_eligible_column schema row) 1 at schema row (λ j s v e f. let p : (j + 1) - 1 ≡ j = omega arith in eligible_at schema row ((j + 1) - 1) j s v p e f)

missing_null : (v : Option (List ℕ)) (b : Bool) → is_missing (width v b) ≡ is_none v
missing_null None b = refl
missing_null (Some bytes) true = refl
missing_null (Some bytes) false = refl

nulls : (out : ℕ → Bool) (k : ℕ) (vs : Row) → list_any is_missing (mapped (λ (column, value). width value (out column)) (enumerate_from k vs)) ≡ list_any is_none vs
nulls out k [] = refl
nulls out k (v ∷ vs) = ap (λ b. b || list_any is_missing (mapped (λ (column, value). width value (out column)) (enumerate_from (k + 1) vs))) (missing_null v (out k)) ∙ ap (λ b. is_none v || b) (nulls out (k + 1) vs)

-- a column is missing where its value is null
pub missing_nulls : (out : ℕ → Bool) (row : Row) → list_any is_missing (widths row out) ≡ list_any is_none row
missing_nulls out row = nulls out 1 row

past : (row : Row) (i : ℕ) → length row ≤ i → drop i row ≡ []
past [] zero e = refl
past [] (suc i) e = refl
past (v ∷ row) zero e = absurd (omega (arith, e))
past (v ∷ row) (suc i) e = past row i (omega (arith, e))

stops : (at : ℕ) (ss : List Storage) → data_end_all_out at ss [] ≡ at
stops at [] = refl
stops at (s ∷ ss) = refl

-- past a row's last value nothing is added
pub none_left : (at i total : ℕ) (ss : List Storage) (row : Row) → length row ≤ i → data_end_all_out at (drop i ss) (drop i row) ≡ total → at ≡ total
none_left at i total ss row e so_far = sym (ap (data_end_all_out at (drop i ss)) (past row i e) ∙ stops at (drop i ss)) ∙ so_far

-- the size of a row's tuple
pub all_out_is : (schema : List Storage) (row : Row) (size : ℕ) → size ≡ header_size (length schema + 1) (list_any is_none row) + data_end_all_out 8 schema row → size ≡ all_out_size schema row
all_out_is schema row size e =
    e ∙ ap (λ b. header_size (length schema + 1) b + data_end_all_out 8 schema row) (sym (missing_nulls (is_eligible_column schema row) row))
    ∙ ap (λ n. header_size (length schema + 1) (list_any is_missing (widths row (is_eligible_column schema row))) + n) (sym (all_out_end 8 schema row))

-- a value more: what stands at a place in the row is added
pub one_more : (at i n next total : ℕ) (ss : List Storage) (row : Row) (s : Storage) (v : Option (List ℕ)) (ds : Storage) (dv : Option (List ℕ)) → n ≡ suc i → i < length ss → i < length row
    → s ≡ get_or ss i ds → v ≡ get_or row i dv → next ≡ column_end s at (width v (is_eligible s v)) → data_end_all_out at (drop i ss) (drop i row) ≡ total → data_end_all_out next (drop n ss) (drop n row) ≡ total
one_more at i n next total ss row s v ds dv follows here there storage value is so_far =
    let schema_cons : drop i ss ≡ s ∷ drop (suc i) ss = drop-cons ss i ds here ∙ ap (λ x. x ∷ drop (suc i) ss) (sym storage) in
    let row_cons : drop i row ≡ v ∷ drop (suc i) row = drop-cons row i dv there ∙ ap (λ x. x ∷ drop (suc i) row) (sym value) in
    ap (λ k. data_end_all_out next (drop k ss) (drop k row)) follows ∙ ap (λ end. data_end_all_out end (drop (suc i) ss) (drop (suc i) row)) is
    ∙ sym (ap (λ xs. data_end_all_out at xs (drop i row)) schema_cons ∙ ap (data_end_all_out at (s ∷ drop (suc i) ss)) row_cons) ∙ so_far
