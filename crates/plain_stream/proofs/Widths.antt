-- The size of a row's tuple and the columns that may go out, from column to column.
use Rattle.std.proofs.Common.{◌≡◌, ℕ, ◌+◌, ◌≤◌, ◌<◌, get_or, length, List, [], ◌∷◌, ◌++◌, Option, Bool, true, false, refl, sym, ap, ◌∙◌, arith, add-one, drop, drop-cons, take, zero, suc, append_assoc, inl, inr}
use Rattle.std.proofs.lemmas.List.{append-nil}
use Rattle.std.specs.Prelude.{map as mapped, min, nat_le, ◌||◌, cond}
use Rattle.std.specs.List.{enumerate_from, list_any}
use Rattle.tuple_layout.specs.declared.Storage.{Storage}
use Rattle.tuple_layout.specs.Places.{Row}
use Rattle.tuple_layout.specs.Sizes.{Width, column_end, data_end_from, is_missing, width}
use Rattle.tuple_toaster.specs.Pushed.{Columns, eligible_from, moved_from, put_before, shortest, width_besides, with_column}
use Rattle.tuple_toaster.proofs.Ordered.{test_cases}

-- what is left of a list from an element on
pub drop_at : {T : Type 0} (xs : List T) (i : ℕ) (x d : T) → i < length xs → x ≡ get_or xs i d → drop i xs ≡ x ∷ drop (i + 1) xs
drop_at xs i x d h e = rw add-one (drop-cons xs i d h ∙ ap (λ y. y ∷ drop (suc i) xs) (sym e))

-- the widths of the columns from this one on
abbrev pub widths_from : (ℕ → Bool) → ℕ → Row → List Width
widths_from kept n row = mapped (λ (column, value). width value (kept column)) (enumerate_from n row)

-- the same where these columns are out of line too
abbrev pub besides_from : (ℕ → Bool) → List ℕ → ℕ → Row → List Width
besides_from kept out n row = moved_from n out (widths_from kept n row)

past : (row : Row) (i : ℕ) → length row ≤ i → drop i row ≡ []
past [] zero e = refl
past [] (suc i) e = refl
past (v ∷ row) zero e = absurd (omega (arith, e))
past (v ∷ row) (suc i) e = past row i (omega (arith, e))

past_last : (ss : List Storage) (i : ℕ) → length ss ≤ i → drop i ss ≡ []
past_last [] zero e = refl
past_last [] (suc i) e = refl
past_last (s ∷ ss) zero e = absurd (omega (arith, e))
past_last (s ∷ ss) (suc i) e = past_last ss i (omega (arith, e))

stops : (at : ℕ) (ss : List Storage) → data_end_from at ss [] ≡ at
stops at [] = refl
stops at (s ∷ ss) = refl

-- past a row's last value nothing is added
pub none_left : (kept : ℕ → Bool) (out : List ℕ) (at i total : ℕ) (ss : List Storage) (row : Row) → length row ≤ i → data_end_from at (drop i ss) (besides_from kept out (i + 1) (drop i row)) ≡ total → at ≡ total
none_left kept out at i total ss row e so_far = sym (ap (λ vs. data_end_from at (drop i ss) (besides_from kept out (i + 1) vs)) (past row i e) ∙ stops at (drop i ss)) ∙ so_far

-- a value more: what stands at a place in the row is added
pub one_more : (kept : ℕ → Bool) (out : List ℕ) (at i next total : ℕ) (ss : List Storage) (row : Row) (s : Storage) (v : Option (List ℕ)) (ds : Storage) (dv : Option (List ℕ)) → i < length ss → i < length row
    → s ≡ get_or ss i ds → v ≡ get_or row i dv → next ≡ column_end s at (width_besides out (i + 1) (width v (kept (i + 1)))) → data_end_from at (drop i ss) (besides_from kept out (i + 1) (drop i row)) ≡ total
    → data_end_from next (drop (i + 1) ss) (besides_from kept out (i + 1 + 1) (drop (i + 1) row)) ≡ total
one_more kept out at i next total ss row s v ds dv here there storage value is so_far =
    ap (λ end. data_end_from end (drop (i + 1) ss) (besides_from kept out (i + 1 + 1) (drop (i + 1) row))) is
    ∙ sym (ap (λ xs. data_end_from at xs (besides_from kept out (i + 1) (drop i row))) (drop_at ss i s ds here storage) ∙ ap (λ vs. data_end_from at (s ∷ drop (i + 1) ss) (besides_from kept out (i + 1) vs)) (drop_at row i v dv there value))
    ∙ so_far

-- ---- nulls

-- a value more in the search for a null
pub null_step : (kept : ℕ → Bool) (out : List ℕ) (i : ℕ) (row : Row) (v dv : Option (List ℕ)) (b total : Bool) → i < length row → v ≡ get_or row i dv → b ≡ is_missing (width_besides out (i + 1) (width v (kept (i + 1))))
    → list_any is_missing (besides_from kept out (i + 1) (drop i row)) ≡ total → (b || list_any is_missing (besides_from kept out (i + 1 + 1) (drop (i + 1) row))) ≡ total
null_step kept out i row v dv b total there value is so_far =
    ap (λ x. x || list_any is_missing (besides_from kept out (i + 1 + 1) (drop (i + 1) row))) is
    ∙ sym (ap (λ vs. list_any is_missing (besides_from kept out (i + 1) vs)) (drop_at row i v dv there value)) ∙ so_far

-- ---- columns that may go out

-- no column is left past the last of the schema
none_eligible : (kept : ℕ → Bool) (n : ℕ) (ss : List Storage) (row : Row) (i : ℕ) → length ss ≤ i → [] ≡ eligible_from n (drop i ss) (widths_from kept n (drop i row))
none_eligible kept n ss row i h = ap (λ xs. eligible_from n xs (widths_from kept n (drop i row))) (sym (past_last ss i h))

nothing_eligible : (n : ℕ) (ss : List Storage) → [] ≡ eligible_from n ss []
nothing_eligible n [] = refl
nothing_eligible n (s ∷ ss) = refl

-- nor past the last of the row
none_further : (kept : ℕ → Bool) (n : ℕ) (ss : List Storage) (row : Row) (i : ℕ) → length row ≤ i → [] ≡ eligible_from n (drop i ss) (widths_from kept n (drop i row))
none_further kept n ss row i h = nothing_eligible n (drop i ss) ∙ sym (ap (λ vs. eligible_from n (drop i ss) (widths_from kept n vs)) (past row i h))

-- nor past the shorter of both
pub none_past : (kept : ℕ → Bool) (n : ℕ) (ss : List Storage) (row : Row) (i : ℕ) → i ≡ min (length ss) (length row) → [] ≡ eligible_from n (drop i ss) (widths_from kept n (drop i row))
none_past kept n ss row i is = elim (test_cases (length ss) (length row)) [
  | inl h ↦ let le = h.0 in none_eligible kept n ss row i (omega (arith, is, le))
  | inr h ↦ let lt = h.0 in none_further kept n ss row i (omega (arith, is, lt))
]

-- the column before these
pub one_before : (kept : ℕ → Bool) (i : ℕ) (ss : List Storage) (row : Row) (s : Storage) (v : Option (List ℕ)) (ds : Storage) (dv : Option (List ℕ)) (all before : Columns) → i < length ss → i < length row
    → s ≡ get_or ss i ds → v ≡ get_or row i dv → all ≡ with_column (i + 1) s (width v (kept (i + 1))) before
    → before ≡ eligible_from (i + 1 + 1) (drop (i + 1) ss) (widths_from kept (i + 1 + 1) (drop (i + 1) row)) → all ≡ eligible_from (i + 1) (drop i ss) (widths_from kept (i + 1) (drop i row))
one_before kept i ss row s v ds dv all before here there storage value is so_far =
    is ∙ ap (with_column (i + 1) s (width v (kept (i + 1)))) so_far
    ∙ sym (ap (λ xs. eligible_from (i + 1) xs (widths_from kept (i + 1) (drop i row))) (drop_at ss i s ds here storage) ∙ ap (λ vs. eligible_from (i + 1) (s ∷ drop (i + 1) ss) (widths_from kept (i + 1) vs)) (drop_at row i v dv there value))

-- ---- the place for a column

-- how many candidates of the front are longer, and where a column is put
pub put_here : (c d dd : ℕ × ℕ) (cs : Columns) (i : ℕ) → i < length cs → d ≡ get_or cs i dd → d.1 ≤ c.1 → put_before c (drop i cs) ≡ c ∷ drop i cs
put_here c d dd cs i h at short = ap (put_before c) (drop_at cs i d dd h at) ∙ first (nat_le d.1 c.1) (is_le d.1 c.1 short) ∙ sym (ap (λ ds. c ∷ ds) (drop_at cs i d dd h at))
  where
    is_le : (m n : ℕ) → m ≤ n → nat_le m n ≡ true
    is_le m n h = grind arith

    first : (b : Bool) → b ≡ true → cond b (c ∷ d ∷ drop (i + 1) cs) (d ∷ put_before c (drop (i + 1) cs)) ≡ c ∷ d ∷ drop (i + 1) cs
    first true e = refl
    first false e = absurd (cc)

pub put_later : (c d dd : ℕ × ℕ) (cs : Columns) (i : ℕ) → i < length cs → d ≡ get_or cs i dd → c.1 < d.1 → put_before c (drop i cs) ≡ d ∷ put_before c (drop (i + 1) cs)
put_later c d dd cs i h at long = ap (put_before c) (drop_at cs i d dd h at) ∙ later (nat_le d.1 c.1) (not_le d.1 c.1 long)
  where
    not_le : (m n : ℕ) → n < m → nat_le m n ≡ false
    not_le m n h = grind arith

    later : (b : Bool) → b ≡ false → cond b (c ∷ d ∷ drop (i + 1) cs) (d ∷ put_before c (drop (i + 1) cs)) ≡ d ∷ put_before c (drop (i + 1) cs)
    later false e = refl
    later true e = absurd (cc)

take_one : {T : Type 0} (xs : List T) (i : ℕ) (x d : T) → i < length xs → x ≡ get_or xs i d → take (suc i) xs ≡ take i xs ++ x ∷ []
take_one [] i x d h e = absurd (omega (arith, h))
take_one (y ∷ ys) zero x d h e = ap (λ z. z ∷ []) (sym e)
take_one (y ∷ ys) (suc i) x d h e = ap (λ zs. y ∷ zs) (take_one ys i x d (omega (arith, h)) e)

take_at : {T : Type 0} (xs : List T) (i : ℕ) (x d : T) → i < length xs → x ≡ get_or xs i d → take (i + 1) xs ≡ take i xs ++ x ∷ []
take_at xs i x d h e = rw add-one (take_one xs i x d h e)

-- one more of the front is longer
pub put_goes_on : (c d dd : ℕ × ℕ) (cs : Columns) (i : ℕ) → i < length cs → d ≡ get_or cs i dd → c.1 < d.1 → put_before c cs ≡ take i cs ++ put_before c (drop i cs) → put_before c cs ≡ take (i + 1) cs ++ put_before c (drop (i + 1) cs)
put_goes_on c d dd cs i h at long so_far =
    so_far ∙ ap (λ ds. take i cs ++ ds) (put_later c d dd cs i h at long)
    ∙ sym (append_assoc (take i cs) (d ∷ []) (put_before c (drop (i + 1) cs))) ∙ ap (λ front. front ++ put_before c (drop (i + 1) cs)) (sym (take_at cs i d dd h at))

-- ---- the shortest prefix

pub prefix_ends : (fits : List ℕ → Bool) (out cs all : List ℕ) → fits out ≡ true → out ++ shortest fits out cs ≡ all → out ≡ all
prefix_ends fits out [] all e so_far = sym (append-nil out) ∙ so_far
prefix_ends fits out (c ∷ cs) all e so_far = sym (append-nil out) ∙ ap (λ more. out ++ more) (sym (ends (fits out) e)) ∙ so_far
  where
    ends : (b : Bool) → b ≡ true → cond b [] (c ∷ shortest fits (out ++ c ∷ []) cs) ≡ []
    ends true e = refl
    ends false e = absurd (cc)

pub prefix_goes_on : (fits : List ℕ → Bool) (out cs all : List ℕ) (c : ℕ) → fits out ≡ false → out ++ shortest fits out (c ∷ cs) ≡ all → (out ++ c ∷ []) ++ shortest fits (out ++ c ∷ []) cs ≡ all
prefix_goes_on fits out cs all c e so_far = append_assoc out (c ∷ []) (shortest fits (out ++ c ∷ []) cs) ∙ ap (λ more. out ++ more) (sym (goes (fits out) e)) ∙ so_far
  where
    goes : (b : Bool) → b ≡ false → cond b [] (c ∷ shortest fits (out ++ c ∷ []) cs) ≡ c ∷ shortest fits (out ++ c ∷ []) cs
    goes false e = refl
    goes true e = absurd (cc)
