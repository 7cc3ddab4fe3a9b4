-- Lists by place: what stands at one after another has changed.
use Rattle.std.proofs.Common.{◌≡◌, ◌≢◌, ◌⊎◌, inl, inr, ℕ, zero, suc, ◌+◌, ◌<◌, List, [], ◌∷◌, ◌++◌, length, take, drop, set, get_or, refl, sym, ap, ◌∙◌, arith}
use mathlib.Core.Option.{some, some-ne-none, some-injective}
use lib.ListN.{get_elem?}

pub get_below : {A : Type 0} (l : List A) (i : ℕ) (a : A) → get_elem? l i ≡ some a → i < length l
get_below [] i a e = absurd (some-ne-none a (sym e))
get_below (x ∷ xs) zero a e = omega arith
get_below (x ∷ xs) (suc i) a e = let l = get_below xs i a e in omega arith

pub get_some : {A : Type 0} (l : List A) (i : ℕ) → i < length l → (a : A) × (get_elem? l i ≡ some a)
get_some [] i h = absurd (omega arith)
get_some (x ∷ xs) zero h = (x, refl)
get_some (x ∷ xs) (suc i) h = get_some xs i (omega arith)

pub get_is : {A : Type 0} (l : List A) (i : ℕ) (a d : A) → get_elem? l i ≡ some a → get_or l i d ≡ a
get_is [] i a d e = absurd (some-ne-none a (sym e))
get_is (x ∷ xs) zero a d e = some-injective x a e
get_is (x ∷ xs) (suc i) a d e = get_is xs i a d e

pub same_at : {A : Type 0} (l : List A) (i : ℕ) (a b : A) → get_elem? l i ≡ some a → get_elem? l i ≡ some b → a ≡ b
same_at l i a b e f = some-injective a b (sym e ∙ f)

pub set_else : {A : Type 0} (l : List A) (i j : ℕ) (a : A) → j ≢ i → get_elem? (set l i a) j ≡ get_elem? l j
set_else [] i j a n = refl
set_else (x ∷ xs) zero zero a n = absurd (n refl)
set_else (x ∷ xs) zero (suc j) a n = refl
set_else (x ∷ xs) (suc i) zero a n = refl
set_else (x ∷ xs) (suc i) (suc j) a n = set_else xs i j a (λ e. n (ap suc e))

pub set_here : {A : Type 0} (l : List A) (i : ℕ) (a : A) → i < length l → get_elem? (set l i a) i ≡ some a
set_here [] i a h = absurd (omega arith)
set_here (x ∷ xs) zero a h = refl
set_here (x ∷ xs) (suc i) a h = set_here xs i a (omega arith)

pub set_there : {A : Type 0} (l : List A) (i : ℕ) (a b : A) → get_elem? (set l i a) i ≡ some b → a ≡ b
set_there [] i a b e = absurd (some-ne-none b (sym e))
set_there (x ∷ xs) zero a b e = some-injective a b e
set_there (x ∷ xs) (suc i) a b e = set_there xs i a b e

pub at_snoc : {A : Type 0} (l : List A) (a b : A) (j : ℕ) → get_elem? (l ++ a ∷ []) j ≡ some b → (get_elem? l j ≡ some b) ⊎ ((j ≡ length l) × (a ≡ b))
at_snoc [] a b zero e = inr (refl, some-injective a b e)
at_snoc [] a b (suc j) e = absurd (some-ne-none b (sym e))
at_snoc (x ∷ xs) a b zero e = inl e
at_snoc (x ∷ xs) a b (suc j) e = split_at (at_snoc xs a b j e)
  where
    split_at : (get_elem? xs j ≡ some b) ⊎ ((j ≡ length xs) × (a ≡ b)) → (get_elem? xs j ≡ some b) ⊎ ((suc j ≡ suc (length xs)) × (a ≡ b))
    split_at (inl t) = inl t
    split_at (inr t) = inr (ap suc t.0, t.1)

pub snoc_else : {A : Type 0} (l : List A) (a b : A) (j : ℕ) → get_elem? l j ≡ some b → get_elem? (l ++ a ∷ []) j ≡ some b
snoc_else [] a b j e = absurd (some-ne-none b (sym e))
snoc_else (x ∷ xs) a b zero e = e
snoc_else (x ∷ xs) a b (suc j) e = snoc_else xs a b j e

pub snoc_here : {A : Type 0} (l : List A) (a : A) → get_elem? (l ++ a ∷ []) (length l) ≡ some a
snoc_here [] a = refl
snoc_here (x ∷ xs) a = snoc_here xs a

-- what an index answers is what stands there
pub entry_is : {A : Type 0} (l : List A) (i : ℕ) (d : A) → i < length l → d ≡ get_or l i d → get_elem? l i ≡ some d
entry_is [] i d h e = absurd (omega (arith, h))
entry_is (x ∷ xs) zero d h e = ap some (sym e)
entry_is (x ∷ xs) (suc i) d h e = entry_is xs i d (omega (arith, h)) e

pub snoc_same : {A : Type 0} (l : List A) (a : A) (j : ℕ) → j ≢ length l → get_elem? (l ++ a ∷ []) j ≡ get_elem? l j
snoc_same [] a zero ne = absurd (ne refl)
snoc_same [] a (suc j) ne = refl
snoc_same (x ∷ xs) a zero ne = refl
snoc_same (x ∷ xs) a (suc j) ne = snoc_same xs a j (λ e. ne (ap suc e))

pub length_snoc : {A : Type 0} (l : List A) (a : A) → length (l ++ a ∷ []) ≡ length l + 1
length_snoc [] a = refl
length_snoc (x ∷ xs) a = let m = length_snoc xs a in omega (arith, m)

-- what was written is what is read
pub set_read : {A : Type 0} (l : List A) (i : ℕ) (a d : A) → i < length l → d ≡ get_or (set l i a) i d → d ≡ a
set_read [] i a d h e = absurd (omega (arith, h))
set_read (x ∷ xs) zero a d h e = e
set_read (x ∷ xs) (suc i) a d h e = set_read xs i a d (omega (arith, h)) e

-- what stands at a place is what an index answers
pub index_is : {A : Type 0} (l : List A) (i : ℕ) (d : A) → i < length l → get_elem? l i ≡ some (get_or l i d)
index_is [] i d h = absurd (omega (arith, h))
index_is (x ∷ xs) zero d h = refl
index_is (x ∷ xs) (suc i) d h = index_is xs i d (omega (arith, h))

front : {A : Type 0} (xs ys : List A) → take (length xs) (xs ++ ys) ≡ xs
front [] ys = refl
front (x ∷ xs) ys = ap (λ l. x ∷ l) (front xs ys)

-- a list that was written over as a whole
pub all_kept : {A : Type 0} (new old : List A) (n : ℕ) → length new ≡ n → take n (new ++ drop (length new) old) ≡ new
all_kept new old n e = ap (λ (k : ℕ). take k (new ++ drop (length new) old)) (sym e) ∙ front new (drop (length new) old)
