-- Histories that begin one another.
use Rattle.std.proofs.Common.{◌≡◌, ◌≤◌, List, [], ◌∷◌, ◌++◌, length, Bool, true, false, refl, sym, ap, ◌∙◌, inl, inr, append-nil, append_assoc, length-append, arith, if◌then◌else◌, nat_le}
use Rattle.std.proofs.lemmas.Bool.Decides.{nat_tests}
use mathlib.Core.List.{IsPrefix}
use Rattle.turn_hall.specs.Passes.{Entry, Extends, longer, shorter}

pub prefix_refl : (xs : List Entry) → IsPrefix xs xs
prefix_refl xs = ([], append-nil xs)

pub prefix_same : (xs ys : List Entry) → xs ≡ ys → IsPrefix xs ys
prefix_same xs ys e = ([], append-nil xs ∙ e)

pub prefix_trans : (xs ys zs : List Entry) → IsPrefix xs ys → IsPrefix ys zs → IsPrefix xs zs
prefix_trans xs ys zs a b = (a.0 ++ b.0, sym (append_assoc xs a.0 b.0) ∙ ap (λ l. l ++ b.0) a.1 ∙ b.1)

pub prefix_length : (xs ys : List Entry) → IsPrefix xs ys → length xs ≤ length ys
prefix_length xs ys a = omega (arith, ap length a.1, length-append xs a.0)

pub prefix_extends : (xs ys : List Entry) → Extends xs ys → IsPrefix xs ys
prefix_extends xs ys (inl e) = ([], append-nil xs ∙ sym e)
prefix_extends xs ys (inr e) = (e.0 ∷ [], sym e.1)

-- of two beginnings of one history the shorter begins the longer
pub prefix_shorter : (xs ys h : List Entry) → IsPrefix xs h → IsPrefix ys h → length xs ≤ length ys → IsPrefix xs ys
prefix_shorter [] ys h a b less = (ys, refl)
prefix_shorter (x ∷ xs) [] h a b less = absurd (omega arith)
prefix_shorter (x ∷ xs) (y ∷ ys) [] a b less = let p = a.1 in absurd (cc)
prefix_shorter (x ∷ xs) (y ∷ ys) (z ∷ h) a b less =
    let p = a.1 in
    let q = b.1 in
    let left : xs ++ a.0 ≡ h = cc in
    let right : ys ++ b.0 ≡ h = cc in
    let first : x ≡ y = cc in
    let t = prefix_shorter xs ys h (a.0, left) (b.0, right) (omega arith) in
    (t.0, λ i. first i ∷ t.1 i)

-- what holds of both histories holds of the longer and of the shorter one
pub longer_case : (P : List Entry → Type 0) (xs ys : List Entry) → P xs → P ys → P (longer xs ys)
longer_case P xs ys p q = by (nat_le (length ys) (length xs))
  where
    by : (b : Bool) → P (if b then xs else ys)
    by true = p
    by false = q

pub shorter_case : (P : List Entry → Type 0) (xs ys : List Entry) → P xs → P ys → P (shorter xs ys)
shorter_case P xs ys p q = by (nat_le (length ys) (length xs))
  where
    by : (b : Bool) → P (if b then ys else xs)
    by true = q
    by false = p

pub longer_length : (xs ys : List Entry) → (length xs ≤ length (longer xs ys)) × (length ys ≤ length (longer xs ys))
longer_length xs ys = by (nat_le (length ys) (length xs)) refl
  where
    by : (b : Bool) → nat_le (length ys) (length xs) ≡ b → (length xs ≤ length (if b then xs else ys)) × (length ys ≤ length (if b then xs else ys))
    by true e = (omega arith, grind (arith, nat_tests))
    by false e = (grind (arith, nat_tests), omega arith)

pub shorter_length : (xs ys : List Entry) → length (shorter xs ys) ≤ length (longer xs ys)
shorter_length xs ys = by (nat_le (length ys) (length xs)) refl
  where
    by : (b : Bool) → nat_le (length ys) (length xs) ≡ b → length (if b then ys else xs) ≤ length (if b then xs else ys)
    by true e = grind (arith, nat_tests)
    by false e = grind (arith, nat_tests)
