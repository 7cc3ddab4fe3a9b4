-- Places that an order or a test takes for one.
use Rattle.std.proofs.Common.{◌≡◌, ◌∙◌, ℕ, ℤ, Bool, true, false, ap, sym, refl}
use Rattle.std.specs.Ordering.{nat_cmp, int_cmp, is_eq}
use Rattle.std.specs.FinMap as finite
use Rattle.std.specs.Cmp.{eq_by_cmp_equiv, int_cmp_total}
use Rattle.std.proofs.lemmas.Map.Views.{tells_apart}
use Rattle.std.proofs.lemmas.Map.Lookups.{exact_pairs, exact_unsigned, exact_signed}
use Rattle.tuple_layout.specs.declared.Place.{Place}
use Rattle.tuple_layout.specs.Places.{place_cmp, place_total, same_place}

-- only one place ties with a place
pub place_exact : finite.IsAntisymmetric place_cmp
place_exact p q e =
    let made : ℕ × ℤ → Place = λ x. record { table = x.0; key = x.1 } in
    ap made (exact_pairs nat_cmp int_cmp exact_unsigned exact_signed (p.table, p.key) (q.table, q.key) e)

-- two places that a test takes for one are one
pub same_place_is : (p q : Place) → same_place p q ≡ true → p ≡ q
same_place_is p q e = tells_apart place_exact p q e

-- a place is itself
pub same_place_self : (p : Place) → same_place p p ≡ true
same_place_self p = (eq_by_cmp_equiv place_total).refl p

-- a key is itself
pub same_key : (k : ℤ) → is_eq (int_cmp k k) ≡ true
same_key k = (eq_by_cmp_equiv int_cmp_total).refl k

-- a place is told by its table and its key
pub place_is : (q : Place) (t : ℕ) (k : ℤ) → q.table ≡ t → k ≡ q.key → q ≡ record { table = t; key = k }
place_is q t k table key =
    let made : ℕ → ℤ → Place = λ u j. record { table = u; key = j } in
    ap (λ (u : ℕ). made u q.key) table ∙ ap (made t) (sym key)

other_key_by : (q : Place) (t : ℕ) (k : ℤ) (b : Bool) → is_eq (int_cmp k q.key) ≡ b → same_place q (record { table = t; key = k }) ≡ false → q.table ≡ t → b ≡ false
other_key_by q t k true is other table =
    let same : q ≡ record { table = t; key = k } = place_is q t k table (tells_apart exact_signed k q.key is) in
    let self : same_place q (record { table = t; key = k }) ≡ true = ap (same_place q) (sym same) ∙ same_place_self q in
    absurd (cc)
other_key_by q t k false is other table = refl

-- a key of its table that is not a place's is another one
pub other_key : (q : Place) (t : ℕ) (k : ℤ) → same_place q (record { table = t; key = k }) ≡ false → q.table ≡ t → is_eq (int_cmp k q.key) ≡ false
other_key q t k other table = other_key_by q t k (is_eq (int_cmp k q.key)) refl other table
