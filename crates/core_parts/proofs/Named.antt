-- A handle that is put in its place by name.
use Rattle.std.proofs.Common.{ap, arith, cond, refl, sym, ◌∙◌}
use Rattle.std.proofs.Math.Dec.{ltb}
use Rattle.std.proofs.lemmas.Bool.Decides.{nat_tests}
use Rattle.std.proofs.lemmas.Iterator.Adapters.{position_from-zero}
use Rattle.std.proofs.lemmas.List.Sums.{prefix_len-le-length}
use Rattle.std.specs.Option.{unwrap_or}
use Rattle.std.specs.List.{AllByRecursion, filter, insert, position_from, position_or_len}
use Rattle.std.specs.List.Sorted.{IsStrictlySortedBy}
use Rattle.std.specs.Ordering.{nat_cmp}
use Rattle.std.specs.Prelude.{Bool, List, None, Option, Some, [], false, length, nat_lt, not, suc, true, ℕ, ◌+◌, ◌<◌, ◌==◌, ◌∷◌, ◌≡◌, ◌≤◌}
use Rattle.core_state.specs.Lines.{with_handle}
use Rattle.core_state.specs.State.{handle_of}
use Rattle.core_state.specs.declared.seat.Handle.{Handle}
use Rattle.std.specs.declared.cmp.Ordering.TheVariants as orders

less_of : (a b : ℕ) → nat_cmp a b ≡ orders.Less → a < b
less_of a b e = by (nat_lt a b) refl e
  where
    by : (t : Bool) → nat_lt a b ≡ t → cond t orders.Less (cond (a == b) orders.Equal orders.Greater) ≡ orders.Less → a < b
    by true is e = grind (arith, nat_tests, is)
    by false is e = no (a == b) e
      where
        no : (t : Bool) → cond t orders.Equal orders.Greater ≡ orders.Less → a < b
        no true e = absurd (cc)
        no false e = absurd (cc)

-- handles after one with a greater name, or the same, have greater names
none_below : (x : Handle) (n : ℕ) → n ≤ x.name → (xs : List Handle) → AllByRecursion (λ (y : Handle). nat_cmp x.name y.name ≡ orders.Less) xs → filter (λ (o : Handle). nat_lt o.name n) xs ≡ []
none_below x n le [] all = refl
none_below x n le (y ∷ ys) all =
    let less = less_of x.name y.name all.0 in
    let no : nat_lt y.name n ≡ false = grind (arith, nat_tests, less, le) in
    rw no (none_below x n le ys all.1)

all_above : (x : Handle) (n : ℕ) → n ≤ x.name → (xs : List Handle) → AllByRecursion (λ (y : Handle). nat_cmp x.name y.name ≡ orders.Less) xs → filter (λ (o : Handle). nat_lt n o.name) xs ≡ xs
all_above x n le [] all = refl
all_above x n le (y ∷ ys) all =
    let less = less_of x.name y.name all.0 in
    let yes : nat_lt n y.name ≡ true = grind (arith, nat_tests, less, le) in
    rw yes (ap (λ (hs : List Handle). y ∷ hs) (all_above x n le ys all.1))

pub inserted_is : (handles : List Handle) (h : Handle) → IsStrictlySortedBy (λ (a b : Handle). nat_cmp a.name b.name) handles → handle_of handles h.name ≡ None
    → insert handles (position_or_len (λ other. nat_lt h.name other.name) handles) h ≡ with_handle handles h
unfolding IsStrictlySortedBy
inserted_is [] h sorted new = refl
inserted_is (x ∷ xs) h sorted new = by (nat_lt h.name x.name) refl (x.name == h.name) refl new (λ later. inserted_is xs h sorted.1 later)
  where
    one_plus : (n : ℕ) → 1 + n ≡ suc n
    one_plus n = omega arith

    by : (b : Bool) → nat_lt h.name x.name ≡ b → (same : Bool) → (x.name == h.name) ≡ same → cond same (Some x) (handle_of xs h.name) ≡ None → (handle_of xs h.name ≡ None → insert xs (position_or_len (λ other. nat_lt h.name other.name) xs) h ≡ with_handle xs h) → insert (x ∷ xs) (position_or_len (λ other. nat_lt h.name other.name) (x ∷ xs)) h ≡ with_handle (x ∷ xs) h
    by true less true same new rest = absurd (cc)
    by true less false same new rest =
        let le : h.name ≤ x.name = grind (arith, nat_tests, less) in
        let no : nat_lt x.name h.name ≡ false = grind (arith, nat_tests, less) in
        rw (less, no, none_below x h.name le xs sorted.0, all_above x h.name le xs sorted.0) refl
    by false more true same new rest = absurd (cc)
    by false more false differ new rest =
        let yes : nat_lt x.name h.name ≡ true = grind (arith, nat_tests, more, differ) in
        rw (more, yes) (ap (λ (n : ℕ). insert (x ∷ xs) n h) (one_plus (position_or_len (λ other. nat_lt h.name other.name) xs)) ∙ ap (λ (hs : List Handle). x ∷ hs) (rest new))

first_or : (n m : ℕ) (b : Bool) → ltb n m ≡ b → n ≤ m → unwrap_or (cond b (Some n) None) m ≡ n
first_or n m true e h = refl
first_or n m false e h = grind (arith, nat_tests)

-- the first place that passes, or the length, from what `position` answers
pub place_from : (p : Handle → Bool) (xs : List Handle) → unwrap_or (position_from p 0 xs) (length xs) ≡ position_or_len p xs
place_from p xs =
    ap (λ (o : Option ℕ). unwrap_or o (length xs)) (sym (position_from-zero p xs))
    ∙ first_or (position_or_len p xs) (length xs) (ltb (position_or_len p xs) (length xs)) refl (prefix_len-le-length (λ x. not (p x)) xs)
