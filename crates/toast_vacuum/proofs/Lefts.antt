-- The steps that a vacuum has left fall.
use Rattle.std.proofs.Common.{ℕ, ◌≡◌, ◌+◌, ◌<◌, ◌≤◌, inl, inr, Bool, true, false, not, cond, nat_lt, nat_eq, Option, Some, None, List, [], ◌∷◌, Contains, count_by, filter, refl, sym, ap, ◌∙◌, subst, arith}
use Rattle.std.specs.List.{list_any}
use Rattle.std.specs.declared.cmp.Ordering.{Ordering}
use Rattle.std.specs.declared.cmp.Ordering.TheVariants.{Less, Equal, Greater}
use Rattle.std.specs.Ordering.{is_lt}
use Rattle.std.proofs.lemmas.Bool.Decides.{nat_tests}
use Rattle.std.proofs.lemmas.List.Sums.{count_by-le-length, sum_by-cons}
use Rattle.list_facts.proofs.Members.{none_in_nil, cases_in}
use Rattle.chunk_index.specs.declared.entry.Entry.{Entry}
use Rattle.chunk_index.specs.Entries.{entry_cmp}
use Rattle.chunk_index.specs.Leaves.{Leaf, bounds_left, in_leaf, is_from, next_bound, same_leaf}
use Rattle.chunk_index.specs.Indexes.{IsLeaf}
use Rattle.chunk_index.proofs.Ordered.{entry_total}
use Rattle.std.proofs.lemmas.Cmp.{tied_itself}
use Rattle.toast_vacuum.specs.declared.stage.Stage.TheVariants.{Pruning, Sweeping, Reaping, Ended}
use Rattle.toast_vacuum.specs.Ops.{Ops}
use Rattle.toast_vacuum.specs.Machines.{after_page, after_pages, after_reap, left_at}
use Rattle.toast_vacuum.specs.Targets.{leaves_from}

-- ---- counts

abbrev unit : Bool → ℕ
unit b = cond b 1 0

count_cons : {X : Type 0} (p : X → Bool) (x : X) (xs : List X) → count_by p (x ∷ xs) ≡ unit (p x) + count_by p xs
count_cons p x xs = sum_by-cons (λ y. cond (p y) 1 0) x xs

one : (b : Bool) → b ≡ true → unit b ≡ 1
one b is = ap unit is

none : (b : Bool) → b ≡ false → unit b ≡ 0
none b is = ap unit is

implied : (a b : Bool) → (a ≡ true → b ≡ true) → unit a ≤ unit b
implied true b then = omega (arith, one b (then refl))
implied false b then = omega arith

count_implied : {X : Type 0} (q p : X → Bool) (xs : List X) → ((x : X) → q x ≡ true → p x ≡ true) → count_by q xs ≤ count_by p xs
count_implied q p [] then = omega arith
count_implied q p (x ∷ xs) then = omega (arith, count_cons q x xs, count_cons p x xs, implied (q x) (p x) (then x), count_implied q p xs then)

-- one that passes the wider test alone makes the difference
count_falls : {X : Type 0} (q p : X → Bool) (xs : List X) (c : X) → ((x : X) → q x ≡ true → p x ≡ true) → Contains xs c → p c ≡ true → q c ≡ false → count_by q xs < count_by p xs
count_falls q p [] c then held passes fails = absurd (none_in_nil c held)
count_falls q p (x ∷ xs) c then held passes fails = elim (cases_in x xs c held) [
  | inl here ↦ omega (arith, count_cons q x xs, count_cons p x xs, one (p x) (ap p here ∙ passes), none (q x) (ap q here ∙ fails), count_implied q p xs then)
  | inr later ↦ omega (arith, count_cons q x xs, count_cons p x xs, implied (q x) (p x) (then x), count_falls q p xs c then later passes fails)
]

count_in : {X : Type 0} (p : X → Bool) (xs : List X) (c : X) → Contains xs c → p c ≡ true → 0 < count_by p xs
count_in p xs c held passes = let more = count_falls (λ x. false) p xs c (λ x never. absurd (clash (sym never))) held passes refl in omega (arith, more)
  where
    clash : true ≡ false → ⊥
    clash e = cc

count_filter : {X : Type 0} (q f : X → Bool) (xs : List X) → count_by q (filter f xs) ≤ count_by q xs
count_filter q f [] = omega arith
count_filter q f (x ∷ xs) = by_test (f x) (count_filter q f xs)
  where
    by_test : (b : Bool) → count_by q (filter f xs) ≤ count_by q xs → count_by q (cond b (x ∷ filter f xs) (filter f xs)) ≤ count_by q (x ∷ xs)
    by_test true rest = omega (arith, rest, count_cons q x (filter f xs), count_cons q x xs)
    by_test false rest = omega (arith, rest, count_cons q x xs)

-- ---- leaves

count_left : (q : Entry → Bool) (bounds : List Entry) (leaf : Leaf) (entries : List Entry) → count_by q (bounds_left bounds leaf entries) ≤ count_by q bounds
count_left q bounds leaf entries = by_any (list_any (in_leaf bounds leaf) entries)
  where
    by_any : (b : Bool) → count_by q (cond b bounds (filter (λ bound. not (same_leaf (Some bound) leaf)) bounds)) ≤ count_by q bounds
    by_any true = omega arith
    by_any false = count_filter q (λ bound. not (same_leaf (Some bound) leaf)) bounds

less_from : (r : Ordering) → is_lt r ≡ true → r ≡ Less
less_from Less is = refl
less_from Equal is = absurd (cc)
less_from Greater is = absurd (cc)

-- the bound of the next leaf is greater
next_above : (bounds : List Entry) (leaf next : Entry) → next_bound bounds (Some leaf) ≡ Some next → entry_cmp leaf next ≡ Less
next_above [] leaf next is = absurd (cc)
next_above (b ∷ bs) leaf next is = by_test (is_lt (entry_cmp leaf b)) refl is (λ rest. next_above bs leaf next rest)
  where
    same_some : (x y : Entry) → Some x ≡ Some y → x ≡ y
    same_some x y same = cc

    by_test : (t : Bool) → is_lt (entry_cmp leaf b) ≡ t → cond t (Some b) (next_bound bs (Some leaf)) ≡ Some next → (next_bound bs (Some leaf) ≡ Some next → entry_cmp leaf next ≡ Less) → entry_cmp leaf next ≡ Less
    by_test true less follows rest = subst (λ c. entry_cmp leaf c ≡ Less) (same_some b next follows) (less_from (entry_cmp leaf b) less)
    by_test false less follows rest = rest follows

from_further : (leaf next x : Entry) → entry_cmp leaf next ≡ Less → is_from (Some next) x ≡ true → is_from (Some leaf) x ≡ true
from_further leaf next x less from = by_test (is_lt (entry_cmp x leaf)) refl
  where
    clash : not true ≡ true → ⊥
    clash e = cc

    by_test : (b : Bool) → is_lt (entry_cmp x leaf) ≡ b → not b ≡ true
    by_test true below = absurd (clash (ap (λ r. not (is_lt r)) (sym (entry_total.trans x leaf next (less_from (entry_cmp x leaf) below) less)) ∙ from))
    by_test false above = refl

-- so there are fewer leaves from the next one on, whether the swept one stays or not
pub leaves_fall : (bounds entries : List Entry) (from : Option Entry) (next : Entry) → IsLeaf bounds from → next_bound bounds from ≡ Some next → leaves_from (bounds_left bounds from entries) (Some next) < leaves_from bounds from
leaves_fall bounds entries None next is follows = omega (arith, count_left (is_from (Some next)) bounds None entries, count_by-le-length (is_from (Some next)) bounds)
leaves_fall bounds entries (Some b) next is follows =
    let less = next_above bounds b next follows in
    omega (arith, count_left (is_from (Some next)) bounds (Some b) entries, count_falls (is_from (Some next)) (is_from (Some b)) bounds b (λ x from. from_further b next x less from) is (ap (λ r. not (is_lt r)) (tied_itself entry_total b)) (ap (λ r. not (is_lt r)) less))

pub leaves_some : (bounds : List Entry) (from : Option Entry) → IsLeaf bounds from → 0 < leaves_from bounds from
leaves_some bounds None is = omega arith
leaves_some bounds (Some b) is = count_in (is_from (Some b)) bounds b is (ap (λ r. not (is_lt r)) (tied_itself entry_total b))

-- ---- pages

module _ {S : Type 0} (ops : Ops S) (pages : ℕ) (old new : S) where
  -- a page of the first round
  pub left_page : (page n : ℕ) → page < pages → ops.leaves new None ≡ ops.leaves old None → (0 < left_at ops pages new (after_page page pages n)) × (left_at ops pages new (after_page page pages n) < left_at ops pages old (Pruning page))
  left_page page n within same = by_more (nat_lt (page + 1) pages) refl
    where
      more : (a b : ℕ) → nat_lt a b ≡ true → a < b
      more a b is = grind (arith, nat_tests)

      by_none : (b : Bool) → (0 < left_at ops pages new (cond b Ended (Sweeping None))) × (left_at ops pages new (cond b Ended (Sweeping None)) < left_at ops pages old (Pruning page))
      by_none true = (omega arith, omega (arith, within))
      by_none false = (omega arith, omega (arith, within, same))

      by_more : (b : Bool) → nat_lt (page + 1) pages ≡ b → (0 < left_at ops pages new (cond b (Pruning (page + 1)) (after_pages n))) × (left_at ops pages new (cond b (Pruning (page + 1)) (after_pages n)) < left_at ops pages old (Pruning page))
      by_more true is = (omega arith, omega (arith, within, same, more (page + 1) pages is))
      by_more false is = by_none (nat_eq n 0)

  -- a page of the last round
  pub left_reaped : (page at next : ℕ) → page < pages → (0 < left_at ops pages new (after_reap page next pages)) × (left_at ops pages new (after_reap page next pages) < left_at ops pages old (Reaping page at))
  left_reaped page at next within = by_more (nat_lt (page + 1) pages)
    where
      by_more : (b : Bool) → (0 < left_at ops pages new (cond b (Reaping (page + 1) next) Ended)) × (left_at ops pages new (cond b (Reaping (page + 1) next) Ended) < left_at ops pages old (Reaping page at))
      by_more true = (omega arith, omega (arith, within))
      by_more false = (omega arith, omega (arith, within))
