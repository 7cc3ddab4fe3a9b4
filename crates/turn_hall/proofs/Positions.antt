-- Ascending lists of positions.
use Rattle.std.proofs.Common.{◌≡◌, ◌⊎◌, ℕ, zero, suc, ◌<◌, ◌≤◌, List, [], ◌∷◌, ◌++◌, length, get_or, Bool, true, false, refl, inl, inr, ⊎_elim, arith, if◌then◌else◌, nat_le}
use Rattle.std.specs.List.{All, AllPairs, Contains}
use Rattle.std.proofs.lemmas.Bool.Decides.{nat_tests}
use Rattle.std.proofs.lemmas.List.Elements.{All-nil, All-cons, All-head, All-tail, All-push, All-weaker, All-contains, Contains-append_cases}
use Rattle.std.proofs.lemmas.List.Kept.{AllPairs-cons}
use Rattle.std.proofs.lemmas.List.Quantifiers.{all_pairs_push}
use Rattle.turn_hall.specs.Passes.{Entry, ArePlaces, placed, merged, mine_after, longer}
use Rattle.turn_hall.proofs.Prefixes.{longer_length}

contains_at : (p q : ℕ) (qs : List ℕ) (k : ℕ) → k < length (q ∷ qs) → get_or (q ∷ qs) k p ≡ p → (q ≡ p) ⊎ Contains qs p
contains_at p q qs zero h e = inl e
contains_at p q qs (suc k) h e = inr (k, omega arith, e)

contains_cons : (p q : ℕ) (qs : List ℕ) → Contains (q ∷ qs) p → (q ≡ p) ⊎ Contains qs p
contains_cons p q qs c = contains_at p q qs c.0 c.1 c.2

contains_here : (p q : ℕ) (qs : List ℕ) → q ≡ p → Contains (q ∷ qs) p
contains_here p q qs e = (0, omega arith, e)

contains_there : (p q : ℕ) (qs : List ℕ) → Contains qs p → Contains (q ∷ qs) p
contains_there p q qs c = (suc c.0, (let h = c.1 in omega arith), c.2)

pub contains_nil : (p : ℕ) → Contains [] p → ⊥
contains_nil p c = let h = c.1 in omega arith

contains_placed : (p q : ℕ) (qs : List ℕ) → Contains (placed q qs) p → (q ≡ p) ⊎ Contains qs p
contains_placed p q [] c = contains_cons p q [] c
contains_placed p q (x ∷ xs) c = by (nat_le q x) (λ b. contains_placed p q xs b) c
  where
    by : (b : Bool) → (Contains (placed q xs) p → (q ≡ p) ⊎ Contains xs p) → Contains (if b then q ∷ x ∷ xs else x ∷ placed q xs) p → (q ≡ p) ⊎ Contains (x ∷ xs) p
    by true again c = contains_cons p q (x ∷ xs) c
    by false again c = ⊎_elim (λ e. inr (contains_here p x xs e)) (λ d. ⊎_elim (λ e. inl e) (λ d'. inr (contains_there p x xs d')) (again d)) (contains_cons p x (placed q xs) c)

pub contains_merged : (p : ℕ) (ps qs : List ℕ) → Contains (merged ps qs) p → Contains ps p ⊎ Contains qs p
contains_merged p [] qs c = inr c
contains_merged p (x ∷ ps) qs c =
    ⊎_elim
    (λ e. inl (contains_here p x ps e))
    (λ d. ⊎_elim (λ d'. inl (contains_there p x ps d')) (λ d'. inr d') (contains_merged p ps qs d))
    (contains_placed p x (merged ps qs) c)

pub contains_after : (p : ℕ) (mine : List ℕ) (seen history : List Entry) → Contains (mine_after mine seen history) p → Contains mine p ⊎ (length seen ≡ p)
contains_after p mine seen history = by (nat_le (length history) (length seen))
  where
    by : (b : Bool) → Contains (if b then mine else mine ++ length seen ∷ []) p → Contains mine p ⊎ (length seen ≡ p)
    by true c = inl c
    by false c = ⊎_elim (λ d. inl d) (λ d. ⊎_elim (λ e. inr e) (λ n. absurd (contains_nil p n)) (contains_cons p (length seen) [] d)) (Contains-append_cases mine (length seen ∷ []) p c)

all_placed : (P : ℕ → Type 0) (p : ℕ) (qs : List ℕ) → P p → All P qs → All P (placed p qs)
all_placed P p [] h a = All-cons P p [] h a
all_placed P p (q ∷ qs) h a = by (nat_le p q) (all_placed P p qs h (All-tail P q qs a))
  where
    by : (b : Bool) → All P (placed p qs) → All P (if b then p ∷ q ∷ qs else q ∷ placed p qs)
    by true again = All-cons P p (q ∷ qs) h a
    by false again = All-cons P q (placed p qs) (All-head P q qs a) again

all_merged : (P : ℕ → Type 0) (ps qs : List ℕ) → All P ps → All P qs → All P (merged ps qs)
all_merged P [] qs a b = b
all_merged P (p ∷ ps) qs a b = all_placed P p (merged ps qs) (All-head P p ps a) (all_merged P ps qs (All-tail P p ps a) b)

pairs_head : (p : ℕ) (ps : List ℕ) → AllPairs (λ x y. x < y) (p ∷ ps) → All (λ y. p < y) ps
pairs_head p ps a k d h = a 0 (suc k) d (omega arith) (omega arith)

pairs_tail : (p : ℕ) (ps : List ℕ) → AllPairs (λ x y. x < y) (p ∷ ps) → AllPairs (λ x y. x < y) ps
pairs_tail p ps a i j d h h' = a (suc i) (suc j) d (omega arith) (omega arith)

pairs_nil : AllPairs (λ x y. x < y) []
pairs_nil i j d h h' = absurd (omega arith)

pairs_placed : (p : ℕ) (qs : List ℕ) → (Contains qs p → ⊥) → AllPairs (λ x y. x < y) qs → AllPairs (λ x y. x < y) (placed p qs)
pairs_placed p [] new a = AllPairs-cons (λ x y. x < y) p [] (All-nil (λ y. p < y)) pairs_nil
pairs_placed p (q ∷ qs) new a = by (nat_le p q) refl (pairs_placed p qs (λ c. new (contains_there p q qs c)) (pairs_tail q qs a))
  where
    differ : q ≡ p → ⊥
    differ e = new (contains_here p q qs e)

    by : (b : Bool) → nat_le p q ≡ b → AllPairs (λ x y. x < y) (placed p qs) → AllPairs (λ x y. x < y) (if b then p ∷ q ∷ qs else q ∷ placed p qs)
    by true e again =
        let less : p ≤ q = grind (arith, nat_tests) in
        let first : p < q = omega (arith, differ) in
        AllPairs-cons (λ x y. x < y) p (q ∷ qs) (All-cons (λ y. p < y) q qs first (All-weaker (λ y. q < y) (λ y. p < y) (λ y h. omega arith) qs (pairs_head q qs a))) a
    by false e again =
        let first : q < p = grind (arith, nat_tests) in
        AllPairs-cons (λ x y. x < y) q (placed p qs) (all_placed (λ y. q < y) p qs first (pairs_head q qs a)) again

pairs_merged : (ps qs : List ℕ) → ((p : ℕ) → Contains ps p → Contains qs p → ⊥) → AllPairs (λ x y. x < y) ps → AllPairs (λ x y. x < y) qs → AllPairs (λ x y. x < y) (merged ps qs)
pairs_merged [] qs apart a b = b
pairs_merged (p ∷ ps) qs apart a b =
    pairs_placed p (merged ps qs)
    (λ c. ⊎_elim
    (λ d. let h = All-contains (λ y. p < y) ps p (pairs_head p ps a) d in omega arith)
    (λ d. apart p (contains_here p p ps refl) d)
    (contains_merged p ps qs c))
    (pairs_merged ps qs (λ q c d. apart q (contains_there q p ps c) d) (pairs_tail p ps a) b)

pub places_nil : (history : List Entry) → ArePlaces [] history
places_nil history = record { ascending = pairs_nil; below = All-nil (λ p. p < length history) }

-- positions stay positions of a history that is no shorter
pub places_longer : (mine : List ℕ) (xs ys : List Entry) → length xs ≤ length ys → ArePlaces mine xs → ArePlaces mine ys
places_longer mine xs ys longer places = record {
  ascending = places.ascending;
  below = All-weaker (λ p. p < length xs) (λ p. p < length ys) (λ p h. omega arith) mine places.below;
}

pub places_below : (mine : List ℕ) (history : List Entry) (p : ℕ) → ArePlaces mine history → Contains mine p → p < length history
places_below mine history p places c = All-contains (λ q. q < length history) mine p places.below c

pub places_after : (mine : List ℕ) (seen history : List Entry) → length seen ≤ length history → ArePlaces mine seen → ArePlaces (mine_after mine seen history) history
places_after mine seen history less places = by (nat_le (length history) (length seen)) refl
  where
    by : (b : Bool) → nat_le (length history) (length seen) ≡ b → ArePlaces (if b then mine else mine ++ length seen ∷ []) history
    by true e = places_longer mine seen history less places
    by false e = record {
      ascending = all_pairs_push (λ x y. x < y) mine (length seen) places.ascending places.below;
      below = All-push (λ p. p < length history) mine (length seen) (places_longer mine seen history less places).below (grind (arith, nat_tests));
    }

pub places_merged : (ps qs : List ℕ) (xs ys : List Entry) → ((p : ℕ) → Contains ps p → Contains qs p → ⊥) → ArePlaces ps xs → ArePlaces qs ys → ArePlaces (merged ps qs) (longer xs ys)
places_merged ps qs xs ys apart a b =
    let more = longer_length xs ys in
    record {
      ascending = pairs_merged ps qs apart a.ascending b.ascending;
      below = all_merged (λ p. p < length (longer xs ys)) ps qs (places_longer ps xs (longer xs ys) more.0 a).below (places_longer qs ys (longer xs ys) more.1 b).below;
    }
