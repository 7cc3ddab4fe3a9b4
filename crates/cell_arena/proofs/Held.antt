-- Ids that are held, as one is added or taken.
use Rattle.std.proofs.Common.{◌≡◌, ◌≢◌, ◌⊎◌, inl, inr, ℕ, ◌<◌, List, [], ◌∷◌, ◌++◌, length, set, get_or-set_same, Option, Some, None, sym, ap, ◌∙◌, subst, arith}
use mathlib.Core.Option.{some}
use mathlib.Core.Logic.{dite}
use native.Mathlib.Decide.{ℕ_discrete}
use lib.ListN.{get_elem?}
use Rattle.cell_arena.specs.Cells.{cell_at}
use Rattle.cell_arena.specs.Held.{AreHeld}
use Rattle.cell_arena.proofs.Lists.{at_snoc, get_below, set_else, set_there}
use Rattle.cell_arena.proofs.Consequences.{get_other}

abbrev number_or : ℕ → Option ℕ → ℕ
number_or d (Some n) = n
number_or d None = d

same_number : (n m : ℕ) → Some n ≡ Some m → n ≡ m
same_number n m e = ap (number_or n) e

abbrev is_there : Option ℕ → Type 0
is_there (Some n) = Unit {0}
is_there None = ⊥

pub held_none : (cells : List (List ℕ)) → AreHeld cells []
held_none cells = record { each = λ k n q. absurd (omega (arith, get_below [] k (Some n) q)); apart = λ j k n q r. absurd (omega (arith, get_below [] k (Some n) r)) }

pub held_more : (cells : List (List ℕ)) (ids : List (Option ℕ)) (n : ℕ) (bytes : List ℕ) → AreHeld cells ids → n < length cells → cell_at cells n ≡ [] → 0 < length bytes
    → AreHeld (set cells n bytes) (ids ++ Some n ∷ [])
held_more cells ids n bytes h below free some_bytes = record {
  each = λ k m q. each m (at_snoc ids (Some n) (Some m) k q);
  apart = λ j k m q r. apart j k m (at_snoc ids (Some n) (Some m) j q) (at_snoc ids (Some n) (Some m) k r);
}
  where
    differs : (k m : ℕ) → get_elem? ids k ≡ some (Some m) → m ≢ n
    differs k m q same = h.each k m q (ap (cell_at cells) same ∙ free)

    new : cell_at (set cells n bytes) n ≢ []
    new z = let e = ap length (sym (get_or-set_same cells n bytes [] below) ∙ z) in omega (arith, e, some_bytes)

    each : (m : ℕ) {k : ℕ} → (get_elem? ids k ≡ some (Some m)) ⊎ ((k ≡ length ids) × (Some n ≡ Some m)) → cell_at (set cells n bytes) m ≢ []
    each m {k = k} (inl q) z = h.each k m q (sym (get_other cells n m bytes (differs k m q)) ∙ z)
    each m {k = k} (inr t) z = new (ap (cell_at (set cells n bytes)) (same_number n m t.1) ∙ z)

    apart : (j k m : ℕ) → (get_elem? ids j ≡ some (Some m)) ⊎ ((j ≡ length ids) × (Some n ≡ Some m)) → (get_elem? ids k ≡ some (Some m)) ⊎ ((k ≡ length ids) × (Some n ≡ Some m)) → j ≡ k
    apart j k m (inl q) (inl r) = h.apart j k m q r
    apart j k m (inl q) (inr t) = absurd (differs j m q (sym (same_number n m t.1)))
    apart j k m (inr t) (inl r) = absurd (differs k m r (sym (same_number n m t.1)))
    apart j k m (inr t) (inr u) = t.0 ∙ sym u.0

pub held_less : (cells : List (List ℕ)) (ids : List (Option ℕ)) (k n : ℕ) → AreHeld cells ids → get_elem? ids k ≡ some (Some n)
    → AreHeld (set cells n []) (set ids k None)
held_less cells ids k n h there = record {
  each = λ j m q z. let old = kept j m q in h.each j m old.0 (sym (get_other cells n m [] (λ same. old.1 (h.apart j k n (old.0 ∙ ap (λ (x : ℕ). some (Some x)) same) there))) ∙ z);
  apart = λ i j m q r. h.apart i j m (kept i m q).0 (kept j m r).0;
}
  where
    kept : (j m : ℕ) → get_elem? (set ids k None) j ≡ some (Some m) → (get_elem? ids j ≡ some (Some m)) × (j ≢ k)
    kept j m q = dite (ℕ_discrete j k)
        (λ (same : j ≡ k). absurd (subst is_there (sym (set_there ids k None (Some m) (ap (get_elem? (set ids k None)) (sym same) ∙ q))) tt))
        (λ ne. (sym (set_else ids k j None ne) ∙ q, ne))
