-- How many cells hold bytes, after one has changed.
use Rattle.std.proofs.Common.{◌≡◌, ◌≢◌, ℕ, zero, suc, ◌+◌, ◌<◌, ◌≤◌, List, [], ◌∷◌, ◌++◌, length, set, get_or, replicate, refl, sym, ap, arith}
use mathlib.Core.Option.{some, some-ne-none, some-injective}
use lib.ListN.{get_elem?}
use Rattle.cell_arena.specs.Cells.{used}

-- 1 for a cell that holds bytes
abbrev pub one : List ℕ → ℕ
one [] = 0
one (x ∷ xs) = 1

pub used_cons : (b : List ℕ) (cells : List (List ℕ)) → used (b ∷ cells) ≡ one b + used cells
used_cons [] cells = omega arith
used_cons (x ∷ xs) cells = refl

pub one_empty : (b : List ℕ) → b ≡ [] → one b ≡ 0
one_empty b e = ap one e

pub one_full : (b : List ℕ) → 0 < length b → one b ≡ 1
one_full [] l = absurd (omega arith)
one_full (x ∷ xs) l = refl

pub one_held : (b : List ℕ) → b ≢ [] → one b ≡ 1
one_held [] n = absurd (n refl)
one_held (x ∷ xs) n = refl

pub one_small : (b : List ℕ) → one b ≤ 1
one_small [] = omega arith
one_small (x ∷ xs) = omega arith

pub used_set : (cells : List (List ℕ)) (i : ℕ) (b d : List ℕ) → get_elem? cells i ≡ some b → used (set cells i d) + one b ≡ used cells + one d
used_set [] i b d e = absurd (some-ne-none b (sym e))
used_set (x ∷ xs) zero b d e =
    let same : one x ≡ one b = ap one (some-injective x b e) in
    let old = used_cons x xs in
    let new = used_cons d xs in
    omega (arith, same, old, new)
used_set (x ∷ xs) (suc i) b d e =
    let m = used_set xs i b d e in
    let old = used_cons x xs in
    let new = used_cons x (set xs i d) in
    omega (arith, m, old, new)

pub used_append : (xs ys : List (List ℕ)) → used (xs ++ ys) ≡ used xs + used ys
used_append [] ys = omega arith
used_append (x ∷ xs) ys =
    let m = used_append xs ys in
    let old = used_cons x xs in
    let new = used_cons x (xs ++ ys) in
    omega (arith, m, old, new)

pub used_replicate : (n : ℕ) → used (replicate n []) ≡ 0
used_replicate zero = refl
used_replicate (suc n) = used_replicate n

pub used_length : (cells : List (List ℕ)) → used cells ≤ length cells
used_length [] = omega arith
used_length (x ∷ xs) = let m = used_length xs in let o = used_cons x xs in let s = one_small x in omega (arith, m, o, s)

-- where a cell holds bytes, some do
pub used_some : (cells : List (List ℕ)) (i : ℕ) → get_or cells i [] ≢ [] → 0 < used cells
used_some [] i holds = absurd (holds refl)
used_some (x ∷ xs) zero holds = let o = used_cons x xs in let f = one_held x holds in omega (arith, o, f)
used_some (x ∷ xs) (suc i) holds = let l = used_some xs i holds in let o = used_cons x xs in omega (arith, l, o)

-- where none does, all are free
pub used_none : (cells : List (List ℕ)) → used cells ≡ 0 → cells ≡ replicate (length cells) []
used_none [] e = refl
used_none ([] ∷ xs) e = ap (λ (l : List (List ℕ)). [] ∷ l) (used_none xs e)
used_none ((x ∷ b) ∷ xs) e = absurd (omega (arith, e))
