-- The laws.
use Rattle.std.proofs.Common.{◌≡◌, ◌≢◌, ◌⊎◌, inl, inr, ℕ, zero, suc, ◌+◌, ◌/◌, ◌<◌, ◌≤◌, List, [], ◌∷◌, length, take, drop, set, get_or, get_or-set_same, refl, ap, arith}
use Rattle.cell_arena.specs.Cells.{blocks_for, busy_among, busy_blocks, used}
use Rattle.cell_arena.specs.Laws.{EmptyArenasAreSmall, WritesStayApart}
use Rattle.cell_arena.proofs.UsedCells.{used_cons}

used_front : (n : ℕ) (cells : List (List ℕ)) → used cells ≡ 0 → (used (take n cells) ≡ 0) × (used (drop n cells) ≡ 0)
used_front zero cells e = (refl, e)
used_front (suc n) [] e = (refl, refl)
used_front (suc n) (x ∷ xs) e =
    let all = used_cons x xs in
    let head = used_cons x (take n xs) in
    let rest = used_front n xs (omega (arith, all, e)) in
    let front = rest.0 in
    (omega (arith, all, head, front, e), rest.1)

busy_none : (n : ℕ) (cells : List (List ℕ)) → used cells ≡ 0 → busy_among n cells ≡ 0
busy_none zero cells e = refl
busy_none (suc n) cells e =
    let parts = used_front 64 cells e in
    let first = parts.0 in
    let rest = busy_none n (drop 64 cells) parts.1 in
    omega (arith, first, rest)

pub empty_arenas_are_small : EmptyArenasAreSmall
empty_arenas_are_small old new keep given back all none = by back.until
  where
    by : (new.spare < keep + 64) ⊎ (new.blocks ≡ busy_blocks new.cells) → new.blocks ≤ blocks_for keep
    by (inl few) = omega (arith, few, all, none)
    by (inr busy) = let no = busy_none (length new.cells / 64) new.cells none in omega (arith, busy, no)

pub get_other : (cells : List (List ℕ)) (number other : ℕ) (bytes : List ℕ) → other ≢ number → get_or (set cells number bytes) other [] ≡ get_or cells other []
get_other [] number other bytes ne = refl
get_other (x ∷ xs) zero zero bytes ne = absurd (ne refl)
get_other (x ∷ xs) zero (suc other) bytes ne = refl
get_other (x ∷ xs) (suc number) zero bytes ne = refl
get_other (x ∷ xs) (suc number) (suc other) bytes ne = get_other xs number other bytes (λ e. ne (ap suc e))

pub writes_stay_apart : WritesStayApart
writes_stay_apart cells number other bytes below = (get_or-set_same cells number bytes [] below, get_other cells number other bytes)
