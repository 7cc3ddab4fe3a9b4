-- Uses of snapshots that are given up one after another.
use Rattle.std.proofs.Common.{add-one, ap, arith, get_or, refl, subst, sym, ◌∙◌}
use Rattle.std.proofs.Math.Seq.{drop-cons}
use Rattle.std.proofs.lemmas.Bool.Decides.{nat_tests}
use Rattle.std.specs.Prelude.{Bool, List, Option, [], drop, length, map, option_to_list, suc, true, ℕ, ◌<◌, ◌++◌, ◌+◌, ◌==◌, ◌∷◌, ◌≡◌, ◌≤◌}
use Rattle.snapshot_registry.specs.Snapshots.{Snaps, after_release, holders_at, is_registered}
use Rattle.core_state.proofs.Lists.{count_more, one_if}
use Rattle.core_state.proofs.Released.{released_all, some_holders, times}
use Rattle.core_state.specs.Lines.{once_released}
use Rattle.core_state.specs.State.{job_snapshot, snapshot_of, uses_of}
use Rattle.core_state.specs.declared.seat.Handle.{Handle}
use Rattle.core_state.specs.declared.seat.Seat.{Seat}
use Rattle.core_parts.specs.Ends.{CanRelease}

-- of two lists, the uses of the one are given up, and then those of the other
pub released_append : (snaps : Snaps) (xs ys : List ℕ) → once_released snaps (xs ++ ys) ≡ once_released (once_released snaps xs) ys
released_append snaps [] ys = refl
released_append snaps (x ∷ xs) ys = released_append (after_release snaps x) xs ys

times_append : (id : ℕ) (xs ys : List ℕ) → times id (xs ++ ys) ≡ times id xs + times id ys
times_append id [] ys = sym (zero_plus (times id ys))
  where
    zero_plus : (n : ℕ) → 0 + n ≡ n
    zero_plus n = omega arith
times_append id (x ∷ xs) ys =
    let here = count_more (λ (other : ℕ). other == id) x (xs ++ ys) in
    let there = count_more (λ (other : ℕ). other == id) x xs in
    let rest = times_append id xs ys in
    omega (arith, here, there, rest)

pub can_first : (snaps : Snaps) (xs ys : List ℕ) → CanRelease snaps (xs ++ ys) → CanRelease snaps xs
can_first snaps xs ys can = record {
  each = λ id.
      let all = can.each id in
      let both = times_append id xs ys in
      omega (arith, all, both);
}

-- the registry's law needs statuses, of which nothing depends here
pub can_rest : (snaps : Snaps) (xs ys : List ℕ) → CanRelease snaps (xs ++ ys) → CanRelease (once_released snaps xs) ys
can_rest snaps xs ys can = record {
  each = λ id.
      let all = can.each id in
      let both = times_append id xs ys in
      let left = (released_all [] snaps xs (can_first snaps xs ys can).each).holders id in
      omega (arith, all, both, left);
}

-- a use that is counted is of a registered snapshot
pub can_here : (snaps : Snaps) (id : ℕ) (ids : List ℕ) → CanRelease snaps (id ∷ ids) → is_registered snaps id ≡ true
can_here snaps id ids can =
    let all = can.each id in
    let here = count_more (λ (other : ℕ). other == id) id ids in
    some_holders snaps id (least (id == id) (same id) all here)
  where
    same : (id : ℕ) → (id == id) ≡ true
    same id = grind (arith, nat_tests)

    least : (b : Bool) → b ≡ true → times id (id ∷ ids) ≤ holders_at snaps id → times id (id ∷ ids) ≡ one_if b + times id ids → 1 ≤ holders_at snaps id
    least b e all here =
        let one : one_if b ≡ 1 = ap one_if e in
        omega (arith, all, here, one)

-- the uses of handles from a place on, of which the first is given up
pub release_step : (snaps : Snaps) (handles : List Handle) (i : ℕ) (handle : Handle) → i < length handles → handle ≡ get_or handles i handle → CanRelease snaps (map (λ (h : Handle). h.snapshot) (drop i handles))
    → (is_registered snaps handle.snapshot ≡ true) × CanRelease (after_release snaps handle.snapshot) (map (λ (h : Handle). h.snapshot) (drop (i + 1) handles))
    × (once_released snaps (map (λ (h : Handle). h.snapshot) (drop i handles)) ≡ once_released (after_release snaps handle.snapshot) (map (λ (h : Handle). h.snapshot) (drop (i + 1) handles)))
release_step snaps handles i handle within is can =
    let split : drop i handles ≡ handle ∷ drop (i + 1) handles = rw (add-one, drop-cons handles i handle) (ap (λ (h : Handle). h ∷ drop (suc i) handles) (sym is)) in
    let here = subst (λ (hs : List Handle). CanRelease snaps (map (λ (h : Handle). h.snapshot) hs)) split can in (
      can_here snaps handle.snapshot (map (λ (h : Handle). h.snapshot) (drop (i + 1) handles)) here,
      can_rest snaps (handle.snapshot ∷ []) (map (λ (h : Handle). h.snapshot) (drop (i + 1) handles)) here,
      ap (λ (hs : List Handle). once_released snaps (map (λ (h : Handle). h.snapshot) hs)) split,
    )

-- of a session's uses, that of its transaction is given up first, then that of its job
pub uses_second : (snaps : Snaps) (seat : Seat) (a b : Option ℕ) (after : Snaps) → a ≡ snapshot_of seat.state → b ≡ job_snapshot seat.job → after ≡ once_released snaps (option_to_list a) → CanRelease snaps (uses_of seat) → CanRelease after (option_to_list b)
uses_second snaps seat a b after a_is b_is is can =
    let rest = can_rest snaps (option_to_list (snapshot_of seat.state)) (option_to_list (job_snapshot seat.job) ++ map (λ (h : Handle). h.snapshot) seat.handles) can in
    rw (is, a_is, b_is) (can_first (once_released snaps (option_to_list (snapshot_of seat.state))) (option_to_list (job_snapshot seat.job)) (map (λ (h : Handle). h.snapshot) seat.handles) rest)

pub uses_third : (snaps : Snaps) (seat : Seat) (a b : Option ℕ) (after later : Snaps) → a ≡ snapshot_of seat.state → b ≡ job_snapshot seat.job → after ≡ once_released snaps (option_to_list a) → later ≡ once_released after (option_to_list b)
    → CanRelease snaps (uses_of seat) → CanRelease later (map (λ (h : Handle). h.snapshot) seat.handles)
uses_third snaps seat a b after later a_is b_is is then can =
    let rest = can_rest snaps (option_to_list (snapshot_of seat.state)) (option_to_list (job_snapshot seat.job) ++ map (λ (h : Handle). h.snapshot) seat.handles) can in
    rw (then, is, a_is, b_is) (can_rest (once_released snaps (option_to_list (snapshot_of seat.state))) (option_to_list (job_snapshot seat.job)) (map (λ (h : Handle). h.snapshot) seat.handles) rest)

-- all three at once
pub uses_whole : (snaps : Snaps) (seat : Seat) (a b : Option ℕ) (after later last : Snaps) → a ≡ snapshot_of seat.state → b ≡ job_snapshot seat.job → after ≡ once_released snaps (option_to_list a) → later ≡ once_released after (option_to_list b)
    → last ≡ once_released later (map (λ (h : Handle). h.snapshot) seat.handles) → last ≡ once_released snaps (uses_of seat)
uses_whole snaps seat a b after later last a_is b_is is then end =
    let first = released_append snaps (option_to_list (snapshot_of seat.state)) (option_to_list (job_snapshot seat.job) ++ map (λ (h : Handle). h.snapshot) seat.handles) in
    let second = released_append (once_released snaps (option_to_list (snapshot_of seat.state))) (option_to_list (job_snapshot seat.job)) (map (λ (h : Handle). h.snapshot) seat.handles) in
    rw (end, then, is, a_is, b_is) (sym (first ∙ second))

-- the uses after some others can be given up first
pub can_skip : (snaps : Snaps) (xs ys : List ℕ) → CanRelease snaps (xs ++ ys) → CanRelease snaps ys
can_skip snaps xs ys can = record {
  each = λ id.
      let all = can.each id in
      let both = times_append id xs ys in
      omega (arith, all, both);
}
