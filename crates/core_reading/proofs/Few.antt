-- Names of 16 bits are few, and so are the handles and the uses of a snapshot.
use Rattle.std.proofs.Common.{ap, arith, cond, inl, inr, refl, subst, sym, ◌∙◌}
use Rattle.std.proofs.lemmas.Bool.{cases_lt}
use Rattle.std.proofs.lemmas.Bool.Decides.{nat_tests}
use Rattle.std.proofs.lemmas.List.{length-append, length-map}
use Rattle.std.proofs.lemmas.List.Sums.{count_by-le-length, sum_by-cons}
use Rattle.std.specs.Ordering.{nat_cmp}
use Rattle.std.specs.List.Sorted.{IsStrictlySortedBy}
use Rattle.std.specs.Prelude.{Bool, List, None, Option, Some, [], false, length, map, nat_lt, option_to_list, slice_get, slice_index_or, suc, sum_by, true, zero, ℕ, ◌*◌, ◌++◌, ◌+◌, ◌-◌, ◌<◌, ◌==◌, ◌∷◌, ◌≡◌, ◌≤◌}
use Rattle.snapshot_registry.specs.Snapshots.{holders_at}
use Rattle.core_state.proofs.Moved.{state_uses}
use Rattle.core_state.proofs.Seats.{seat_there, sound_of, uses_by}
use Rattle.core_state.proofs.Uses.{registered_use}
use Rattle.core_state.specs.Facts.{IsSound}
use Rattle.core_state.specs.State.{CoreState, IsSession, handle_of, job_snapshot, seat_of, snapshot_of, uses_of}
use Rattle.core_state.specs.declared.seat.Handle.{Handle}
use Rattle.core_state.specs.declared.seat.Seat.{Seat}
use Rattle.core_parts.specs.Takes.{locked}
use Rattle.core_reading.specs.Handles.{AreFew, AreNamed, CanKeep}
use Rattle.std.specs.declared.cmp.Ordering.TheVariants as orders

-- ---- one session's handles

less_of : (a b : ℕ) → nat_cmp a b ≡ orders.Less → a < b
less_of a b e = by (nat_lt a b) refl e
  where
    by : (t : Bool) → nat_lt a b ≡ t → cond t orders.Less (cond (a == b) orders.Equal orders.Greater) ≡ orders.Less → a < b
    by true is e = grind (arith, nat_tests, is)
    by false is e = no (a == b) e
      where
        no : (t : Bool) → cond t orders.Equal orders.Greater ≡ orders.Less → a < b
        no true e = absurd (cc)
        no false e = absurd (cc)

-- there are no more handles from one on than names up to the last one's
few_after : (x : Handle) (xs : List Handle) (k : ℕ) (last : Handle) → AreNamed (x ∷ xs) → k ≡ length xs → slice_get (x ∷ xs) k ≡ Some last → length xs + x.name ≤ last.name
unfolding IsStrictlySortedBy
few_after x [] zero last named long at =
    let is : x ≡ last = cc in
    let same : x.name ≡ last.name = ap (λ (h : Handle). h.name) is in
    omega (arith, same)
few_after x [] (suc k) last named long at = absurd (omega (arith, long))
few_after x (y ∷ ys) zero last named long at = absurd (omega (arith, long))
few_after x (y ∷ ys) (suc k) last named long at =
    let rest = few_after y ys k last named.1 (omega (arith, long)) at in
    let less = less_of x.name y.name named.0.0 in
    omega (arith, rest, less)

pub few_by_last : (handles : List Handle) (k : ℕ) (last : Handle) → k ≡ length handles - 1 → slice_get handles k ≡ Some last → last.name < 65536 → AreNamed handles → length handles ≤ 65536
few_by_last [] k last long at small named = omega arith
few_by_last (x ∷ xs) k last long at small named =
    let rest = few_after x xs k last named (omega (arith, long)) at in
    omega (arith, rest, small)

pub few_if_none : (handles : List Handle) (k : ℕ) → k ≡ length handles - 1 → None ≡ slice_get handles k → length handles ≤ 65536
few_if_none [] k long at = omega arith
few_if_none (x ∷ xs) k long at = absurd (there (x ∷ xs) k (omega (arith, long)) at)
  where
    there : (ys : List Handle) (n : ℕ) → n < length ys → None ≡ slice_get ys n → ⊥
    there [] n h e = absurd (omega (arith, h))
    there (y ∷ ys) zero h e = absurd (cc)
    there (y ∷ ys) (suc n) h e = there ys n (omega (arith, h)) e

-- ---- each session's

pub each_more : {T : Type 0} (P : T → Type 0) (xs : List T) (i : ℕ) (x : T) → slice_get xs i ≡ Some x → P x → ((k : ℕ) (y : T) → k < i → slice_get xs k ≡ Some y → P y) → (k : ℕ) (y : T) → k < i + 1 → slice_get xs k ≡ Some y → P y
each_more P xs i x at here before k y h there = elim (cases_lt k i) [
  | inl below ↦ before k y below there
  | inr past ↦
      let same : k ≡ i = omega (arith, h, past) in
      let is : Some x ≡ Some y = sym at ∙ ap (slice_get xs) (sym same) ∙ there in
      let one : x ≡ y = cc in
      subst P one here
]

pub there_at : {T : Type 0} (xs : List T) (i : ℕ) (x : T) → i < length xs → x ≡ slice_index_or xs i x → slice_get xs i ≡ Some x
there_at [] i x h is = absurd (omega (arith, h))
there_at (y ∷ ys) zero x h is = ap Some (sym is)
there_at (y ∷ ys) (suc i) x h is = there_at ys i x (omega (arith, h)) is

-- ---- the uses of a snapshot

one_at_most : (o : Option ℕ) → length (option_to_list o) ≤ 1
one_at_most None = omega arith
one_at_most (Some id) = omega arith

uses_few : (id : ℕ) (seat : Seat) → length seat.handles ≤ 65536 → uses_by id seat ≤ 65538
uses_few id seat few =
    let mine = one_at_most (snapshot_of seat.state) in
    let job = one_at_most (job_snapshot seat.job) in
    let handles = length-map seat.handles (λ (handle : Handle). handle.snapshot) in
    let rest = length-append (option_to_list (job_snapshot seat.job)) (map (λ (handle : Handle). handle.snapshot) seat.handles) in
    let all = length-append (option_to_list (snapshot_of seat.state)) (option_to_list (job_snapshot seat.job) ++ map (λ (handle : Handle). handle.snapshot) seat.handles) in
    let count = count_by-le-length (λ (other : ℕ). other == id) (uses_of seat) in
    omega (arith, mine, job, handles, rest, all, count, few)

sum_few : (id : ℕ) (seats : List Seat) → ((i : ℕ) (seat : Seat) → slice_get seats i ≡ Some seat → length seat.handles ≤ 65536) → sum_by (uses_by id) seats ≤ length seats * 65538
sum_few id [] few = omega arith
sum_few id (seat ∷ seats) few =
    let first = uses_few id seat (few 0 seat refl) in
    let rest = sum_few id seats (λ i other at. few (suc i) other at) in
    let all = sum_by-cons (uses_by id) seat seats in
    omega (arith, first, rest, all)

holders_few : (c : CoreState) (id : ℕ) → AreFew c.seats → IsSound c → holders_at c.snaps id < 4294967295
holders_few c id few sound =
    let each = sum_few id c.seats (λ i seat at. few.each i seat at (sound.each i seat at).handles.named) in
    let counted = sound.counted id in
    let most = sound.few.1 in
    omega (arith, each, counted, most)

-- so a session can keep a value more
pub can_keep : (c : CoreState) (s name : ℕ) → IsSession c.seats s → IsSound c → AreFew c.seats → handle_of (seat_of c s).handles name ≡ None → CanKeep (seat_of c s) c.snaps name
can_keep c s name there sound few new = record {
  named = (sound_of c s there sound).handles.named;
  new = new;
  registered = λ id e. registered_use c (s - 1) (seat_of c s) id (seat_there c.seats s there) (state_uses (seat_of c s) id e) sound;
  few = λ id. holders_few c id few sound;
}

-- ---- as the code has them

pub few_by : (c view : CoreState) (seats : List Seat) → view ≡ c → seats ≡ view.seats → AreFew seats → AreFew c.seats
few_by c view seats same is few = subst (λ (v : CoreState). AreFew v.seats) same (subst AreFew is few)

-- in a core in which the session uses a table
pub keeps_by : (c used : CoreState) (s t name : ℕ) → used ≡ locked c s t → CanKeep (seat_of c s) c.snaps name → CanKeep (seat_of used s) used.snaps name
keeps_by c used s t name is keeps = subst (λ (u : CoreState). CanKeep (seat_of u s) u.snaps name) (sym is) keeps
