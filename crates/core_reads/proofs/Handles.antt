-- The open handles of a session with one more, or with one less: they are in order by name, each is found by its name, and their snapshots are counted.
use Rattle.std.proofs.Common.{ap, arith, cond, inl, inr, refl, subst, sym, ◌∙◌}
use Rattle.std.proofs.lemmas.Bool.Decides.{nat_tests}
use Rattle.std.proofs.lemmas.List.Kept.{IsStrictlySortedBy-filter}
use Rattle.std.proofs.lemmas.Map.Keys.{sorted_head, sorted_tail}
use Rattle.std.specs.List.Sorted.{IsStrictlySortedBy}
use Rattle.std.specs.List.{AllByRecursion, filter}
use Rattle.std.specs.Ordering.{nat_cmp}
use Rattle.std.specs.Prelude.{Bool, Contains, List, None, Option, Some, [], false, map, nat_lt, not, true, ℕ, ◌++◌, ◌+◌, ◌<◌, ◌==◌, ◌∷◌, ◌≡◌, ◌⊎◌}
use Rattle.std.specs.declared.cmp.Ordering.TheVariants.{Less}
use Rattle.std.specs.declared.cmp.Ordering.{Ordering}
use Rattle.list_facts.proofs.Members.{cases_in, filter_holds, find-append_none, find-append_some, first_in, found_in, later_in, none_in_nil}
use Rattle.core_state.proofs.Lists.{count_more, in_append, one_if}
use Rattle.core_state.proofs.Released.{times}
use Rattle.core_state.specs.Lines.{with_handle}
use Rattle.core_state.specs.State.{handle_of}
use Rattle.core_state.specs.declared.seat.Handle.{Handle}

-- ---- the order of names

abbrev pub by_name : Handle → Handle → Ordering
by_name handle other = nat_cmp handle.name other.name

less_name : (a b : ℕ) → nat_cmp a b ≡ Less → a < b
less_name a b e = grind (arith, nat_tests)

name_less : (a b : ℕ) → a < b → nat_cmp a b ≡ Less
name_less a b e = grind (arith, nat_tests)

-- what holds of all holds of each
each_of : {X : Type 0} (P : X → Type 0) (xs : List X) (x : X) → AllByRecursion P xs → Contains xs x → P x
each_of P [] x all e = absurd (none_in_nil x e)
each_of P (y ∷ ys) x all e = elim (cases_in y ys x e) [
  | inl is ↦ subst P is all.0
  | inr later ↦ each_of P ys x all.1 later
]

all_from : {X : Type 0} (P : X → Type 0) (xs : List X) → ((x : X) → Contains xs x → P x) → AllByRecursion P xs
all_from P [] each = tt
all_from P (y ∷ ys) each = (each y (first_in y ys y refl), all_from P ys (λ x e. each x (later_in y ys x e)))

-- an element below all of a list in order may be put before it
sorted_cons : {K : Type 0} (c : K → K → Ordering) (k : K) (ks : List K) → ((x : K) → Contains ks x → c k x ≡ Less) → IsStrictlySortedBy c ks → IsStrictlySortedBy c (k ∷ ks)
unfolding IsStrictlySortedBy
sorted_cons c k ks first sorted = (all_from (λ x. c k x ≡ Less) ks first, sorted)

-- two lists in order, and a handle between them
join : (front behind : List Handle) (handle : Handle) → IsStrictlySortedBy by_name front → IsStrictlySortedBy by_name behind → ((x : Handle) → Contains front x → x.name < handle.name) → ((y : Handle) → Contains behind y → handle.name < y.name)
    → IsStrictlySortedBy by_name (front ++ handle ∷ behind)
join [] behind handle sorted after below above = sorted_cons by_name handle behind (λ y e. name_less handle.name y.name (above y e)) after
join (x ∷ xs) behind handle sorted after below above =
    let first = below x (first_in x xs x refl) in
    sorted_cons by_name x (xs ++ handle ∷ behind)
    (λ y e. elim (in_append xs (handle ∷ behind) y e) [
      | inl inside ↦ each_of (λ (z : Handle). by_name x z ≡ Less) xs y (sorted_head by_name x xs sorted) inside
      | inr past ↦ elim (cases_in handle behind y past) [
        | inl is ↦
            let same : handle.name ≡ y.name = ap (λ (h : Handle). h.name) is in
            name_less x.name y.name (omega (arith, first, same))
        | inr later ↦
            let next = above y later in
            name_less x.name y.name (omega (arith, first, next))
      ]
    ]) (join xs behind handle (sorted_tail by_name x xs sorted) after (λ y e. below y (later_in x xs y e)) above)

pub sorted_opened : (handles : List Handle) (handle : Handle) → IsStrictlySortedBy by_name handles → IsStrictlySortedBy by_name (with_handle handles handle)
sorted_opened handles handle sorted =
    join (filter (λ other. nat_lt other.name handle.name) handles) (filter (λ other. nat_lt handle.name other.name) handles) handle
    (IsStrictlySortedBy-filter by_name (λ other. nat_lt other.name handle.name) handles sorted) (IsStrictlySortedBy-filter by_name (λ other. nat_lt handle.name other.name) handles sorted)
    (λ x e.
    let passes = (filter_holds (λ (other : Handle). nat_lt other.name handle.name) handles x e).1 in
    grind (arith, nat_tests, passes))
    (λ y e.
    let passes = (filter_holds (λ (other : Handle). nat_lt handle.name other.name) handles y e).1 in
    grind (arith, nat_tests, passes))

pub sorted_closed : (handles : List Handle) (name : ℕ) → IsStrictlySortedBy by_name handles → IsStrictlySortedBy by_name (filter (λ other. not (other.name == name)) handles)
sorted_closed handles name sorted = IsStrictlySortedBy-filter by_name (λ other. not (other.name == name)) handles sorted

-- a handle that is open then is the new one, or was open
pub among_opened : (handles : List Handle) (handle other : Handle) → Contains (with_handle handles handle) other → (handle ≡ other) ⊎ Contains handles other
among_opened handles handle other e = elim (in_append (filter (λ (h : Handle). nat_lt h.name handle.name) handles) (handle ∷ filter (λ (h : Handle). nat_lt handle.name h.name) handles) other e) [
  | inl front ↦ inr (filter_holds (λ (h : Handle). nat_lt h.name handle.name) handles other front).0
  | inr rest ↦ elim (cases_in handle (filter (λ (h : Handle). nat_lt handle.name h.name) handles) other rest) [
    | inl is ↦ inl is
    | inr behind ↦ inr (filter_holds (λ (h : Handle). nat_lt handle.name h.name) handles other behind).0
  ]
]

-- ---- found by name

-- among the handles whose names pass a test
find_kept : (p : ℕ → Bool) (handles : List Handle) (n : ℕ) → handle_of (filter (λ h. p h.name) handles) n ≡ cond (p n) (handle_of handles n) None
find_kept p [] n = by (p n)
  where
    by : (b : Bool) → handle_of [] n ≡ cond b (handle_of [] n) None
    by true = refl
    by false = refl
find_kept p (x ∷ xs) n = by (p x.name) (x.name == n) refl refl (find_kept p xs n)
  where
    by : (a b : Bool) → p x.name ≡ a → (x.name == n) ≡ b → handle_of (filter (λ (h : Handle). p h.name) xs) n ≡ cond (p n) (handle_of xs n) None
        → handle_of (cond a (x ∷ filter (λ (h : Handle). p h.name) xs) (filter (λ (h : Handle). p h.name) xs)) n ≡ cond (p n) (cond b (Some x) (handle_of xs n)) None
    by true true passes same tail =
        let is : x.name ≡ n = grind (arith, nat_tests, same) in
        let here : p n ≡ true = ap p (sym is) ∙ passes in
        ap (λ (b : Bool). cond b (Some x) (handle_of (filter (λ (h : Handle). p h.name) xs) n)) same ∙ sym (ap (λ (b : Bool). cond b (Some x) None) here)
    by true false passes differ tail = ap (λ (b : Bool). cond b (Some x) (handle_of (filter (λ (h : Handle). p h.name) xs) n)) differ ∙ tail
    by false true fails same tail =
        let is : x.name ≡ n = grind (arith, nat_tests, same) in
        let here : p n ≡ false = ap p (sym is) ∙ fails in
        tail ∙ ap (λ (b : Bool). cond b (handle_of xs n) None) here ∙ sym (ap (λ (b : Bool). cond b (Some x) None) here)
    by false false fails differ tail = tail

pub found_closed : (handles : List Handle) (name n : ℕ) → handle_of (filter (λ other. not (other.name == name)) handles) n ≡ cond (n == name) None (handle_of handles n)
found_closed handles name n = find_kept (λ (m : ℕ). not (m == name)) handles n ∙ by (n == name)
  where
    by : (b : Bool) → cond (not b) (handle_of handles n) None ≡ cond b None (handle_of handles n)
    by true = refl
    by false = refl

-- the first of two, if there is one
abbrev by_first : Option Handle → Option Handle → Option Handle
by_first None other = other
by_first (Some x) other = Some x

-- in front of a handle, at it, and behind it
found_joined : (front behind : List Handle) (handle : Handle) (n : ℕ) (o : Option Handle) → handle_of front n ≡ o → handle_of (front ++ handle ∷ behind) n ≡ by_first o (cond (handle.name == n) (Some handle) (handle_of behind n))
found_joined front behind handle n None e = find-append_none (λ (h : Handle). h.name == n) front (handle ∷ behind) e
found_joined front behind handle n (Some x) e = find-append_some (λ (h : Handle). h.name == n) front (handle ∷ behind) x e

pub found_opened : (handles : List Handle) (handle : Handle) (n : ℕ) → handle_of (with_handle handles handle) n ≡ cond (n == handle.name) (Some handle) (handle_of handles n)
found_opened handles handle n =
    found_joined (filter (λ other. nat_lt other.name handle.name) handles) (filter (λ other. nat_lt handle.name other.name) handles) handle n (cond (nat_lt n handle.name) (handle_of handles n) None)
    (find_kept (λ (m : ℕ). nat_lt m handle.name) handles n)
    ∙ ap (λ (o : Option Handle). by_first (cond (nat_lt n handle.name) (handle_of handles n) None) (cond (handle.name == n) (Some handle) o)) (find_kept (λ (m : ℕ). nat_lt handle.name m) handles n)
    ∙ by (nat_lt n handle.name) (handle.name == n) (nat_lt handle.name n) (n == handle.name) refl refl refl refl (handle_of handles n)
  where
    by : (less same more is : Bool) → nat_lt n handle.name ≡ less → (handle.name == n) ≡ same → nat_lt handle.name n ≡ more → (n == handle.name) ≡ is → (o : Option Handle)
        → by_first (cond less o None) (cond same (Some handle) (cond more o None)) ≡ cond is (Some handle) o
    by true true more is a b c d o = absurd (grind (arith, nat_tests, a, b))
    by true false more true a b c d o = absurd (grind (arith, nat_tests, a, d))
    by true false true false a b c d o = absurd (grind (arith, nat_tests, a, c))
    by true false false false a b c d None = refl
    by true false false false a b c d (Some x) = refl
    by false true more true a b c d o = refl
    by false true more false a b c d o = absurd (grind (arith, nat_tests, b, d))
    by false false true true a b c d o = absurd (grind (arith, nat_tests, c, d))
    by false false true false a b c d o = refl
    by false false false true a b c d o = absurd (grind (arith, nat_tests, b, d))
    by false false false false a b c d o = absurd (grind (arith, nat_tests, a, b, c))

-- ---- their snapshots

abbrev pub snapshots_of : List Handle → List ℕ
snapshots_of handles = map (λ handle. handle.snapshot) handles

times_join : (id : ℕ) (front behind : List Handle) (handle : Handle) → times id (snapshots_of (front ++ handle ∷ behind)) ≡ times id (snapshots_of front) + times id (snapshots_of behind) + one_if (handle.snapshot == id)
times_join id [] behind handle =
    let more = count_more (λ (n : ℕ). n == id) handle.snapshot (snapshots_of behind) in
    let none : times id [] ≡ 0 = refl in
    omega (arith, more, none)
times_join id (x ∷ xs) behind handle =
    let rest = times_join id xs behind handle in
    let new = count_more (λ (n : ℕ). n == id) x.snapshot (snapshots_of (xs ++ handle ∷ behind)) in
    let old = count_more (λ (n : ℕ). n == id) x.snapshot (snapshots_of xs) in
    omega (arith, rest, new, old)

-- those below a name and those above it are all, where none has the name
times_parted : (id name : ℕ) (handles : List Handle) → handle_of handles name ≡ None → times id (snapshots_of (filter (λ other. nat_lt other.name name) handles)) + times id (snapshots_of (filter (λ other. nat_lt name other.name) handles)) ≡ times id (snapshots_of handles)
times_parted id name [] none =
    let zero_ : times id [] ≡ 0 = refl in
    omega (arith, zero_)
times_parted id name (x ∷ xs) none = by (x.name == name) (nat_lt x.name name) (nat_lt name x.name) refl refl refl none (λ e. times_parted id name xs e)
  where
    front : List Handle
    front = filter (λ other. nat_lt other.name name) xs

    behind : List Handle
    behind = filter (λ other. nat_lt name other.name) xs

    by : (same less more : Bool) → (x.name == name) ≡ same → nat_lt x.name name ≡ less → nat_lt name x.name ≡ more → cond same (Some x) (handle_of xs name) ≡ None
        → (handle_of xs name ≡ None → times id (snapshots_of front) + times id (snapshots_of behind) ≡ times id (snapshots_of xs))
        → times id (snapshots_of (cond less (x ∷ front) front)) + times id (snapshots_of (cond more (x ∷ behind) behind)) ≡ times id (snapshots_of (x ∷ xs))
    by true less more a b c e tail = absurd (cc)
    by false true true a b c e tail = absurd (grind (arith, nat_tests, b, c))
    by false true false a b c e tail =
        let rest = tail e in
        let new = count_more (λ (n : ℕ). n == id) x.snapshot (snapshots_of front) in
        let old = count_more (λ (n : ℕ). n == id) x.snapshot (snapshots_of xs) in
        omega (arith, rest, new, old)
    by false false true a b c e tail =
        let rest = tail e in
        let new = count_more (λ (n : ℕ). n == id) x.snapshot (snapshots_of behind) in
        let old = count_more (λ (n : ℕ). n == id) x.snapshot (snapshots_of xs) in
        omega (arith, rest, new, old)
    by false false false a b c e tail = absurd (grind (arith, nat_tests, a, b, c))

pub times_opened : (id : ℕ) (handles : List Handle) (handle : Handle) → handle_of handles handle.name ≡ None → times id (snapshots_of (with_handle handles handle)) ≡ times id (snapshots_of handles) + one_if (handle.snapshot == id)
times_opened id handles handle none =
    let joined = times_join id (filter (λ other. nat_lt other.name handle.name) handles) (filter (λ other. nat_lt handle.name other.name) handles) handle in
    let parted = times_parted id handle.name handles none in
    omega (arith, joined, parted)

-- in a list in order no other has the name of the first
alone_first : (x : Handle) (xs : List Handle) → IsStrictlySortedBy by_name (x ∷ xs) → handle_of xs x.name ≡ None
alone_first x xs sorted = by (handle_of xs x.name) refl
  where
    by : (o : Option Handle) → handle_of xs x.name ≡ o → o ≡ None
    by None e = refl
    by (Some y) e =
        let found = found_in (λ (h : Handle). h.name == x.name) xs y e in
        let less = less_name x.name y.name (each_of (λ (z : Handle). by_name x z ≡ Less) xs y (sorted_head by_name x xs sorted) found.0) in
        let same = found.1 in
        absurd (grind (arith, nat_tests, less, same))

-- where none has a name, all stay without it
all_stay : (handles : List Handle) (name : ℕ) → handle_of handles name ≡ None → filter (λ other. not (other.name == name)) handles ≡ handles
all_stay [] name none = refl
all_stay (x ∷ xs) name none = by (x.name == name) none (λ e. all_stay xs name e)
  where
    by : (b : Bool) → cond b (Some x) (handle_of xs name) ≡ None → (handle_of xs name ≡ None → filter (λ other. not (other.name == name)) xs ≡ xs) → cond (not b) (x ∷ filter (λ other. not (other.name == name)) xs) (filter (λ other. not (other.name == name)) xs) ≡ x ∷ xs
    by true e tail = absurd (cc)
    by false e tail = ap (λ (hs : List Handle). x ∷ hs) (tail e)

pub times_closed : (id name : ℕ) (handles : List Handle) (handle : Handle) → IsStrictlySortedBy by_name handles → handle_of handles name ≡ Some handle
    → times id (snapshots_of (filter (λ other. not (other.name == name)) handles)) + times id (handle.snapshot ∷ []) ≡ times id (snapshots_of handles)
times_closed id name [] handle sorted at = absurd (cc)
times_closed id name (x ∷ xs) handle sorted at = by (x.name == name) refl at (λ e. times_closed id name xs handle (sorted_tail by_name x xs sorted) e)
  where
    left : List Handle
    left = filter (λ other. not (other.name == name)) xs

    by : (b : Bool) → (x.name == name) ≡ b → cond b (Some x) (handle_of xs name) ≡ Some handle → (handle_of xs name ≡ Some handle → times id (snapshots_of left) + times id (handle.snapshot ∷ []) ≡ times id (snapshots_of xs))
        → times id (snapshots_of (cond (not b) (x ∷ left) left)) + times id (handle.snapshot ∷ []) ≡ times id (snapshots_of (x ∷ xs))
    by true same e tail =
        let is : x ≡ handle = cc in
        let named : x.name ≡ name = grind (arith, nat_tests, same) in
        let stay : filter (λ (other : Handle). not (other.name == name)) xs ≡ xs = all_stay xs name (ap (handle_of xs) (sym named) ∙ alone_first x xs sorted) in
        let kept : times id (snapshots_of left) ≡ times id (snapshots_of xs) = ap (λ (hs : List Handle). times id (snapshots_of hs)) stay in
        let old = count_more (λ (n : ℕ). n == id) x.snapshot (snapshots_of xs) in
        let one = count_more (λ (n : ℕ). n == id) handle.snapshot [] in
        let none : times id [] ≡ 0 = refl in
        let both : one_if (x.snapshot == id) ≡ one_if (handle.snapshot == id) = ap (λ (h : Handle). one_if (h.snapshot == id)) is in
        omega (arith, kept, old, one, none, both)
    by false differ e tail =
        let rest = tail e in
        let new = count_more (λ (n : ℕ). n == id) x.snapshot (snapshots_of left) in
        let old = count_more (λ (n : ℕ). n == id) x.snapshot (snapshots_of xs) in
        omega (arith, rest, new, old)
