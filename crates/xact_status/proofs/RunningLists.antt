-- The list of the running xids: what it holds, that it ascends, and what the start and the end of a transaction do to it.
use Rattle.std.proofs.Common.{◌≡◌, ◌<◌, ◌+◌, ◌-◌, ℕ, zero, suc, true, false, List, [], ◌∷◌, ◌++◌, None, is_some, length, get_or, slice_get, slice_set, ◌==◌, refl, sym, ap, ◌∙◌, arith, Contains, ◌↔◌, MatchResult, Result, Ok, Err, inl, inr}
use mathlib.Core.Bool.{false≢true}
use Rattle.std.specs.List.{list_any, remove}
use Rattle.std.specs.Option.{option_and_then}
use Rattle.std.proofs.lemmas.Bool.Decides.{nat_tests}
use Rattle.std.specs.List.Sorted.{IsBinarySearchResult}
use Rattle.std.specs.Ordering.{nat_cmp}
use Rattle.std.proofs.lemmas.Bool.{cases_lt}
use Rattle.xact_status.proofs.Members.{Contains_held, search_ascending}
use Rattle.xact_status.proofs.Ascending.{AscendsFrom, AscendsFrom_lower, at_least}
use Rattle.xact_status.specs.declared.Xact.{Xact}
use Rattle.xact_status.specs.declared.Xact.TheVariants.{Running, Committed, Aborted}
use Rattle.xact_status.specs.Xacts.{Xacts, running_from, running_xids, session_of, is_running, first_xid}
use Rattle.xact_status.proofs.Places.{xact_at_low, xact_at_from, assigned_from_running}

-- the running xids ascend
pub running_ascends : (first : ℕ) (xacts : Xacts) → AscendsFrom first (running_from first xacts)
running_ascends first [] = tt
running_ascends first (Running session ∷ xacts) = (omega arith, running_ascends (suc first) xacts)
running_ascends first (Committed number ∷ xacts) = AscendsFrom_lower (suc first) first _ (omega arith) (running_ascends (suc first) xacts)
running_ascends first (Aborted ∷ xacts) = AscendsFrom_lower (suc first) first _ (omega arith) (running_ascends (suc first) xacts)

-- no xid below the first one runs
pub none_below : (first : ℕ) (xacts : Xacts) (xid : ℕ) → xid < first → list_any (λ y. y == xid) (running_from first xacts) ≡ false
none_below first [] xid lt = refl
none_below first (Running session ∷ xacts) xid lt = grind (arith, nat_tests, none_below (suc first) xacts xid (omega arith))
none_below first (Committed number ∷ xacts) xid lt = none_below (suc first) xacts xid (omega arith)
none_below first (Aborted ∷ xacts) xid lt = none_below (suc first) xacts xid (omega arith)

-- the running xids hold an xid exactly where its transaction runs
pub holds_running : (first : ℕ) (xacts : Xacts) (i xid : ℕ) → xid ≡ first + i → list_any (λ y. y == xid) (running_from first xacts) ≡ is_some (option_and_then session_of (slice_get xacts i))
holds_running first [] i xid e = refl
holds_running first (Running session ∷ xacts) zero xid e = grind (arith, nat_tests)
holds_running first (Committed number ∷ xacts) zero xid e = none_below (suc first) xacts xid (omega arith)
holds_running first (Aborted ∷ xacts) zero xid e = none_below (suc first) xacts xid (omega arith)
holds_running first (Running session ∷ xacts) (suc i) xid e = grind (arith, nat_tests, holds_running (suc first) xacts i xid (omega arith))
holds_running first (Committed number ∷ xacts) (suc i) xid e = holds_running (suc first) xacts i xid (omega arith)
holds_running first (Aborted ∷ xacts) (suc i) xid e = holds_running (suc first) xacts i xid (omega arith)

-- a transaction that starts has the last of the running xids
pub running_push : (first : ℕ) (xacts : Xacts) (session : ℕ) → running_from first (xacts ++ Running session ∷ []) ≡ running_from first xacts ++ (first + length xacts) ∷ []
running_push first [] session = ap (λ n. n ∷ []) (omega arith)
running_push first (Running other ∷ xacts) session = ap (λ rest. first ∷ rest) (running_push (suc first) xacts session ∙ ap (λ n. running_from (suc first) xacts ++ n ∷ []) (omega arith))
running_push first (Committed number ∷ xacts) session = running_push (suc first) xacts session ∙ ap (λ n. running_from (suc first) xacts ++ n ∷ []) (omega arith)
running_push first (Aborted ∷ xacts) session = running_push (suc first) xacts session ∙ ap (λ n. running_from (suc first) xacts ++ n ∷ []) (omega arith)

-- a transaction that ends takes its xid out of them
pub running_set : (first : ℕ) (xacts : Xacts) (i at : ℕ) (ended : Xact) → session_of ended ≡ None → is_some (option_and_then session_of (slice_get xacts i)) ≡ true → at < length (running_from first xacts) → get_or (running_from first xacts) at 0 ≡ first + i → running_from first (slice_set xacts i ended) ≡ remove (running_from first xacts) at
running_set first [] i at ended over runs h e = absurd (cc)
running_set first (Running session ∷ xacts) zero zero ended over runs h e = rw over refl
running_set first (Running session ∷ xacts) zero (suc at) ended over runs h e = absurd (omega (arith, e, at_least (suc first) _ at (running_ascends (suc first) xacts) (omega (arith, h))))
running_set first (Running session ∷ xacts) (suc i) zero ended over runs h e = absurd (omega (arith, e))
running_set first (Running session ∷ xacts) (suc i) (suc at) ended over runs h e = ap (λ rest. first ∷ rest) (running_set (suc first) xacts i at ended over runs (omega (arith, h)) (e ∙ omega arith))
running_set first (Committed number ∷ xacts) zero at ended over runs h e = absurd (cc)
running_set first (Committed number ∷ xacts) (suc i) at ended over runs h e = running_set (suc first) xacts i at ended over runs h (e ∙ omega arith)
running_set first (Aborted ∷ xacts) zero at ended over runs h e = absurd (cc)
running_set first (Aborted ∷ xacts) (suc i) at ended over runs h e = running_set (suc first) xacts i at ended over runs h (e ∙ omega arith)

-- the list of the running xids holds those that run
pub running_holds : (xacts : Xacts) (xid : ℕ) → list_any (λ y. y == xid) (running_xids xacts) ≡ is_running xacts xid
running_holds xacts xid = elim (cases_lt xid first_xid) [
  | inl below ↦ none_below first_xid xacts xid below ∙ sym (ap (λ o. is_some (option_and_then session_of o)) (xact_at_low xacts xid below))
  | inr from ↦ holds_running first_xid xacts (xid - first_xid) xid (omega arith) ∙ sym (ap (λ o. is_some (option_and_then session_of o)) (xact_at_from xacts xid from))
]

-- the same as membership
pub running_members : (xacts : Xacts) (xid : ℕ) → Contains (running_xids xacts) xid ↔ (is_running xacts xid ≡ true)
running_members xacts xid = (λ contained. sym (running_holds xacts xid) ∙ (Contains_held _ xid).0 contained, λ runs. (Contains_held _ xid).1 (running_holds xacts xid ∙ runs))

-- where the xid of a running transaction is sought, it is found, and taking it out leaves those that run after its end
pub running_searched : (xacts : Xacts) (xid : ℕ) (running : List ℕ) (r : Result ℕ ℕ) → is_running xacts xid ≡ true → running ≡ running_xids xacts → IsBinarySearchResult (λ y. nat_cmp y xid) running r → MatchResult r (λ at. (ended : Xact) → session_of ended ≡ None → remove running at ≡ running_xids (slice_set xacts (xid - first_xid) ended)) (λ _. ⊥)
running_searched xacts xid running r runs is = rw is (searched_in xacts xid r runs)
  where
    searched_in : (xacts : Xacts) (xid : ℕ) (r : Result ℕ ℕ) → is_running xacts xid ≡ true → IsBinarySearchResult (λ y. nat_cmp y xid) (running_xids xacts) r → MatchResult r (λ at. (ended : Xact) → session_of ended ≡ None → remove (running_xids xacts) at ≡ running_xids (slice_set xacts (xid - first_xid) ended)) (λ _. ⊥)
    searched_in xacts xid (Ok at) runs answer = λ ended over.
        let found = search_ascending first_xid _ xid (Ok at) (running_ascends first_xid xacts) answer in
        let assigned = assigned_from_running xacts xid runs in
        sym (running_set first_xid xacts (xid - first_xid) at ended over (sym (ap (λ o. is_some (option_and_then session_of o)) (xact_at_from xacts xid assigned.from_first)) ∙ runs) found.0 (found.1 ∙ omega (arith, assigned.from_first)))
    searched_in xacts xid (Err at) runs answer =
        let none = search_ascending first_xid _ xid (Err at) (running_ascends first_xid xacts) answer in
        false≢true (sym none ∙ running_holds xacts xid ∙ runs)
