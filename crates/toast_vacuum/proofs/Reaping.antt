-- The loop over a page's gathered slots: what is still to be freed.
use Rattle.std.proofs.Common.{ℕ, ◌≡◌, ◌≢◌, ◌+◌, ◌<◌, ◌≤◌, Bool, true, false, cond, suc, List, [], ◌∷◌, Contains, length, get_or, drop, drop-cons, nat_eq, sym, ap, ◌∙◌, arith}
use Rattle.std.proofs.lemmas.Bool.Decides.{nat_tests}
use Rattle.std.proofs.lemmas.List.{drop_all}
use Rattle.list_facts.proofs.Members.{first_in, later_in}
use Rattle.slot_page.specs.declared.line.Tid.{Tid}
use Rattle.toast_vacuum.specs.Ops.{AreLawful, Ops}
use Rattle.toast_vacuum.specs.Machines.{AreReapable, on_page}

next : (at : ℕ) → suc at ≡ at + 1
next at = omega arith

-- a list from a place on, where something stands there
pub drop_at : {X : Type 0} (xs : List X) (at : ℕ) (x : X) → at < length xs → x ≡ get_or xs at x → drop at xs ≡ x ∷ drop (at + 1) xs
drop_at xs at x within is = drop-cons xs at x within ∙ ap (λ y. y ∷ drop (suc at) xs) (sym is) ∙ ap (λ n. x ∷ drop n xs) (next at)

by_page : (page : ℕ) (t : Tid) (ts : List Tid) (b : Bool) → nat_eq t.page page ≡ b → on_page page (t ∷ ts) ≡ cond b (t ∷ on_page page ts) []
by_page page t ts b is = ap (λ a. cond a (t ∷ on_page page ts) []) is

-- the next tid lies on the page
pub one_more : (page at : ℕ) (xs : List Tid) (t : Tid) → at < length xs → t ≡ get_or xs at t → t.page ≡ page → on_page page (drop at xs) ≡ t ∷ on_page page (drop (at + 1) xs)
one_more page at xs t within is same = ap (on_page page) (drop_at xs at t within is) ∙ by_page page t (drop (at + 1) xs) true (grind (arith, nat_tests))

-- or it doesn't
pub none_more : (page at : ℕ) (xs : List Tid) (t : Tid) → at < length xs → t ≡ get_or xs at t → t.page ≢ page → on_page page (drop at xs) ≡ []
none_more page at xs t within is other = ap (on_page page) (drop_at xs at t within is) ∙ by_page page t (drop (at + 1) xs) false (grind (arith, nat_tests))

-- or there is none
pub at_end : (page at : ℕ) (xs : List Tid) → length xs ≤ at → on_page page (drop at xs) ≡ []
at_end page at xs past = ap (on_page page) (drop_all at xs past)

-- a slot that is freed leaves the others ready
pub still_reapable : {S : Type 0} (ops : Ops S) → AreLawful ops → (ts : List Tid) (t : Tid) (s : S) → (Contains ts t → ⊥) → AreReapable ops ts s → AreReapable ops ts (ops.reaped s t)
still_reapable ops lawful [] t s apart ready = tt
still_reapable ops lawful (u ∷ us) t s apart ready = (
  lawful.dead_stays s t u (λ same. apart (first_in u us t same)) ready.0,
  lawful.free_stays s t u ready.1,
  ready.2,
  still_reapable ops lawful us t s (λ held. apart (later_in u us t held)) ready.3,
)
