-- Tids: when two are the same, their order, and lists of them.
use Rattle.std.proofs.Common.{◌≡◌, ◌≢◌, ◌⊎◌, inl, inr, true, List, [], ◌∷◌, Contains, ap, arith}
use Rattle.std.proofs.lemmas.Bool.{cases_eq}
use Rattle.std.proofs.lemmas.Bool.Decides.{nat_tests}
use Rattle.std.proofs.lemmas.Cmp.{nat_cmp_total, on_total, then_total}
use Rattle.std.proofs.lemmas.Map.Views.{Contains-from_any}
use Rattle.std.specs.Cmp.{IsTotalOrder}
use Rattle.std.specs.declared.cmp.Ordering.TheVariants.{Equal}
use Rattle.std.specs.Ordering.{eq_by_cmp}
use Rattle.slot_page.specs.declared.line.Tid.{Tid}
use Rattle.slot_page.specs.Tids.{tid_cmp, is_listed}
use Rattle.list_facts.proofs.Members.{none_in_nil, cases_in}

-- two tids with the same page and slot are the same
pub tid_same : (t u : Tid) → t.page ≡ u.page → t.slot ≡ u.slot → t ≡ u
tid_same t u p q = λ i. record { page = p i; slot = q i }

-- two tids are the same or not
pub cases_tid : (t u : Tid) → (t ≡ u) ⊎ (t ≢ u)
cases_tid t u = elim (cases_eq t.page u.page) [
  | inl p ↦ elim (cases_eq t.slot u.slot) [
    | inl q ↦ inl (tid_same t u p q)
    | inr n ↦ inr (λ e. n (ap (λ (v : Tid). v.slot) e))
  ]
  | inr n ↦ inr (λ e. n (ap (λ (v : Tid). v.page) e))
]

-- the order by page and slot is total
pub tid_total : IsTotalOrder tid_cmp
tid_total = then_total (on_total (λ (t : Tid). t.page) nat_cmp_total) (on_total (λ (t : Tid). t.slot) nat_cmp_total)

-- two tids of which neither is less are the same
pub tid_equal : (t u : Tid) → tid_cmp t u ≡ Equal → t ≡ u
tid_equal t u equal = tid_same t u (grind (arith, nat_tests)) (grind (arith, nat_tests))

-- a tid that is listed is among the tids
tie_is : (t u : Tid) → eq_by_cmp tid_cmp u t ≡ true → t ≡ u
tie_is t u tie = tid_same t u (grind (arith, nat_tests)) (grind (arith, nat_tests))

pub listed_among : (tids : List Tid) (t : Tid) → is_listed tids t ≡ true → Contains tids t
listed_among tids t listed = Contains-from_any {eq = λ x y. eq_by_cmp tid_cmp y x} tie_is t tids listed

-- and one that is among them is listed
pub among_listed : (tids : List Tid) (t : Tid) → Contains tids t → is_listed tids t ≡ true
among_listed [] t held = absurd (none_in_nil t held)
among_listed (u ∷ us) t held = elim (cases_in u us t held) [
  | inl is ↦ rw is (grind (arith, nat_tests))
  | inr later ↦ grind (arith, among_listed us t later)
]
