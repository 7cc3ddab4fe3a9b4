-- What a search by halves tells of a list of tids in order.
use Rattle.std.proofs.Common.{◌≡◌, inl, inr, ℕ, ◌<◌, Bool, true, false, Result, Ok, Err, List, [], ◌∷◌, length, get_or, refl, sym, ap, arith, zero, suc}
use Rattle.std.specs.List.{list_any}
use Rattle.std.specs.List.Sorted.{IsSorted, IsBinarySearchResult, IsSearchInRange}
use Rattle.std.specs.Result.{is_ok}
use Rattle.std.specs.Ordering.{is_eq, eq_by_cmp}
use Rattle.std.proofs.lemmas.Bool.{cases_lt}
use Rattle.std.proofs.lemmas.List.Sorted.{searchable_from_sorted}
use Rattle.slot_page.specs.declared.line.Tid.{Tid}
use Rattle.slot_page.specs.Tids.{tid_cmp, is_listed}
use Rattle.slot_page.proofs.Tids.{tid_total}

-- a test of some element
any_at : {X : Type 0} (p : X → Bool) (xs : List X) (k : ℕ) (d : X) → k < length xs → p (get_or xs k d) ≡ true → list_any p xs ≡ true
any_at p [] k d within passes = absurd (omega (arith, within))
any_at p (x ∷ xs) zero d within passes = grind arith
any_at p (x ∷ xs) (suc k) d within passes = grind (arith, any_at p xs k d (omega (arith, within)) passes)

any_none : {X : Type 0} (p : X → Bool) (xs : List X) → ((k : ℕ) (d : X) → k < length xs → p (get_or xs k d) ≡ false) → list_any p xs ≡ false
any_none p [] fails = refl
any_none p (x ∷ xs) fails = grind (arith, fails zero x (omega arith), any_none p xs (λ k d within. fails (suc k) d (omega (arith, within))))

-- whether it finds a tid tells whether the list has it
pub found_listed : (tid : Tid) (tids : List Tid) (r : Result ℕ ℕ) → IsSorted tid_cmp tids → IsSearchInRange r (length tids) → IsBinarySearchResult (λ t. tid_cmp t tid) tids r → is_ok r ≡ is_listed tids tid
found_listed tid tids (Ok at) sorted within answer = sym (any_at (λ t. eq_by_cmp tid_cmp t tid) tids at tid within (ap is_eq (answer tid)))
found_listed tid tids (Err at) sorted within answer =
    let parts = answer (searchable_from_sorted tid_total (λ t. t) tids tid sorted) in
    sym (any_none (λ t. eq_by_cmp tid_cmp t tid) tids (λ k d inside. elim (cases_lt k at) [ inl below ↦ ap is_eq (parts.0 k d (omega arith) below) | inr beyond ↦ ap is_eq (parts.1 k d beyond inside) ]))
