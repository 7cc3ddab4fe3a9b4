use Rattle.std.proofs.Common.{◌≡◌, ℕ, ◌<◌, ◌+◌, [], ◌∷◌, false, length, get_or, refl, arith, zero, suc}
use Rattle.std.specs.List.Sorted.{IsSorted}
use Rattle.std.specs.Ordering.{is_lt}
use Rattle.std.proofs.lemmas.Result.{IfOk-weaker}
use Rattle.slot_page.specs.declared.line.Tid.{Tid}
use Rattle.slot_page.specs.Tids.{tid_cmp}
use Rattle.store_trials.proofs.indexes.two_tids.Goals as goal

-- two tids in order are sorted
sorted_two : (t u : Tid) → is_lt (tid_cmp u t) ≡ false → IsSorted tid_cmp (t ∷ u ∷ [])
sorted_two t u above = λ k d low high. at k d high
  where
    at : (k : ℕ) (d : Tid) → k + 1 < length (t ∷ u ∷ []) → is_lt (tid_cmp (get_or (t ∷ u ∷ []) (k + 1) d) (get_or (t ∷ u ∷ []) k d)) ≡ false
    at zero d high = above
    at (suc k) d high = absurd (omega (arith, high))

pub returns : goal.returns
returns c = IfOk-weaker c.from_slice.result _ (IsSorted tid_cmp) (λ list is. rw is (sorted_two (record { page = 0; slot = 1 }) (record { page = 0; slot = 2 }) refl)) c.from_slice.ensures
