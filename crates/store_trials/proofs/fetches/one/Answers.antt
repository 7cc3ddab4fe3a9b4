use Rattle.std.proofs.Common.{◌∷◌, [], arith}
use Rattle.std.specs.List.Sorted.{IsSorted}
use Rattle.std.proofs.lemmas.Result.{IfOk-weaker}
use Rattle.slot_page.specs.declared.line.Tid.{Tid}
use Rattle.slot_page.specs.Tids.{tid_cmp}
use Rattle.store_trials.proofs.fetches.one.Goals as goal

-- one tid is in order
sorted_one : (t : Tid) → IsSorted tid_cmp (t ∷ [])
sorted_one t = λ k d low high. absurd (omega (arith, high))

pub returns : goal.returns
returns c = IfOk-weaker c.from_slice.result _ (IsSorted tid_cmp) (λ list is. rw is (sorted_one c.args.tid)) c.from_slice.ensures
