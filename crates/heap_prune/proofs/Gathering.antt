-- One step of the walk over a page that gathers tids.
use Rattle.std.proofs.Common.{ℕ, ◌≡◌, ◌<◌, ◌+◌, Bool, true, false, cond, List, [], ◌∷◌, ◌++◌, length, take, drop, sym, ap, ◌∙◌, arith, suc, add-one, append_assoc}
use Rattle.std.proofs.lemmas.List.{take-append-le, length-take}
use Rattle.std.proofs.Math.Seq.{drop-cons}
use Rattle.slot_page.specs.declared.line.Tid.{Tid}
use Rattle.slot_page.specs.declared.line.LinePointer.{LinePointer}
use Rattle.slot_page.specs.declared.line.LinePointer.TheVariants.{Unused}
use Rattle.slot_page.specs.Slots.{slot_at}
use Rattle.slot_page.specs.DeadSlots.{tids_where}

-- the tids of the slots that are left, by whether the first of them passes
first_left : {T : Type 0} (test : LinePointer T → Bool) (page i : ℕ) (lines : List (LinePointer T)) (b : Bool) → i < length lines → b ≡ test (slot_at lines i) → tids_where test page i (drop i lines) ≡ cond b (record { page = page; slot = i } ∷ tids_where test page (i + 1) (drop (i + 1) lines)) (tids_where test page (i + 1) (drop (i + 1) lines))
first_left test page i lines b within is =
    ap (tids_where test page i) (drop-cons lines i Unused within)
    ∙ ap (λ c. cond c (record { page = page; slot = i } ∷ tids_where test page (suc i) (drop (suc i) lines)) (tids_where test page (suc i) (drop (suc i) lines))) (sym is)
    ∙ ap (λ n. cond b (record { page = page; slot = i } ∷ tids_where test page n (drop n lines)) (tids_where test page n (drop n lines))) (sym (add-one i))

-- what is gathered and what is left make the same list after each slot
pub gathered_one : {T : Type 0} (test : LinePointer T → Bool) (page i : ℕ) (lines : List (LinePointer T)) (dead after all : List Tid) → i < length lines → true ≡ test (slot_at lines i) → after ≡ dead ++ record { page = page; slot = i } ∷ [] → dead ++ tids_where test page i (drop i lines) ≡ all → after ++ tids_where test page (i + 1) (drop (i + 1) lines) ≡ all
gathered_one test page i lines dead after all within passes pushed so_far =
    let rest = tids_where test page (i + 1) (drop (i + 1) lines) in
    ap (λ tids. tids ++ rest) pushed ∙ append_assoc dead (record { page = page; slot = i } ∷ []) rest ∙ ap (λ tids. dead ++ tids) (sym (first_left test page i lines true within passes)) ∙ so_far

pub gathered_none : {T : Type 0} (test : LinePointer T → Bool) (page i : ℕ) (lines : List (LinePointer T)) (dead after all : List Tid) → i < length lines → false ≡ test (slot_at lines i) → after ≡ dead → dead ++ tids_where test page i (drop i lines) ≡ all → after ++ tids_where test page (i + 1) (drop (i + 1) lines) ≡ all
gathered_none test page i lines dead after all within fails same so_far =
    let rest = tids_where test page (i + 1) (drop (i + 1) lines) in
    ap (λ tids. tids ++ rest) same ∙ ap (λ tids. dead ++ tids) (sym (first_left test page i lines false within fails)) ∙ so_far

-- the list that was there before stays at the front
pub front_kept : (before dead after : List Tid) (t : Tid) → after ≡ dead ++ t ∷ [] → take (length before) dead ≡ before → take (length before) after ≡ before
front_kept before dead after t pushed kept = ap (take (length before)) pushed ∙ take-append-le (length before) dead (t ∷ []) (omega (arith, length-take (length before) dead, ap length kept)) ∙ kept
