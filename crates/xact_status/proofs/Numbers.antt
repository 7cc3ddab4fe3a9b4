-- Commits stay numbered from 1 to their count.
use Rattle.std.proofs.Common.{◌≡◌, ◌≢◌, ◌+◌, ◌-◌, ℕ, true, cond, ◌⊎◌, List, [], ◌∷◌, ◌++◌, Some, None, is_some, slice_set, ◌==◌, refl, sym, ap, ◌∙◌, arith, inl, inr}
use Rattle.std.specs.Option.{option_and_then}
use Rattle.std.proofs.lemmas.Bool.{cases_eq}
use Rattle.std.proofs.lemmas.Bool.Decides.{nat_tests}
use Rattle.std.proofs.lemmas.Grind.{common_steps}
use Rattle.std.proofs.lemmas.Option.{get_or_from_slice_get, none-some}
use Rattle.std.proofs.lemmas.List.Sums.{sum_by-set}
use Rattle.xact_status.specs.declared.Xact.{Xact}
use Rattle.xact_status.specs.declared.Xact.TheVariants.{Running, Committed, Aborted}
use Rattle.xact_status.specs.Xacts.{Xacts, IsKept, IsNumbered, first_xid, running_xids, xact_at, is_running, session_of, number_of, commit_number, commit_count, after_assign, after_commit, after_abort, next_xid}
use Rattle.xact_status.proofs.RunningLists.{running_push}
use Rattle.xact_status.proofs.Places.{running_xact, assigned_from_running, xact_at_from, xact_at_set, xact_at_push, xact_at_next}

-- one for a commit, else none
abbrev pub commits_in : Xact → ℕ
commits_in xact = cond (is_some (number_of xact)) 1 0

-- a transaction that runs is no commit
commits_in_running : (xact : Xact) (session : ℕ) → session_of xact ≡ Some session → commits_in xact ≡ 0
commits_in_running (Running other) session is = refl
commits_in_running (Committed number) session is = absurd (cc)
commits_in_running Aborted session is = absurd (cc)

-- a transaction that starts is no commit
pub count_assign : (xacts : Xacts) (session : ℕ) → commit_count (after_assign xacts session) ≡ commit_count xacts
count_assign xacts session = grind (arith, common_steps)

-- where a running transaction ends, its commit, if it is one, is added
pub count_end : (xacts : Xacts) (xid : ℕ) (ended : Xact) → is_running xacts xid ≡ true → commit_count (slice_set xacts (xid - 3) ended) ≡ commit_count xacts + commits_in ended
count_end xacts xid ended runs =
    let found = running_xact xacts xid runs in
    let assigned = assigned_from_running xacts xid runs in
    let here = get_or_from_slice_get xacts (xid - 3) found.0 ended (sym (xact_at_from xacts xid assigned.from_first) ∙ found.2) in
    let moved = sum_by-set commits_in xacts (xid - 3) ended ended (omega (arith, assigned.from_first, assigned.below_next)) in
    let none = ap commits_in here ∙ commits_in_running found.0 found.1 found.3 in
    omega (arith, moved, none)

-- a commit is one more
pub count_commit : (xacts : Xacts) (xid : ℕ) → is_running xacts xid ≡ true → commit_count (after_commit xacts xid) ≡ commit_count xacts + 1
count_commit xacts xid runs = count_end xacts xid (Committed (commit_count xacts + 1)) runs

-- an abort is none
pub count_abort : (xacts : Xacts) (xid : ℕ) → is_running xacts xid ≡ true → commit_count (after_abort xacts xid) ≡ commit_count xacts
count_abort xacts xid runs = count_end xacts xid Aborted runs ∙ omega arith

-- a transaction that starts changes no number
pub number_assign : (xacts : Xacts) (session xid : ℕ) → commit_number (after_assign xacts session) xid ≡ commit_number xacts xid
number_assign xacts session xid = elim (cases_eq xid (next_xid xacts)) [
  | inl same ↦ ap (option_and_then number_of) (xact_at_push xacts (Running session) xid) ∙ grind (arith, nat_tests, same, ap (xact_at xacts) same, xact_at_next xacts)
  | inr other ↦ ap (option_and_then number_of) (xact_at_push xacts (Running session) xid ∙ grind (arith, nat_tests))
]

-- a commit gives its xid the next number, and changes no other
pub number_commit : (xacts : Xacts) (xid : ℕ) → is_running xacts xid ≡ true → (other : ℕ) → commit_number (after_commit xacts xid) other ≡ cond (other == xid) (Some (commit_count xacts + 1)) (commit_number xacts other)
number_commit xacts xid runs other = elim (cases_eq other xid) [
  | inl same ↦ ap (option_and_then number_of) (xact_at_set xacts xid (Committed (commit_count xacts + 1)) (assigned_from_running xacts xid runs) other) ∙ grind (arith, nat_tests)
  | inr differ ↦ ap (option_and_then number_of) (xact_at_set xacts xid (Committed (commit_count xacts + 1)) (assigned_from_running xacts xid runs) other) ∙ grind (arith, nat_tests)
]

-- an xid that runs has no number
pub number_running : (xacts : Xacts) (xid : ℕ) → is_running xacts xid ≡ true → commit_number xacts xid ≡ None
number_running xacts xid runs = let found = running_xact xacts xid runs in ap (option_and_then number_of) found.2 ∙ number_of_running found.0 found.1 found.3
  where
    number_of_running : (xact : Xact) (session : ℕ) → session_of xact ≡ Some session → number_of xact ≡ None
    number_of_running (Running other) session is = refl
    number_of_running (Committed number) session is = absurd (cc)
    number_of_running Aborted session is = absurd (cc)

-- an abort changes no number
pub number_abort : (xacts : Xacts) (xid : ℕ) → is_running xacts xid ≡ true → (other : ℕ) → commit_number (after_abort xacts xid) other ≡ commit_number xacts other
number_abort xacts xid runs other = elim (cases_eq other xid) [
  | inl same ↦ ap (option_and_then number_of) (xact_at_set xacts xid Aborted (assigned_from_running xacts xid runs) other) ∙ grind (arith, nat_tests, number_running xacts xid runs, ap (commit_number xacts) same)
  | inr differ ↦ ap (option_and_then number_of) (xact_at_set xacts xid Aborted (assigned_from_running xacts xid runs) other) ∙ grind (arith, nat_tests)
]

-- no transaction, no number
pub numbered_none : IsNumbered []
numbered_none = record {
  at_least_one = λ xid number is. absurd (none-some number (sym (no_number xid) ∙ is));
  at_most_count = λ xid number is. absurd (none-some number (sym (no_number xid) ∙ is));
  distinct = λ xid other number is same. absurd (none-some number (sym (no_number xid) ∙ is));
}
  where
    no_number : (xid : ℕ) → commit_number [] xid ≡ None
    no_number xid = grind (arith, nat_tests)

-- where numbers and their count stay, so does their order
kept_numbers : (old new : Xacts) → ((xid : ℕ) → commit_number new xid ≡ commit_number old xid) → commit_count new ≡ commit_count old → IsNumbered old → IsNumbered new
kept_numbers old new same count numbered = record {
  at_least_one = λ xid number is. numbered.at_least_one xid number (sym (same xid) ∙ is);
  at_most_count = λ xid number is. rw count (numbered.at_most_count xid number (sym (same xid) ∙ is));
  distinct = λ xid other number is is_too. numbered.distinct xid other number (sym (same xid) ∙ is) (sym (same other) ∙ is_too);
}

-- a start keeps the numbers
pub numbered_assign : (xacts : Xacts) (session : ℕ) → IsNumbered xacts → IsNumbered (after_assign xacts session)
numbered_assign xacts session numbered = kept_numbers xacts _ (number_assign xacts session) (count_assign xacts session) numbered

-- after a commit a number is that of the new commit, or one that was there
after_commit_number : (xacts : Xacts) (xid : ℕ) → is_running xacts xid ≡ true → (other number : ℕ) → commit_number (after_commit xacts xid) other ≡ Some number → ((other ≡ xid) × (number ≡ commit_count xacts + 1)) ⊎ ((other ≢ xid) × (commit_number xacts other ≡ Some number))
after_commit_number xacts xid runs other number is =
    let new = sym (number_commit xacts xid runs other) ∙ is in
    elim (cases_eq other xid) [
      | inl same ↦ inl (same, grind (arith, nat_tests, new))
      | inr differ ↦ inr (differ, grind (arith, nat_tests, new))
    ]

-- the next commit has a number that no other has
pub numbered_commit : (xacts : Xacts) (xid : ℕ) → is_running xacts xid ≡ true → IsNumbered xacts → IsNumbered (after_commit xacts xid)
numbered_commit xacts xid runs numbered = record {
  at_least_one = λ x n is. elim (after_commit_number xacts xid runs x n is) [
    | inl new ↦ omega (arith, new.1)
    | inr old ↦ numbered.at_least_one x n old.1
  ];
  at_most_count = λ x n is. rw (count_commit xacts xid runs) (elim (after_commit_number xacts xid runs x n is) [
    | inl new ↦ omega (arith, new.1)
    | inr old ↦ omega (arith, numbered.at_most_count x n old.1)
  ]);
  distinct = λ x y n is is_too. elim (after_commit_number xacts xid runs x n is) [
    | inl new ↦ elim (after_commit_number xacts xid runs y n is_too) [
      | inl new_too ↦ new.0 ∙ sym new_too.0
      | inr old ↦ absurd (omega (arith, new.1, numbered.at_most_count y n old.1))
    ]
    | inr old ↦ elim (after_commit_number xacts xid runs y n is_too) [
      | inl new ↦ absurd (omega (arith, new.1, numbered.at_most_count x n old.1))
      | inr old_too ↦ numbered.distinct x y n old.1 old_too.1
    ]
  ];
}

-- so does an abort
pub numbered_abort : (xacts : Xacts) (xid : ℕ) → is_running xacts xid ≡ true → IsNumbered xacts → IsNumbered (after_abort xacts xid)
numbered_abort xacts xid runs numbered = kept_numbers xacts _ (number_abort xacts xid runs) (count_abort xacts xid runs) numbered

-- what a table keeps beside its transactions, after a start, a commit and an abort
pub kept_assign : (old new : Xacts) (running left : List ℕ) (commits session xid : ℕ) → IsKept old running commits → new ≡ after_assign old session → xid ≡ next_xid old → left ≡ running ++ xid ∷ [] → IsKept new left commits
kept_assign old new running left commits session xid kept is next added = rw is (record {
  running_is = added ∙ ap (λ xs. xs ++ xid ∷ []) kept.running_is ∙ ap (λ n. running_xids old ++ n ∷ []) next ∙ sym (running_push first_xid old session);
  commits_is = kept.commits_is ∙ sym (count_assign old session);
  numbered = numbered_assign old session kept.numbered;
})

pub kept_commit : (old new : Xacts) (running left : List ℕ) (commits xid : ℕ) → is_running old xid ≡ true → IsKept old running commits → new ≡ slice_set old (xid - first_xid) (Committed (commits + 1)) → left ≡ running_xids new → IsKept new left (commits + 1)
kept_commit old new running left commits xid runs kept is left_is =
    let committed : new ≡ after_commit old xid = is ∙ ap (λ n. slice_set old (xid - first_xid) (Committed (n + 1))) kept.commits_is in
    record {
      running_is = left_is;
      commits_is = ap (λ n. n + 1) kept.commits_is ∙ sym (count_commit old xid runs) ∙ sym (ap commit_count committed);
      numbered = rw committed (numbered_commit old xid runs kept.numbered);
    }

pub kept_abort : (old new : Xacts) (running left : List ℕ) (commits xid : ℕ) → is_running old xid ≡ true → IsKept old running commits → new ≡ after_abort old xid → left ≡ running_xids new → IsKept new left commits
kept_abort old new running left commits xid runs kept is left_is = record {
  running_is = left_is;
  commits_is = kept.commits_is ∙ sym (count_abort old xid runs) ∙ sym (ap commit_count is);
  numbered = rw is (numbered_abort old xid runs kept.numbered);
}
