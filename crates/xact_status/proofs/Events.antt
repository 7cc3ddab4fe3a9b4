-- Which xids were given, which run and which have committed, after a transaction starts or ends.
use Rattle.std.proofs.Common.{◌≡◌, ◌≢◌, ◌-◌, ℕ, true, false, cond, ◌⊎◌, [], ◌∷◌, Option, Some, None, is_some, slice_set, ◌==◌, refl, sym, ap, ◌∙◌, arith, inl, inr, length-append, length-set}
use Rattle.std.specs.Option.{option_and_then, option_map, option_map_or}
use Rattle.std.proofs.lemmas.Bool.{cases_eq}
use Rattle.std.proofs.lemmas.Option.{same_Some}
use Rattle.std.proofs.lemmas.Bool.Decides.{nat_tests}
use Rattle.xact_status.specs.declared.Xact.{Xact}
use Rattle.xact_status.specs.declared.Xact.TheVariants.{Running, Committed, Aborted}
use Rattle.xact_status.specs.declared.XactState.{XactState}
use Rattle.xact_status.specs.declared.XactState.TheVariants as states
use Rattle.xact_status.specs.Xacts.{Xacts, IsAssigned, xact_at, session_of, number_of, number_of_state, state_of, has_aborted, status, is_running, is_committed, is_aborted, commit_number, next_xid, after_assign, after_commit, after_abort}
use Rattle.xact_status.proofs.Places.{assigned_from_running, assigned_from_xact, xact_at_set, xact_at_push}
use Rattle.xact_status.proofs.Numbers.{number_assign, number_commit, number_abort, number_running}

-- an xid that was given stays so
pub assigned_assign : (xacts : Xacts) (session xid : ℕ) → IsAssigned xacts xid → IsAssigned (after_assign xacts session) xid
assigned_assign xacts session xid assigned = record { from_first = assigned.from_first; below_next = omega (arith, assigned.below_next, length-append xacts (Running session ∷ [])) }

pub assigned_set : (xacts : Xacts) (i xid : ℕ) (xact : Xact) → IsAssigned xacts xid → IsAssigned (slice_set xacts i xact) xid
assigned_set xacts i xid xact assigned = record { from_first = assigned.from_first; below_next = omega (arith, assigned.below_next, length-set xacts i xact) }

-- what runs after a start ran before, or is the new xid
pub running_assign : (xacts : Xacts) (session xid : ℕ) → is_running (after_assign xacts session) xid ≡ true → (xid ≡ next_xid xacts) ⊎ (is_running xacts xid ≡ true)
running_assign xacts session xid runs =
    let is = xact_at_push xacts (Running session) xid in
    elim (cases_eq xid (next_xid xacts)) [
      | inl same ↦ inl same
      | inr differ ↦ let kept : xact_at (after_assign xacts session) xid ≡ xact_at xacts xid = grind (arith, nat_tests, is) in inr (sym (ap (λ o. is_some (option_and_then session_of o)) kept) ∙ runs)
    ]

-- what runs after an end ran before, and is another xid
pub running_set : (xacts : Xacts) (ended : ℕ) (xact : Xact) → session_of xact ≡ None → is_running xacts ended ≡ true → (xid : ℕ) → is_running (slice_set xacts (ended - 3) xact) xid ≡ true → (xid ≢ ended) × (is_running xacts xid ≡ true)
running_set xacts ended xact over runs xid runs_on =
    let is = xact_at_set xacts ended xact (assigned_from_running xacts ended runs) xid in
    elim (cases_eq xid ended) [
      | inl same ↦ let gone : xact_at (slice_set xacts (ended - 3) xact) xid ≡ Some xact = grind (arith, nat_tests, is) in
          absurd (none-true (sym (ap is_some over) ∙ sym (ap (λ o. is_some (option_and_then session_of o)) gone) ∙ runs_on))
      | inr differ ↦ let kept : xact_at (slice_set xacts (ended - 3) xact) xid ≡ xact_at xacts xid = grind (arith, nat_tests, is) in
          (differ, sym (ap (λ o. is_some (option_and_then session_of o)) kept) ∙ runs_on)
    ]
  where
    none-true : is_some {T = ℕ} None ≡ true → ⊥
    none-true e = cc

-- what has committed stays so
pub committed_assign : (xacts : Xacts) (session xid : ℕ) → is_committed (after_assign xacts session) xid ≡ is_committed xacts xid
committed_assign xacts session xid = ap is_some (number_assign xacts session xid)

pub committed_commit : (xacts : Xacts) (ended : ℕ) → is_running xacts ended ≡ true → (xid : ℕ) → is_committed (after_commit xacts ended) xid ≡ cond (xid == ended) true (is_committed xacts xid)
committed_commit xacts ended runs xid = elim (cases_eq xid ended) [
  | inl same ↦ ap is_some (number_commit xacts ended runs xid) ∙ grind (arith, nat_tests)
  | inr differ ↦ ap is_some (number_commit xacts ended runs xid) ∙ grind (arith, nat_tests)
]

pub committed_abort : (xacts : Xacts) (ended : ℕ) → is_running xacts ended ≡ true → (xid : ℕ) → is_committed (after_abort xacts ended) xid ≡ is_committed xacts xid
committed_abort xacts ended runs xid = ap is_some (number_abort xacts ended runs xid)

-- an xid is in one state alone: what runs or has aborted has not committed, and what has committed or aborted does not run
pub running_is_uncommitted : (xacts : Xacts) (xid : ℕ) → is_running xacts xid ≡ true → is_committed xacts xid ≡ false
running_is_uncommitted xacts xid runs = ap is_some (number_running xacts xid runs)

pub committed_is_over : (xacts : Xacts) (xid : ℕ) → is_committed xacts xid ≡ true → is_running xacts xid ≡ false
committed_is_over xacts xid committed = of_xact (xact_at xacts xid) committed
  where
    of_xact : (o : Option Xact) → is_some (option_and_then number_of o) ≡ true → is_some (option_and_then session_of o) ≡ false
    of_xact None e = refl
    of_xact (Some (Running session)) e = absurd (cc)
    of_xact (Some (Committed number)) e = refl
    of_xact (Some Aborted) e = refl

pub aborted_is_uncommitted : (xacts : Xacts) (xid : ℕ) → is_aborted xacts xid ≡ true → is_committed xacts xid ≡ false
aborted_is_uncommitted xacts xid aborted = of_xact (xact_at xacts xid) aborted
  where
    of_xact : (o : Option Xact) → option_map_or has_aborted o false ≡ true → is_some (option_and_then number_of o) ≡ false
    of_xact None e = refl
    of_xact (Some (Running session)) e = refl
    of_xact (Some (Committed number)) e = absurd (cc)
    of_xact (Some Aborted) e = refl

pub aborted_is_over : (xacts : Xacts) (xid : ℕ) → is_aborted xacts xid ≡ true → is_running xacts xid ≡ false
aborted_is_over xacts xid aborted = of_xact (xact_at xacts xid) aborted
  where
    of_xact : (o : Option Xact) → option_map_or has_aborted o false ≡ true → is_some (option_and_then session_of o) ≡ false
    of_xact None e = refl
    of_xact (Some (Running session)) e = absurd (cc)
    of_xact (Some (Committed number)) e = refl
    of_xact (Some Aborted) e = refl

-- an xid that has committed has a number
pub some_number : (xacts : Xacts) (xid : ℕ) → is_committed xacts xid ≡ true → (number : ℕ) × (commit_number xacts xid ≡ Some number)
some_number xacts xid committed = of_number (commit_number xacts xid) committed
  where
    of_number : (o : Option ℕ) → is_some o ≡ true → (number : ℕ) × (o ≡ Some number)
    of_number None e = absurd (cc)
    of_number (Some number) e = (number, refl)

-- an xid that has committed was given
pub assigned_from_committed : (xacts : Xacts) (xid : ℕ) → is_committed xacts xid ≡ true → IsAssigned xacts xid
assigned_from_committed xacts xid committed = let found = some_xact (xact_at xacts xid) committed in assigned_from_xact xacts xid found.0 found.1
  where
    some_xact : (o : Option Xact) → is_some (option_and_then number_of o) ≡ true → (xact : Xact) × (o ≡ Some xact)
    some_xact None e = absurd (cc)
    some_xact (Some xact) e = (xact, refl)

-- what `status` answers tells whether an xid has committed
pub committed_from_status : (xacts : Xacts) (xid : ℕ) (state : XactState) → status xacts xid ≡ Some state → is_committed xacts xid ≡ is_some (number_of_state state)
committed_from_status xacts xid state is = of_xact (xact_at xacts xid) is
  where
    of_xact : (o : Option Xact) → option_map state_of o ≡ Some state → is_some (option_and_then number_of o) ≡ is_some (number_of_state state)
    of_xact None e = absurd (cc)
    of_xact (Some (Running session)) e = ap (λ s. is_some (number_of_state s)) (same_Some _ _ e)
    of_xact (Some (Committed number)) e = ap (λ s. is_some (number_of_state s)) (same_Some _ _ e)
    of_xact (Some Aborted) e = ap (λ s. is_some (number_of_state s)) (same_Some _ _ e)

-- and the same of an xid that runs, and of one that has aborted
pub running_from_status : (xacts : Xacts) (xid : ℕ) → status xacts xid ≡ Some states.Running → is_running xacts xid ≡ true
running_from_status xacts xid is = of_xact (xact_at xacts xid) is
  where
    of_xact : (o : Option Xact) → option_map state_of o ≡ Some states.Running → is_some (option_and_then session_of o) ≡ true
    of_xact None e = absurd (cc)
    of_xact (Some (Running session)) e = refl
    of_xact (Some (Committed number)) e = absurd (cc)
    of_xact (Some Aborted) e = absurd (cc)

pub aborted_from_status : (xacts : Xacts) (xid : ℕ) → status xacts xid ≡ Some states.Aborted → is_aborted xacts xid ≡ true
aborted_from_status xacts xid is = of_xact (xact_at xacts xid) is
  where
    of_xact : (o : Option Xact) → option_map state_of o ≡ Some states.Aborted → option_map_or has_aborted o false ≡ true
    of_xact None e = absurd (cc)
    of_xact (Some (Running session)) e = absurd (cc)
    of_xact (Some (Committed number)) e = absurd (cc)
    of_xact (Some Aborted) e = refl
