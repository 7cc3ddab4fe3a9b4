-- The horizon, what is spared under it, and how transactions stood at the start, through each start and end of a transaction.
use Rattle.std.proofs.Common.{ℕ, ◌≡◌, ◌≢◌, ◌⊎◌, ◌-◌, ◌+◌, ◌≤◌, inl, inr, Bool, true, false, cond, nat_lt, ◌==◌, ◌&&◌, ◌||◌, Option, Some, None, [], ◌∷◌, slice_set, length-append, length-set, refl, sym, ap, ◌∙◌, subst, arith}
use Rattle.std.specs.Option.{option_map_or}
use Rattle.std.proofs.lemmas.Bool.{cases_eq}
use Rattle.std.proofs.lemmas.Bool.Decides.{nat_tests}
use Rattle.std.proofs.lemmas.Option.{same_Some, none-some}
use Rattle.xact_status.specs.declared.Stamp.{Stamp}
use Rattle.xact_status.specs.declared.Xact.{Xact}
use Rattle.xact_status.specs.declared.Xact.TheVariants.{Running, Committed, Aborted}
use Rattle.xact_status.specs.Versions.{is_dead}
use Rattle.xact_status.specs.Xacts.{Xacts, after_assign, after_commit, after_abort, commit_count, has_aborted, is_aborted, is_committed, is_running, next_xid, xact_at}
use Rattle.xact_status.proofs.Places.{assigned_from_running, xact_at_next, xact_at_push, xact_at_set}
use Rattle.xact_status.proofs.Events.{aborted_is_over, committed_abort, committed_assign, committed_commit, running_assign, running_is_uncommitted, running_set}
use Rattle.toast_vacuum.specs.Holds.{IsHorizon, IsLater, IsSpared}

clash : true ≡ false → ⊥
clash e = cc

-- who runs has neither aborted nor committed
pub running_is_unaborted : (xacts : Xacts) (xid : ℕ) → is_running xacts xid ≡ true → is_aborted xacts xid ≡ true → ⊥
running_is_unaborted xacts xid runs aborted = clash (sym runs ∙ aborted_is_over xacts xid aborted)

pub running_not_committed : (xacts : Xacts) (xid : ℕ) → is_running xacts xid ≡ true → is_committed xacts xid ≡ true → ⊥
running_not_committed xacts xid runs committed = clash (sym committed ∙ running_is_uncommitted xacts xid runs)

-- a start leaves who has aborted, and an end changes that of its own xid alone
aborted_assign : (xacts : Xacts) (session xid : ℕ) → is_aborted (after_assign xacts session) xid ≡ is_aborted xacts xid
aborted_assign xacts session xid = elim (cases_eq xid (next_xid xacts)) [
  | inl same ↦ ap (λ o. option_map_or has_aborted o false) (xact_at_push xacts (Running session) xid) ∙ grind (arith, nat_tests, same, ap (xact_at xacts) same, xact_at_next xacts)
  | inr other ↦ ap (λ o. option_map_or has_aborted o false) (xact_at_push xacts (Running session) xid ∙ grind (arith, nat_tests))
]

aborted_set : (xacts : Xacts) (ends : ℕ) (xact : Xact) → is_running xacts ends ≡ true → (xid : ℕ) → is_aborted (slice_set xacts (ends - 3) xact) xid ≡ cond (xid == ends) (has_aborted xact) (is_aborted xacts xid)
aborted_set xacts ends xact runs xid = elim (cases_eq xid ends) [
  | inl same ↦ ap (λ o. option_map_or has_aborted o false) (xact_at_set xacts ends xact (assigned_from_running xacts ends runs) xid) ∙ grind (arith, nat_tests)
  | inr other ↦ ap (λ o. option_map_or has_aborted o false) (xact_at_set xacts ends xact (assigned_from_running xacts ends runs) xid) ∙ grind (arith, nat_tests)
]

-- a test that is decided at one number
here : (m n : ℕ) (a b : Bool) → m ≡ n → cond (m == n) a b ≡ a
here m n a b same = grind (arith, nat_tests)

elsewhere : (m n : ℕ) (a b : Bool) → m ≢ n → cond (m == n) a b ≡ b
elsewhere m n a b other = grind (arith, nat_tests)

-- who has aborted or committed later had done so, or its xid is at or above the horizon
pub record IsAfter (xacts later : Xacts) (horizon : ℕ) : Type 0 where
  pub aborted : (xid : ℕ) → is_aborted later xid ≡ true → (is_aborted xacts xid ≡ true) ⊎ (horizon ≤ xid)
  pub committed : (xid : ℕ) → is_committed later xid ≡ true → (is_committed xacts xid ≡ true) ⊎ (horizon ≤ xid)

pub after_assigned : (xacts : Xacts) (session horizon : ℕ) → IsAfter xacts (after_assign xacts session) horizon
after_assigned xacts session horizon = record {
  aborted = λ xid is. inl (sym (aborted_assign xacts session xid) ∙ is);
  committed = λ xid is. inl (sym (committed_assign xacts session xid) ∙ is);
}

at_or_above : (xacts : Xacts) (horizon ends xid : ℕ) → IsHorizon xacts horizon → is_running xacts ends ≡ true → xid ≡ ends → horizon ≤ xid
at_or_above xacts horizon ends xid bound runs same = omega (arith, bound.running ends runs, same)

pub after_committed : (xacts : Xacts) (ends horizon : ℕ) → is_running xacts ends ≡ true → IsHorizon xacts horizon → IsAfter xacts (after_commit xacts ends) horizon
after_committed xacts ends horizon runs bound = record {
  aborted = λ xid is. elim (cases_eq xid ends) [
    | inl same ↦ inr (at_or_above xacts horizon ends xid bound runs same)
    | inr other ↦ inl (sym (aborted_set xacts ends (Committed (commit_count xacts + 1)) runs xid ∙ elsewhere xid ends false (is_aborted xacts xid) other) ∙ is)
  ];
  committed = λ xid is. elim (cases_eq xid ends) [
    | inl same ↦ inr (at_or_above xacts horizon ends xid bound runs same)
    | inr other ↦ inl (sym (committed_commit xacts ends runs xid ∙ elsewhere xid ends true (is_committed xacts xid) other) ∙ is)
  ];
}

pub after_aborted : (xacts : Xacts) (ends horizon : ℕ) → is_running xacts ends ≡ true → IsHorizon xacts horizon → IsAfter xacts (after_abort xacts ends) horizon
after_aborted xacts ends horizon runs bound = record {
  aborted = λ xid is. elim (cases_eq xid ends) [
    | inl same ↦ inr (at_or_above xacts horizon ends xid bound runs same)
    | inr other ↦ inl (sym (aborted_set xacts ends Aborted runs xid ∙ elsewhere xid ends true (is_aborted xacts xid) other) ∙ is)
  ];
  committed = λ xid is. inl (sym (committed_abort xacts ends runs xid) ∙ is);
}

-- so what is spared stays so
pub spared_after : (xacts later : Xacts) (horizon : ℕ) (stamp : Stamp) → IsAfter xacts later horizon → IsSpared xacts horizon stamp → IsSpared later horizon stamp
spared_after xacts later horizon stamp after spared = record {
  inserted = λ is. elim (after.aborted stamp.inserter is) [ inl before ↦ spared.inserted before | inr above ↦ above ];
  ended = λ xid ender is. elim (after.committed xid is) [ inl before ↦ spared.ended xid ender before | inr above ↦ above ];
}

-- and the horizon a horizon
pub horizon_assigned : (xacts : Xacts) (session horizon : ℕ) → IsHorizon xacts horizon → IsHorizon (after_assign xacts session) horizon
horizon_assigned xacts session horizon bound = record {
  running = λ xid runs. elim (running_assign xacts session xid runs) [ inl new ↦ omega (arith, new, bound.next) | inr before ↦ bound.running xid before ];
  next = omega (arith, bound.next, length-append xacts (Running session ∷ []));
}

horizon_set : (xacts : Xacts) (ends : ℕ) (xact : Xact) (horizon : ℕ) → ((xid : ℕ) → is_running (slice_set xacts (ends - 3) xact) xid ≡ true → is_running xacts xid ≡ true) → IsHorizon xacts horizon → IsHorizon (slice_set xacts (ends - 3) xact) horizon
horizon_set xacts ends xact horizon before bound = record {
  running = λ xid runs. bound.running xid (before xid runs);
  next = omega (arith, bound.next, length-set xacts (ends - 3) xact);
}

pub horizon_committed : (xacts : Xacts) (ends horizon : ℕ) → is_running xacts ends ≡ true → IsHorizon xacts horizon → IsHorizon (after_commit xacts ends) horizon
horizon_committed xacts ends horizon runs bound = horizon_set xacts ends (Committed (commit_count xacts + 1)) horizon (λ xid still. (running_set xacts ends (Committed (commit_count xacts + 1)) refl runs xid still).1) bound

pub horizon_aborted : (xacts : Xacts) (ends horizon : ℕ) → is_running xacts ends ≡ true → IsHorizon xacts horizon → IsHorizon (after_abort xacts ends) horizon
horizon_aborted xacts ends horizon runs bound = horizon_set xacts ends Aborted horizon (λ xid still. (running_set xacts ends Aborted refl runs xid still).1) bound

-- what was put by a running transaction and what one has ended
pub spared_put : (xacts : Xacts) (horizon : ℕ) (stamp : Stamp) → is_running xacts stamp.inserter ≡ true → stamp.ender ≡ None → IsSpared xacts horizon stamp
spared_put xacts horizon stamp runs unended = record {
  inserted = λ is. absurd (running_is_unaborted xacts stamp.inserter runs is);
  ended = λ xid ender is. absurd (none-some xid (sym unended ∙ ender));
}

pub spared_ended : (xacts : Xacts) (horizon xid : ℕ) (old new : Stamp) → is_running xacts xid ≡ true → new.inserter ≡ old.inserter → new.ender ≡ Some xid → IsSpared xacts horizon old → IsSpared xacts horizon new
spared_ended xacts horizon xid old new runs same ends spared = record {
  inserted = λ is. subst (λ x. horizon ≤ x) (sym same) (spared.inserted (ap (is_aborted xacts) (sym same) ∙ is));
  ended = λ x ender is. absurd (running_not_committed xacts xid runs (ap (is_committed xacts) (same_Some xid x (sym ends ∙ ender)) ∙ is));
}

-- what is not dead is spared
or_false : (a b : Bool) → (a || b) ≡ false → (a ≡ false) × (b ≡ false)
or_false true b is = absurd (clash is)
or_false false b is = (refl, is)

and_not : (a b : Bool) → (a && b) ≡ false → a ≡ true → b ≡ false
and_not true b is sure = is
and_not false b is sure = absurd (clash (sym sure))

not_below : (m n : ℕ) → nat_lt m n ≡ false → n ≤ m
not_below m n is = grind (arith, nat_tests)

pub spared_alive : (xacts : Xacts) (horizon : ℕ) (stamp : Stamp) → is_dead xacts horizon stamp.inserter stamp.ender ≡ false → IsSpared xacts horizon stamp
spared_alive xacts horizon stamp alive =
    let parts = or_false (is_aborted xacts stamp.inserter) (option_map_or (λ xid. is_committed xacts xid && nat_lt xid horizon) stamp.ender false) alive in
    record {
      inserted = λ is. absurd (clash (sym is ∙ parts.0));
      ended = λ xid ender is. not_below xid horizon (and_not (is_committed xacts xid) (nat_lt xid horizon) (ap (λ o. option_map_or (λ x. is_committed xacts x && nat_lt x horizon) o false) (sym ender) ∙ parts.1) is);
    }

-- how transactions stood stays behind
pub later_assigned : (first xacts : Xacts) (session : ℕ) → IsLater first xacts → IsLater first (after_assign xacts session)
later_assigned first xacts session later = record {
  aborted = λ xid is. aborted_assign xacts session xid ∙ later.aborted xid is;
  committed = λ xid is. committed_assign xacts session xid ∙ later.committed xid is;
}

pub later_committed : (first xacts : Xacts) (ends : ℕ) → is_running xacts ends ≡ true → IsLater first xacts → IsLater first (after_commit xacts ends)
later_committed first xacts ends runs later = record {
  aborted = λ xid is. elim (cases_eq xid ends) [
    | inl same ↦ absurd (running_is_unaborted xacts ends runs (ap (is_aborted xacts) (sym same) ∙ later.aborted xid is))
    | inr other ↦ aborted_set xacts ends (Committed (commit_count xacts + 1)) runs xid ∙ elsewhere xid ends false (is_aborted xacts xid) other ∙ later.aborted xid is
  ];
  committed = λ xid is. elim (cases_eq xid ends) [
    | inl same ↦ committed_commit xacts ends runs xid ∙ here xid ends true (is_committed xacts xid) same
    | inr other ↦ committed_commit xacts ends runs xid ∙ elsewhere xid ends true (is_committed xacts xid) other ∙ later.committed xid is
  ];
}

pub later_aborted : (first xacts : Xacts) (ends : ℕ) → is_running xacts ends ≡ true → IsLater first xacts → IsLater first (after_abort xacts ends)
later_aborted first xacts ends runs later = record {
  aborted = λ xid is. elim (cases_eq xid ends) [
    | inl same ↦ aborted_set xacts ends Aborted runs xid ∙ here xid ends true (is_aborted xacts xid) same
    | inr other ↦ aborted_set xacts ends Aborted runs xid ∙ elsewhere xid ends true (is_aborted xacts xid) other ∙ later.aborted xid is
  ];
  committed = λ xid is. committed_abort xacts ends runs xid ∙ later.committed xid is;
}

-- a new item was not dead at the start, nor is one that has just been ended, where it was not before
false_or : (a b : Bool) → a ≡ false → b ≡ false → (a || b) ≡ false
false_or true b never other = absurd (clash never)
false_or false b never other = other

false_and : (a b : Bool) → (a ≡ true → ⊥) → (a && b) ≡ false
false_and true b never = absurd (never refl)
false_and false b never = refl

false_unless : (b : Bool) → (b ≡ true → ⊥) → b ≡ false
false_unless true never = absurd (never refl)
false_unless false never = refl

pub new_alive : (first xacts : Xacts) (horizon : ℕ) (stamp : Stamp) → IsLater first xacts → is_running xacts stamp.inserter ≡ true → stamp.ender ≡ None → is_dead first horizon stamp.inserter stamp.ender ≡ false
new_alive first xacts horizon stamp later runs unended = false_or (is_aborted first stamp.inserter) (option_map_or (λ xid. is_committed first xid && nat_lt xid horizon) stamp.ender false)
    (false_unless (is_aborted first stamp.inserter) (λ is. running_is_unaborted xacts stamp.inserter runs (later.aborted stamp.inserter is)))
    (ap (λ o. option_map_or (λ xid. is_committed first xid && nat_lt xid horizon) o false) unended)

pub ended_alive : (first xacts : Xacts) (horizon xid : ℕ) (old new : Stamp) → IsLater first xacts → is_running xacts xid ≡ true → new.inserter ≡ old.inserter → new.ender ≡ Some xid → is_dead first horizon old.inserter old.ender ≡ false → is_dead first horizon new.inserter new.ender ≡ false
ended_alive first xacts horizon xid old new later runs same ends alive = false_or (is_aborted first new.inserter) (option_map_or (λ x. is_committed first x && nat_lt x horizon) new.ender false)
    (ap (is_aborted first) same ∙ (or_false (is_aborted first old.inserter) (option_map_or (λ x. is_committed first x && nat_lt x horizon) old.ender false) alive).0)
    (ap (λ o. option_map_or (λ x. is_committed first x && nat_lt x horizon) o false) ends ∙ false_and (is_committed first xid) (nat_lt xid horizon) (λ is. running_not_committed xacts xid runs (later.committed xid is)))

-- what is not dead now was not dead at the start
pub alive_before : (first xacts : Xacts) (horizon : ℕ) (stamp : Stamp) → IsLater first xacts → is_dead xacts horizon stamp.inserter stamp.ender ≡ false → is_dead first horizon stamp.inserter stamp.ender ≡ false
alive_before first xacts horizon stamp later alive =
    let parts = or_false (is_aborted xacts stamp.inserter) (option_map_or (λ x. is_committed xacts x && nat_lt x horizon) stamp.ender false) alive in
    false_or (is_aborted first stamp.inserter) (option_map_or (λ x. is_committed first x && nat_lt x horizon) stamp.ender false)
    (false_unless (is_aborted first stamp.inserter) (λ is. clash (sym (later.aborted stamp.inserter is) ∙ parts.0)))
    (by_ender stamp.ender parts.1)
  where
    by_test : (x : ℕ) → (is_committed xacts x && nat_lt x horizon) ≡ false → (b : Bool) → is_committed first x ≡ b → (b && nat_lt x horizon) ≡ false
    by_test x was true is = and_not (is_committed xacts x) (nat_lt x horizon) was (later.committed x is)
    by_test x was false is = refl

    by_ender : (o : Option ℕ) → option_map_or (λ x. is_committed xacts x && nat_lt x horizon) o false ≡ false → option_map_or (λ x. is_committed first x && nat_lt x horizon) o false ≡ false
    by_ender None was = refl
    by_ender (Some x) was = by_test x was (is_committed first x) refl
