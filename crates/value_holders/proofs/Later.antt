-- What every start, commit and abort of a transaction and every call on the registry leaves of each test: what was given stays so, what runs ran, what has committed keeps its number, and what is protected was so.
use Rattle.std.proofs.Common.{◌≡◌, ◌≢◌, ◌+◌, ◌-◌, ℕ, Bool, true, false, cond, Option, Some, None, is_some, ◌==◌, refl, sym, ap, ◌∙◌, arith, inl, inr}
use mathlib.Core.Bool.{false≢true}
use Rattle.std.proofs.lemmas.Bool.Decides.{nat_tests}
use Rattle.xact_status.specs.declared.Xact.TheVariants.{Committed, Aborted}
use Rattle.xact_status.specs.Xacts.{Xacts, IsAssigned, is_running, is_committed, commit_number, commit_count, after_assign, after_commit, after_abort}
use Rattle.xact_status.proofs.Numbers.{number_assign, number_commit, number_abort, number_running}
use Rattle.xact_status.proofs.Events.{assigned_assign, assigned_set, running_assign, running_set, some_number}
use Rattle.snapshot_registry.specs.Snapshots.{Snaps, is_protected, after_take, after_share, after_release}
use Rattle.snapshot_registry.specs.Laws.{IsRegistryOf, IsUnprotected}
use Rattle.snapshot_registry.proofs.Unprotected.{unprotected_stays}

pub record IsLater (old new : Xacts) (before after : Snaps) : Type 0 where
  pub given : (xid : ℕ) → IsAssigned old xid → IsAssigned new xid
  pub runs : (xid : ℕ) → IsAssigned old xid → is_running new xid ≡ true → is_running old xid ≡ true
  pub numbers : (xid number : ℕ) → commit_number old xid ≡ Some number → commit_number new xid ≡ Some number
  pub protected : (inserter : ℕ) (ender : Option ℕ) → IsAssigned old inserter → is_protected new after inserter ender ≡ true → is_protected old before inserter ender ≡ true

-- so what has committed stays so
pub committed_later : (old new : Xacts) (before after : Snaps) → IsLater old new before after → (xid : ℕ) → is_committed old xid ≡ true → is_committed new xid ≡ true
committed_later old new before after later xid committed =
    let number = some_number old xid committed in
    ap is_some (later.numbers xid number.0 number.1)

-- what is protected was so, where what was not stays so
was_protected : (now was : Bool) → (was ≡ false → now ≡ false) → now ≡ true → was ≡ true
was_protected now true stays protected = refl
was_protected now false stays protected = absurd (false≢true (sym (stays refl) ∙ protected))

-- a start
pub later_assign : (xacts : Xacts) (snaps : Snaps) (session : ℕ) → IsRegistryOf xacts snaps → IsLater xacts (after_assign xacts session) snaps snaps
later_assign xacts snaps session registry = record {
  given = assigned_assign xacts session;
  runs = λ xid given runs. elim (running_assign xacts session xid runs) [
    | inl new ↦ absurd (omega (arith, new, given.below_next))
    | inr ran ↦ ran
  ];
  numbers = λ xid number is. number_assign xacts session xid ∙ is;
  protected = λ inserter ender given. was_protected (is_protected (after_assign xacts session) snaps inserter ender) (is_protected xacts snaps inserter ender)
      (λ un. (unprotected_stays.assigned xacts snaps session inserter ender registry (record { given = given; unprotected = un })).unprotected);
}

-- what has a number does not run, so it is another than what ends
numbered_differs : (xacts : Xacts) (over xid number : ℕ) → is_running xacts over ≡ true → commit_number xacts xid ≡ Some number → xid ≢ over
numbered_differs xacts over xid number runs is same = some-none number (sym is ∙ ap (commit_number xacts) same ∙ number_running xacts over runs)
  where
    some-none : (n : ℕ) → Some n ≡ None → ⊥
    some-none n e = cc

-- a commit
pub later_commit : (xacts : Xacts) (snaps : Snaps) (over : ℕ) → is_running xacts over ≡ true → IsRegistryOf xacts snaps → IsLater xacts (after_commit xacts over) snaps snaps
later_commit xacts snaps over runs registry = record {
  given = λ xid. assigned_set xacts (over - 3) xid (Committed (commit_count xacts + 1));
  runs = λ xid given still. (running_set xacts over (Committed (commit_count xacts + 1)) refl runs xid still).1;
  numbers = λ xid number is. number_commit xacts over runs xid ∙ another xid over (commit_number xacts xid) (numbered_differs xacts over xid number runs is) ∙ is;
  protected = λ inserter ender given. was_protected (is_protected (after_commit xacts over) snaps inserter ender) (is_protected xacts snaps inserter ender)
      (λ un. (unprotected_stays.committed xacts snaps over inserter ender runs registry (record { given = given; unprotected = un })).unprotected);
}
  where
    another : (m n : ℕ) (o : Option ℕ) → m ≢ n → cond (m == n) (Some (commit_count xacts + 1)) o ≡ o
    another m n o differ = grind (arith, nat_tests)

-- an abort
pub later_abort : (xacts : Xacts) (snaps : Snaps) (over : ℕ) → is_running xacts over ≡ true → IsRegistryOf xacts snaps → IsLater xacts (after_abort xacts over) snaps snaps
later_abort xacts snaps over runs registry = record {
  given = λ xid. assigned_set xacts (over - 3) xid Aborted;
  runs = λ xid given still. (running_set xacts over Aborted refl runs xid still).1;
  numbers = λ xid number is. number_abort xacts over runs xid ∙ is;
  protected = λ inserter ender given. was_protected (is_protected (after_abort xacts over) snaps inserter ender) (is_protected xacts snaps inserter ender)
      (λ un. (unprotected_stays.aborted xacts snaps over inserter ender runs registry (record { given = given; unprotected = un })).unprotected);
}

-- a call on the registry
later_snaps : (xacts : Xacts) (before after : Snaps) → ((inserter : ℕ) (ender : Option ℕ) → IsUnprotected xacts before inserter ender → IsUnprotected xacts after inserter ender) → IsLater xacts xacts before after
later_snaps xacts before after stays = record {
  given = λ xid given. given;
  runs = λ xid given runs. runs;
  numbers = λ xid number is. is;
  protected = λ inserter ender given. was_protected (is_protected xacts after inserter ender) (is_protected xacts before inserter ender)
      (λ un. (stays inserter ender (record { given = given; unprotected = un })).unprotected);
}

pub later_take : (xacts : Xacts) (snaps : Snaps) → IsLater xacts xacts snaps (after_take snaps xacts)
later_take xacts snaps = later_snaps xacts snaps (after_take snaps xacts) (unprotected_stays.taken xacts snaps)

pub later_share : (xacts : Xacts) (snaps : Snaps) (id : ℕ) → IsLater xacts xacts snaps (after_share snaps id)
later_share xacts snaps id = later_snaps xacts snaps (after_share snaps id) (unprotected_stays.shared xacts snaps id)

pub later_release : (xacts : Xacts) (snaps : Snaps) (id : ℕ) → IsLater xacts xacts snaps (after_release snaps id)
later_release xacts snaps id = later_snaps xacts snaps (after_release snaps id) (unprotected_stays.released xacts snaps id)
