-- Vacuum spares what is protected and the chunks of its values; one live holder; the order of enders.
use Rattle.std.proofs.Common.{◌≡◌, ◌<◌, ◌≤◌, ℕ, true, false, ◌⊎◌, List, Option, Some, None, Contains, nat_le, refl, sym, ap, subst, ◌∙◌, arith, inl, inr}
use Rattle.std.specs.Option.{option_map_or}
use Rattle.std.proofs.lemmas.Bool.Decides.{nat_tests}
use Rattle.std.proofs.lemmas.Option.{same_Some, none-some}
use Rattle.xact_status.specs.Xacts.{Xacts, is_running, is_committed, is_aborted, commit_number}
use Rattle.xact_status.specs.Versions.{is_dead, counts_for, is_current}
use Rattle.xact_status.proofs.Events.{aborted_is_over, aborted_is_uncommitted, committed_is_over, some_number}
use Rattle.snapshot_registry.specs.Snapshots.{Snaps, horizon, is_protected}
use Rattle.snapshot_registry.specs.Laws.{IsRegistryOf, is_committed_by}
use Rattle.snapshot_registry.proofs.Unseen.{dead_cases, dead_is_unseen}
use Rattle.snapshot_registry.proofs.EarlierEnds.{committed_by_number, number_at_most, earlier_ends_are_unseen}
use Rattle.xact_status.specs.declared.Stamp.{Stamp}
use Rattle.value_holders.specs.Stamps.{has_no_end, Runs, IsUnended, IsSoundStamp, has_ended}
use Rattle.value_holders.specs.Holders.{Holders, Protects, AreEnded, AreEndedBy, IsHeld, AreUnended}
use Rattle.value_holders.specs.Laws.{ProtectedIsSpared, OneLiveHolder, EnderOrder}
use Rattle.value_holders.proofs.Tests.{clash, not_true, test, runs_uncommitted, counts_cases, counts_own, counts_committed, ended_by_whom, unended_for, current_from, protected_inserter}
use Rattle.value_holders.proofs.VersionSteps.{unended_whole}

-- the inserter of what is protected has not aborted
inserter_stands : (xacts : Xacts) (snaps : Snaps) (inserter : ℕ) (ender : Option ℕ) → is_protected xacts snaps inserter ender ≡ true → is_aborted xacts inserter ≡ false
inserter_stands xacts snaps inserter ender protected = not_true (is_aborted xacts inserter) (λ aborted. elim (protected_inserter xacts snaps inserter ender protected) [
  | inl runs ↦ clash (is_running xacts inserter) runs (aborted_is_over xacts inserter aborted)
  | inr committed ↦ clash (is_committed xacts inserter) committed (aborted_is_uncommitted xacts inserter aborted)
])

-- while the inserter of a sound stamp runs, no ender has committed
running_unended : (xacts : Xacts) (stamp : Stamp) (ender : ℕ) → IsSoundStamp xacts stamp → stamp.ender ≡ Some ender → is_committed xacts ender ≡ true → is_running xacts stamp.inserter ≡ true → ⊥
running_unended xacts stamp ender sound is committed runs = runs_uncommitted xacts stamp.inserter runs (sym (ap (is_committed xacts) (sound.own_end ender runs is)) ∙ committed)

version_spared : (xacts : Xacts) (snaps : Snaps) (bound : ℕ) (stamp : Stamp) → IsRegistryOf xacts snaps → bound ≤ horizon xacts snaps → IsSoundStamp xacts stamp → is_protected xacts snaps stamp.inserter stamp.ender ≡ true → is_dead xacts bound stamp.inserter stamp.ender ≡ false
version_spared xacts snaps bound stamp registry le sound protected = not_true (is_dead xacts bound stamp.inserter stamp.ender) (λ dead. elim (test (is_running xacts stamp.inserter)) [
  | inl runs ↦ elim (dead_cases xacts bound stamp.inserter stamp.ender dead) [
    | inl aborted ↦ clash (is_aborted xacts stamp.inserter) aborted (inserter_stands xacts snaps stamp.inserter stamp.ender protected)
    | inr ended ↦ running_unended xacts stamp ended.0 sound ended.1 ended.2 runs
  ]
  | inr over ↦ clash (is_protected xacts snaps stamp.inserter stamp.ender) protected (dead_is_unseen.unprotected xacts snaps bound stamp.inserter stamp.ender registry le dead over)
])

not_aborted : {K : Type 0} (xacts : Xacts) (snaps : Snaps) (holders : Holders K) (chunks : List Stamp) (place : K) (stamp chunk : Stamp) → IsHeld xacts snaps holders chunks → Protects xacts snaps holders place stamp → Contains chunks chunk → is_aborted xacts chunk.inserter ≡ false
not_aborted xacts snaps holders chunks place stamp chunk held protects among = elim ((held.each_chunk chunk among).put place stamp protects) [
  | inl same ↦ ap (is_aborted xacts) same ∙ inserter_stands xacts snaps stamp.inserter stamp.ender protects.protected
  | inr committed ↦ not_true (is_aborted xacts chunk.inserter) (λ aborted. clash (is_committed xacts chunk.inserter) committed (aborted_is_uncommitted xacts chunk.inserter aborted))
]

-- what has ended by a number has an ender that has committed with that number at most
by_whom : (xacts : Xacts) (number : ℕ) (ender : Option ℕ) → option_map_or (is_committed_by xacts number) ender false ≡ true → (xid : ℕ) × (ender ≡ Some xid) × (is_committed_by xacts number xid ≡ true)
by_whom xacts number None e = absurd (cc)
by_whom xacts number (Some xid) e = (xid, refl, e)

chunk_spared : {K : Type 0} (xacts : Xacts) (snaps : Snaps) (bound : ℕ) (holders : Holders K) (chunks : List Stamp) (place : K) (stamp chunk : Stamp) → IsRegistryOf xacts snaps → bound ≤ horizon xacts snaps → IsHeld xacts snaps holders chunks → Protects xacts snaps holders place stamp → Contains chunks chunk → is_dead xacts bound chunk.inserter chunk.ender ≡ false
chunk_spared xacts snaps bound holders chunks place stamp chunk registry le held protects among = not_true (is_dead xacts bound chunk.inserter chunk.ender) (λ dead. elim (dead_cases xacts bound chunk.inserter chunk.ender dead) [
  | inl aborted ↦ clash (is_aborted xacts chunk.inserter) aborted (not_aborted xacts snaps holders chunks place stamp chunk held protects among)
  | inr ended ↦
      let number = some_number xacts ended.0 ended.2 in
      let by = by_whom xacts number.0 stamp.ender (((held.each_chunk chunk among).ended ended.0 number.0 ended.1 number.1).each place stamp protects) in
      elim (test (is_running xacts stamp.inserter)) [
        | inl runs ↦ running_unended xacts stamp by.0 (held.sound.each place stamp protects.there) by.1 (committed_by_number xacts number.0 by.0 by.2) runs
        | inr over ↦ clash (is_protected xacts snaps stamp.inserter (Some by.0)) (sym (ap (is_protected xacts snaps stamp.inserter) by.1) ∙ protects.protected)
            (earlier_ends_are_unseen.unprotected xacts snaps bound ended.0 number.0 stamp.inserter by.0 registry le ended.3 number.1 by.2 over)
      ]
])

pub protected_is_spared : {K : Type 0} → ProtectedIsSpared K
protected_is_spared = record { version = version_spared; chunk = chunk_spared; not_aborted = not_aborted }

-- where there is no ender or an aborted one, none runs or has committed
no_end_unended : (xacts : Xacts) (stamp : Stamp) → has_no_end xacts stamp ≡ true → IsUnended xacts stamp.ender
no_end_unended xacts stamp none = record {
  not_ending = λ xid is. aborted_is_over xacts xid (aborted xid is);
  not_ended = λ xid is. aborted_is_uncommitted xacts xid (aborted xid is);
}
  where
    aborted : (xid : ℕ) → stamp.ender ≡ Some xid → is_aborted xacts xid ≡ true
    aborted xid is = sym (ap (λ o. option_map_or (is_aborted xacts) o true) is) ∙ none

-- so what has committed or is a transaction's own is there for it
no_end_current : (xacts : Xacts) (own : Option ℕ) (stamp : Stamp) → Runs xacts own → has_no_end xacts stamp ≡ true → counts_for xacts own stamp.inserter ≡ true → is_current xacts own stamp ≡ true
no_end_current xacts own stamp runs none inserted = current_from xacts own stamp inserted (not_true (has_ended xacts own stamp) (unended_for xacts own stamp runs (no_end_unended xacts stamp none)))

at_most_one : {K : Type 0} (xacts : Xacts) (snaps : Snaps) (holders : Holders K) (chunks : List Stamp) (place other : K) (stamp its : Stamp) → IsHeld xacts snaps holders chunks → Protects xacts snaps holders place stamp → Protects xacts snaps holders other its → has_no_end xacts stamp ≡ true → has_no_end xacts its ≡ true → place ≡ other
at_most_one {K} xacts snaps holders chunks place other stamp its held protects protects_too none none_too = elim (protected_inserter xacts snaps stamp.inserter stamp.ender protects.protected) [
  | inl runs ↦ beside place other stamp its protects protects_too none none_too runs
  | inr committed ↦ elim (protected_inserter xacts snaps its.inserter its.ender protects_too.protected) [
    | inl runs ↦ sym (beside other place its stamp protects_too protects none_too none runs)
    | inr committed_too ↦ held.one_current None place other stamp its tt protects.there protects_too.there (no_end_current xacts None stamp tt none committed) (no_end_current xacts None its tt none_too committed_too)
  ]
]
  where
    -- beside one that a running transaction has inserted
    beside : (one two : K) (a b : Stamp) → Protects xacts snaps holders one a → Protects xacts snaps holders two b → has_no_end xacts a ≡ true → has_no_end xacts b ≡ true → is_running xacts a.inserter ≡ true → one ≡ two
    beside one two a b protects_a protects_b none_a none_b runs = elim (held.one_world one two a b runs protects_a.there protects_b) [
      | inl same ↦ held.one_current (Some a.inserter) one two a b runs protects_a.there protects_b.there
          (no_end_current xacts (Some a.inserter) a runs none_a (counts_own xacts a.inserter))
          (no_end_current xacts (Some a.inserter) b runs none_b (subst (λ x. counts_for xacts (Some a.inserter) x ≡ true) (sym same) (counts_own xacts a.inserter)))
      | inr ended ↦ absurd (unended_for xacts (Some a.inserter) b runs (no_end_unended xacts b none_b) ended.1)
    ]

pub one_live_holder : {K : Type 0} → OneLiveHolder K
one_live_holder = record {
  at_most_one = at_most_one;
  whole = λ xacts snaps holders chunks place stamp held protects none. unended_whole xacts snaps holders chunks place stamp protects (no_end_unended xacts stamp none) held;
}

order_running : {K : Type 0} (xacts : Xacts) (snaps : Snaps) (holders : Holders K) (chunks : List Stamp) (place : K) (stamp chunk : Stamp) (xid : ℕ) → IsHeld xacts snaps holders chunks → Protects xacts snaps holders place stamp → Contains chunks chunk → chunk.ender ≡ Some xid → is_running xacts xid ≡ true → (stamp.ender ≡ Some xid) ⊎ (option_map_or (is_committed xacts) stamp.ender false ≡ true)
order_running xacts snaps holders chunks place stamp chunk xid held protects among is runs =
    let by = ended_by_whom xacts (Some xid) stamp (((held.each_chunk chunk among).ending xid is runs).each place stamp protects) in
    elim (counts_cases xacts xid by.0 by.2) [
      | inl same ↦ inl (by.1 ∙ ap Some (sym same))
      | inr committed ↦ inr (ap (λ o. option_map_or (is_committed xacts) o false) by.1 ∙ committed)
    ]

order_committed : {K : Type 0} (xacts : Xacts) (snaps : Snaps) (holders : Holders K) (chunks : List Stamp) (place : K) (stamp chunk : Stamp) (xid number : ℕ) → IsHeld xacts snaps holders chunks → Protects xacts snaps holders place stamp → Contains chunks chunk → chunk.ender ≡ Some xid → commit_number xacts xid ≡ Some number
    → (ender its : ℕ) × (stamp.ender ≡ Some ender) × (commit_number xacts ender ≡ Some its) × (its ≤ number)
order_committed xacts snaps holders chunks place stamp chunk xid number held protects among is has =
    let by = by_whom xacts number stamp.ender (((held.each_chunk chunk among).ended xid number is has).each place stamp protects) in
    let its = some_number xacts by.0 (committed_by_number xacts number by.0 by.2) in
    (by.0, its.0, by.1, its.1, number_at_most xacts number by.0 its.0 its.1 by.2)

pub ender_order : {K : Type 0} → EnderOrder K
ender_order = record { running = order_running; committed = order_committed }
