-- What a version step finds and leaves, and what an end by a running transaction keeps.
use Rattle.std.proofs.Common.{◌≡◌, ◌≢◌, ℕ, true, false, not, ◌⊎◌, List, Option, Some, None, Contains, refl, sym, ap, subst, ◌∙◌, inl, inr}
use Rattle.std.specs.Option.{option_map_or}
use Rattle.xact_status.specs.Xacts.{Xacts, is_running, is_committed, commit_number}
use Rattle.xact_status.proofs.Events.{some_number}
use Rattle.snapshot_registry.specs.Snapshots.{Snaps, is_protected}
use Rattle.snapshot_registry.specs.Laws.{is_committed_by}
use Rattle.snapshot_registry.proofs.EarlierEnds.{committed_by_number}
use Rattle.xact_status.specs.declared.Stamp.{Stamp}
use Rattle.xact_status.specs.Versions.{counts_for, is_current}
use Rattle.value_holders.specs.Stamps.{Runs, IsUnended, IsOpenFor, IsSoundStamp, ended_by, has_ended}
use Rattle.value_holders.specs.Holders.{Holders, Protects, AreEnded, AreEndedBy, IsHeld, AreUnended, ArePutBy, IsEndedAt}
use Rattle.value_holders.specs.Laws.{VersionStepTells}
use Rattle.value_holders.proofs.Tests.{clash, not_true, test, runs_uncommitted, counts_cases, counts_own, counts_committed, ended_by_whom, ended_from, unended_for, current_parts, current_from, protected_inserter, protected_running, protected_unended, current_is_protected}

-- what a transaction may end is there for it
pub open_is_current : (xacts : Xacts) (xid : ℕ) (stamp : Stamp) → is_running xacts xid ≡ true → IsOpenFor xacts xid stamp → is_current xacts (Some xid) stamp ≡ true
open_is_current xacts xid stamp runs opened = current_from xacts (Some xid) stamp opened.inserted (not_true (has_ended xacts (Some xid) stamp) (unended_for xacts (Some xid) stamp runs opened.unended))

-- so it is protected
pub open_is_protected : (xacts : Xacts) (snaps : Snaps) (xid : ℕ) (stamp : Stamp) → is_running xacts xid ≡ true → IsOpenFor xacts xid stamp → is_protected xacts snaps stamp.inserter stamp.ender ≡ true
open_is_protected xacts snaps xid stamp runs opened = current_is_protected xacts snaps (Some xid) stamp runs (open_is_current xacts xid stamp runs opened)

-- where its inserter runs, that is the transaction
pub open_is_own : (xacts : Xacts) (xid : ℕ) (stamp : Stamp) → IsOpenFor xacts xid stamp → is_running xacts stamp.inserter ≡ true → xid ≡ stamp.inserter
open_is_own xacts xid stamp opened runs = elim (counts_cases xacts xid stamp.inserter opened.inserted) [
  | inl same ↦ same
  | inr committed ↦ absurd (runs_uncommitted xacts stamp.inserter runs committed)
]

-- no chunk has ended of a value that a protected version without an end holds
pub unended_whole : {K : Type 0} (xacts : Xacts) (snaps : Snaps) (holders : Holders K) (chunks : List Stamp) (place : K) (was : Stamp) → Protects xacts snaps holders place was → IsUnended xacts was.ender → IsHeld xacts snaps holders chunks → AreUnended xacts chunks
unended_whole xacts snaps holders chunks place was protects unended held = record {
  each = λ chunk among. record {
    not_ending = λ xid is. not_true (is_running xacts xid) (λ runs. unended_for xacts (Some xid) was runs unended (((held.each_chunk chunk among).ending xid is runs).each place was protects));
    not_ended = λ xid is. not_true (is_committed xacts xid) (λ committed.
        let number = some_number xacts xid committed in
        of_ender number.0 was.ender refl (((held.each_chunk chunk among).ended xid number.0 is number.1).each place was protects));
  };
}
  where
    of_ender : (number : ℕ) (o : Option ℕ) → was.ender ≡ o → option_map_or (is_committed_by xacts number) o false ≡ true → ⊥
    of_ender number None is e = cc
    of_ender number (Some ender) is e = clash (is_committed xacts ender) (committed_by_number xacts number ender e) (unended.not_ended ender is)

whole_before : {K : Type 0} (xacts : Xacts) (snaps : Snaps) (holders : Holders K) (chunks : List Stamp) (xid : ℕ) (place : K) (was : Stamp) → is_running xacts xid ≡ true → IsOpenFor xacts xid was → holders place ≡ Some was → IsHeld xacts snaps holders chunks → AreUnended xacts chunks
whole_before xacts snaps holders chunks xid place was runs opened there = unended_whole xacts snaps holders chunks place was (record { there = there; protected = open_is_protected xacts snaps xid was runs opened }) opened.unended

put_before : {K : Type 0} (xacts : Xacts) (snaps : Snaps) (holders : Holders K) (chunks : List Stamp) (xid : ℕ) (place : K) (was : Stamp) → is_running xacts xid ≡ true → IsOpenFor xacts xid was → holders place ≡ Some was → IsHeld xacts snaps holders chunks → ArePutBy xacts xid chunks
put_before xacts snaps holders chunks xid place was runs opened there held = record {
  each = λ chunk among.
      elim ((held.each_chunk chunk among).put place was (record { there = there; protected = open_is_protected xacts snaps xid was runs opened })) [
        | inl same ↦ elim (counts_cases xacts xid was.inserter opened.inserted) [
          | inl own ↦ inl (same ∙ sym own)
          | inr committed ↦ inr (ap (is_committed xacts) same ∙ committed)
        ]
        | inr committed ↦ inr committed
      ];
}

-- each protected version that holds the value, but the one that a transaction may end, has ended for it
others_ended : {K : Type 0} (xacts : Xacts) (snaps : Snaps) (old : Holders K) (chunks : List Stamp) (xid : ℕ) (place : K) (was : Stamp) → is_running xacts xid ≡ true → IsOpenFor xacts xid was → old place ≡ Some was → IsHeld xacts snaps old chunks
    → (other : K) (its : Stamp) → other ≢ place → Protects xacts snaps old other its → has_ended xacts (Some xid) its ≡ true
others_ended xacts snaps old chunks xid place was runs opened there held other its differ protects = elim (test (has_ended xacts (Some xid) its)) [
  | inl ended ↦ ended
  | inr unended ↦ absurd (elim (protected_inserter xacts snaps its.inserter its.ender protects.protected) [
    | inl running ↦ elim (held.one_world other place its was running protects.there (record { there = there; protected = open_is_protected xacts snaps xid was runs opened })) [
      | inl same ↦
          let own = open_is_own xacts xid was opened (ap (is_running xacts) same ∙ running) in
          alone unended (subst (λ x. counts_for xacts (Some xid) x ≡ true) (own ∙ same) (counts_own xacts xid))
      | inr ended ↦ unended_for xacts (Some its.inserter) was running opened.unended ended.1
    ]
    | inr committed ↦ alone unended (counts_committed xacts (Some xid) its.inserter committed)
  ])
]
  where
    alone : has_ended xacts (Some xid) its ≡ false → counts_for xacts (Some xid) its.inserter ≡ true → ⊥
    alone unended inserted = differ (held.one_current (Some xid) other place its was runs protects.there there (current_from xacts (Some xid) its inserted unended) (open_is_current xacts xid was runs opened))

all_ended : {K : Type 0} (xacts : Xacts) (snaps : Snaps) (old new : Holders K) (chunks : List Stamp) (xid : ℕ) (place : K) (was : Stamp) → is_running xacts xid ≡ true → IsOpenFor xacts xid was → IsEndedAt old new xid place was → IsHeld xacts snaps old chunks → AreEnded xacts snaps new xid
all_ended xacts snaps old new chunks xid place was runs opened step held = record {
  each = λ other its protects. elim (step.each other its protects.there) [
    | inl here ↦ ended_from xacts (Some xid) its xid (ap (λ (s : Stamp). s.ender) here.1) (counts_own xacts xid)
    | inr there ↦ others_ended xacts snaps old chunks xid place was runs opened step.there held other its there.0 (record { there = there.1; protected = protects.protected })
  ];
}

closed : {K : Type 0} (xacts : Xacts) (snaps : Snaps) (holders : Holders K) (xid other : ℕ) (place : K) (was : Stamp) → is_running xacts xid ≡ true → is_running xacts other ≡ true → AreEnded xacts snaps holders xid → holders place ≡ Some was → IsOpenFor xacts other was → ⊥
closed xacts snaps holders xid other place was runs runs_too ended there opened = unended_for xacts (Some xid) was runs opened.unended (ended.each place was (record { there = there; protected = open_is_protected xacts snaps other was runs_too opened }))

pub version_step_tells : {K : Type 0} → VersionStepTells K
version_step_tells = record { all_ended = all_ended; whole_before = whole_before; put_before = put_before; closed = closed }
