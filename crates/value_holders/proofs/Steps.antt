-- The steps of versions and of chunks keep a held value held.
use Rattle.std.proofs.Common.{◌≡◌, ◌≢◌, ℕ, true, false, not, ◌⊎◌, List, Option, Some, None, is_some, Contains, refl, sym, ap, subst, ◌∙◌, inl, inr}
use Rattle.std.specs.Option.{option_map_or}
use Rattle.std.proofs.lemmas.Option.{same_Some, none-some}
use Rattle.xact_status.specs.Xacts.{Xacts, is_running, is_committed, commit_number}
use Rattle.xact_status.proofs.Places.{assigned_from_running}
use Rattle.xact_status.proofs.Numbers.{number_running}
use Rattle.xact_status.proofs.Events.{committed_is_over, assigned_from_committed}
use Rattle.snapshot_registry.specs.Snapshots.{Snaps, is_protected}
use Rattle.xact_status.specs.declared.Stamp.{Stamp}
use Rattle.xact_status.specs.Versions.{counts_for, is_current}
use Rattle.value_holders.specs.Stamps.{Runs, IsUnended, IsOpenFor, IsSoundStamp, ended_by, fresh, has_ended}
use Rattle.value_holders.specs.Holders.{Holders, AreSound, Protects, AreEnded, AreEndedBy, IsChunkHeld, IsHeld, AreUnended, ArePutBy, IsEndedAt, Joins, IsPartOf, MayEnd, AreAmong}
use Rattle.value_holders.specs.Laws.{StepsKeepHeld}
use Rattle.value_holders.proofs.Tests.{clash, not_true, test, runs_uncommitted, counts_cases, counts_own, counts_committed, counts_running, ended_by_whom, ended_from, ended_for_all, unended_for, current_parts, current_from, protected_inserter, protected_running, protected_unended, current_is_protected}
use Rattle.value_holders.proofs.VersionSteps.{open_is_protected, open_is_own, version_step_tells}

-- an ender that neither runs nor has committed says nothing of a chunk
unended_chunk : {K : Type 0} (xacts : Xacts) (snaps : Snaps) (holders : Holders K) (chunk : Stamp) → IsUnended xacts chunk.ender
    → ((place : K) (stamp : Stamp) → Protects xacts snaps holders place stamp → (chunk.inserter ≡ stamp.inserter) ⊎ (is_committed xacts chunk.inserter ≡ true)) → IsChunkHeld xacts snaps holders chunk
unended_chunk xacts snaps holders chunk unended put = record {
  ending = λ xid is runs. absurd (clash (is_running xacts xid) runs (unended.not_ending xid is));
  ended = λ xid number is has. absurd (clash (is_committed xacts xid) (ap is_some has) (unended.not_ended xid is));
  put = put;
}

-- no protected holder
unheld : {K : Type 0} (xacts : Xacts) (snaps : Snaps) (holders : Holders K) (chunks : List Stamp) → AreSound xacts holders → ((place : K) (stamp : Stamp) → Protects xacts snaps holders place stamp → ⊥) → IsHeld xacts snaps holders chunks
unheld xacts snaps holders chunks sound none = record {
  sound = sound;
  one_current = λ own place other stamp its runs is is_too current current_too. absurd (none place stamp (record { there = is; protected = current_is_protected xacts snaps own stamp runs current }));
  one_world = λ place other stamp its running is protects. absurd (none other its protects);
  each_chunk = λ chunk among. record {
    ending = λ xid is runs. record { each = λ place stamp protects. absurd (none place stamp protects) };
    ended = λ xid number is has. record { each = λ place stamp protects. absurd (none place stamp protects) };
    put = λ place stamp protects. absurd (none place stamp protects);
  };
}

-- a holder comes
joined : {K : Type 0} (xacts : Xacts) (snaps : Snaps) (old new : Holders K) (chunks : List Stamp) (xid : ℕ) (place : K) → is_running xacts xid ≡ true → AreEnded xacts snaps old xid → AreUnended xacts chunks → ArePutBy xacts xid chunks → Joins old new xid place → IsHeld xacts snaps old chunks → IsHeld xacts snaps new chunks
joined {K} xacts snaps old new chunks xid place running ended unended put step held = record {
  sound = record {
    each = λ other stamp is. elim (step.each other stamp is) [
      | inl here ↦ subst (IsSoundStamp xacts) (sym here.1) (record { given = assigned_from_running xacts xid running; own_end = λ ender runs none. absurd (none-some ender none) })
      | inr there ↦ held.sound.each other stamp there
    ];
  };
  one_current = λ own one other stamp its runs is is_too current current_too. elim (step.each one stamp is) [
    | inl here ↦ elim (step.each other its is_too) [
      | inl here_too ↦ here.0 ∙ sym here_too.0
      | inr there ↦ absurd (alone own other stamp its here.1 there runs current current_too)
    ]
    | inr there ↦ elim (step.each other its is_too) [
      | inl here ↦ absurd (alone own one its stamp here.1 there runs current_too current)
      | inr there_too ↦ held.one_current own one other stamp its runs there there_too current current_too
    ]
  ];
  one_world = λ one other stamp its runs is protects. elim (step.each one stamp is) [
    | inl here ↦ elim (step.each other its protects.there) [
      | inl here_too ↦ inl (ap (λ (s : Stamp). s.inserter) (here_too.1 ∙ sym here.1))
      | inr there ↦ subst (λ x. (its.inserter ≡ x) ⊎ ((is_committed xacts its.inserter ≡ true) × (has_ended xacts (Some x) its ≡ true))) (sym (ap (λ (s : Stamp). s.inserter) here.1)) (beside other its there protects.protected)
    ]
    | inr there ↦ elim (step.each other its protects.there) [
      | inl here ↦ inl (ap (λ (s : Stamp). s.inserter) here.1 ∙ own_of one stamp there runs)
      | inr there_too ↦ held.one_world one other stamp its runs there (record { there = there_too; protected = protects.protected })
    ]
  ];
  each_chunk = λ chunk among. unended_chunk xacts snaps new chunk (unended.each chunk among) (λ other stamp protects. elim (step.each other stamp protects.there) [
    | inl here ↦ elim (put.each chunk among) [
      | inl own ↦ inl (own ∙ sym (ap (λ (s : Stamp). s.inserter) here.1))
      | inr committed ↦ inr committed
    ]
    | inr there ↦ (held.each_chunk chunk among).put other stamp (record { there = there; protected = protects.protected })
  ]);
}
  where
    -- of the holders before, what a running transaction has inserted is the joining one's
    own_of : (other : K) (its : Stamp) → old other ≡ Some its → is_running xacts its.inserter ≡ true → xid ≡ its.inserter
    own_of other its there runs =
        let by = ended_by_whom xacts (Some xid) its (ended.each other its (record { there = there; protected = protected_running xacts snaps its.inserter its.ender runs })) in
        let own = (held.sound.each other its there).own_end by.0 runs by.1 in
        elim (counts_cases xacts xid by.0 by.2) [
          | inl same ↦ same ∙ own
          | inr committed ↦ absurd (runs_uncommitted xacts its.inserter runs (sym (ap (is_committed xacts) own) ∙ committed))
        ]

    -- where the new version is there for a transaction, no holder before is
    alone : (own : Option ℕ) (other : K) (new_stamp its : Stamp) → new_stamp ≡ fresh xid → old other ≡ Some its → Runs xacts own → is_current xacts own new_stamp ≡ true → is_current xacts own its ≡ true → ⊥
    alone own other new_stamp its is there runs current current_too =
        let inserted = (current_parts xacts own new_stamp current).0 in
        let mine : own ≡ Some xid = counts_running xacts own xid running (sym (ap (λ (s : Stamp). counts_for xacts own s.inserter) is) ∙ inserted) in
        let its_current = subst (λ o. is_current xacts o its ≡ true) mine current_too in
        clash (has_ended xacts (Some xid) its) (ended.each other its (record { there = there; protected = current_is_protected xacts snaps own its runs current_too })) (current_parts xacts (Some xid) its its_current).1

    -- each protected holder before is the transaction's own, or has committed and ended for it
    beside : (other : K) (its : Stamp) → old other ≡ Some its → is_protected xacts snaps its.inserter its.ender ≡ true → (its.inserter ≡ xid) ⊎ ((is_committed xacts its.inserter ≡ true) × (has_ended xacts (Some xid) its ≡ true))
    beside other its there protected = elim (protected_inserter xacts snaps its.inserter its.ender protected) [
      | inl runs ↦ inl (sym (own_of other its there runs))
      | inr committed ↦ inr (committed, ended.each other its (record { there = there; protected = protected }))
    ]

-- a holder ends
dropped : {K : Type 0} (xacts : Xacts) (snaps : Snaps) (old new : Holders K) (chunks : List Stamp) (xid : ℕ) (place : K) (was : Stamp) → is_running xacts xid ≡ true → IsOpenFor xacts xid was → IsEndedAt old new xid place was → IsHeld xacts snaps old chunks → IsHeld xacts snaps new chunks
dropped {K} xacts snaps old new chunks xid place was running opened step held = record {
  sound = record {
    each = λ other stamp is. elim (step.each other stamp is) [
      | inl here ↦ subst (IsSoundStamp xacts) (sym here.1) (record {
        given = (held.sound.each place was step.there).given;
        own_end = λ ender runs by. sym (same_Some xid ender by) ∙ open_is_own xacts xid was opened runs;
      })
      | inr there ↦ held.sound.each other stamp there.1
    ];
  };
  one_current = λ own one other stamp its runs is is_too current current_too. elim (step.each one stamp is) [
    | inl here ↦ elim (step.each other its is_too) [
      | inl here_too ↦ here.0 ∙ sym here_too.0
      | inr there ↦ here.0 ∙ held.one_current own place other was its runs step.there there.1 (was_current own stamp here.1 runs current) current_too
    ]
    | inr there ↦ elim (step.each other its is_too) [
      | inl here ↦ held.one_current own one place stamp was runs there.1 step.there current (was_current own its here.1 runs current_too) ∙ sym here.0
      | inr there_too ↦ held.one_current own one other stamp its runs there.1 there_too.1 current current_too
    ]
  ];
  one_world = λ one other stamp its runs is protects. elim (step.each one stamp is) [
    | inl here ↦ elim (step.each other its protects.there) [
      | inl here_too ↦ inl (ap (λ (s : Stamp). s.inserter) (here_too.1 ∙ sym here.1))
      | inr there ↦
          let same : stamp.inserter ≡ was.inserter = ap (λ (s : Stamp). s.inserter) here.1 in
          subst (λ x. (its.inserter ≡ x) ⊎ ((is_committed xacts its.inserter ≡ true) × (has_ended xacts (Some x) its ≡ true))) (sym same)
          (held.one_world place other was its (sym (ap (is_running xacts) same) ∙ runs) step.there (record { there = there.1; protected = protects.protected }))
    ]
    | inr there ↦ elim (step.each other its protects.there) [
      | inl here ↦ elim (held.one_world one place stamp was runs there.1 was_protects) [
        | inl same ↦ inl (ap (λ (s : Stamp). s.inserter) here.1 ∙ same)
        | inr ended ↦ absurd (unended_for xacts (Some stamp.inserter) was runs opened.unended ended.1)
      ]
      | inr there_too ↦ held.one_world one other stamp its runs there.1 (record { there = there_too.1; protected = protects.protected })
    ]
  ];
  each_chunk = λ chunk among. unended_chunk xacts snaps new chunk ((version_step_tells.whole_before xacts snaps old chunks xid place was running opened step.there held).each chunk among) (λ other stamp protects. elim (step.each other stamp protects.there) [
    | inl here ↦ elim ((held.each_chunk chunk among).put place was was_protects) [
      | inl same ↦ inl (same ∙ sym (ap (λ (s : Stamp). s.inserter) here.1))
      | inr committed ↦ inr committed
    ]
    | inr there ↦ (held.each_chunk chunk among).put other stamp (record { there = there.1; protected = protects.protected })
  ]);
}
  where
    was_protects : Protects xacts snaps old place was
    was_protects = record { there = step.there; protected = open_is_protected xacts snaps xid was running opened }

    -- the one that ends was there for whom it still is
    was_current : (own : Option ℕ) (stamp : Stamp) → stamp ≡ ended_by xid was → Runs xacts own → is_current xacts own stamp ≡ true → is_current xacts own was ≡ true
    was_current own stamp is runs current = current_from xacts own was
        (sym (ap (λ (s : Stamp). counts_for xacts own s.inserter) is) ∙ (current_parts xacts own stamp current).0)
        (not_true (has_ended xacts own was) (unended_for xacts own was runs opened.unended))

-- a holder ends and another comes
kept : {K : Type 0} (xacts : Xacts) (snaps : Snaps) (old middle new : Holders K) (chunks : List Stamp) (xid : ℕ) (place to : K) (was : Stamp) → is_running xacts xid ≡ true → IsOpenFor xacts xid was → IsEndedAt old middle xid place was → Joins middle new xid to → IsHeld xacts snaps old chunks → IsHeld xacts snaps new chunks
kept xacts snaps old middle new chunks xid place to was running opened ends comes held = joined xacts snaps middle new chunks xid to running
    (version_step_tells.all_ended xacts snaps old middle chunks xid place was running opened ends held)
    (version_step_tells.whole_before xacts snaps old chunks xid place was running opened ends.there held)
    (version_step_tells.put_before xacts snaps old chunks xid place was running opened ends.there held)
    comes
    (dropped xacts snaps old middle chunks xid place was running opened ends held)

-- chunks end
marked : {K : Type 0} (xacts : Xacts) (snaps : Snaps) (holders : Holders K) (chunks after : List Stamp) (xid : ℕ) → is_running xacts xid ≡ true → AreEnded xacts snaps holders xid → MayEnd chunks after xid → IsHeld xacts snaps holders chunks → IsHeld xacts snaps holders after
marked {K} xacts snaps holders chunks after xid running ended marks held = record {
  sound = held.sound;
  one_current = held.one_current;
  one_world = held.one_world;
  each_chunk = λ chunk among. elim (marks.each chunk among) [
    | inl was ↦ held.each_chunk chunk was
    | inr by ↦ subst (IsChunkHeld xacts snaps holders) (sym by.2) (record {
      ending = λ ender is runs. subst (AreEnded xacts snaps holders) (same_Some xid ender is) ended;
      ended = λ ender number is has. absurd (none-some number (sym (ap (commit_number xacts) (sym (same_Some xid ender is)) ∙ number_running xacts xid running) ∙ has));
      put = (held.each_chunk by.0 by.1).put;
    })
  ];
}

-- holders and chunks go
pruned : {K : Type 0} (xacts : Xacts) (snaps : Snaps) (old new : Holders K) (chunks left : List Stamp) → IsPartOf old new → AreAmong chunks left → IsHeld xacts snaps old chunks → IsHeld xacts snaps new left
pruned {K} xacts snaps old new chunks left part among held = record {
  sound = record { each = λ place stamp is. held.sound.each place stamp (part.each place stamp is) };
  one_current = λ own place other stamp its runs is is_too. held.one_current own place other stamp its runs (part.each place stamp is) (part.each other its is_too);
  one_world = λ place other stamp its runs is protects. held.one_world place other stamp its runs (part.each place stamp is) (was other its protects);
  each_chunk = λ chunk there.
      let before = held.each_chunk chunk (among.each chunk there) in
      record {
        ending = λ xid is runs. record { each = λ place stamp protects. (before.ending xid is runs).each place stamp (was place stamp protects) };
        ended = λ xid number is has. record { each = λ place stamp protects. (before.ended xid number is has).each place stamp (was place stamp protects) };
        put = λ place stamp protects. before.put place stamp (was place stamp protects);
      };
}
  where
    was : (place : K) (stamp : Stamp) → Protects xacts snaps new place stamp → Protects xacts snaps old place stamp
    was place stamp protects = record { there = part.each place stamp protects.there; protected = protects.protected }

-- copies stand in the versions' place
rewritten : {K : Type 0} (xacts : Xacts) (snaps : Snaps) (holders : Holders K) (chunks : List Stamp) → ((place : K) (stamp : Stamp) → holders place ≡ Some stamp → is_committed xacts stamp.inserter ≡ true)
    → ((place other : K) (stamp its : Stamp) → holders place ≡ Some stamp → holders other ≡ Some its → is_current xacts None stamp ≡ true → is_current xacts None its ≡ true → place ≡ other)
    → AreUnended xacts chunks → ((chunk : Stamp) → Contains chunks chunk → is_committed xacts chunk.inserter ≡ true) → IsHeld xacts snaps holders chunks
rewritten {K} xacts snaps holders chunks inserted one unended put = record {
  sound = record {
    each = λ place stamp is. record {
      given = assigned_from_committed xacts stamp.inserter (inserted place stamp is);
      own_end = λ xid runs by. absurd (runs_uncommitted xacts stamp.inserter runs (inserted place stamp is));
    };
  };
  one_current = λ own place other stamp its runs is is_too current current_too. one place other stamp its is is_too (for_none own place stamp is current) (for_none own other its is_too current_too);
  one_world = λ place other stamp its runs is protects. absurd (runs_uncommitted xacts stamp.inserter runs (inserted place stamp is));
  each_chunk = λ chunk among. unended_chunk xacts snaps holders chunk (unended.each chunk among) (λ place stamp protects. inr (put chunk among));
}
  where
    for_none : (own : Option ℕ) (place : K) (stamp : Stamp) → holders place ≡ Some stamp → is_current xacts own stamp ≡ true → is_current xacts None stamp ≡ true
    for_none own place stamp is current = current_from xacts None stamp (inserted place stamp is)
        (not_true (has_ended xacts None stamp) (λ ended. clash (has_ended xacts own stamp) (ended_for_all xacts own stamp ended) (current_parts xacts own stamp current).1))

pub steps_keep_held : {K : Type 0} → StepsKeepHeld K
steps_keep_held = record { unheld = unheld; joined = joined; dropped = dropped; kept = kept; marked = marked; pruned = pruned; rewritten = rewritten }
