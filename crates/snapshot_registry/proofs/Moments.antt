-- Each registered snapshot shows the table as it stood after some commit, and every event keeps that.
use Rattle.std.proofs.Common.{◌≡◌, ◌≢◌, ◌<◌, ◌≤◌, ◌+◌, ◌-◌, ℕ, Bool, true, false, not, ◌&&◌, cond, [], ◌∷◌, Option, Some, None, is_some, ◌==◌, nat_lt, nat_le, refl, sym, ap, subst, ◌∙◌, arith, inl, inr, length-append, length-set}
use Rattle.std.specs.Option.{option_map_or}
use Rattle.std.proofs.lemmas.Bool.{cases_eq}
use Rattle.std.proofs.lemmas.Bool.Decides.{nat_tests}
use Rattle.std.proofs.lemmas.Option.{none-some}
use Rattle.xact_status.specs.declared.Xact.TheVariants.{Running, Committed, Aborted}
use Rattle.xact_status.specs.Xacts.{Xacts, IsNumbered, next_xid, running_xids, is_running, is_committed, commit_number, commit_count, after_assign, after_commit, after_abort}
use Rattle.xact_status.proofs.Numbers.{count_assign, count_commit, count_abort, number_assign, number_commit, number_abort, number_running, numbered_none, numbered_assign, numbered_commit, numbered_abort}
use Rattle.xact_status.proofs.Events.{assigned_assign, assigned_set, running_assign, running_set, committed_assign, committed_commit, committed_abort, running_is_uncommitted, committed_is_over, assigned_from_committed}
use Rattle.xact_status.proofs.Places.{assigned_from_running}
use Rattle.xact_status.proofs.RunningLists.{running_holds}
use Rattle.snapshot_registry.specs.declared.Snapshot.{Snapshot}
use Rattle.snapshot_registry.specs.Snapshots.{Snaps, holds, snapshot_now, committed_in, after_take, after_share, after_release}
use Rattle.snapshot_registry.specs.Laws.{is_committed_by, ShowsMoment, IsTakenFrom, IsRegistryOf, SnapshotsAreMoments, SnapshotsStay}
use Rattle.snapshot_registry.proofs.Least.{least_below_start, least_below_held}
use Rattle.snapshot_registry.proofs.Entries.{held_after_take, held_after_share, held_after_release}

-- what has a number was given and does not run, so the test of a snapshot taken now is that of the number
shown_by_number : (number : Option ℕ) (given runs : Bool) (count : ℕ) → (is_some number ≡ true → given ≡ true) → (is_some number ≡ true → runs ≡ false) → ((n : ℕ) → number ≡ Some n → n ≤ count) → (is_some number && (given && not runs)) ≡ option_map_or (λ its. nat_le its count) number false
shown_by_number None given runs count is_given over past = refl
shown_by_number (Some n) given runs count is_given over past = grind (arith, nat_tests, is_given refl, over refl, past n refl)

-- a snapshot taken now shows the latest commit
pub shows_now : (xacts : Xacts) → IsNumbered xacts → ShowsMoment xacts (snapshot_now xacts) (commit_count xacts)
shows_now xacts numbered = record {
  past = omega arith;
  shows = λ xid. shown_by_number (commit_number xacts xid) (nat_lt xid (next_xid xacts)) (holds (running_xids xacts) xid) (commit_count xacts)
      (λ committed. let given = assigned_from_committed xacts xid committed in below_is_given xid (next_xid xacts) given.below_next)
      (λ committed. running_holds xacts xid ∙ committed_is_over xacts xid committed)
      (λ n is. numbered.at_most_count xid n is);
}
  where
    below_is_given : (m n : ℕ) → m < n → nat_lt m n ≡ true
    below_is_given m n lt = grind (arith, nat_tests)

-- and was taken from this table
pub taken_now : (xacts : Xacts) → IsNumbered xacts → IsTakenFrom xacts (snapshot_now xacts)
taken_now xacts numbered = record {
  number = commit_count xacts;
  moment = shows_now xacts numbered;
  knows = λ xid runs lt. running_holds xacts xid ∙ runs;
  xmax_given = omega arith;
  running_given = λ xid held. assigned_from_running xacts xid (sym (running_holds xacts xid) ∙ held);
  xmin_below_xmax = least_below_start (next_xid xacts) (running_xids xacts);
  xmin_below_running = λ xid held. least_below_held (next_xid xacts) (running_xids xacts) xid held;
}

-- no start, commit or abort changes what a snapshot shows as committed
pub stays_assign : (xacts : Xacts) (snapshot : Snapshot) (session xid : ℕ) → committed_in (after_assign xacts session) snapshot xid ≡ committed_in xacts snapshot xid
stays_assign xacts snapshot session xid = ap (λ c. c && (nat_lt xid snapshot.xmax && not (holds snapshot.running xid))) (committed_assign xacts session xid)

pub stays_commit : (xacts : Xacts) (snapshot : Snapshot) (ended xid : ℕ) → is_running xacts ended ≡ true → IsTakenFrom xacts snapshot → committed_in (after_commit xacts ended) snapshot xid ≡ committed_in xacts snapshot xid
stays_commit xacts snapshot ended xid runs taken = ap (λ c. c && (nat_lt xid snapshot.xmax && not (holds snapshot.running xid))) (committed_commit xacts ended runs xid) ∙ elim (cases_eq xid ended) [
  | inl same ↦
      let runs_too : is_running xacts xid ≡ true = ap (is_running xacts) same ∙ runs in
      hidden xid snapshot.xmax ended (is_committed xacts xid) (holds snapshot.running xid) same (running_is_uncommitted xacts xid runs_too) (taken.knows xid runs_too)
  | inr differ ↦ ap (λ c. c && (nat_lt xid snapshot.xmax && not (holds snapshot.running xid))) (other xid ended (is_committed xacts xid) differ)
]
  where
    hidden : (x max e : ℕ) (committed held : Bool) → x ≡ e → committed ≡ false → (x < max → held ≡ true) → (cond (x == e) true committed && (nat_lt x max && not held)) ≡ (committed && (nat_lt x max && not held))
    hidden x max e committed held same none knows = grind (arith, nat_tests, none, knows)

    other : (x e : ℕ) (committed : Bool) → x ≢ e → cond (x == e) true committed ≡ committed
    other x e committed differ = grind (arith, nat_tests)

pub stays_abort : (xacts : Xacts) (snapshot : Snapshot) (ended xid : ℕ) → is_running xacts ended ≡ true → committed_in (after_abort xacts ended) snapshot xid ≡ committed_in xacts snapshot xid
stays_abort xacts snapshot ended xid runs = ap (λ c. c && (nat_lt xid snapshot.xmax && not (holds snapshot.running xid))) (committed_abort xacts ended runs xid)

pub snapshots_stay : SnapshotsStay
snapshots_stay = record {
  assigned = λ xacts snapshot session xid taken. stays_assign xacts snapshot session xid;
  committed = stays_commit;
  aborted = λ xacts snapshot ended xid runs taken. stays_abort xacts snapshot ended xid runs;
}

-- nor does it change which of the earlier commits were made by then
by_commit : (xacts : Xacts) (ended number xid : ℕ) → is_running xacts ended ≡ true → number ≤ commit_count xacts → is_committed_by (after_commit xacts ended) number xid ≡ is_committed_by xacts number xid
by_commit xacts ended number xid runs past = ap (λ o. option_map_or (λ its. nat_le its number) o false) (number_commit xacts ended runs xid) ∙ elim (cases_eq xid ended) [
  | inl same ↦ late xid ended (commit_count xacts) number (commit_number xacts xid) same past (ap (commit_number xacts) same ∙ number_running xacts ended runs)
  | inr differ ↦ ap (λ o. option_map_or (λ its. nat_le its number) o false) (other xid ended (commit_count xacts) (commit_number xacts xid) differ)
]
  where
    late : (x e count n : ℕ) (o : Option ℕ) → x ≡ e → n ≤ count → o ≡ None → option_map_or (λ its. nat_le its n) (cond (x == e) (Some (count + 1)) o) false ≡ option_map_or (λ its. nat_le its n) o false
    late x e count n o same le none = rw none (grind (arith, nat_tests))

    other : (x e count : ℕ) (o : Option ℕ) → x ≢ e → cond (x == e) (Some (count + 1)) o ≡ o
    other x e count o differ = grind (arith, nat_tests)

-- a snapshot stays one that was taken from the table, whatever becomes of a transaction
pub taken_assign : (xacts : Xacts) (snapshot : Snapshot) (session : ℕ) → IsTakenFrom xacts snapshot → IsTakenFrom (after_assign xacts session) snapshot
taken_assign xacts snapshot session taken = record {
  number = taken.number;
  moment = record {
    past = rw (count_assign xacts session) taken.moment.past;
    shows = λ xid. stays_assign xacts snapshot session xid ∙ taken.moment.shows xid ∙ sym (ap (λ o. option_map_or (λ its. nat_le its taken.number) o false) (number_assign xacts session xid));
  };
  knows = λ xid runs lt. elim (running_assign xacts session xid runs) [
    | inl new ↦ absurd (omega (arith, new, lt, taken.xmax_given))
    | inr old ↦ taken.knows xid old lt
  ];
  xmax_given = omega (arith, taken.xmax_given, length-append xacts (Running session ∷ []));
  running_given = λ xid held. assigned_assign xacts session xid (taken.running_given xid held);
  xmin_below_xmax = taken.xmin_below_xmax;
  xmin_below_running = taken.xmin_below_running;
}

pub taken_commit : (xacts : Xacts) (snapshot : Snapshot) (ended : ℕ) → is_running xacts ended ≡ true → IsTakenFrom xacts snapshot → IsTakenFrom (after_commit xacts ended) snapshot
taken_commit xacts snapshot ended runs taken = record {
  number = taken.number;
  moment = record {
    past = rw (count_commit xacts ended runs) (omega (arith, taken.moment.past));
    shows = λ xid. stays_commit xacts snapshot ended xid runs taken ∙ taken.moment.shows xid ∙ sym (by_commit xacts ended taken.number xid runs taken.moment.past);
  };
  knows = λ xid still lt. taken.knows xid (running_set xacts ended (Committed (commit_count xacts + 1)) refl runs xid still).1 lt;
  xmax_given = omega (arith, taken.xmax_given, length-set xacts (ended - 3) (Committed (commit_count xacts + 1)));
  running_given = λ xid held. assigned_set xacts (ended - 3) xid (Committed (commit_count xacts + 1)) (taken.running_given xid held);
  xmin_below_xmax = taken.xmin_below_xmax;
  xmin_below_running = taken.xmin_below_running;
}

pub taken_abort : (xacts : Xacts) (snapshot : Snapshot) (ended : ℕ) → is_running xacts ended ≡ true → IsTakenFrom xacts snapshot → IsTakenFrom (after_abort xacts ended) snapshot
taken_abort xacts snapshot ended runs taken = record {
  number = taken.number;
  moment = record {
    past = rw (count_abort xacts ended runs) taken.moment.past;
    shows = λ xid. stays_abort xacts snapshot ended xid runs ∙ taken.moment.shows xid ∙ sym (ap (λ o. option_map_or (λ its. nat_le its taken.number) o false) (number_abort xacts ended runs xid));
  };
  knows = λ xid still lt. taken.knows xid (running_set xacts ended Aborted refl runs xid still).1 lt;
  xmax_given = omega (arith, taken.xmax_given, length-set xacts (ended - 3) Aborted);
  running_given = λ xid held. assigned_set xacts (ended - 3) xid Aborted (taken.running_given xid held);
  xmin_below_xmax = taken.xmin_below_xmax;
  xmin_below_running = taken.xmin_below_running;
}

-- the registry after each event
pub registry_none : IsRegistryOf [] []
registry_none = record { numbered = numbered_none; each = λ id held is. absurd (none-some held is) }

pub registry_take : (xacts : Xacts) (snaps : Snaps) → IsRegistryOf xacts snaps → IsRegistryOf xacts (after_take snaps xacts)
registry_take xacts snaps registry = record {
  numbered = registry.numbered;
  each = λ id held is. elim (held_after_take snaps xacts id held is) [
    | inl new ↦ subst (IsTakenFrom xacts) (sym new) (taken_now xacts registry.numbered)
    | inr old ↦ registry.each id held old
  ];
}

pub registry_share : (xacts : Xacts) (snaps : Snaps) (id : ℕ) → IsRegistryOf xacts snaps → IsRegistryOf xacts (after_share snaps id)
registry_share xacts snaps id registry = record {
  numbered = registry.numbered;
  each = λ other held is. let was = held_after_share snaps id other held is in subst (IsTakenFrom xacts) (sym was.2) (registry.each other was.0 was.1);
}

pub registry_release : (xacts : Xacts) (snaps : Snaps) (id : ℕ) → IsRegistryOf xacts snaps → IsRegistryOf xacts (after_release snaps id)
registry_release xacts snaps id registry = record {
  numbered = registry.numbered;
  each = λ other held is. let was = held_after_release snaps id other held is in subst (IsTakenFrom xacts) (sym was.2) (registry.each other was.0 was.1);
}

pub registry_assign : (xacts : Xacts) (snaps : Snaps) (session : ℕ) → IsRegistryOf xacts snaps → IsRegistryOf (after_assign xacts session) snaps
registry_assign xacts snaps session registry = record {
  numbered = numbered_assign xacts session registry.numbered;
  each = λ id held is. taken_assign xacts held.snapshot session (registry.each id held is);
}

pub registry_commit : (xacts : Xacts) (snaps : Snaps) (xid : ℕ) → is_running xacts xid ≡ true → IsRegistryOf xacts snaps → IsRegistryOf (after_commit xacts xid) snaps
registry_commit xacts snaps xid runs registry = record {
  numbered = numbered_commit xacts xid runs registry.numbered;
  each = λ id held is. taken_commit xacts held.snapshot xid runs (registry.each id held is);
}

pub registry_abort : (xacts : Xacts) (snaps : Snaps) (xid : ℕ) → is_running xacts xid ≡ true → IsRegistryOf xacts snaps → IsRegistryOf (after_abort xacts xid) snaps
registry_abort xacts snaps xid runs registry = record {
  numbered = numbered_abort xacts xid runs registry.numbered;
  each = λ id held is. taken_abort xacts held.snapshot xid runs (registry.each id held is);
}

pub snapshots_are_moments : SnapshotsAreMoments
snapshots_are_moments = record {
  none = registry_none;
  taken_now = shows_now;
  taken = registry_take;
  shared = registry_share;
  released = registry_release;
  assigned = registry_assign;
  committed = registry_commit;
  aborted = registry_abort;
}
