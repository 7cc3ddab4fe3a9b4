-- A version that a committed transaction has ended and that no registered snapshot sees stays unseen, and what is dead under the horizon is unseen.
use Rattle.std.proofs.Common.{◌≡◌, ◌<◌, ◌≤◌, ℕ, Bool, true, false, not, ◌&&◌, ◌||◌, cond, ◌⊎◌, Option, Some, None, ◌==◌, nat_lt, refl, sym, ap, subst, ◌∙◌, arith, inl, inr}
use Rattle.std.specs.Option.{option_map_or}
use Rattle.std.proofs.lemmas.Bool.Decides.{nat_tests}
use Rattle.xact_status.specs.Xacts.{Xacts, next_xid, running_xids, is_running, is_committed, is_aborted, after_assign, after_commit, after_abort}
use Rattle.xact_status.specs.Versions.{is_dead}
use Rattle.xact_status.proofs.Events.{committed_assign, committed_commit, committed_abort, committed_is_over, aborted_is_uncommitted, assigned_from_committed}
use Rattle.xact_status.proofs.RunningLists.{running_holds}
use Rattle.snapshot_registry.specs.declared.Snapshot.{Snapshot}
use Rattle.snapshot_registry.specs.declared.Held.{Held}
use Rattle.snapshot_registry.specs.Snapshots.{Snaps, holds, snapshot_now, committed_in, takes_effect, sees, seen_by_any, held_at, horizon, is_protected, after_take, after_share, after_release}
use Rattle.snapshot_registry.specs.Laws.{IsTakenFrom, IsRegistryOf, IsUnseen, UnseenStaysUnseen, DeadIsUnseen}
use Rattle.snapshot_registry.proofs.Entries.{no_snapshot_passes, snapshot_fails, held_after_take, held_after_share, held_after_release}
use Rattle.snapshot_registry.proofs.Moments.{stays_assign, stays_commit, stays_abort}
use Rattle.snapshot_registry.proofs.Horizons.{horizon_below_xmin}

-- a reader whose snapshot shows a version's ender does not see it
pub ended_unseen : (xacts : Xacts) (snapshot : Snapshot) (inserter ender : ℕ) (own : Option ℕ) → committed_in xacts snapshot ender ≡ true → sees xacts snapshot inserter (Some ender) own ≡ false
ended_unseen xacts snapshot inserter ender own shown = hidden (takes_effect xacts snapshot own inserter) (option_map_or (λ mine. mine == ender) own false) (committed_in xacts snapshot ender) shown
  where
    hidden : (there own_end shown_end : Bool) → shown_end ≡ true → (there && not (own_end || shown_end)) ≡ false
    hidden true true shown_end e = refl
    hidden true false shown_end e = ap not e
    hidden false own_end shown_end e = refl

-- a snapshot that does not show a version's inserter does not see it, for a reader without an xid
pub uninserted_unseen : (xacts : Xacts) (snapshot : Snapshot) (inserter : ℕ) (ender : Option ℕ) → committed_in xacts snapshot inserter ≡ false → sees xacts snapshot inserter ender None ≡ false
uninserted_unseen xacts snapshot inserter ender hidden = ap (λ b. (false || b) && not (option_map_or (takes_effect xacts snapshot None) ender false)) hidden

-- a snapshot taken now shows all that has committed
pub all_shown_now : (xacts : Xacts) (xid : ℕ) → is_committed xacts xid ≡ true → committed_in xacts (snapshot_now xacts) xid ≡ true
all_shown_now xacts xid committed = shown (is_committed xacts xid) (holds (running_xids xacts) xid) xid (next_xid xacts) committed (running_holds xacts xid ∙ committed_is_over xacts xid committed) (assigned_from_committed xacts xid committed).below_next
  where
    shown : (c h : Bool) (m n : ℕ) → c ≡ true → h ≡ false → m < n → (c && (nat_lt m n && not h)) ≡ true
    shown c h m n is over lt = grind (arith, nat_tests, is, over)

-- and nothing else: a snapshot shows only what has committed
pub not_shown : (xacts : Xacts) (snapshot : Snapshot) (xid : ℕ) → is_committed xacts xid ≡ false → committed_in xacts snapshot xid ≡ false
not_shown xacts snapshot xid not_yet = ap (λ c. c && (nat_lt xid snapshot.xmax && not (holds snapshot.running xid))) not_yet

pub shown_now : (xacts : Xacts) (xid : ℕ) → committed_in xacts (snapshot_now xacts) xid ≡ is_committed xacts xid
shown_now xacts xid = by_test (is_committed xacts xid) refl
  where
    by_test : (b : Bool) → is_committed xacts xid ≡ b → committed_in xacts (snapshot_now xacts) xid ≡ is_committed xacts xid
    by_test true committed = all_shown_now xacts xid committed ∙ sym committed
    by_test false not_yet = not_shown xacts (snapshot_now xacts) xid not_yet ∙ sym not_yet

-- so it sees no version that a committed transaction has ended, whoever reads
pub ended_unseen_now : (xacts : Xacts) (inserter ender : ℕ) (own : Option ℕ) → is_committed xacts ender ≡ true → sees xacts (snapshot_now xacts) inserter (Some ender) own ≡ false
ended_unseen_now xacts inserter ender own committed = ended_unseen xacts (snapshot_now xacts) inserter ender own (all_shown_now xacts ender committed)

-- what a snapshot sees depends on what it shows as committed
pub sees_same : (old new : Xacts) (snapshot : Snapshot) → ((xid : ℕ) → committed_in new snapshot xid ≡ committed_in old snapshot xid) → (inserter : ℕ) (ender own : Option ℕ) → sees new snapshot inserter ender own ≡ sees old snapshot inserter ender own
sees_same old new snapshot same inserter None own = ap (λ b. b && true) (effect inserter)
  where
    effect : (xid : ℕ) → takes_effect new snapshot own xid ≡ takes_effect old snapshot own xid
    effect xid = ap (λ b. option_map_or (λ mine. mine == xid) own false || b) (same xid)
sees_same old new snapshot same inserter (Some ender) own = ap (λ b. b && not (takes_effect new snapshot own ender)) (effect inserter) ∙ ap (λ b. takes_effect old snapshot own inserter && not b) (effect ender)
  where
    effect : (xid : ℕ) → takes_effect new snapshot own xid ≡ takes_effect old snapshot own xid
    effect xid = ap (λ b. option_map_or (λ mine. mine == xid) own false || b) (same xid)

-- a version stays unseen where each registered snapshot goes on to show what it did
unseen_kept : (old new : Xacts) (snaps : Snaps) (inserter ender : ℕ) → ((id : ℕ) (held : Held) → held_at snaps id ≡ Some held → (xid : ℕ) → committed_in new held.snapshot xid ≡ committed_in old held.snapshot xid) → is_committed new ender ≡ true → IsUnseen old snaps inserter ender → IsUnseen new snaps inserter ender
unseen_kept old new snaps inserter ender same ended unseen = record {
  ended = ended;
  unseen = no_snapshot_passes (λ s. sees new s inserter (Some ender) None) snaps (λ id held is.
      sees_same old new held.snapshot (same id held is) inserter (Some ender) None ∙ snapshot_fails (λ s. sees old s inserter (Some ender) None) snaps id held unseen.unseen is);
}

-- or where each snapshot of the new registry was registered before
unseen_registry : (xacts : Xacts) (old new : Snaps) (inserter ender : ℕ) → ((id : ℕ) (held : Held) → held_at new id ≡ Some held → (before : Held) × (held_at old id ≡ Some before) × (held.snapshot ≡ before.snapshot)) → IsUnseen xacts old inserter ender → IsUnseen xacts new inserter ender
unseen_registry xacts old new inserter ender kept unseen = record {
  ended = unseen.ended;
  unseen = no_snapshot_passes (λ s. sees xacts s inserter (Some ender) None) new (λ id held is.
      let was = kept id held is in
      subst (λ (s : Snapshot). sees xacts s inserter (Some ender) None ≡ false) (sym was.2) (snapshot_fails (λ s. sees xacts s inserter (Some ender) None) old id was.0 unseen.unseen was.1));
}

pub unseen_take : (xacts : Xacts) (snaps : Snaps) (inserter ender : ℕ) → IsUnseen xacts snaps inserter ender → IsUnseen xacts (after_take snaps xacts) inserter ender
unseen_take xacts snaps inserter ender unseen = record {
  ended = unseen.ended;
  unseen = no_snapshot_passes (λ s. sees xacts s inserter (Some ender) None) (after_take snaps xacts) (λ id held is. elim (held_after_take snaps xacts id held is) [
    | inl new ↦ subst (λ (s : Snapshot). sees xacts s inserter (Some ender) None ≡ false) (sym new) (ended_unseen_now xacts inserter ender None unseen.ended)
    | inr old ↦ snapshot_fails (λ s. sees xacts s inserter (Some ender) None) snaps id held unseen.unseen old
  ]);
}

pub unseen_commit : (xacts : Xacts) (snaps : Snaps) (xid inserter ender : ℕ) → is_running xacts xid ≡ true → IsRegistryOf xacts snaps → IsUnseen xacts snaps inserter ender → IsUnseen (after_commit xacts xid) snaps inserter ender
unseen_commit xacts snaps xid inserter ender runs registry unseen = unseen_kept xacts (after_commit xacts xid) snaps inserter ender
    (λ id held is other. stays_commit xacts held.snapshot xid other runs (registry.each id held is))
    (committed_commit xacts xid runs ender ∙ ap (λ b. cond (ender == xid) true b) unseen.ended ∙ both (ender == xid))
    unseen
  where
    both : (b : Bool) → cond b true true ≡ true
    both true = refl
    both false = refl

pub unseen_stays_unseen : UnseenStaysUnseen
unseen_stays_unseen = record {
  taken_now = ended_unseen_now;
  taken = unseen_take;
  shared = λ xacts snaps id inserter ender. unseen_registry xacts snaps (after_share snaps id) inserter ender (held_after_share snaps id);
  released = λ xacts snaps id inserter ender. unseen_registry xacts snaps (after_release snaps id) inserter ender (held_after_release snaps id);
  assigned = λ xacts snaps session inserter ender registry unseen. unseen_kept xacts (after_assign xacts session) snaps inserter ender (λ id held is other. stays_assign xacts held.snapshot session other) (committed_assign xacts session ender ∙ unseen.ended) unseen;
  committed = unseen_commit;
  aborted = λ xacts snaps xid inserter ender runs registry unseen. unseen_kept xacts (after_abort xacts xid) snaps inserter ender (λ id held is other. stays_abort xacts held.snapshot xid other runs) (committed_abort xacts xid runs ender ∙ unseen.ended) unseen;
}

-- the two ways to be dead
pub dead_cases : (xacts : Xacts) (bound inserter : ℕ) (ender : Option ℕ) → is_dead xacts bound inserter ender ≡ true → (is_aborted xacts inserter ≡ true) ⊎ ((xid : ℕ) × (ender ≡ Some xid) × (is_committed xacts xid ≡ true) × (xid < bound))
dead_cases xacts bound inserter ender dead = elim (or_cases (is_aborted xacts inserter) _ dead) [
  | inl aborted ↦ inl aborted
  | inr ended ↦ inr (by_ender ender ended)
]
  where
    or_cases : (a b : Bool) → (a || b) ≡ true → (a ≡ true) ⊎ (b ≡ true)
    or_cases true b e = inl refl
    or_cases false b e = inr e

    and_parts : (a : Bool) (m n : ℕ) → (a && nat_lt m n) ≡ true → (a ≡ true) × (m < n)
    and_parts a m n e = grind (arith, nat_tests, e)

    by_ender : (o : Option ℕ) → option_map_or (λ xid. is_committed xacts xid && nat_lt xid bound) o false ≡ true → (xid : ℕ) × (o ≡ Some xid) × (is_committed xacts xid ≡ true) × (xid < bound)
    by_ender None e = absurd (cc)
    by_ender (Some xid) e = let parts = and_parts (is_committed xacts xid) xid bound e in (xid, refl, parts.0, parts.1)

-- a snapshot shows each xid below its xmin that has committed
pub shown_below_xmin : (xacts : Xacts) (snapshot : Snapshot) (xid : ℕ) → IsTakenFrom xacts snapshot → xid < snapshot.xmin → is_committed xacts xid ≡ true → committed_in xacts snapshot xid ≡ true
shown_below_xmin xacts snapshot xid taken below committed = shown (is_committed xacts xid) (holds snapshot.running xid) xid snapshot.xmin snapshot.xmax committed below taken.xmin_below_xmax (taken.xmin_below_running xid)
  where
    shown : (c h : Bool) (m low high : ℕ) → c ≡ true → m < low → low ≤ high → (h ≡ true → low ≤ m) → (c && (nat_lt m high && not h)) ≡ true
    shown c true m low high is lt le above = absurd (omega (arith, lt, above refl))
    shown c false m low high is lt le above = grind (arith, nat_tests, is)

-- an inserter that has aborted is shown by no snapshot
aborted_hidden : (xacts : Xacts) (snapshot : Snapshot) (xid : ℕ) → is_aborted xacts xid ≡ true → committed_in xacts snapshot xid ≡ false
aborted_hidden xacts snapshot xid aborted = not_shown xacts snapshot xid (aborted_is_uncommitted xacts xid aborted)

pub dead_unseen : (xacts : Xacts) (snaps : Snaps) (bound inserter : ℕ) (ender : Option ℕ) → IsRegistryOf xacts snaps → bound ≤ horizon xacts snaps → is_dead xacts bound inserter ender ≡ true → seen_by_any xacts snaps inserter ender ≡ false
dead_unseen xacts snaps bound inserter ender registry le dead = no_snapshot_passes (λ s. sees xacts s inserter ender None) snaps (λ id held is. elim (dead_cases xacts bound inserter ender dead) [
  | inl aborted ↦ uninserted_unseen xacts held.snapshot inserter ender (aborted_hidden xacts held.snapshot inserter aborted)
  | inr ended ↦
      let below : ended.0 < held.snapshot.xmin = omega (arith, ended.3, le, horizon_below_xmin xacts snaps id held is) in
      subst (λ (o : Option ℕ). sees xacts held.snapshot inserter o None ≡ false) (sym ended.1) (ended_unseen xacts held.snapshot inserter ended.0 None (shown_below_xmin xacts held.snapshot ended.0 (registry.each id held is) below ended.2))
])

-- a version need not be kept where its inserter does not run, and has not committed, or where a committed transaction has ended the version and no snapshot sees it
pub neither : (runs committed whole seen : Bool) → runs ≡ false → (committed ≡ false) ⊎ ((whole ≡ false) × (seen ≡ false)) → (runs || (committed && (whole || seen))) ≡ false
neither true committed whole seen over why = over
neither false committed whole seen over (inl none) = ap (λ c. c && (whole || seen)) none
neither false true whole seen over (inr unseen) = ap (λ w. w || seen) unseen.0 ∙ unseen.1
neither false false whole seen over (inr unseen) = refl

pub dead_unprotected : (xacts : Xacts) (snaps : Snaps) (bound inserter : ℕ) (ender : Option ℕ) → IsRegistryOf xacts snaps → bound ≤ horizon xacts snaps → is_dead xacts bound inserter ender ≡ true → is_running xacts inserter ≡ false → is_protected xacts snaps inserter ender ≡ false
dead_unprotected xacts snaps bound inserter ender registry le dead over = elim (dead_cases xacts bound inserter ender dead) [
  | inl aborted ↦ neither (is_running xacts inserter) (is_committed xacts inserter) (not (option_map_or (is_committed xacts) ender false)) (seen_by_any xacts snaps inserter ender) over (inl (aborted_is_uncommitted xacts inserter aborted))
  | inr ended ↦ neither (is_running xacts inserter) (is_committed xacts inserter) (not (option_map_or (is_committed xacts) ender false)) (seen_by_any xacts snaps inserter ender) over (inr (ap not (ap (λ o. option_map_or (is_committed xacts) o false) ended.1 ∙ ended.2), dead_unseen xacts snaps bound inserter ender registry le dead))
]

pub dead_is_unseen : DeadIsUnseen
dead_is_unseen = record { unseen = dead_unseen; unprotected = dead_unprotected }
