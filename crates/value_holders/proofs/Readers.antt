-- What a registered snapshot sees is protected, and the snapshot goes on to see it.
use Rattle.std.proofs.Common.{◌≡◌, ◌≢◌, ℕ, Bool, true, false, not, ◌&&◌, ◌||◌, ◌⊎◌, Option, Some, None, is_some, ◌==◌, if◌then◌else◌, refl, sym, ap, subst, ◌∙◌, arith, inl, inr}
use Rattle.std.specs.Option.{option_map, option_map_or}
use Rattle.std.proofs.lemmas.Bool.{cases_eq}
use Rattle.std.proofs.lemmas.Bool.Decides.{nat_tests}
use Rattle.xact_status.specs.Xacts.{Xacts, is_running, is_committed, after_assign, after_commit, after_abort}
use Rattle.xact_status.proofs.Events.{running_is_uncommitted}
use Rattle.snapshot_registry.specs.declared.Snapshot.{Snapshot}
use Rattle.snapshot_registry.specs.declared.Held.{Held}
use Rattle.snapshot_registry.specs.Snapshots.{Snaps, held_at, is_registered, committed_in, takes_effect, sees, sees_at, seen_by_any, is_protected, snapshot_now, least_free, one_more, after_take, after_share, after_release}
use Rattle.snapshot_registry.specs.Laws.{IsRegistryOf}
use Rattle.snapshot_registry.proofs.Entries.{snapshot_passes, least_free_is_least, held_at_take, held_at_share, held_after_release}
use Rattle.snapshot_registry.proofs.Moments.{stays_assign, stays_commit, stays_abort}
use Rattle.snapshot_registry.proofs.Unseen.{not_shown, sees_same}
use Rattle.xact_status.specs.declared.Stamp.{Stamp}
use Rattle.xact_status.specs.Versions.{is_current}
use Rattle.value_holders.specs.Stamps.{Runs}
use Rattle.value_holders.specs.Laws.{ReadersAreSafe}
use Rattle.value_holders.proofs.Tests.{or_cases, and_parts, and_both, fails, not_true, test, clash, protected_running, protected_seen, current_is_protected}

-- a snapshot under an id, where a reader sees something with it
seeing : (xacts : Xacts) (snaps : Snaps) (id inserter : ℕ) (ender own : Option ℕ) → sees_at xacts snaps id inserter ender own ≡ true → (held : Held) × (held_at snaps id ≡ Some held) × (sees xacts held.snapshot inserter ender own ≡ true)
seeing xacts snaps id inserter ender own seen = of_held (held_at snaps id) seen
  where
    of_held : (o : Option Held) → option_map_or (λ held. sees xacts held.snapshot inserter ender own) o false ≡ true → (held : Held) × (o ≡ Some held) × (sees xacts held.snapshot inserter ender own ≡ true)
    of_held None e = absurd (cc)
    of_held (Some held) e = (held, refl, e)

seen_from : (xacts : Xacts) (snaps : Snaps) (id inserter : ℕ) (ender own : Option ℕ) (held : Held) → held_at snaps id ≡ Some held → sees_at xacts snaps id inserter ender own ≡ sees xacts held.snapshot inserter ender own
seen_from xacts snaps id inserter ender own held is = ap (λ (o : Option Held). option_map_or (λ held. sees xacts held.snapshot inserter ender own) o false) is

-- what takes effect for none does so for all
effect_for_all : (xacts : Xacts) (snapshot : Snapshot) (own : Option ℕ) (xid : ℕ) → committed_in xacts snapshot xid ≡ true → takes_effect xacts snapshot own xid ≡ true
effect_for_all xacts snapshot own xid shown = or_true (option_map_or (λ mine. mine == xid) own false) (committed_in xacts snapshot xid) shown
  where
    or_true : (a b : Bool) → b ≡ true → (a || b) ≡ true
    or_true true b e = refl
    or_true false b e = e

-- a reader that sees a version has inserted it, or its snapshot sees the version for none
seen_cases : (xacts : Xacts) (snapshot : Snapshot) (inserter : ℕ) (ender own : Option ℕ) → sees xacts snapshot inserter ender own ≡ true → (own ≡ Some inserter) ⊎ ((committed_in xacts snapshot inserter ≡ true) × (sees xacts snapshot inserter ender None ≡ true))
seen_cases xacts snapshot inserter ender own seen =
    let parts = and_parts (takes_effect xacts snapshot own inserter) (not (option_map_or (takes_effect xacts snapshot own) ender false)) seen in
    elim (or_cases (option_map_or (λ mine. mine == inserter) own false) (committed_in xacts snapshot inserter) parts.0) [
      | inl mine ↦ inl (of_own own mine)
      | inr shown ↦ inr (shown, and_both (committed_in xacts snapshot inserter) (not (option_map_or (takes_effect xacts snapshot None) ender false)) shown (ap not (unended ender (fails _ parts.1))))
    ]
  where
    equal : (m n : ℕ) → (m == n) ≡ true → m ≡ n
    equal m n e = grind (arith, nat_tests, e)

    of_own : (o : Option ℕ) → option_map_or (λ mine. mine == inserter) o false ≡ true → o ≡ Some inserter
    of_own None e = absurd (cc)
    of_own (Some mine) e = ap Some (equal mine inserter e)

    unended : (o : Option ℕ) → option_map_or (takes_effect xacts snapshot own) o false ≡ false → option_map_or (takes_effect xacts snapshot None) o false ≡ false
    unended None e = refl
    unended (Some xid) e = not_true (takes_effect xacts snapshot None xid) (λ shown. clash (takes_effect xacts snapshot own xid) (effect_for_all xacts snapshot own xid shown) e)

-- a snapshot shows only what has committed
shown_committed : (xacts : Xacts) (snapshot : Snapshot) (xid : ℕ) → committed_in xacts snapshot xid ≡ true → is_committed xacts xid ≡ true
shown_committed xacts snapshot xid shown = elim (test (is_committed xacts xid)) [
  | inl committed ↦ committed
  | inr not_yet ↦ absurd (clash (committed_in xacts snapshot xid) shown (not_shown xacts snapshot xid not_yet))
]

seen_is_protected : (xacts : Xacts) (snaps : Snaps) (id inserter : ℕ) (ender own : Option ℕ) → Runs xacts own → sees_at xacts snaps id inserter ender own ≡ true → is_protected xacts snaps inserter ender ≡ true
seen_is_protected xacts snaps id inserter ender own runs seen =
    let found = seeing xacts snaps id inserter ender own seen in
    elim (seen_cases xacts found.0.snapshot inserter ender own found.2) [
      | inl mine ↦ protected_running xacts snaps inserter ender (subst (Runs xacts) mine runs)
      | inr shown ↦ protected_seen xacts snaps inserter ender (shown_committed xacts found.0.snapshot inserter shown.0) (snapshot_passes (λ s. sees xacts s inserter ender None) snaps id found.0 found.1 shown.1)
    ]

seen_past_end : (xacts : Xacts) (snaps : Snaps) (id inserter xid : ℕ) (ender : Option ℕ) → is_running xacts xid ≡ true → sees_at xacts snaps id inserter ender None ≡ true → sees_at xacts snaps id inserter (Some xid) None ≡ true
seen_past_end xacts snaps id inserter xid ender runs seen =
    let found = seeing xacts snaps id inserter ender None seen in
    let parts = and_parts (committed_in xacts found.0.snapshot inserter) (not (option_map_or (takes_effect xacts found.0.snapshot None) ender false)) found.2 in
    seen_from xacts snaps id inserter (Some xid) None found.0 found.1 ∙ and_both (committed_in xacts found.0.snapshot inserter) (not (committed_in xacts found.0.snapshot xid)) parts.0 (ap not (not_shown xacts found.0.snapshot xid (running_is_uncommitted xacts xid runs)))

-- where each registered snapshot shows what it showed, its readers see what they saw
seen_same : (old new : Xacts) (snaps : Snaps) (id inserter : ℕ) (ender own : Option ℕ) → ((held : Held) → held_at snaps id ≡ Some held → (xid : ℕ) → committed_in new held.snapshot xid ≡ committed_in old held.snapshot xid) → sees_at new snaps id inserter ender own ≡ sees_at old snaps id inserter ender own
seen_same old new snaps id inserter ender own same = of_held (held_at snaps id) refl
  where
    of_held : (o : Option Held) → held_at snaps id ≡ o → option_map_or (λ held. sees new held.snapshot inserter ender own) o false ≡ option_map_or (λ held. sees old held.snapshot inserter ender own) o false
    of_held None is = refl
    of_held (Some held) is = sees_same old new held.snapshot (same held is) inserter ender own

-- where what is registered under an id has the snapshot that it had, its readers see what they saw
seen_entry : (xacts : Xacts) (old new : Snaps) (id inserter : ℕ) (ender own : Option ℕ) → is_registered new id ≡ true → ((held : Held) → held_at new id ≡ Some held → (before : Held) × (held_at old id ≡ Some before) × (held.snapshot ≡ before.snapshot)) → sees_at xacts new id inserter ender own ≡ sees_at xacts old id inserter ender own
seen_entry xacts old new id inserter ender own registered was = of_held (held_at new id) refl registered
  where
    of_held : (o : Option Held) → held_at new id ≡ o → is_some o ≡ true → option_map_or (λ held. sees xacts held.snapshot inserter ender own) o false ≡ sees_at xacts old id inserter ender own
    of_held None is e = absurd (cc)
    of_held (Some held) is e =
        let before = was held is in
        ap (λ (s : Snapshot). sees xacts s inserter ender own) before.2 ∙ sym (seen_from xacts old id inserter ender own before.0 before.1)

seen_past_take : (xacts : Xacts) (snaps : Snaps) (id inserter : ℕ) (ender own : Option ℕ) → is_registered snaps id ≡ true → sees_at xacts (after_take snaps xacts) id inserter ender own ≡ sees_at xacts snaps id inserter ender own
seen_past_take xacts snaps id inserter ender own registered = ap (λ (o : Option Held). option_map_or (λ held. sees xacts held.snapshot inserter ender own) o false) (held_at_take xacts snaps id ∙ elim (cases_eq id (least_free snaps)) [
  | inl same ↦ absurd (clash (is_registered snaps id) registered (ap (is_registered snaps) same ∙ (least_free_is_least snaps).free))
  | inr differ ↦ other id (least_free snaps) (Some (record { snapshot = snapshot_now xacts; holders = 1 })) (held_at snaps id) differ
])
  where
    other : (m n : ℕ) (new old : Option Held) → m ≢ n → (if m == n then new else old) ≡ old
    other m n new old differ = grind (arith, nat_tests)

seen_past_share : (xacts : Xacts) (snaps : Snaps) (shared id inserter : ℕ) (ender own : Option ℕ) → is_registered snaps shared ≡ true → sees_at xacts (after_share snaps shared) id inserter ender own ≡ sees_at xacts snaps id inserter ender own
seen_past_share xacts snaps shared id inserter ender own registered = ap read (held_at_share snaps shared id registered) ∙ elim (cases_eq id shared) [
  | inl same ↦ ap read (here id shared (option_map one_more (held_at snaps shared)) (held_at snaps id) same) ∙ more (held_at snaps shared) ∙ ap (λ at. read (held_at snaps at)) (sym same)
  | inr differ ↦ ap read (other id shared (option_map one_more (held_at snaps shared)) (held_at snaps id) differ)
]
  where
    read : Option Held → Bool
    read o = option_map_or (λ held. sees xacts held.snapshot inserter ender own) o false

    here : (m n : ℕ) (new old : Option Held) → m ≡ n → (if m == n then new else old) ≡ new
    here m n new old same = grind (arith, nat_tests)

    other : (m n : ℕ) (new old : Option Held) → m ≢ n → (if m == n then new else old) ≡ old
    other m n new old differ = grind (arith, nat_tests)

    more : (o : Option Held) → read (option_map one_more o) ≡ read o
    more None = refl
    more (Some held) = refl

pub readers_are_safe : ReadersAreSafe
readers_are_safe = record {
  seen_is_protected = seen_is_protected;
  current_is_protected = current_is_protected;
  seen_past_end = seen_past_end;
  seen_past_assign = λ xacts snaps session id inserter ender own. seen_same xacts (after_assign xacts session) snaps id inserter ender own (λ held is xid. stays_assign xacts held.snapshot session xid);
  seen_past_commit = λ xacts snaps over id inserter ender own runs registry. seen_same xacts (after_commit xacts over) snaps id inserter ender own (λ held is xid. stays_commit xacts held.snapshot over xid runs (registry.each id held is));
  seen_past_abort = λ xacts snaps over id inserter ender own runs. seen_same xacts (after_abort xacts over) snaps id inserter ender own (λ held is xid. stays_abort xacts held.snapshot over xid runs);
  seen_past_take = seen_past_take;
  seen_past_share = seen_past_share;
  seen_past_release = λ xacts snaps released id inserter ender own registered. seen_entry xacts snaps (after_release snaps released) id inserter ender own registered (held_after_release snaps released id);
}
