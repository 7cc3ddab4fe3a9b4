-- No world has two versions of a key, through every event.
use Rattle.std.proofs.Common.{ℕ, ℤ, ◌≡◌, ◌≢◌, ◌≤◌, ◌⊎◌, inl, inr, Bool, true, false, not, ◌&&◌, ◌||◌, ◌==◌, ◌+◌, List, [], Option, Some, None, refl, sym, ap, subst, ◌∙◌, arith}
use Rattle.std.specs.Option.{option_map_or}
use Rattle.std.specs.Ordering.{int_cmp, is_eq}
use Rattle.slot_page.specs.declared.line.Tid.{Tid}
use Rattle.slot_page.specs.Pages.{item_in}
use Rattle.xact_status.specs.Xacts.{Xacts, next_xid, is_running, is_committed, after_assign, after_commit, after_abort}
use Rattle.xact_status.specs.declared.Xact.TheVariants.{Committed, Aborted}
use Rattle.xact_status.specs.Xacts.{commit_count}
use Rattle.xact_status.specs.Versions.{is_there, counts_for}
use Rattle.xact_status.proofs.Events.{committed_assign, running_assign, running_set, committed_abort}
use Rattle.snapshot_registry.specs.declared.Held.{Held}
use Rattle.snapshot_registry.specs.Snapshots.{Snaps, snapshot_now, committed_in, held_at, horizon, after_take, after_share, after_release}
use Rattle.snapshot_registry.specs.Laws.{IsRegistryOf}
use Rattle.snapshot_registry.proofs.Entries.{held_after_take, held_after_share, held_after_release}
use Rattle.row_versions.specs.declared.version.Version.{Version}
use Rattle.row_versions.specs.Versions.{new_version}
use Rattle.row_versions.specs.Relations.{Pages}
use Rattle.value_holders.specs.Stamps.{IsOpenFor}
use Rattle.table_rows.specs.Worlds.{World, Latest, Own, Shown, counts_in, IsWorld, tuple_of, tuple_at, tuple_in, IsOne, AreOne, IsUntouched, Agree}
use Rattle.table_rows.specs.Steps.{ended_by, IsPut, IsEnded, IsReplaced, TakesDead, SameVersions, stamp_of, AreGiven}
use Rattle.table_rows.proofs.Worlds.{one_same, world_gives_none, one_none, at_version, at_nothing, of_other_key, of_absent, of_present, at_agreed, agree_same, key_is, same_key}
use Rattle.table_rows.proofs.Tests.{shown_now, own_counts, other_counts, counts_running, unended_out, own_assigned, shown_assigned, latest_committed, own_committed, shown_committed, own_aborted, shown_aborted, dead_out}
use Rattle.table_rows.proofs.Changes.{ended_as_before, at_put_out, one_put, at_ended_out, others_none, at_ended_in, at_replaced_out, one_replaced, at_taken, at_unchanged}

-- ---- version steps

-- what a transaction has put is in no world but its own
pub new_out : (xacts : Xacts) (snaps : Snaps) (w : World) (x : ℕ) (key k : ℤ) (tuple : List ℕ) → counts_in xacts snaps w x ≡ false → tuple_of (counts_in xacts snaps w) k (new_version key x tuple) ≡ None
new_out xacts snaps w x key k tuple off = of_absent (counts_in xacts snaps w) k (new_version key x tuple) (ap (λ b. b && true) off)

-- and what it has ended stays in each other
pub old_out : (xacts : Xacts) (snaps : Snaps) (w : World) (x : ℕ) (k : ℤ) (old : Version) → IsWorld xacts w → counts_in xacts snaps w x ≡ false → IsOpenFor xacts x (stamp_of old) → tuple_of (counts_in xacts snaps w) k old ≡ tuple_of (counts_in xacts snaps w) k (ended_by x old)
old_out xacts snaps w x k old there off open_for = ended_as_before (counts_in xacts snaps w) x k old off (unended_out xacts snaps w old.ender there open_for.unended)

-- its own world has the version that it may end
pub open_present : (xacts : Xacts) (x : ℕ) (old : Version) → is_running xacts x ≡ true → IsOpenFor xacts x (stamp_of old) → is_there (counts_for xacts (Some x)) old.inserter old.ender ≡ true
open_present xacts x old runs open_for = both (counts_for xacts (Some x) old.inserter) (option_map_or (counts_for xacts (Some x)) old.ender false) open_for.inserted (unended_out xacts [] (Own x) old.ender runs open_for.unended)
  where
    both : (a b : Bool) → a ≡ true → b ≡ false → (a && not b) ≡ true
    both true true e f = absurd (cc)
    both true false e f = refl
    both false b e f = absurd (cc)

pub open_at : (xacts : Xacts) (x : ℕ) (pages : Pages) (tid : Tid) (old : Version) → is_running xacts x ≡ true → IsOpenFor xacts x (stamp_of old) → item_in pages tid ≡ Some old → tuple_at (counts_for xacts (Some x)) pages old.key tid ≡ Some old.tuple
open_at xacts x pages tid old runs open_for is = at_version (counts_for xacts (Some x)) pages old.key tid old is ∙ of_present (counts_for xacts (Some x)) old.key old (same_key old.key) (open_present xacts x old runs open_for)

-- the pages before and after have the same in a world, and so at most one
keeps_one : (xacts : Xacts) (snaps : Snaps) (w : World) (pages later : Pages) (key : ℤ) → IsWorld xacts w → ((t : Tid) → tuple_at (counts_in xacts snaps w) pages key t ≡ tuple_at (counts_in xacts snaps w) later key t) → AreOne xacts snaps pages → IsOne (counts_in xacts snaps w) later key
keeps_one xacts snaps w pages later key there same one = one_same (counts_in xacts snaps w) (counts_in xacts snaps w) pages later key same (one.each w key there)

-- a version is put at a key where its world has none
pub are_one_put : (xacts : Xacts) (snaps : Snaps) (x : ℕ) (pages later : Pages) (new : Tid) (key : ℤ) (tuple : List ℕ) → is_running xacts x ≡ true → tuple_in (counts_for xacts (Some x)) pages key ≡ None → IsPut pages later new (new_version key x tuple) → AreOne xacts snaps pages → AreOne xacts snaps later
are_one_put xacts snaps x pages later new key tuple runs none put one = record {
  each = λ w k there. elim (counts_running xacts snaps x w runs) [
    | inl off ↦ keeps_one xacts snaps w pages later k there (at_put_out (counts_in xacts snaps w) pages later new (new_version key x tuple) k put (new_out xacts snaps w x key k tuple off)) one
    | inr own ↦ subst (λ v. IsOne (counts_in xacts snaps v) later k) (sym own) (by_key k (is_eq (int_cmp key k)) refl)
  ];
}
  where
    by_key : (k : ℤ) (b : Bool) → is_eq (int_cmp key k) ≡ b → IsOne (counts_for xacts (Some x)) later k
    by_key k true same = one_put (counts_for xacts (Some x)) pages later new (new_version key x tuple) k put (ap (tuple_in (counts_for xacts (Some x)) pages) (sym (key_is key k same)) ∙ none)
    by_key k false other = keeps_one xacts snaps (Own x) pages later k runs (at_put_out (counts_for xacts (Some x)) pages later new (new_version key x tuple) k put (of_other_key (counts_for xacts (Some x)) k (new_version key x tuple) other)) one

-- a version is ended that is open for the transaction
pub are_one_ended : (xacts : Xacts) (snaps : Snaps) (x : ℕ) (pages later : Pages) (tid : Tid) (old : Version) → is_running xacts x ≡ true → IsOpenFor xacts x (stamp_of old) → IsEnded x pages later tid old → AreOne xacts snaps pages → AreOne xacts snaps later
are_one_ended xacts snaps x pages later tid old runs open_for ended one = record {
  each = λ w k there. elim (counts_running xacts snaps x w runs) [
    | inl off ↦ keeps_one xacts snaps w pages later k there (at_ended_out (counts_in xacts snaps w) x pages later tid old k ended (old_out xacts snaps w x k old there off open_for)) one
    | inr own ↦ subst (λ v. IsOne (counts_in xacts snaps v) later k) (sym own) (by_key k (is_eq (int_cmp old.key k)) refl)
  ];
}
  where
    by_key : (k : ℤ) (b : Bool) → is_eq (int_cmp old.key k) ≡ b → IsOne (counts_for xacts (Some x)) later k
    by_key k true same = one_none (counts_for xacts (Some x)) later k (at_ended_in (counts_for xacts (Some x)) x pages later tid old k ended (own_counts x (is_committed xacts x))
        (others_none (counts_for xacts (Some x)) pages k tid old.tuple (one.each (Own x) k runs) (ap (λ l. tuple_at (counts_for xacts (Some x)) pages l tid) (sym (key_is old.key k same)) ∙ open_at xacts x pages tid old runs open_for ended.there)))
    by_key k false other = keeps_one xacts snaps (Own x) pages later k runs (at_ended_out (counts_for xacts (Some x)) x pages later tid old k ended (of_other_key (counts_for xacts (Some x)) k old other ∙ sym (of_other_key (counts_for xacts (Some x)) k (ended_by x old) other))) one

-- both: an update at its own key, or a move to a key where its world has none
pub are_one_replaced : (xacts : Xacts) (snaps : Snaps) (x : ℕ) (pages later : Pages) (tid new : Tid) (old : Version) (key : ℤ) (tuple : List ℕ) → is_running xacts x ≡ true → IsOpenFor xacts x (stamp_of old) → (old.key ≡ key) ⊎ (tuple_in (counts_for xacts (Some x)) pages key ≡ None)
    → IsReplaced x pages later tid new old (new_version key x tuple) → AreOne xacts snaps pages → AreOne xacts snaps later
are_one_replaced xacts snaps x pages later tid new old key tuple runs open_for free replaced one = record {
  each = λ w k there. elim (counts_running xacts snaps x w runs) [
    | inl off ↦ keeps_one xacts snaps w pages later k there (at_replaced_out (counts_in xacts snaps w) x pages later tid new old (new_version key x tuple) k replaced (new_out xacts snaps w x key k tuple off) (old_out xacts snaps w x k old there off open_for)) one
    | inr own ↦ subst (λ v. IsOne (counts_in xacts snaps v) later k) (sym own) (by_old k (is_eq (int_cmp old.key k)) refl)
  ];
}
  where
    by_new : (k : ℤ) → is_eq (int_cmp old.key k) ≡ false → (b : Bool) → is_eq (int_cmp key k) ≡ b → IsOne (counts_for xacts (Some x)) later k
    by_new k other true same = one_replaced (counts_for xacts (Some x)) x pages later tid new old (new_version key x tuple) k replaced (own_counts x (is_committed xacts x)) (λ t apart. world_gives_none (counts_for xacts (Some x)) pages k (elim free [
      | inl update ↦ absurd (differ (is_eq (int_cmp key k)) same (ap (λ l. is_eq (int_cmp l k)) (sym update) ∙ other))
      | inr none ↦ ap (tuple_in (counts_for xacts (Some x)) pages) (sym (key_is key k same)) ∙ none
    ]) t)
      where
        differ : (b : Bool) → b ≡ true → b ≡ false → ⊥
        differ true e f = cc
        differ false e f = cc
    by_new k other false apart = keeps_one xacts snaps (Own x) pages later k runs (at_replaced_out (counts_for xacts (Some x)) x pages later tid new old (new_version key x tuple) k replaced
        (of_other_key (counts_for xacts (Some x)) k (new_version key x tuple) apart)
        (of_other_key (counts_for xacts (Some x)) k old other ∙ sym (of_other_key (counts_for xacts (Some x)) k (ended_by x old) other))) one

    by_old : (k : ℤ) (b : Bool) → is_eq (int_cmp old.key k) ≡ b → IsOne (counts_for xacts (Some x)) later k
    by_old k true same = one_replaced (counts_for xacts (Some x)) x pages later tid new old (new_version key x tuple) k replaced (own_counts x (is_committed xacts x))
        (others_none (counts_for xacts (Some x)) pages k tid old.tuple (one.each (Own x) k runs) (ap (λ l. tuple_at (counts_for xacts (Some x)) pages l tid) (sym (key_is old.key k same)) ∙ open_at xacts x pages tid old runs open_for replaced.there))
    by_old k false other = by_new k other (is_eq (int_cmp key k)) refl

-- ---- vacuum

pub are_one_taken : (xacts : Xacts) (snaps : Snaps) (bound : ℕ) (pages later : Pages) → IsRegistryOf xacts snaps → bound ≤ horizon xacts snaps → TakesDead xacts bound pages later → AreOne xacts snaps pages → AreOne xacts snaps later
are_one_taken xacts snaps bound pages later registry le takes one = record {
  each = λ w k there. keeps_one xacts snaps w pages later k there (at_taken xacts bound (counts_in xacts snaps w) pages later k takes (λ version dead. dead_out xacts snaps bound w version.inserter version.ender registry le there dead)) one;
}

pub are_one_unchanged : (xacts : Xacts) (snaps : Snaps) (pages later : Pages) → SameVersions pages later → AreOne xacts snaps pages → AreOne xacts snaps later
are_one_unchanged xacts snaps pages later same one = record { each = λ w k there. keeps_one xacts snaps w pages later k there (at_unchanged (counts_in xacts snaps w) pages later k same) one }

-- ---- transactions

-- at most one in a world that agrees with one
one_agreed : (counts counts' : ℕ → Bool) (pages : Pages) (key : ℤ) → Agree counts counts' pages key → IsOne counts pages key → IsOne counts' pages key
one_agreed counts counts' pages key agree one = one_same counts counts' pages pages key (at_agreed counts counts' pages key agree) one

-- the xid that is given next is named by no version
next_untouched : (xacts : Xacts) (pages : Pages) (key : ℤ) → AreGiven xacts pages → IsUntouched (next_xid xacts) pages key
next_untouched xacts pages key given = record {
  inserter = λ t version at is. absurd (omega (arith, is, (given.inserter t version at.there).below_next));
  ender = λ t version at is. absurd (omega (arith, (given.ender t version (next_xid xacts) at.there is).below_next));
}

-- two worlds that differ on one xid agree where no version names it
pub agree_untouched : (counts counts' : ℕ → Bool) (x : ℕ) (pages : Pages) (key : ℤ) → IsUntouched x pages key → ((z : ℕ) → z ≢ x → counts z ≡ counts' z) → Agree counts counts' pages key
agree_untouched counts counts' x pages key untouched same = record { on = λ t version at. by_ender version.inserter version.ender (untouched.inserter t version at) (untouched.ender t version at) }
  where
    by_ender : (inserter : ℕ) (ender : Option ℕ) → inserter ≢ x → ender ≢ Some x → is_there counts inserter ender ≡ is_there counts' inserter ender
    by_ender inserter None apart none = ap (λ b. b && true) (same inserter apart)
    by_ender inserter (Some e) apart none = ap (λ b. b && not (counts e)) (same inserter apart) ∙ ap (λ b. counts' inserter && not b) (same e (λ is. none (ap Some is)))

-- the world of an xid that is given now is the latest
pub agree_next : (xacts : Xacts) (session : ℕ) (pages : Pages) (key : ℤ) → AreGiven xacts pages → Agree (is_committed xacts) (counts_for (after_assign xacts session) (Some (next_xid xacts))) pages key
agree_next xacts session pages key given = agree_untouched (is_committed xacts) (counts_for (after_assign xacts session) (Some (next_xid xacts))) (next_xid xacts) pages key (next_untouched xacts pages key given)
    (λ z apart. sym (own_assigned xacts session (next_xid xacts) z ∙ other_counts (next_xid xacts) z (is_committed xacts z) apart))

pub are_one_assigned : (xacts : Xacts) (snaps : Snaps) (session : ℕ) (pages : Pages) → AreGiven xacts pages → AreOne xacts snaps pages → AreOne (after_assign xacts session) snaps pages
are_one_assigned xacts snaps session pages given one = record { each = by_world }
  where
    own : (y : ℕ) (k : ℤ) → (y ≡ next_xid xacts) ⊎ (is_running xacts y ≡ true) → IsOne (counts_for (after_assign xacts session) (Some y)) pages k
    own y k (inl new) = subst (λ z. IsOne (counts_for (after_assign xacts session) (Some z)) pages k) (sym new) (one_agreed (is_committed xacts) (counts_for (after_assign xacts session) (Some (next_xid xacts))) pages k (agree_next xacts session pages k given) (one.each Latest k tt))
    own y k (inr runs) = one_agreed (counts_for xacts (Some y)) (counts_for (after_assign xacts session) (Some y)) pages k (agree_same _ _ pages k (λ z. sym (own_assigned xacts session y z))) (one.each (Own y) k runs)

    by_world : (w : World) (k : ℤ) → IsWorld (after_assign xacts session) w → IsOne (counts_in (after_assign xacts session) snaps w) pages k
    by_world Latest k there = one_agreed (is_committed xacts) (is_committed (after_assign xacts session)) pages k (agree_same _ _ pages k (λ z. sym (committed_assign xacts session z))) (one.each Latest k tt)
    by_world (Own y) k there = own y k (running_assign xacts session y there)
    by_world (Shown id) k there = one_agreed (counts_in xacts snaps (Shown id)) (counts_in (after_assign xacts session) snaps (Shown id)) pages k (agree_same _ _ pages k (λ z. sym (shown_assigned xacts snaps session id z))) (one.each (Shown id) k tt)

-- a commit: of two running transactions one has touched no version of a key
pub agree_committed : (xacts : Xacts) (x y : ℕ) (pages : Pages) (key : ℤ) → is_running xacts x ≡ true → IsUntouched x pages key → Agree (counts_for xacts (Some y)) (counts_for (after_commit xacts x) (Some y)) pages key
agree_committed xacts x y pages key runs untouched = agree_untouched (counts_for xacts (Some y)) (counts_for (after_commit xacts x) (Some y)) x pages key untouched (λ z apart. sym (own_committed xacts x y z runs ∙ other_counts x z (counts_for xacts (Some y) z) apart))

pub agree_follows : (xacts : Xacts) (x y : ℕ) (pages : Pages) (key : ℤ) → is_running xacts x ≡ true → IsUntouched y pages key → Agree (counts_for xacts (Some x)) (counts_for (after_commit xacts x) (Some y)) pages key
agree_follows xacts x y pages key runs untouched = agree_untouched (counts_for xacts (Some x)) (counts_for (after_commit xacts x) (Some y)) y pages key untouched (λ z apart. sym (own_committed xacts x y z runs ∙ ap (λ b. (x == z) || b) (other_counts y z (is_committed xacts z) apart)))

pub are_one_committed : (xacts : Xacts) (snaps : Snaps) (x : ℕ) (pages : Pages) → is_running xacts x ≡ true → IsRegistryOf xacts snaps → ((y : ℕ) (key : ℤ) → is_running xacts y ≡ true → y ≢ x → IsUntouched x pages key ⊎ IsUntouched y pages key)
    → AreOne xacts snaps pages → AreOne (after_commit xacts x) snaps pages
are_one_committed xacts snaps x pages runs registry apart one = record { each = by_world }
  where
    own : (y : ℕ) (k : ℤ) → is_running xacts y ≡ true → IsUntouched x pages k ⊎ IsUntouched y pages k → IsOne (counts_for (after_commit xacts x) (Some y)) pages k
    own y k runs_on (inl untouched) = one_agreed (counts_for xacts (Some y)) (counts_for (after_commit xacts x) (Some y)) pages k (agree_committed xacts x y pages k runs untouched) (one.each (Own y) k runs_on)
    own y k runs_on (inr untouched) = one_agreed (counts_for xacts (Some x)) (counts_for (after_commit xacts x) (Some y)) pages k (agree_follows xacts x y pages k runs untouched) (one.each (Own x) k runs)

    by_world : (w : World) (k : ℤ) → IsWorld (after_commit xacts x) w → IsOne (counts_in (after_commit xacts x) snaps w) pages k
    by_world Latest k there = one_agreed (counts_for xacts (Some x)) (is_committed (after_commit xacts x)) pages k (agree_same _ _ pages k (λ z. sym (latest_committed xacts x z runs))) (one.each (Own x) k runs)
    by_world (Own y) k there = let was = running_set xacts x (Committed (commit_count xacts + 1)) refl runs y there in own y k was.1 (apart y k was.1 was.0)
    by_world (Shown id) k there = one_agreed (counts_in xacts snaps (Shown id)) (counts_in (after_commit xacts x) snaps (Shown id)) pages k (agree_same _ _ pages k (λ z. sym (shown_committed xacts snaps x id z runs registry))) (one.each (Shown id) k tt)

pub are_one_aborted : (xacts : Xacts) (snaps : Snaps) (x : ℕ) (pages : Pages) → is_running xacts x ≡ true → AreOne xacts snaps pages → AreOne (after_abort xacts x) snaps pages
are_one_aborted xacts snaps x pages runs one = record { each = by_world }
  where
    by_world : (w : World) (k : ℤ) → IsWorld (after_abort xacts x) w → IsOne (counts_in (after_abort xacts x) snaps w) pages k
    by_world Latest k there = one_agreed (is_committed xacts) (is_committed (after_abort xacts x)) pages k (agree_same _ _ pages k (λ z. sym (committed_abort xacts x runs z))) (one.each Latest k tt)
    by_world (Own y) k there = one_agreed (counts_for xacts (Some y)) (counts_for (after_abort xacts x) (Some y)) pages k (agree_same _ _ pages k (λ z. sym (own_aborted xacts x y z runs))) (one.each (Own y) k (running_set xacts x Aborted refl runs y there).1)
    by_world (Shown id) k there = one_agreed (counts_in xacts snaps (Shown id)) (counts_in (after_abort xacts x) snaps (Shown id)) pages k (agree_same _ _ pages k (λ z. sym (shown_aborted xacts snaps x id z runs))) (one.each (Shown id) k tt)

-- ---- snapshots: each that is registered then was registered before, or is taken now

are_one_registry : (xacts : Xacts) (snaps later : Snaps) (pages : Pages) → ((id : ℕ) (held : Held) → held_at later id ≡ Some held → (held.snapshot ≡ snapshot_now xacts) ⊎ ((before : Held) × (held_at snaps id ≡ Some before) × (held.snapshot ≡ before.snapshot))) → AreOne xacts snaps pages → AreOne xacts later pages
are_one_registry xacts snaps later pages from one = record { each = by_world }
  where
    shown : (id : ℕ) (k : ℤ) (o : Option Held) → held_at later id ≡ o → IsOne (λ z. option_map_or (λ held. committed_in xacts held.snapshot z) o false) pages k
    shown id k None is = one_none (λ z. false) pages k (λ t. nothing t)
      where
        nothing : (t : Tid) → tuple_at (λ z. false) pages k t ≡ None
        nothing t = by_item (item_in pages t) refl
          where
            by_item : (o : Option Version) → item_in pages t ≡ o → tuple_at (λ z. false) pages k t ≡ None
            by_item None at = at_nothing (λ z. false) pages k t at
            by_item (Some version) at = at_version (λ z. false) pages k t version at ∙ of_absent (λ z. false) k version refl
    shown id k (Some held) is = elim (from id held is) [
      | inl new ↦ one_agreed (is_committed xacts) (committed_in xacts held.snapshot) pages k (agree_same _ _ pages k (λ z. sym (ap (λ s. committed_in xacts s z) new ∙ shown_now xacts z))) (one.each Latest k tt)
      | inr old ↦ one_agreed (counts_in xacts snaps (Shown id)) (committed_in xacts held.snapshot) pages k (agree_same _ _ pages k (λ z. ap (λ o. option_map_or (λ h. committed_in xacts h.snapshot z) o false) old.1 ∙ ap (λ s. committed_in xacts s z) (sym old.2))) (one.each (Shown id) k tt)
    ]

    by_world : (w : World) (k : ℤ) → IsWorld xacts w → IsOne (counts_in xacts later w) pages k
    by_world Latest k there = one.each Latest k tt
    by_world (Own y) k there = one.each (Own y) k there
    by_world (Shown id) k there = shown id k (held_at later id) refl

pub are_one_taken_now : (xacts : Xacts) (snaps : Snaps) (pages : Pages) → AreOne xacts snaps pages → AreOne xacts (after_take snaps xacts) pages
are_one_taken_now xacts snaps pages one = are_one_registry xacts snaps (after_take snaps xacts) pages (λ id held is. elim (held_after_take snaps xacts id held is) [
  | inl new ↦ inl new
  | inr old ↦ inr (held, old, refl)
]) one

pub are_one_shared : (xacts : Xacts) (snaps : Snaps) (shared : ℕ) (pages : Pages) → AreOne xacts snaps pages → AreOne xacts (after_share snaps shared) pages
are_one_shared xacts snaps shared pages one = are_one_registry xacts snaps (after_share snaps shared) pages (λ id held is. inr (held_after_share snaps shared id held is)) one

pub are_one_released : (xacts : Xacts) (snaps : Snaps) (released : ℕ) (pages : Pages) → AreOne xacts snaps pages → AreOne xacts (after_release snaps released) pages
are_one_released xacts snaps released pages one = are_one_registry xacts snaps (after_release snaps released) pages (λ id held is. inr (held_after_release snaps released id held is)) one
