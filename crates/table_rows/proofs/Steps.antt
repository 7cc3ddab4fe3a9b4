-- What a version step leaves of each world at each key, and what vacuum does.
use Rattle.std.proofs.Common.{ℕ, ℤ, ◌≡◌, ◌≢◌, ◌≤◌, ◌⊎◌, inl, inr, Bool, true, false, ◌&&◌, cond, List, Some, None, refl, sym, ap, ◌∙◌}
use Rattle.std.specs.Ordering.{int_cmp, is_eq}
use Rattle.slot_page.specs.declared.line.Tid.{Tid}
use Rattle.slot_page.specs.Pages.{item_in}
use Rattle.xact_status.specs.Xacts.{Xacts, is_running, is_committed}
use Rattle.xact_status.specs.Versions.{counts_for}
use Rattle.snapshot_registry.specs.Snapshots.{Snaps, horizon}
use Rattle.snapshot_registry.specs.Laws.{IsRegistryOf}
use Rattle.row_versions.specs.declared.version.Version.{Version}
use Rattle.row_versions.specs.Versions.{new_version}
use Rattle.row_versions.specs.Relations.{Pages}
use Rattle.value_holders.specs.Stamps.{IsOpenFor}
use Rattle.table_rows.specs.Worlds.{World, Own, counts_in, IsWorld, tuple_of, tuple_at, tuple_in, AreOne}
use Rattle.table_rows.specs.Steps.{stamp_of, ended_by, IsPut, IsEnded, IsReplaced, TakesDead, SameVersions}
use Rattle.table_rows.proofs.Worlds.{world_same, world_gives_none, world_none, of_other_key, of_present, key_is}
use Rattle.table_rows.proofs.Tests.{own_counts, counts_running, dead_out}
use Rattle.table_rows.proofs.Changes.{at_put_out, world_put, at_ended_out, others_none, at_ended_in, at_replaced_out, world_replaced, at_taken, at_unchanged}
use Rattle.table_rows.proofs.Unique.{new_out, old_out, open_at}

-- a running xid counts in no other world
pub other_world : (xacts : Xacts) (snaps : Snaps) (x : ℕ) (w : World) → is_running xacts x ≡ true → w ≢ Own x → counts_in xacts snaps w x ≡ false
other_world xacts snaps x w runs other = elim (counts_running xacts snaps x w runs) [ inl off ↦ off | inr own ↦ absurd (other own) ]

-- a version that a transaction puts is there for it
pub new_present : (xacts : Xacts) (x : ℕ) (key k : ℤ) (tuple : List ℕ) → is_eq (int_cmp key k) ≡ true → tuple_of (counts_for xacts (Some x)) k (new_version key x tuple) ≡ Some tuple
new_present xacts x key k tuple same = of_present (counts_for xacts (Some x)) k (new_version key x tuple) same (ap (λ b. b && true) (own_counts x (is_committed xacts x)))

-- by whether a key is the version's
at_key : {X : Type 0} (b : Bool) (x y z : X) → (b ≡ true → z ≡ x) → (b ≡ false → z ≡ y) → z ≡ cond b x y
at_key true x y z same other = same refl
at_key false x y z same other = other refl

-- ---- put

pub put_own : (xacts : Xacts) (x : ℕ) (pages later : Pages) (new : Tid) (key : ℤ) (tuple : List ℕ) (k : ℤ) → tuple_in (counts_for xacts (Some x)) pages key ≡ None → IsPut pages later new (new_version key x tuple)
    → tuple_in (counts_for xacts (Some x)) later k ≡ cond (is_eq (int_cmp key k)) (Some tuple) (tuple_in (counts_for xacts (Some x)) pages k)
put_own xacts x pages later new key tuple k none put = at_key (is_eq (int_cmp key k)) (Some tuple) (tuple_in (counts_for xacts (Some x)) pages k) (tuple_in (counts_for xacts (Some x)) later k)
    (λ same. world_put (counts_for xacts (Some x)) pages later new (new_version key x tuple) k put (ap (tuple_in (counts_for xacts (Some x)) pages) (sym (key_is key k same)) ∙ none) (new_present xacts x key k tuple same))
    (λ other. sym (world_same (counts_for xacts (Some x)) (counts_for xacts (Some x)) pages later k (at_put_out (counts_for xacts (Some x)) pages later new (new_version key x tuple) k put (of_other_key (counts_for xacts (Some x)) k (new_version key x tuple) other))))

pub put_others : (xacts : Xacts) (snaps : Snaps) (w : World) (x : ℕ) (pages later : Pages) (new : Tid) (key : ℤ) (tuple : List ℕ) (k : ℤ) → is_running xacts x ≡ true → w ≢ Own x → IsPut pages later new (new_version key x tuple)
    → tuple_in (counts_in xacts snaps w) later k ≡ tuple_in (counts_in xacts snaps w) pages k
put_others xacts snaps w x pages later new key tuple k runs other put = sym (world_same (counts_in xacts snaps w) (counts_in xacts snaps w) pages later k (at_put_out (counts_in xacts snaps w) pages later new (new_version key x tuple) k put (new_out xacts snaps w x key k tuple (other_world xacts snaps x w runs other))))

-- ---- end

-- at the old key the own world has nothing else
others_off : (xacts : Xacts) (snaps : Snaps) (x : ℕ) (pages : Pages) (tid : Tid) (old : Version) (k : ℤ) → is_running xacts x ≡ true → IsOpenFor xacts x (stamp_of old) → AreOne xacts snaps pages → item_in pages tid ≡ Some old → is_eq (int_cmp old.key k) ≡ true → (t : Tid) → t ≢ tid → tuple_at (counts_for xacts (Some x)) pages k t ≡ None
others_off xacts snaps x pages tid old k runs open_for one there same = others_none (counts_for xacts (Some x)) pages k tid old.tuple (one.each (Own x) k runs) (ap (λ l. tuple_at (counts_for xacts (Some x)) pages l tid) (sym (key_is old.key k same)) ∙ open_at xacts x pages tid old runs open_for there)

pub ended_own : (xacts : Xacts) (snaps : Snaps) (x : ℕ) (pages later : Pages) (tid : Tid) (old : Version) (k : ℤ) → is_running xacts x ≡ true → IsOpenFor xacts x (stamp_of old) → AreOne xacts snaps pages → IsEnded x pages later tid old
    → tuple_in (counts_for xacts (Some x)) later k ≡ cond (is_eq (int_cmp old.key k)) None (tuple_in (counts_for xacts (Some x)) pages k)
ended_own xacts snaps x pages later tid old k runs open_for one ended = at_key (is_eq (int_cmp old.key k)) None (tuple_in (counts_for xacts (Some x)) pages k) (tuple_in (counts_for xacts (Some x)) later k)
    (λ same. world_none (counts_for xacts (Some x)) later k (at_ended_in (counts_for xacts (Some x)) x pages later tid old k ended (own_counts x (is_committed xacts x)) (others_off xacts snaps x pages tid old k runs open_for one ended.there same)))
    (λ other. sym (world_same (counts_for xacts (Some x)) (counts_for xacts (Some x)) pages later k (at_ended_out (counts_for xacts (Some x)) x pages later tid old k ended (of_other_key (counts_for xacts (Some x)) k old other ∙ sym (of_other_key (counts_for xacts (Some x)) k (ended_by x old) other)))))

pub ended_others : (xacts : Xacts) (snaps : Snaps) (w : World) (x : ℕ) (pages later : Pages) (tid : Tid) (old : Version) (k : ℤ) → is_running xacts x ≡ true → IsOpenFor xacts x (stamp_of old) → IsWorld xacts w → w ≢ Own x → IsEnded x pages later tid old
    → tuple_in (counts_in xacts snaps w) later k ≡ tuple_in (counts_in xacts snaps w) pages k
ended_others xacts snaps w x pages later tid old k runs open_for there other ended = sym (world_same (counts_in xacts snaps w) (counts_in xacts snaps w) pages later k (at_ended_out (counts_in xacts snaps w) x pages later tid old k ended (old_out xacts snaps w x k old there (other_world xacts snaps x w runs other) open_for)))

-- ---- both

pub replaced_own : (xacts : Xacts) (snaps : Snaps) (x : ℕ) (pages later : Pages) (tid new : Tid) (old : Version) (key : ℤ) (tuple : List ℕ) (k : ℤ) → is_running xacts x ≡ true → IsOpenFor xacts x (stamp_of old) → (old.key ≡ key) ⊎ (tuple_in (counts_for xacts (Some x)) pages key ≡ None) → AreOne xacts snaps pages
    → IsReplaced x pages later tid new old (new_version key x tuple)
    → tuple_in (counts_for xacts (Some x)) later k ≡ cond (is_eq (int_cmp key k)) (Some tuple) (cond (is_eq (int_cmp old.key k)) None (tuple_in (counts_for xacts (Some x)) pages k))
replaced_own xacts snaps x pages later tid new old key tuple k runs open_for free one replaced = by_key (is_eq (int_cmp key k)) (is_eq (int_cmp old.key k)) refl refl
  where
    on : counts_for xacts (Some x) x ≡ true
    on = own_counts x (is_committed xacts x)

    off : (c : Bool) → is_eq (int_cmp key k) ≡ true → is_eq (int_cmp old.key k) ≡ c → (t : Tid) → t ≢ tid → tuple_at (counts_for xacts (Some x)) pages k t ≡ None
    off true new_key same t apart = others_off xacts snaps x pages tid old k runs open_for one replaced.there same t apart
    off false new_key other t apart = elim free [
      | inl update ↦ absurd (differ (is_eq (int_cmp key k)) new_key (ap (λ l. is_eq (int_cmp l k)) (sym update) ∙ other))
      | inr none ↦ world_gives_none (counts_for xacts (Some x)) pages k (ap (tuple_in (counts_for xacts (Some x)) pages) (sym (key_is key k new_key)) ∙ none) t
    ]
      where
        differ : (b : Bool) → b ≡ true → b ≡ false → ⊥
        differ true e f = cc
        differ false e f = cc

    by_key : (b c : Bool) → is_eq (int_cmp key k) ≡ b → is_eq (int_cmp old.key k) ≡ c → tuple_in (counts_for xacts (Some x)) later k ≡ cond b (Some tuple) (cond c None (tuple_in (counts_for xacts (Some x)) pages k))
    by_key true c same is = world_replaced (counts_for xacts (Some x)) x pages later tid new old (new_version key x tuple) k replaced on (off c same is) ∙ new_present xacts x key k tuple same
    by_key false true other is = world_replaced (counts_for xacts (Some x)) x pages later tid new old (new_version key x tuple) k replaced on (others_off xacts snaps x pages tid old k runs open_for one replaced.there is) ∙ of_other_key (counts_for xacts (Some x)) k (new_version key x tuple) other
    by_key false false other is = sym (world_same (counts_for xacts (Some x)) (counts_for xacts (Some x)) pages later k (at_replaced_out (counts_for xacts (Some x)) x pages later tid new old (new_version key x tuple) k replaced
        (of_other_key (counts_for xacts (Some x)) k (new_version key x tuple) other)
        (of_other_key (counts_for xacts (Some x)) k old is ∙ sym (of_other_key (counts_for xacts (Some x)) k (ended_by x old) is))))

pub replaced_others : (xacts : Xacts) (snaps : Snaps) (w : World) (x : ℕ) (pages later : Pages) (tid new : Tid) (old : Version) (key : ℤ) (tuple : List ℕ) (k : ℤ) → is_running xacts x ≡ true → IsOpenFor xacts x (stamp_of old) → IsWorld xacts w → w ≢ Own x → IsReplaced x pages later tid new old (new_version key x tuple)
    → tuple_in (counts_in xacts snaps w) later k ≡ tuple_in (counts_in xacts snaps w) pages k
replaced_others xacts snaps w x pages later tid new old key tuple k runs open_for there other replaced = sym (world_same (counts_in xacts snaps w) (counts_in xacts snaps w) pages later k (at_replaced_out (counts_in xacts snaps w) x pages later tid new old (new_version key x tuple) k replaced
    (new_out xacts snaps w x key k tuple (other_world xacts snaps x w runs other))
    (old_out xacts snaps w x k old there (other_world xacts snaps x w runs other) open_for)))

-- ---- vacuum

pub taken_stays : (xacts : Xacts) (snaps : Snaps) (bound : ℕ) (w : World) (pages later : Pages) (k : ℤ) → IsRegistryOf xacts snaps → bound ≤ horizon xacts snaps → IsWorld xacts w → TakesDead xacts bound pages later → tuple_in (counts_in xacts snaps w) later k ≡ tuple_in (counts_in xacts snaps w) pages k
taken_stays xacts snaps bound w pages later k registry le there takes = sym (world_same (counts_in xacts snaps w) (counts_in xacts snaps w) pages later k (at_taken xacts bound (counts_in xacts snaps w) pages later k takes (λ version dead. dead_out xacts snaps bound w version.inserter version.ender registry le there dead)))

pub unchanged_stays : (counts : ℕ → Bool) (pages later : Pages) (k : ℤ) → SameVersions pages later → tuple_in counts later k ≡ tuple_in counts pages k
unchanged_stays counts pages later k same = sym (world_same counts counts pages later k (at_unchanged counts pages later k same))
