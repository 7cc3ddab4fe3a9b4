-- What each event keeps of the worlds of a table, and what it makes of the tuple that each has at each key.
-- x is the transaction of the session that acts: that it runs is a fact of that session, and so is IsOpenFor of the version that it ends, which it has claimed and found there. IsRegistryOf is the core's own fact of its statuses and snapshots.
use Rattle.std.specs.Prelude.{ℕ, ℤ, ◌≡◌, ◌≢◌, ◌≤◌, ◌⊎◌, Bool, true, false, if◌then◌else◌, List, Option, Some, None}
use Rattle.std.specs.Ordering.{int_cmp, is_eq}
use Rattle.slot_page.specs.declared.line.Tid.{Tid}
use Rattle.slot_page.specs.declared.line.LinePointer.TheVariants.{Unused}
use Rattle.slot_page.specs.Slots.{IsDead}
use Rattle.slot_page.specs.Pages.{slot_of, item_in, written, put_tid, with_put_on}
use Rattle.xact_status.specs.Xacts.{Xacts, next_xid, is_running, is_committed, after_assign, after_commit, after_abort}
use Rattle.snapshot_registry.specs.declared.Snapshot.{Snapshot}
use Rattle.snapshot_registry.specs.declared.Held.{Held}
use Rattle.snapshot_registry.specs.Snapshots.{Snaps, snapshot_now, committed_in, takes_effect, held_at, horizon, after_take, after_share, after_release}
use Rattle.snapshot_registry.specs.Laws.{IsRegistryOf, IsTakenFrom}
use Rattle.row_versions.specs.declared.version.Version.{Version}
use Rattle.row_versions.specs.Versions.{new_version}
use Rattle.row_versions.specs.Relations.{Pages, Relation, AreAssigned, is_seen, pages_ended, pages_pruned}
use Rattle.xact_status.specs.Versions.{counts_for}
use Rattle.value_holders.specs.Stamps.{IsOpenFor}
use Rattle.table_rows.specs.Worlds.{World, Own, Shown, counts_in, IsWorld, tuple_at, tuple_in, IsOne, AreOne, IsUntouched}
use Rattle.table_rows.specs.Steps.{stamp_of, AreGiven, IsPut, IsEnded, IsReplaced, TakesDead, SameVersions}
use Rattle.table_rows.specs.Views.{IsOwnAt, IsSince, IsViewNow, is_found}

-- No world gets a second version of a key
pub record AreOneStays : Type 0 where
  -- an insert. That the transaction's world has none at the key: by the test `taken` of the command's moment, and kept since by the claim
  pub put : (xacts : Xacts) (snaps : Snaps) (x : ℕ) (pages later : Pages) (new : Tid) (key : ℤ) (tuple : List ℕ) → is_running xacts x ≡ true → tuple_in (counts_for xacts (Some x)) pages key ≡ None
      → IsPut pages later new (new_version key x tuple) → AreOne xacts snaps pages → AreOne xacts snaps later
  -- a delete
  pub ended : (xacts : Xacts) (snaps : Snaps) (x : ℕ) (pages later : Pages) (tid : Tid) (old : Version) → is_running xacts x ≡ true → IsOpenFor xacts x (stamp_of old)
      → IsEnded x pages later tid old → AreOne xacts snaps pages → AreOne xacts snaps later
  -- an update at its own key, or a move to one where its world has none
  pub replaced : (xacts : Xacts) (snaps : Snaps) (x : ℕ) (pages later : Pages) (tid new : Tid) (old : Version) (key : ℤ) (tuple : List ℕ) → is_running xacts x ≡ true → IsOpenFor xacts x (stamp_of old) → (old.key ≡ key) ⊎ (tuple_in (counts_for xacts (Some x)) pages key ≡ None)
      → IsReplaced x pages later tid new old (new_version key x tuple) → AreOne xacts snaps pages → AreOne xacts snaps later
  -- vacuum. The bound: its horizon is that of its start, and no horizon falls
  pub pruned : (xacts : Xacts) (snaps : Snaps) (bound : ℕ) (pages later : Pages) → IsRegistryOf xacts snaps → bound ≤ horizon xacts snaps
      → TakesDead xacts bound pages later → AreOne xacts snaps pages → AreOne xacts snaps later
  pub unchanged : (xacts : Xacts) (snaps : Snaps) (pages later : Pages) → SameVersions pages later → AreOne xacts snaps pages → AreOne xacts snaps later
  pub assigned : (xacts : Xacts) (snaps : Snaps) (session : ℕ) (pages : Pages) → AreGiven xacts pages → AreOne xacts snaps pages → AreOne (after_assign xacts session) snaps pages
  -- of two running transactions one has touched no version of a key: what each touched lies at its claims, and no place is claimed by two
  pub committed : (xacts : Xacts) (snaps : Snaps) (x : ℕ) (pages : Pages) → is_running xacts x ≡ true → IsRegistryOf xacts snaps → ((y : ℕ) (key : ℤ) → is_running xacts y ≡ true → y ≢ x → IsUntouched x pages key ⊎ IsUntouched y pages key)
      → AreOne xacts snaps pages → AreOne (after_commit xacts x) snaps pages
  pub aborted : (xacts : Xacts) (snaps : Snaps) (x : ℕ) (pages : Pages) → is_running xacts x ≡ true → AreOne xacts snaps pages → AreOne (after_abort xacts x) snaps pages
  pub taken : (xacts : Xacts) (snaps : Snaps) (pages : Pages) → AreOne xacts snaps pages → AreOne xacts (after_take snaps xacts) pages
  pub shared : (xacts : Xacts) (snaps : Snaps) (id : ℕ) (pages : Pages) → AreOne xacts snaps pages → AreOne xacts (after_share snaps id) pages
  pub released : (xacts : Xacts) (snaps : Snaps) (id : ℕ) (pages : Pages) → AreOne xacts snaps pages → AreOne xacts (after_release snaps id) pages

-- A version step changes the world of its transaction at its keys, and nothing else
pub record StepsTell : Type 0 where
  pub put_own : (xacts : Xacts) (x : ℕ) (pages later : Pages) (new : Tid) (key : ℤ) (tuple : List ℕ) (k : ℤ) → tuple_in (counts_for xacts (Some x)) pages key ≡ None → IsPut pages later new (new_version key x tuple)
      → tuple_in (counts_for xacts (Some x)) later k ≡ (if is_eq (int_cmp key k) then Some tuple else tuple_in (counts_for xacts (Some x)) pages k)
  pub put_others : (xacts : Xacts) (snaps : Snaps) (world : World) (x : ℕ) (pages later : Pages) (new : Tid) (key : ℤ) (tuple : List ℕ) (k : ℤ) → is_running xacts x ≡ true → world ≢ Own x → IsPut pages later new (new_version key x tuple)
      → tuple_in (counts_in xacts snaps world) later k ≡ tuple_in (counts_in xacts snaps world) pages k
  pub ended_own : (xacts : Xacts) (snaps : Snaps) (x : ℕ) (pages later : Pages) (tid : Tid) (old : Version) (k : ℤ) → is_running xacts x ≡ true → IsOpenFor xacts x (stamp_of old) → AreOne xacts snaps pages → IsEnded x pages later tid old
      → tuple_in (counts_for xacts (Some x)) later k ≡ (if is_eq (int_cmp old.key k) then None else tuple_in (counts_for xacts (Some x)) pages k)
  pub ended_others : (xacts : Xacts) (snaps : Snaps) (world : World) (x : ℕ) (pages later : Pages) (tid : Tid) (old : Version) (k : ℤ) → is_running xacts x ≡ true → IsOpenFor xacts x (stamp_of old) → IsWorld xacts world → world ≢ Own x → IsEnded x pages later tid old
      → tuple_in (counts_in xacts snaps world) later k ≡ tuple_in (counts_in xacts snaps world) pages k
  pub replaced_own : (xacts : Xacts) (snaps : Snaps) (x : ℕ) (pages later : Pages) (tid new : Tid) (old : Version) (key : ℤ) (tuple : List ℕ) (k : ℤ) → is_running xacts x ≡ true → IsOpenFor xacts x (stamp_of old) → (old.key ≡ key) ⊎ (tuple_in (counts_for xacts (Some x)) pages key ≡ None) → AreOne xacts snaps pages
      → IsReplaced x pages later tid new old (new_version key x tuple)
      → tuple_in (counts_for xacts (Some x)) later k ≡ (if is_eq (int_cmp key k) then Some tuple else (if is_eq (int_cmp old.key k) then None else tuple_in (counts_for xacts (Some x)) pages k))
  pub replaced_others : (xacts : Xacts) (snaps : Snaps) (world : World) (x : ℕ) (pages later : Pages) (tid new : Tid) (old : Version) (key : ℤ) (tuple : List ℕ) (k : ℤ) → is_running xacts x ≡ true → IsOpenFor xacts x (stamp_of old) → IsWorld xacts world → world ≢ Own x → IsReplaced x pages later tid new old (new_version key x tuple)
      → tuple_in (counts_in xacts snaps world) later k ≡ tuple_in (counts_in xacts snaps world) pages k
  -- and a vacuum changes none
  pub pruned : (xacts : Xacts) (snaps : Snaps) (bound : ℕ) (world : World) (pages later : Pages) (k : ℤ) → IsRegistryOf xacts snaps → bound ≤ horizon xacts snaps → IsWorld xacts world → TakesDead xacts bound pages later
      → tuple_in (counts_in xacts snaps world) later k ≡ tuple_in (counts_in xacts snaps world) pages k
  pub unchanged : (counts : ℕ → Bool) (pages later : Pages) (k : ℤ) → SameVersions pages later → tuple_in counts later k ≡ tuple_in counts pages k

-- A transaction that commits makes its world the latest, and the others' at each key that it has touched; no start, commit or abort changes the world of a snapshot
pub record MomentsTell : Type 0 where
  pub latest_at_start : (xacts : Xacts) (session : ℕ) (pages : Pages) (key : ℤ) → tuple_in (is_committed (after_assign xacts session)) pages key ≡ tuple_in (is_committed xacts) pages key
  pub own_at_start : (xacts : Xacts) (session y : ℕ) (pages : Pages) (key : ℤ) → tuple_in (counts_for (after_assign xacts session) (Some y)) pages key ≡ tuple_in (counts_for xacts (Some y)) pages key
  pub new_at_start : (xacts : Xacts) (session : ℕ) (pages : Pages) (key : ℤ) → AreGiven xacts pages → tuple_in (counts_for (after_assign xacts session) (Some (next_xid xacts))) pages key ≡ tuple_in (is_committed xacts) pages key
  pub shown_at_start : (xacts : Xacts) (snaps : Snaps) (session id : ℕ) (pages : Pages) (key : ℤ) → tuple_in (counts_in (after_assign xacts session) snaps (Shown id)) pages key ≡ tuple_in (counts_in xacts snaps (Shown id)) pages key
  pub latest_at_commit : (xacts : Xacts) (x : ℕ) (pages : Pages) (key : ℤ) → is_running xacts x ≡ true → tuple_in (is_committed (after_commit xacts x)) pages key ≡ tuple_in (counts_for xacts (Some x)) pages key
  pub own_at_commit : (xacts : Xacts) (x y : ℕ) (pages : Pages) (key : ℤ) → is_running xacts x ≡ true → IsUntouched x pages key → tuple_in (counts_for (after_commit xacts x) (Some y)) pages key ≡ tuple_in (counts_for xacts (Some y)) pages key
  pub own_follows_commit : (xacts : Xacts) (x y : ℕ) (pages : Pages) (key : ℤ) → is_running xacts x ≡ true → IsUntouched y pages key → tuple_in (counts_for (after_commit xacts x) (Some y)) pages key ≡ tuple_in (counts_for xacts (Some x)) pages key
  pub shown_at_commit : (xacts : Xacts) (snaps : Snaps) (x id : ℕ) (pages : Pages) (key : ℤ) → is_running xacts x ≡ true → IsRegistryOf xacts snaps → tuple_in (counts_in (after_commit xacts x) snaps (Shown id)) pages key ≡ tuple_in (counts_in xacts snaps (Shown id)) pages key
  pub latest_at_abort : (xacts : Xacts) (x : ℕ) (pages : Pages) (key : ℤ) → is_running xacts x ≡ true → tuple_in (is_committed (after_abort xacts x)) pages key ≡ tuple_in (is_committed xacts) pages key
  pub own_at_abort : (xacts : Xacts) (x y : ℕ) (pages : Pages) (key : ℤ) → is_running xacts x ≡ true → tuple_in (counts_for (after_abort xacts x) (Some y)) pages key ≡ tuple_in (counts_for xacts (Some y)) pages key
  pub shown_at_abort : (xacts : Xacts) (snaps : Snaps) (x id : ℕ) (pages : Pages) (key : ℤ) → is_running xacts x ≡ true → tuple_in (counts_in (after_abort xacts x) snaps (Shown id)) pages key ≡ tuple_in (counts_in xacts snaps (Shown id)) pages key
  -- a snapshot that is taken now shows the latest world, and each goes on to show its own for as long as it is registered
  pub taken : (xacts : Xacts) (snapshot : Snapshot) (pages : Pages) (key : ℤ) → snapshot ≡ snapshot_now xacts → tuple_in (committed_in xacts snapshot) pages key ≡ tuple_in (is_committed xacts) pages key
  pub shown : (xacts : Xacts) (snaps : Snaps) (id : ℕ) (held : Held) (pages : Pages) (key : ℤ) → held_at snaps id ≡ Some held → tuple_in (counts_in xacts snaps (Shown id)) pages key ≡ tuple_in (committed_in xacts held.snapshot) pages key
  pub shown_stays : (xacts : Xacts) (snaps later : Snaps) (id : ℕ) (held after : Held) (pages : Pages) (key : ℤ) → held_at snaps id ≡ Some held → held_at later id ≡ Some after → after.snapshot ≡ held.snapshot → tuple_in (counts_in xacts later (Shown id)) pages key ≡ tuple_in (counts_in xacts snaps (Shown id)) pages key

-- What a look-up finds is what the reader's world has at the key
pub record LookUpsFind : Type 0 where
  pub found : (counts : ℕ → Bool) (pages : Pages) (key : ℤ) (tid : Tid) → IsOne counts pages key → is_found counts pages key tid ≡ true → (version : Version) × (item_in pages tid ≡ Some version) × (tuple_in counts pages key ≡ Some version.tuple)
  pub unfound : (counts : ℕ → Bool) (pages : Pages) (key : ℤ) → ((tid : Tid) → is_found counts pages key tid ≡ false) → tuple_in counts pages key ≡ None
  -- the look-up by a registered snapshot and an xid
  pub seen : (xacts : Xacts) (snaps : Snaps) (id : ℕ) (held : Held) (own : Option ℕ) (rel : Relation) (key : ℤ) (tid : Tid) → held_at snaps id ≡ Some held → is_seen xacts snaps id own rel key tid ≡ is_found (takes_effect xacts held.snapshot own) rel.pages key tid
  -- a reader with a snapshot and an xid of its own has at a key that it has not touched what the snapshot shows, and at one that it has changed what is there for it now; so at most one version
  pub unwritten : (xacts : Xacts) (snapshot : Snapshot) (x : ℕ) (pages : Pages) (key : ℤ) → IsUntouched x pages key → tuple_in (takes_effect xacts snapshot (Some x)) pages key ≡ tuple_in (committed_in xacts snapshot) pages key
  pub written : (xacts : Xacts) (snapshot : Snapshot) (x : ℕ) (pages : Pages) (key : ℤ) → IsViewNow xacts snapshot x pages key → tuple_in (takes_effect xacts snapshot (Some x)) pages key ≡ tuple_in (counts_for xacts (Some x)) pages key
  pub one : (xacts : Xacts) (snapshot : Snapshot) (x : ℕ) (pages : Pages) (key : ℤ) → IsOne (committed_in xacts snapshot) pages key → IsOne (counts_for xacts (Some x)) pages key → IsUntouched x pages key ⊎ IsViewNow xacts snapshot x pages key → IsOne (takes_effect xacts snapshot (Some x)) pages key

-- What a session knows of a key stays through the version steps of all sessions, through vacuum, and through what becomes of other transactions. x is its own transaction, y the one that acts
pub record OwnChangesStay : Type 0 where
  -- where the transaction's world has nothing, its own change is the last, if it made one: a delete
  pub none : (xacts : Xacts) (x : ℕ) (pages : Pages) (k : ℤ) → tuple_in (counts_for xacts (Some x)) pages k ≡ None → IsOwnAt xacts x pages k
  -- an update makes it so at its key, and a move at both
  pub updated : (xacts : Xacts) (x : ℕ) (pages later : Pages) (tid new : Tid) (old : Version) (k key : ℤ) (tuple : List ℕ) → is_running xacts x ≡ true → IsReplaced x pages later tid new old (new_version key x tuple)
      → ((t : Tid) → t ≢ tid → tuple_at (counts_for xacts (Some x)) pages k t ≡ None) → IsOwnAt xacts x later k
  pub put : (xacts : Xacts) (x y : ℕ) (pages later : Pages) (new : Tid) (k key : ℤ) (tuple : List ℕ) → is_running xacts y ≡ true → IsPut pages later new (new_version key y tuple) → IsOwnAt xacts x pages k → IsOwnAt xacts x later k
  pub ended : (xacts : Xacts) (x y : ℕ) (pages later : Pages) (tid : Tid) (old : Version) (k : ℤ) → is_running xacts x ≡ true → IsOpenFor xacts y (stamp_of old) → IsEnded y pages later tid old → IsOwnAt xacts x pages k → IsOwnAt xacts x later k
  pub replaced : (xacts : Xacts) (x y : ℕ) (pages later : Pages) (tid new : Tid) (old : Version) (k key : ℤ) (tuple : List ℕ) → is_running xacts x ≡ true → is_running xacts y ≡ true → IsOpenFor xacts y (stamp_of old) → IsReplaced y pages later tid new old (new_version key y tuple)
      → IsOwnAt xacts x pages k → IsOwnAt xacts x later k
  pub left : (xacts : Xacts) (x : ℕ) (pages later : Pages) (k : ℤ) → ((tid : Tid) (version : Version) → item_in later tid ≡ Some version → item_in pages tid ≡ Some version) → IsOwnAt xacts x pages k → IsOwnAt xacts x later k
  -- the other has touched nothing at the key, which x has claimed
  pub committed : (xacts : Xacts) (x y : ℕ) (pages : Pages) (k : ℤ) → is_running xacts y ≡ true → IsUntouched y pages k → IsOwnAt xacts x pages k → IsOwnAt (after_commit xacts y) x pages k
  pub aborted : (xacts : Xacts) (x y : ℕ) (pages : Pages) (k : ℤ) → is_running xacts y ≡ true → IsOwnAt xacts x pages k → IsOwnAt (after_abort xacts y) x pages k
  pub assigned : (xacts : Xacts) (x session : ℕ) (pages : Pages) (k : ℤ) → IsOwnAt xacts x pages k → IsOwnAt (after_assign xacts session) x pages k

pub record ViewsStay : Type 0 where
  -- a claim: the key was not changed since the snapshot, which shows a version there, or nothing is there now
  pub claimed : (xacts : Xacts) (snapshot : Snapshot) (x : ℕ) (pages : Pages) (k : ℤ) → IsUntouched x pages k → IsOne (is_committed xacts) pages k → IsSince xacts snapshot pages k false
      → (tuple_in (is_committed xacts) pages k ≡ None) ⊎ ((t : Tid) × (a : List ℕ) × (tuple_at (committed_in xacts snapshot) pages k t ≡ Some a)) → IsViewNow xacts snapshot x pages k
  pub put : (xacts : Xacts) (snapshot : Snapshot) (x y : ℕ) (pages later : Pages) (new : Tid) (k key : ℤ) (tuple : List ℕ) → is_running xacts y ≡ true → IsPut pages later new (new_version key y tuple) → IsViewNow xacts snapshot x pages k → IsViewNow xacts snapshot x later k
  pub ended : (xacts : Xacts) (snapshot : Snapshot) (x y : ℕ) (pages later : Pages) (tid : Tid) (old : Version) (k : ℤ) → is_running xacts x ≡ true → is_running xacts y ≡ true → IsOpenFor xacts y (stamp_of old) → IsEnded y pages later tid old
      → IsViewNow xacts snapshot x pages k → IsViewNow xacts snapshot x later k
  pub replaced : (xacts : Xacts) (snapshot : Snapshot) (x y : ℕ) (pages later : Pages) (tid new : Tid) (old : Version) (k key : ℤ) (tuple : List ℕ) → is_running xacts x ≡ true → is_running xacts y ≡ true → IsOpenFor xacts y (stamp_of old) → IsReplaced y pages later tid new old (new_version key y tuple)
      → IsViewNow xacts snapshot x pages k → IsViewNow xacts snapshot x later k
  pub left : (xacts : Xacts) (snapshot : Snapshot) (x : ℕ) (pages later : Pages) (k : ℤ) → ((tid : Tid) (version : Version) → item_in later tid ≡ Some version → item_in pages tid ≡ Some version) → IsViewNow xacts snapshot x pages k → IsViewNow xacts snapshot x later k
  pub committed : (xacts : Xacts) (snapshot : Snapshot) (x y : ℕ) (pages : Pages) (k : ℤ) → is_running xacts y ≡ true → IsTakenFrom xacts snapshot → IsUntouched y pages k → IsViewNow xacts snapshot x pages k → IsViewNow (after_commit xacts y) snapshot x pages k
  pub aborted : (xacts : Xacts) (snapshot : Snapshot) (x y : ℕ) (pages : Pages) (k : ℤ) → is_running xacts y ≡ true → IsViewNow xacts snapshot x pages k → IsViewNow (after_abort xacts y) snapshot x pages k
  pub assigned : (xacts : Xacts) (snapshot : Snapshot) (x session : ℕ) (pages : Pages) (k : ℤ) → IsViewNow xacts snapshot x pages k → IsViewNow (after_assign xacts session) snapshot x pages k

pub record SinceStays : Type 0 where
  pub taken : (xacts : Xacts) (snapshot : Snapshot) (pages : Pages) (k : ℤ) → snapshot ≡ snapshot_now xacts → IsSince xacts snapshot pages k false
  pub put : (xacts : Xacts) (snapshot : Snapshot) (y : ℕ) (pages later : Pages) (new : Tid) (k key : ℤ) (tuple : List ℕ) (changed : Bool) → is_running xacts y ≡ true → IsPut pages later new (new_version key y tuple) → IsSince xacts snapshot pages k changed → IsSince xacts snapshot later k changed
  pub ended : (xacts : Xacts) (snapshot : Snapshot) (y : ℕ) (pages later : Pages) (tid : Tid) (old : Version) (k : ℤ) (changed : Bool) → is_running xacts y ≡ true → IsOpenFor xacts y (stamp_of old) → IsEnded y pages later tid old
      → IsSince xacts snapshot pages k changed → IsSince xacts snapshot later k changed
  pub replaced : (xacts : Xacts) (snapshot : Snapshot) (y : ℕ) (pages later : Pages) (tid new : Tid) (old : Version) (k key : ℤ) (tuple : List ℕ) (changed : Bool) → is_running xacts y ≡ true → IsOpenFor xacts y (stamp_of old) → IsReplaced y pages later tid new old (new_version key y tuple)
      → IsSince xacts snapshot pages k changed → IsSince xacts snapshot later k changed
  pub left : (xacts : Xacts) (snapshot : Snapshot) (pages later : Pages) (k : ℤ) (changed : Bool) → ((tid : Tid) (version : Version) → item_in later tid ≡ Some version → item_in pages tid ≡ Some version) → IsSince xacts snapshot pages k changed → IsSince xacts snapshot later k changed
  -- a commit: the other has touched nothing at the key, or its own change is the last there
  pub untouched : (xacts : Xacts) (snapshot : Snapshot) (y : ℕ) (pages : Pages) (k : ℤ) (changed : Bool) → is_running xacts y ≡ true → IsTakenFrom xacts snapshot → IsUntouched y pages k → IsSince xacts snapshot pages k changed → IsSince (after_commit xacts y) snapshot pages k changed
  pub changed : (xacts : Xacts) (snapshot : Snapshot) (y : ℕ) (pages : Pages) (k : ℤ) → is_running xacts y ≡ true → IsTakenFrom xacts snapshot → IsOwnAt xacts y pages k → IsSince (after_commit xacts y) snapshot pages k true
  pub aborted : (xacts : Xacts) (snapshot : Snapshot) (y : ℕ) (pages : Pages) (k : ℤ) (changed : Bool) → is_running xacts y ≡ true → IsSince xacts snapshot pages k changed → IsSince (after_abort xacts y) snapshot pages k changed
  pub assigned : (xacts : Xacts) (snapshot : Snapshot) (session : ℕ) (pages : Pages) (k : ℤ) (changed : Bool) → IsSince xacts snapshot pages k changed → IsSince (after_assign xacts session) snapshot pages k changed

-- What each call of RowVersions does to the versions of its pages. An update or a move puts the new version first, since that may find no memory, and then ends the old one
pub record CallsAreSteps : Type 0 where
  pub put : (size : ℕ) (version : Version) (pages : Pages) → IsPut pages (with_put_on size version pages) (put_tid size pages) version
  pub ended : (xid : ℕ) (pages : Pages) (tid : Tid) (old : Version) → item_in pages tid ≡ Some old → IsEnded xid pages (pages_ended xid pages tid) tid old
  pub replaced : (xid : ℕ) (pages : Pages) (tid : Tid) (old : Version) (size : ℕ) (version : Version) → item_in pages tid ≡ Some old → IsReplaced xid pages (pages_ended xid (with_put_on size version pages) tid) tid (put_tid size pages) old version
  pub pruned : (xacts : Xacts) (bound : ℕ) (pages : Pages) (page : ℕ) → TakesDead xacts bound pages (pages_pruned xacts bound pages page)
  pub reaped : (pages : Pages) (tid : Tid) → IsDead (slot_of pages tid) → SameVersions pages (written pages tid Unused)
  -- the xids that versions name were given, slot by slot or version by version
  pub given : (xacts : Xacts) (pages : Pages) → AreAssigned xacts pages → AreGiven xacts pages
  pub assigned : (xacts : Xacts) (pages : Pages) → AreGiven xacts pages → AreAssigned xacts pages
