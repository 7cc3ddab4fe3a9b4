-- What each world has at a key when transactions start and end and snapshots are taken.
use Rattle.std.proofs.Common.{ℕ, ℤ, ◌≡◌, Bool, true, false, Some, sym, ap, ◌∙◌}
use Rattle.std.specs.Option.{option_map_or}
use Rattle.xact_status.specs.Xacts.{Xacts, next_xid, is_running, is_committed, after_assign, after_commit, after_abort}
use Rattle.xact_status.proofs.Events.{committed_assign, committed_abort}
use Rattle.snapshot_registry.specs.declared.Snapshot.{Snapshot}
use Rattle.snapshot_registry.specs.declared.Held.{Held}
use Rattle.snapshot_registry.specs.Snapshots.{Snaps, snapshot_now, committed_in, held_at}
use Rattle.snapshot_registry.specs.Laws.{IsRegistryOf}
use Rattle.row_versions.specs.Relations.{Pages}
use Rattle.xact_status.specs.Versions.{counts_for}
use Rattle.table_rows.specs.Worlds.{Shown, counts_in, tuple_in, IsUntouched, Agree}
use Rattle.table_rows.specs.Steps.{AreGiven}
use Rattle.table_rows.proofs.Worlds.{world_same, at_agreed, agree_same}
use Rattle.table_rows.proofs.Tests.{shown_now, own_assigned, shown_assigned, latest_committed, shown_committed, own_aborted, shown_aborted}
use Rattle.table_rows.proofs.Unique.{agree_next, agree_committed, agree_follows}

-- worlds that agree at a key have the same there
pub world_agreed : (counts counts' : ℕ → Bool) (pages : Pages) (key : ℤ) → Agree counts counts' pages key → tuple_in counts pages key ≡ tuple_in counts' pages key
world_agreed counts counts' pages key agree = world_same counts counts' pages pages key (at_agreed counts counts' pages key agree)

pub tests_agreed : (counts counts' : ℕ → Bool) (pages : Pages) (key : ℤ) → ((z : ℕ) → counts z ≡ counts' z) → tuple_in counts pages key ≡ tuple_in counts' pages key
tests_agreed counts counts' pages key same = world_agreed counts counts' pages key (agree_same counts counts' pages key same)

-- ---- a start

pub latest_at_start : (xacts : Xacts) (session : ℕ) (pages : Pages) (key : ℤ) → tuple_in (is_committed (after_assign xacts session)) pages key ≡ tuple_in (is_committed xacts) pages key
latest_at_start xacts session pages key = tests_agreed _ _ pages key (λ z. committed_assign xacts session z)

pub own_at_start : (xacts : Xacts) (session y : ℕ) (pages : Pages) (key : ℤ) → tuple_in (counts_for (after_assign xacts session) (Some y)) pages key ≡ tuple_in (counts_for xacts (Some y)) pages key
own_at_start xacts session y pages key = tests_agreed _ _ pages key (λ z. own_assigned xacts session y z)

pub new_at_start : (xacts : Xacts) (session : ℕ) (pages : Pages) (key : ℤ) → AreGiven xacts pages → tuple_in (counts_for (after_assign xacts session) (Some (next_xid xacts))) pages key ≡ tuple_in (is_committed xacts) pages key
new_at_start xacts session pages key given = sym (world_agreed _ _ pages key (agree_next xacts session pages key given))

pub shown_at_start : (xacts : Xacts) (snaps : Snaps) (session id : ℕ) (pages : Pages) (key : ℤ) → tuple_in (counts_in (after_assign xacts session) snaps (Shown id)) pages key ≡ tuple_in (counts_in xacts snaps (Shown id)) pages key
shown_at_start xacts snaps session id pages key = tests_agreed _ _ pages key (λ z. shown_assigned xacts snaps session id z)

-- ---- a commit

pub latest_at_commit : (xacts : Xacts) (x : ℕ) (pages : Pages) (key : ℤ) → is_running xacts x ≡ true → tuple_in (is_committed (after_commit xacts x)) pages key ≡ tuple_in (counts_for xacts (Some x)) pages key
latest_at_commit xacts x pages key runs = tests_agreed _ _ pages key (λ z. latest_committed xacts x z runs)

pub own_at_commit : (xacts : Xacts) (x y : ℕ) (pages : Pages) (key : ℤ) → is_running xacts x ≡ true → IsUntouched x pages key → tuple_in (counts_for (after_commit xacts x) (Some y)) pages key ≡ tuple_in (counts_for xacts (Some y)) pages key
own_at_commit xacts x y pages key runs untouched = sym (world_agreed _ _ pages key (agree_committed xacts x y pages key runs untouched))

pub own_follows_commit : (xacts : Xacts) (x y : ℕ) (pages : Pages) (key : ℤ) → is_running xacts x ≡ true → IsUntouched y pages key → tuple_in (counts_for (after_commit xacts x) (Some y)) pages key ≡ tuple_in (counts_for xacts (Some x)) pages key
own_follows_commit xacts x y pages key runs untouched = sym (world_agreed _ _ pages key (agree_follows xacts x y pages key runs untouched))

pub shown_at_commit : (xacts : Xacts) (snaps : Snaps) (x id : ℕ) (pages : Pages) (key : ℤ) → is_running xacts x ≡ true → IsRegistryOf xacts snaps → tuple_in (counts_in (after_commit xacts x) snaps (Shown id)) pages key ≡ tuple_in (counts_in xacts snaps (Shown id)) pages key
shown_at_commit xacts snaps x id pages key runs registry = tests_agreed _ _ pages key (λ z. shown_committed xacts snaps x id z runs registry)

-- ---- an abort

pub latest_at_abort : (xacts : Xacts) (x : ℕ) (pages : Pages) (key : ℤ) → is_running xacts x ≡ true → tuple_in (is_committed (after_abort xacts x)) pages key ≡ tuple_in (is_committed xacts) pages key
latest_at_abort xacts x pages key runs = tests_agreed _ _ pages key (λ z. committed_abort xacts x runs z)

pub own_at_abort : (xacts : Xacts) (x y : ℕ) (pages : Pages) (key : ℤ) → is_running xacts x ≡ true → tuple_in (counts_for (after_abort xacts x) (Some y)) pages key ≡ tuple_in (counts_for xacts (Some y)) pages key
own_at_abort xacts x y pages key runs = tests_agreed _ _ pages key (λ z. own_aborted xacts x y z runs)

pub shown_at_abort : (xacts : Xacts) (snaps : Snaps) (x id : ℕ) (pages : Pages) (key : ℤ) → is_running xacts x ≡ true → tuple_in (counts_in (after_abort xacts x) snaps (Shown id)) pages key ≡ tuple_in (counts_in xacts snaps (Shown id)) pages key
shown_at_abort xacts snaps x id pages key runs = tests_agreed _ _ pages key (λ z. shown_aborted xacts snaps x id z runs)

-- ---- snapshots

-- a snapshot that is taken now shows the latest world
pub taken_at : (xacts : Xacts) (snapshot : Snapshot) (pages : Pages) (key : ℤ) → snapshot ≡ snapshot_now xacts → tuple_in (committed_in xacts snapshot) pages key ≡ tuple_in (is_committed xacts) pages key
taken_at xacts snapshot pages key new = tests_agreed _ _ pages key (λ z. ap (λ s. committed_in xacts s z) new ∙ shown_now xacts z)

-- the world of an id is that of what is registered under it
pub shown_held : (xacts : Xacts) (snaps : Snaps) (id : ℕ) (held : Held) (pages : Pages) (key : ℤ) → held_at snaps id ≡ Some held → tuple_in (counts_in xacts snaps (Shown id)) pages key ≡ tuple_in (committed_in xacts held.snapshot) pages key
shown_held xacts snaps id held pages key is = tests_agreed _ _ pages key (λ z. ap (λ o. option_map_or (λ h. committed_in xacts h.snapshot z) o false) is)

-- so it stays while the snapshot is the same
pub shown_stays : (xacts : Xacts) (snaps later : Snaps) (id : ℕ) (held after : Held) (pages : Pages) (key : ℤ) → held_at snaps id ≡ Some held → held_at later id ≡ Some after → after.snapshot ≡ held.snapshot → tuple_in (counts_in xacts later (Shown id)) pages key ≡ tuple_in (counts_in xacts snaps (Shown id)) pages key
shown_stays xacts snaps later id held after pages key was is same = shown_held xacts later id after pages key is ∙ ap (λ s. tuple_in (committed_in xacts s) pages key) same ∙ sym (shown_held xacts snaps id held pages key was)
