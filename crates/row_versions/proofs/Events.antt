-- What stands at each tid of a relation after each change: the relation as a map from tids to versions.
use Rattle.std.proofs.Common.{ℕ, ℤ, ◌≡◌, ◌≢◌, ◌⊎◌, inl, inr, true, false, Option, Some, None, is_some, Bor, List, [], ap}
use Rattle.std.specs.Option.{option_copied}
use Rattle.slot_page.specs.declared.line.Tid.{Tid}
use Rattle.slot_page.specs.declared.line.LinePointer.{LinePointer}
use Rattle.slot_page.specs.declared.line.LinePointer.TheVariants.{Normal, Dead, Unused}
use Rattle.slot_page.specs.Slots.{item_of, IsNormal, IsDead}
use Rattle.slot_page.specs.Pages.{slot_of, item_in, written, put_tid, with_put_on}
use Rattle.slot_page.proofs.Pages.{put_here, slot_of-put, slot_of-written, items_kept_when_freed}
use Rattle.xact_status.specs.Xacts.{Xacts, IsAssigned}
use Rattle.heap_prune.specs.Lines.{IsLineAssigned, pruned}
use Rattle.heap_prune.proofs.Events as prunes
use Rattle.row_versions.specs.declared.version.Version.{Version}
use Rattle.row_versions.specs.Versions.{new_version, ended, version_stamp, is_dead_version, IsVersionAssigned}
use Rattle.row_versions.specs.Relations.{Pages, AreAssigned, pages_ended, pages_pruned}

-- a slot after a prune is as before, if it lies on another page, and else pruned
pub slot_of-pruned : (xacts : Xacts) (horizon : ℕ) (pages : Pages) (page : ℕ) (t : Tid) → ((t.page ≢ page) × (slot_of (pages_pruned xacts horizon pages page) t ≡ slot_of pages t)) ⊎ ((t.page ≡ page) × (slot_of (pages_pruned xacts horizon pages page) t ≡ pruned version_stamp xacts horizon (slot_of pages t)))
slot_of-pruned xacts horizon pages page t = prunes.slot_of-pruned version_stamp xacts horizon pages page t

-- a put adds one version, at a tid that had none, and leaves all others
pub item_of-put : (size : ℕ) (version : Version) (pages : Pages) (t : Tid) → (item_in (with_put_on size version pages) t ≡ item_in pages t) ⊎ ((t ≡ put_tid size pages) × (item_in (with_put_on size version pages) t ≡ Some version))
item_of-put size version pages t = elim (slot_of-put size version pages t) [
  | inl same ↦ inl (ap item_of same)
  | inr h ↦ inr (h.0, ap item_of h.1)
]

-- the version that was put is there
pub put_normal : (size : ℕ) (version : Version) (pages : Pages) (t : Tid) → t ≡ put_tid size pages → IsNormal (slot_of (with_put_on size version pages) t)
put_normal size version pages t is = rw (is, put_here size version pages) tt

-- a version that is ended is as before but for its ender, and all others stay
pub item_of-ended : (xid : ℕ) (pages : Pages) (tid t : Tid) → (item_in (pages_ended xid pages tid) t ≡ item_in pages t) ⊎ ((t ≡ tid) × (item_in (pages_ended xid pages tid) t ≡ item_of (ended xid (slot_of pages tid))))
item_of-ended xid pages tid t = elim (slot_of-written pages tid t (ended xid (slot_of pages tid))) [
  | inl same ↦ inl (ap item_of same)
  | inr h ↦ inr (h.0, ap item_of h.1)
]

-- a prune takes only versions that are dead under its horizon
pub item_of-pruned : (xacts : Xacts) (horizon : ℕ) (pages : Pages) (page : ℕ) (t : Tid) → (item_in (pages_pruned xacts horizon pages page) t ≡ item_in pages t) ⊎ ((version : Version) × (item_in pages t ≡ Some version) × (is_dead_version xacts horizon version ≡ true) × (item_in (pages_pruned xacts horizon pages page) t ≡ None))
item_of-pruned xacts horizon pages page t = prunes.item_of-pruned version_stamp xacts horizon pages page t

-- the transactions that a new version names were given their xids, where its inserter's was
pub new_assigned : (xacts : Xacts) (key : ℤ) (xid : ℕ) (tuple : List ℕ) → IsAssigned xacts xid → IsVersionAssigned xacts (new_version key xid tuple)
new_assigned xacts key xid tuple given = prunes.new_stamp_assigned xacts xid given

-- those of all versions stay so through each change
pub assigned_none : (xacts : Xacts) → AreAssigned xacts []
assigned_none xacts = prunes.assigned_none version_stamp xacts

pub assigned_put : (xacts : Xacts) (size : ℕ) (version : Version) (pages : Pages) → AreAssigned xacts pages → IsVersionAssigned xacts version → AreAssigned xacts (with_put_on size version pages)
assigned_put xacts size version pages assigned new = prunes.assigned_put version_stamp xacts size version pages assigned new

line_ended : (xacts : Xacts) (xid : ℕ) (line : LinePointer Version) → IsAssigned xacts xid → IsLineAssigned version_stamp xacts line → IsLineAssigned version_stamp xacts (ended xid line)
line_ended xacts xid (Normal size version) given assigned = prunes.ended_stamp_assigned xacts (version_stamp version) xid given assigned
line_ended xacts xid Dead given assigned = tt
line_ended xacts xid Unused given assigned = tt

pub assigned_ended : (xacts : Xacts) (xid : ℕ) (pages : Pages) (tid : Tid) → AreAssigned xacts pages → IsAssigned xacts xid → AreAssigned xacts (pages_ended xid pages tid)
assigned_ended xacts xid pages tid assigned given = prunes.assigned_written version_stamp xacts pages tid (ended xid (slot_of pages tid)) assigned (line_ended xacts xid (slot_of pages tid) given (assigned.each tid))

pub assigned_pruned : (xacts : Xacts) (horizon : ℕ) (pages : Pages) (page : ℕ) → AreAssigned xacts pages → AreAssigned xacts (pages_pruned xacts horizon pages page)
assigned_pruned xacts horizon pages page assigned = prunes.assigned_pruned version_stamp xacts horizon pages page assigned

pub assigned_reaped : (xacts : Xacts) (pages : Pages) (tid : Tid) → AreAssigned xacts pages → AreAssigned xacts (written pages tid Unused)
assigned_reaped xacts pages tid assigned = prunes.assigned_written version_stamp xacts pages tid Unused assigned tt

-- also where transactions start and end
pub assigned_later : (xacts later : Xacts) (pages : Pages) → ((xid : ℕ) → IsAssigned xacts xid → IsAssigned later xid) → AreAssigned xacts pages → AreAssigned later pages
assigned_later xacts later pages goes_on assigned = prunes.assigned_later version_stamp xacts later pages goes_on assigned

-- a freed slot had no version
pub item_of-reaped : (pages : Pages) (tid t : Tid) → IsDead (slot_of pages tid) → item_in (written pages tid Unused) t ≡ item_in pages t
item_of-reaped pages tid t dead = items_kept_when_freed pages tid t dead

-- a slot at which a version is shown has one
pub shown_normal : (line : LinePointer Version) (shown : Option (Bor Version)) → option_copied shown ≡ item_of line → is_some shown ≡ true → IsNormal line
shown_normal (Normal size version) shown is some = tt
shown_normal Dead None is some = absurd (cc)
shown_normal Dead (Some version) is some = absurd (cc)
shown_normal Unused None is some = absurd (cc)
shown_normal Unused (Some version) is some = absurd (cc)
