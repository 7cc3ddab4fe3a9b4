-- What stands at each tid of a relation after each change: the relation as a map from tids to chunks.
use Rattle.std.proofs.Common.{ℕ, ◌≡◌, ◌≢◌, ◌⊎◌, inl, inr, true, false, Option, Some, None, List, [], ap}
use Rattle.slot_page.specs.declared.line.Tid.{Tid}
use Rattle.slot_page.specs.declared.line.LinePointer.{LinePointer}
use Rattle.slot_page.specs.declared.line.LinePointer.TheVariants.{Normal, Dead, Unused}
use Rattle.slot_page.specs.Slots.{item_of, IsNormal, IsDead}
use Rattle.slot_page.specs.Pages.{slot_of, item_in, written, put_tid, with_put_on}
use Rattle.slot_page.proofs.Pages.{put_here, slot_of-put, slot_of-written, items_kept_when_freed}
use Rattle.xact_status.specs.Xacts.{Xacts, IsAssigned}
use Rattle.heap_prune.specs.Lines.{IsLineAssigned, pruned}
use Rattle.heap_prune.proofs.Events as prunes
use Rattle.chunk_relation.specs.declared.chunk.Chunk.{Chunk}
use Rattle.chunk_relation.specs.Chunks.{new_chunk, ended, chunk_stamp, is_dead_chunk, IsChunkAssigned}
use Rattle.chunk_relation.specs.Relations.{Pages, AreAssigned, with_ended, with_pruned}

-- a slot after a prune is as before, if it lies on another page, and else pruned
pub slot_of-pruned : (xacts : Xacts) (horizon : ℕ) (pages : Pages) (page : ℕ) (t : Tid) → ((t.page ≢ page) × (slot_of (with_pruned xacts horizon pages page) t ≡ slot_of pages t)) ⊎ ((t.page ≡ page) × (slot_of (with_pruned xacts horizon pages page) t ≡ pruned chunk_stamp xacts horizon (slot_of pages t)))
slot_of-pruned xacts horizon pages page t = prunes.slot_of-pruned chunk_stamp xacts horizon pages page t

-- a put adds one chunk, at a tid that had none, and leaves all others
pub chunk_of-put : (size : ℕ) (chunk : Chunk) (pages : Pages) (t : Tid) → (item_in (with_put_on size chunk pages) t ≡ item_in pages t) ⊎ ((t ≡ put_tid size pages) × (item_in (with_put_on size chunk pages) t ≡ Some chunk))
chunk_of-put size chunk pages t = elim (slot_of-put size chunk pages t) [
  | inl same ↦ inl (ap item_of same)
  | inr h ↦ inr (h.0, ap item_of h.1)
]

-- the chunk that was put is there
pub put_normal : (size : ℕ) (chunk : Chunk) (pages : Pages) (t : Tid) → t ≡ put_tid size pages → IsNormal (slot_of (with_put_on size chunk pages) t)
put_normal size chunk pages t is = rw (is, put_here size chunk pages) tt

-- a chunk that is ended is as before but for its ender, and all others stay
pub chunk_of-ended : (xid : ℕ) (pages : Pages) (tid t : Tid) → (item_in (with_ended xid pages tid) t ≡ item_in pages t) ⊎ ((t ≡ tid) × (item_in (with_ended xid pages tid) t ≡ item_of (ended xid (slot_of pages tid))))
chunk_of-ended xid pages tid t = elim (slot_of-written pages tid t (ended xid (slot_of pages tid))) [
  | inl same ↦ inl (ap item_of same)
  | inr h ↦ inr (h.0, ap item_of h.1)
]

-- a prune takes only chunks that are dead under its horizon
pub chunk_of-pruned : (xacts : Xacts) (horizon : ℕ) (pages : Pages) (page : ℕ) (t : Tid) → (item_in (with_pruned xacts horizon pages page) t ≡ item_in pages t) ⊎ ((chunk : Chunk) × (item_in pages t ≡ Some chunk) × (is_dead_chunk xacts horizon chunk ≡ true) × (item_in (with_pruned xacts horizon pages page) t ≡ None))
chunk_of-pruned xacts horizon pages page t = prunes.item_of-pruned chunk_stamp xacts horizon pages page t

-- the transactions that a new chunk names were given their xids, where its inserter's was
pub new_assigned : (xacts : Xacts) (value_id seq xid : ℕ) (bytes : List ℕ) → IsAssigned xacts xid → IsChunkAssigned xacts (new_chunk value_id seq xid bytes)
new_assigned xacts value_id seq xid bytes given = prunes.new_stamp_assigned xacts xid given

-- those of all chunks stay so through each change
pub assigned_none : (xacts : Xacts) → AreAssigned xacts []
assigned_none xacts = prunes.assigned_none chunk_stamp xacts

pub assigned_put : (xacts : Xacts) (size : ℕ) (chunk : Chunk) (pages : Pages) → AreAssigned xacts pages → IsChunkAssigned xacts chunk → AreAssigned xacts (with_put_on size chunk pages)
assigned_put xacts size chunk pages assigned new = prunes.assigned_put chunk_stamp xacts size chunk pages assigned new

line_ended : (xacts : Xacts) (xid : ℕ) (line : LinePointer Chunk) → IsAssigned xacts xid → IsLineAssigned chunk_stamp xacts line → IsLineAssigned chunk_stamp xacts (ended xid line)
line_ended xacts xid (Normal size chunk) given assigned = prunes.ended_stamp_assigned xacts (chunk_stamp chunk) xid given assigned
line_ended xacts xid Dead given assigned = tt
line_ended xacts xid Unused given assigned = tt

pub assigned_ended : (xacts : Xacts) (xid : ℕ) (pages : Pages) (tid : Tid) → AreAssigned xacts pages → IsAssigned xacts xid → AreAssigned xacts (with_ended xid pages tid)
assigned_ended xacts xid pages tid assigned given = prunes.assigned_written chunk_stamp xacts pages tid (ended xid (slot_of pages tid)) assigned (line_ended xacts xid (slot_of pages tid) given (assigned.each tid))

pub assigned_pruned : (xacts : Xacts) (horizon : ℕ) (pages : Pages) (page : ℕ) → AreAssigned xacts pages → AreAssigned xacts (with_pruned xacts horizon pages page)
assigned_pruned xacts horizon pages page assigned = prunes.assigned_pruned chunk_stamp xacts horizon pages page assigned

pub assigned_reaped : (xacts : Xacts) (pages : Pages) (tid : Tid) → AreAssigned xacts pages → AreAssigned xacts (written pages tid Unused)
assigned_reaped xacts pages tid assigned = prunes.assigned_written chunk_stamp xacts pages tid Unused assigned tt

-- also where transactions start and end
pub assigned_later : (xacts later : Xacts) (pages : Pages) → ((xid : ℕ) → IsAssigned xacts xid → IsAssigned later xid) → AreAssigned xacts pages → AreAssigned later pages
assigned_later xacts later pages goes_on assigned = prunes.assigned_later chunk_stamp xacts later pages goes_on assigned

-- a freed slot had no chunk
pub chunk_of-reaped : (pages : Pages) (tid t : Tid) → IsDead (slot_of pages tid) → item_in (written pages tid Unused) t ≡ item_in pages t
chunk_of-reaped pages tid t dead = items_kept_when_freed pages tid t dead
