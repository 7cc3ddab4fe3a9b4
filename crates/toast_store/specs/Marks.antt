-- Marking a dropped value's chunks as ended by a transaction.
use Rattle.std.specs.Prelude.{ℕ, ◌≡◌, ◌<◌, ◌⊎◌, Option, Some, None, Contains, ⊤, if◌then◌else◌, is_some}
use Rattle.external_pointer.specs.declared.external.Pointer.{Pointer}
use Rattle.slot_page.specs.Pages.{item_in}
use Rattle.chunk_relation.specs.declared.chunk.Chunk.{Chunk}
use Rattle.chunk_relation.specs.Relations.{Pages, with_ended}
use Rattle.chunk_index.specs.declared.entry.Entry.{Entry}
use Rattle.toast_store.specs.Stores.{Store}
use Rattle.toast_store.specs.Values.{piece_count}
use Rattle.toast_store.specs.Walks.{Walking, IsOfWalk, IsBatchHeld, CanStep, new_walk, ahead, entry_at, index_walked, steps_left, walk_after}
use Rattle.toast_store.specs.declared.mark.MarkStep.{MarkStep}
use Rattle.toast_store.specs.declared.mark.MarkStep.TheVariants.{More, Done}
use Rattle.toast_store.specs.declared.walk.WalkStage.TheVariants.{Over}

-- a mark: the transaction that ends the value, and its walk
pub record Marking : Type 0 where
  pub xid : ℕ
  pub walk : Walking

-- a mark before its first step
abbrev pub new_mark : Pointer → ℕ → ℕ → Marking
new_mark pointer xid session = record { xid = xid; walk = new_walk pointer.value_id 0 (piece_count pointer.size) session }

-- the pages with the chunk that an entry names ended, if it names one
abbrev pub marked : ℕ → Pages → Option Entry → Pages
marked xid pages None = pages
marked xid pages (Some e) = if is_some (item_in pages e.tid) then with_ended xid pages e.tid else pages

-- the store after a step: at most one chunk has the ender, and the walk goes on
abbrev pub store_marked : Store → Marking → Store
store_marked store mark = record { rel = record store.rel { pages = marked mark.xid store.rel.pages (entry_at mark.walk.stage) }; index = index_walked store.index mark.walk }

-- the chunk that an entry names, if it names one, is ended by a transaction
abbrev pub IsEnded : ℕ → Option Chunk → Type 0
IsEnded xid None = ⊤
IsEnded xid (Some chunk) = chunk.ender ≡ Some xid

-- what the next step ends, if anything, is a chunk of the value, with the number of one of its pieces
pub record EndsOwn (store : Store) (mark : Marking) : Type 0 where
  pub each : (e : Entry) (chunk : Chunk) → entry_at mark.walk.stage ≡ Some e → item_in store.rel.pages e.tid ≡ Some chunk → (chunk.value_id ≡ mark.walk.value_id) × (chunk.seq < mark.walk.end)

-- each entry of the value still lies ahead, or its chunk is ended
pub record IsMarking (store : Store) (mark : Marking) : Type 0 where
  pub each : (e : Entry) → Contains store.index.entries e → IsOfWalk mark.walk e → Contains (ahead store.index.entries mark.walk) e ⊎ IsEnded mark.xid (item_in store.rel.pages e.tid)

-- each chunk of the value is ended
pub record IsMarked (store : Store) (mark : Marking) : Type 0 where
  pub each : (e : Entry) → Contains store.index.entries e → IsOfWalk mark.walk e → IsEnded mark.xid (item_in store.rel.pages e.tid)

-- a step keeps that, and what it leaves is done
abbrev pub IsMarkAnswer : Store → Marking → MarkStep → Type 0
IsMarkAnswer store mark More = IsMarking store mark
IsMarkAnswer store mark Done = IsMarked store mark

-- a mark with steps left may make the next one in this store; one that is done is over
abbrev pub IsMarkReady : Store → Marking → MarkStep → Type 0
IsMarkReady store mark More = CanStep store.index mark.walk
IsMarkReady store mark Done = mark.walk.stage ≡ Over

-- a step that leaves some steps has taken one of them
abbrev pub IsMarkProgress : ℕ → ℕ → MarkStep → Type 0
IsMarkProgress before after More = (0 < after) × (after < before)
IsMarkProgress before after Done = after ≡ 0

-- what a step does that finds memory
pub record MarkSteps (old : Store) (before : Marking) (new : Store) (after : Marking) (step : MarkStep) : Type 0 where
  -- the mark and the store are then exactly these: the chunk of the entry that is taken is ended, if there is one
  pub mark : after ≡ record before { walk = walk_after old.index before.walk }
  pub store : new ≡ store_marked old before
  -- that chunk is one of the value; each of them lies ahead or is ended, and once the mark is done each is ended
  pub own : IsBatchHeld old.index.entries before.walk → EndsOwn old before
  pub marked : IsMarking old before → IsMarkAnswer new after step
  -- what the next step relies on, what is left of the batch, and that fewer steps are left
  pub ready : IsMarkReady new after step
  pub batch : IsBatchHeld old.index.entries before.walk → IsBatchHeld new.index.entries after.walk
  pub left : IsMarkProgress (steps_left old.index.entries before.walk) (steps_left new.index.entries after.walk) step
