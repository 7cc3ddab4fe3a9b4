-- What the read of a part of a value relies on, and what the events of others leave of that.
use Rattle.std.specs.Prelude.{ℕ, ◌≡◌, ◌≤◌, false, IsSome, IfSome, Option, Some, Contains}
use Rattle.slot_page.specs.declared.line.Tid.{Tid}
use Rattle.slot_page.specs.Pages.{item_in}
use Rattle.xact_status.specs.Xacts.{Xacts, is_aborted, next_xid}
use Rattle.tuple_layout.specs.declared.cell.Cell.TheVariants.{Null, Inline, Out}
use Rattle.chunk_relation.specs.declared.chunk.Chunk.{Chunk}
use Rattle.chunk_relation.specs.Chunks.{is_dead_chunk}
use Rattle.chunk_relation.specs.Relations.{Pages, AreAssigned}
use Rattle.chunk_index.specs.declared.entry.Entry.{Entry}
use Rattle.toast_store.specs.Stores.{Store, IsUnnamed, NamesChunk}
use Rattle.toast_store.specs.Walks.{Walking, IsBatchHeld}
use Rattle.toast_store.specs.Fetches.{Fetching, outcome}
use Rattle.read_steps.specs.Reads.{Reading, CanRead, IsBatchKept, reply_of}
use Rattle.read_steps.specs.declared.stage.ReadStage.{ReadStage}
use Rattle.read_steps.specs.declared.stage.ReadStage.TheVariants.{Row, RowValue, Part, PartValue, Ready, Over}

-- the transactions 3 and 4 were given their xids, and the first has not aborted
pub record AreGiven (xacts : Xacts) : Type 0 where
  pub next : 5 ≤ next_xid xacts
  pub stands : is_aborted xacts 3 ≡ false

-- the chunk of an entry is there, and not dead under the horizon 5
abbrev pub IsAlive : Xacts → Pages → Entry → Type 0
IsAlive xacts pages e = (chunk : Chunk) × (item_in pages e.tid ≡ Some chunk) × (is_dead_chunk xacts 5 chunk ≡ false)

-- so is that of each entry of a value
pub record AreAlive (xacts : Xacts) (value_id : ℕ) (store : Store) : Type 0 where
  pub assigned : AreAssigned xacts store.rel.pages
  pub each : (e : Entry) → Contains store.index.entries e → e.value_id ≡ value_id → IsAlive xacts store.rel.pages e

-- a chunk that was put, if there is one, has no entry yet
abbrev pub IsLaid : Store → ℕ → Option Tid → Type 0
IsLaid store value_id laid = IfSome laid (λ tid. NamesChunk store.rel.pages (record { value_id = value_id; seq = 99; tid = tid }) × IsUnnamed store.index.entries tid)

-- the read of a part of a value with this id
abbrev pub IsPartOf : ℕ → ReadStage → Type 0
IsPartOf value_id (Row stored) = ⊥
IsPartOf value_id (RowValue stored at fetch) = ⊥
IsPartOf value_id (Part Null span) = ⊥
IsPartOf value_id (Part (Inline value) span) = ⊥
IsPartOf value_id (Part (Out pointer) span) = pointer.value_id ≡ value_id
IsPartOf value_id (PartValue fetch) = Walking.value_id (Fetching.walk fetch) ≡ value_id
IsPartOf value_id (Ready bytes) = ⊥
IsPartOf value_id Over = ⊥

-- it may go on, and comes to its bytes
pub record IsReader (value_id : ℕ) (store : Store) (read : Reading) : Type 0 where
  pub can : CanRead store read
  pub comes : IsSome (reply_of store read)
  pub batch : IsBatchKept store.index.entries read
  pub part : IsPartOf value_id read.stage

-- what an event of others leaves of a value and its readers
pub record PassesBy (xacts : Xacts) (value_id : ℕ) (old new : Store) : Type 0 where
  pub alive : AreAlive xacts value_id new
  pub pins : new.index.pins ≡ old.index.pins
  pub batches : (walk : Walking) → walk.value_id ≡ value_id → IsBatchHeld old.index.entries walk → IsBatchHeld new.index.entries walk
  pub fetches : (fetch : Fetching) → Walking.value_id (Fetching.walk fetch) ≡ value_id → IsBatchHeld old.index.entries (Fetching.walk fetch) → outcome new fetch ≡ outcome old fetch
