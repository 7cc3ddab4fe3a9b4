-- A relation of chunks.
use Rattle.std.specs.Prelude.{ℕ, List, Option}
use Rattle.slot_page.specs.declared.line.Tid.{Tid}
use Rattle.slot_page.specs.declared.line.LinePointer.{LinePointer}
use Rattle.slot_page.specs.Pages.{slot_of, item_in, written}
use Rattle.xact_status.specs.Xacts.{Xacts}
use Rattle.chunk_relation.specs.declared.chunk.Chunk.{Chunk}
use Rattle.chunk_relation.specs.Chunks.{chunk_stamp, ended}
use Rattle.heap_prune.specs.Prunes as prunes

-- pages of slots, each with what stands in it
abbrev pub Pages : Type 0
Pages = List (List (LinePointer Chunk))

-- a relation of chunks: its id, and its pages
pub record Relation : Type 0 where
  pub rel_id : ℕ
  pub pages : Pages

-- the chunk at a tid, if there is one: the relation as a map
abbrev pub chunk_of : Relation → Tid → Option Chunk
chunk_of rel tid = item_in rel.pages tid

-- the pages with the chunk at a tid ended by a transaction
abbrev pub with_ended : ℕ → Pages → Tid → Pages
with_ended xid pages tid = written pages tid (ended xid (slot_of pages tid))

-- the pages with one of them pruned ("Routine Vacuuming, Recovering Disk Space")
abbrev pub with_pruned : Xacts → ℕ → Pages → ℕ → Pages
with_pruned xacts horizon pages page = prunes.with_pruned chunk_stamp xacts horizon pages page

-- the transactions that the chunks of a relation name were given their xids
abbrev pub AreAssigned : Xacts → Pages → Type 0
AreAssigned xacts pages = prunes.AreAssigned chunk_stamp xacts pages
