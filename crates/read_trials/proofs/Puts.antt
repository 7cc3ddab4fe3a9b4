-- A chunk that was just put is there, and no entry names its slot.
use Rattle.std.proofs.Common.{ℕ, ◌≡◌, ◌||◌, false, Some, None, [], Contains, ap, ◌∙◌, subst, List, arith}
use Rattle.slot_page.specs.declared.line.Tid.{Tid}
use Rattle.slot_page.specs.Pages.{slot_of, item_in, put_tid, with_put_on}
use Rattle.slot_page.proofs.Pages.{item_put, put_was_free}
use Rattle.xact_status.specs.Xacts.{Xacts}
use Rattle.xact_status.specs.Versions.{IsStampAssigned}
use Rattle.chunk_relation.specs.declared.chunk.Chunk.{Chunk}
use Rattle.chunk_relation.specs.Chunks.{is_dead_chunk, new_chunk}
use Rattle.chunk_relation.proofs.Events.{new_assigned}
use Rattle.toast_store.specs.Stores.{Store, Names, IsStore, IsUnnamed}
use Rattle.read_trials.specs.Readers.{AreGiven}

-- no entry names its slot
pub unnamed : (old new : Store) (size : ℕ) (chunk : Chunk) (tid : Tid) → IsStore old → new ≡ record old { rel = record old.rel { pages = with_put_on size chunk old.rel.pages } } → tid ≡ put_tid size old.rel.pages → IsUnnamed new.index.entries tid
unnamed old new size chunk tid is puts at = record {
  by_none = λ e held same. absurd (subst (Names e) (ap (slot_of old.rel.pages) (same ∙ at) ∙ put_was_free size old.rel.pages) (is.names.named e (subst (λ (s : Store). Contains s.index.entries e) puts held)));
}

-- and the chunk is there
pub there : (old new : Store) (size : ℕ) (chunk : Chunk) (tid : Tid) → new ≡ record old { rel = record old.rel { pages = with_put_on size chunk old.rel.pages } } → tid ≡ put_tid size old.rel.pages → item_in new.rel.pages tid ≡ Some chunk
there old new size chunk tid puts at = ap (λ (s : Store). item_in s.rel.pages tid) puts ∙ ap (item_in (with_put_on size chunk old.rel.pages)) at ∙ item_put size chunk old.rel.pages

-- transaction 3 was given its xid, so a chunk of it is not dead
pub given_three : (xacts : Xacts) → AreGiven xacts → IsStampAssigned xacts (record { inserter = 3; ender = None })
given_three xacts given = new_assigned xacts 0 0 3 [] (record { from_first = omega arith; below_next = omega (arith, given.next) })

pub not_dead : (xacts : Xacts) (value_id seq : ℕ) (bytes : List ℕ) → AreGiven xacts → is_dead_chunk xacts 5 (new_chunk value_id seq 3 bytes) ≡ false
not_dead xacts value_id seq bytes given = ap (λ b. b || false) given.stands
