-- A chunk that was just put is there, and no entry names its slot.
use Rattle.std.proofs.Common.{ℕ, ◌≡◌, Some, Contains, ap, ◌∙◌, subst}
use Rattle.slot_page.specs.declared.line.Tid.{Tid}
use Rattle.slot_page.specs.Pages.{slot_of, item_in, put_tid, with_put_on}
use Rattle.slot_page.proofs.Pages.{item_put, put_was_free}
use Rattle.chunk_relation.specs.declared.chunk.Chunk.{Chunk}
use Rattle.toast_store.specs.Stores.{Store, Names, IsStore, IsUnnamed}

-- no entry names the slot of a chunk that was just put
pub unnamed : (old new : Store) (size : ℕ) (chunk : Chunk) (tid : Tid) → IsStore old → new ≡ record old { rel = record old.rel { pages = with_put_on size chunk old.rel.pages } } → tid ≡ put_tid size old.rel.pages → IsUnnamed new.index.entries tid
unnamed old new size chunk tid is puts at = record {
  by_none = λ e held same. absurd (subst (Names e) (ap (slot_of old.rel.pages) (same ∙ at) ∙ put_was_free size old.rel.pages) (is.names.named e (subst (λ (s : Store). Contains s.index.entries e) puts held)));
}

-- and the chunk is there
pub there : (old new : Store) (size : ℕ) (chunk : Chunk) (tid : Tid) → new ≡ record old { rel = record old.rel { pages = with_put_on size chunk old.rel.pages } } → tid ≡ put_tid size old.rel.pages → item_in new.rel.pages tid ≡ Some chunk
there old new size chunk tid puts at = ap (λ (s : Store). item_in s.rel.pages tid) puts ∙ ap (item_in (with_put_on size chunk old.rel.pages)) at ∙ item_put size chunk old.rel.pages
