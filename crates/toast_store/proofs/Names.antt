-- What each call of the parts leaves true of a store.
use Rattle.std.proofs.Common.{ℕ, ◌≡◌, inl, inr, ◌≤◌, Option, Some, None, List, length, Contains, sym, ap, ◌∙◌, subst}
use Rattle.std.proofs.lemmas.Option.{same_Some, none-some}
use Rattle.std.specs.Option.{option_map_or}
use Rattle.slot_page.specs.declared.line.Tid.{Tid}
use Rattle.slot_page.specs.declared.line.LinePointer.{LinePointer}
use Rattle.slot_page.specs.declared.line.LinePointer.TheVariants.{Normal, Dead, Unused}
use Rattle.slot_page.specs.Slots.{item_of}
use Rattle.slot_page.specs.Pages.{slot_of, with_put_on, written}
use Rattle.slot_page.proofs.Pages.{slot_of-put, slot_of-written, put_was_free}
use Rattle.chunk_relation.specs.declared.chunk.Chunk.{Chunk}
use Rattle.slice_fetch.specs.Spans.{chunk_size}
use Rattle.chunk_relation.specs.Relations.{Pages}
use Rattle.chunk_index.specs.declared.entry.Entry.{Entry}
use Rattle.chunk_index.specs.Entries.{with_entry}
use Rattle.chunk_index.specs.Leaves.{Leaf}
use Rattle.chunk_index.specs.Pinned.{holder_of}
use Rattle.chunk_index.specs.Indexes.{Index, IsIndex, swept_index, after_sweep}
use Rattle.chunk_index.proofs.Inserts.{entry_was}
use Rattle.chunk_index.proofs.Sweeps.{left_was}
use Rattle.toast_store.specs.Stores.{Store, Names, IndexNamesChunks, IsPieceSized, IsStore, NamesChunk, IsUnnamed}

-- a put: no entry named the slot that it takes
pub names_put : (size : ℕ) (chunk : Chunk) (pages : Pages) (entries : List Entry) → IndexNamesChunks pages entries → IndexNamesChunks (with_put_on size chunk pages) entries
names_put size chunk pages entries names = record {
  named = λ e held. elim (slot_of-put size chunk pages e.tid) [
    | inl same ↦ rw same (names.named e held)
    | inr h ↦ absurd (subst (Names e) (ap (slot_of pages) h.0 ∙ put_was_free size pages) (names.named e held))
  ];
  apart = names.apart;
}

pub sized_put : (size : ℕ) (chunk : Chunk) (pages : Pages) → 1 ≤ length chunk.bytes → length chunk.bytes ≤ chunk_size → ((t : Tid) → IsPieceSized (slot_of pages t)) → (t : Tid) → IsPieceSized (slot_of (with_put_on size chunk pages) t)
sized_put size chunk pages least most sized t = elim (slot_of-put size chunk pages t) [
  | inl same ↦ rw same (sized t)
  | inr h ↦ rw h.1 (least, most)
]

pub store_put : (store : Store) (size : ℕ) (chunk : Chunk) → IsStore store → 1 ≤ length chunk.bytes → length chunk.bytes ≤ chunk_size → IsStore (record store { rel = record store.rel { pages = with_put_on size chunk store.rel.pages } })
store_put store size chunk is least most = record {
  index = is.index;
  names = names_put size chunk store.rel.pages store.index.entries is.names;
  sized = sized_put size chunk store.rel.pages least most is.sized;
}

-- a slot that no entry names is freed
pub store_reaped : (store : Store) (tid : Tid) → IsStore store → IsUnnamed store.index.entries tid → IsStore (record store { rel = record store.rel { pages = written store.rel.pages tid Unused } })
store_reaped store tid is free = record {
  index = is.index;
  names = record {
    named = λ e held. elim (slot_of-written store.rel.pages tid e.tid Unused) [
      | inl same ↦ rw same (is.names.named e held)
      | inr h ↦ absurd (free.by_none e held h.0)
    ];
    apart = is.names.apart;
  };
  sized = λ t. elim (slot_of-written store.rel.pages tid t Unused) [
    | inl same ↦ rw same (is.sized t)
    | inr h ↦ rw h.1 tt
  ];
}

-- an entry of a chunk may name its slot
names_item : (e : Entry) (line : LinePointer Chunk) (chunk : Chunk) → item_of line ≡ Some chunk → chunk.value_id ≡ e.value_id → chunk.seq ≡ e.seq → Names e line
names_item e (Normal size item) chunk is id seq = let same = same_Some item chunk is in (ap (λ (c : Chunk). c.value_id) same ∙ id, ap (λ (c : Chunk). c.seq) same ∙ seq)
names_item e Dead chunk is id seq = tt
names_item e Unused chunk is id seq = absurd (none-some chunk is)

pub names_chunk : (pages : Pages) (e : Entry) → NamesChunk pages e → Names e (slot_of pages e.tid)
names_chunk pages e h = names_item e (slot_of pages e.tid) h.0 h.1 h.2 h.3

-- so it may be added where no other names the slot
pub names_added : (pages : Pages) (entries : List Entry) (e : Entry) → IndexNamesChunks pages entries → NamesChunk pages e → IsUnnamed entries e.tid → IndexNamesChunks pages (with_entry entries e)
names_added pages entries e names new free = record {
  named = λ f held. elim (entry_was entries e f held) [
    | inl there ↦ names.named f there
    | inr is ↦ subst (λ g. Names g (slot_of pages g.tid)) is (names_chunk pages e new)
  ];
  apart = λ f g in_f in_g same. elim (entry_was entries e f in_f) [
    | inl f_there ↦ elim (entry_was entries e g in_g) [
      | inl g_there ↦ names.apart f g f_there g_there same
      | inr is ↦ absurd (free.by_none f f_there (same ∙ ap (λ (h : Entry). h.tid) (sym is)))
    ]
    | inr f_is ↦ elim (entry_was entries e g in_g) [
      | inl g_there ↦ absurd (free.by_none g g_there (sym same ∙ ap (λ (h : Entry). h.tid) (sym f_is)))
      | inr g_is ↦ sym f_is ∙ g_is
    ]
  ];
}

pub store_added : (store : Store) (index : Index) (e : Entry) → IsStore store → IsIndex index → index.entries ≡ with_entry store.index.entries e → NamesChunk store.rel.pages e → IsUnnamed store.index.entries e.tid → IsStore (record store { index = index })
store_added store index e is sound entries new free = record {
  index = sound;
  names = subst (λ es. IndexNamesChunks store.rel.pages es) (sym entries) (names_added store.rel.pages store.index.entries e is.names new free);
  sized = is.sized;
}

-- fewer entries
pub names_fewer : (pages : Pages) (entries fewer : List Entry) → IndexNamesChunks pages entries → ((e : Entry) → Contains fewer e → Contains entries e) → IndexNamesChunks pages fewer
names_fewer pages entries fewer names less = record {
  named = λ e held. names.named e (less e held);
  apart = λ e f in_e in_f same. names.apart e f (less e in_e) (less f in_f) same;
}

-- a sweep leaves only entries that were there
pub swept_was : (index : Index) (leaf : Leaf) (dead : List Tid) (e : Entry) → Contains (Index.entries (after_sweep index leaf dead)) e → Contains index.entries e
swept_was index leaf dead e held = by_holder (holder_of index.pins leaf) held
  where
    by_holder : (holder : Option ℕ) → Contains (Index.entries (option_map_or (λ s. index) holder (swept_index index leaf dead))) e → Contains index.entries e
    by_holder None h = (left_was index.bounds leaf dead index.entries e h).0
    by_holder (Some s) h = h

pub store_swept : (store : Store) (leaf : Leaf) (dead : List Tid) → IsStore store → IsIndex (after_sweep store.index leaf dead) → IsStore (record store { index = after_sweep store.index leaf dead })
store_swept store leaf dead is sound = record {
  index = sound;
  names = names_fewer store.rel.pages store.index.entries (Index.entries (after_sweep store.index leaf dead)) is.names (λ e held. swept_was store.index leaf dead e held);
  sized = is.sized;
}
