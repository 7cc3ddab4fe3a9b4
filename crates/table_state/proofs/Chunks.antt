-- The stamps of a value's chunks, through each change of the store.
use Rattle.std.proofs.Common.{ℕ, ◌≡◌, ◌≤◌, ◌⊎◌, inl, inr, List, [], ◌∷◌, Option, Some, None, Contains, map, refl, sym, ap, subst, ◌∙◌}
use Rattle.std.specs.List.{filter_map, cons_option}
use Rattle.std.proofs.lemmas.Option.{none-some, same_Some}
use Rattle.list_facts.proofs.Members.{none_in_nil, cases_in, first_in, later_in}
use Rattle.slot_page.specs.declared.line.Tid.{Tid}
use Rattle.slot_page.specs.declared.line.LinePointer.{LinePointer}
use Rattle.slot_page.specs.declared.line.LinePointer.TheVariants.{Normal, Dead, Unused}
use Rattle.slot_page.specs.Slots.{item_of}
use Rattle.slot_page.specs.Pages.{slot_of, item_in}
use Rattle.xact_status.specs.Xacts.{Xacts, IsAssigned}
use Rattle.snapshot_registry.specs.Snapshots.{Snaps, horizon}
use Rattle.snapshot_registry.specs.Laws.{IsRegistryOf}
use Rattle.chunk_relation.specs.declared.chunk.Chunk.{Chunk}
use Rattle.heap_prune.specs.Lines.{IsLineAssigned}
use Rattle.chunk_relation.specs.Chunks.{chunk_stamp, ended}
use Rattle.chunk_relation.specs.Relations.{AreAssigned}
use Rattle.chunk_relation.proofs.Events.{chunk_of-ended, chunk_of-pruned}
use Rattle.chunk_index.specs.declared.entry.Entry.{Entry}
use Rattle.chunk_index.specs.Entries.{of_id}
use Rattle.toast_store.specs.Stores.{Store, chunks_of}
use Rattle.toast_store.specs.Between.{Ends, Prunes, IsSpared}
use Rattle.toast_store.proofs.Chosen.{chosen_in}
use Rattle.xact_status.specs.declared.Stamp.{Stamp}
use Rattle.value_holders.specs.Stamps.{ended_by}
use Rattle.value_holders.specs.Holders.{Holders, IsHeld, Protects, AreGiven, MayEnd, AreAmong}
use Rattle.value_holders.proofs.Spared.{protected_is_spared}
use Rattle.value_holders.specs.Laws.{ProtectedIsSpared}
use Rattle.table_state.specs.Holders.{chunk_stamps}

-- ---- lists

pub map_in : {X Y : Type 0} (f : X → Y) (xs : List X) (x : X) → Contains xs x → Contains (map f xs) (f x)
map_in f [] x held = absurd (none_in_nil x held)
map_in f (y ∷ ys) x held = elim (cases_in y ys x held) [
  | inl here ↦ first_in (f y) (map f ys) (f x) (ap f here)
  | inr later ↦ later_in (f y) (map f ys) (f x) (map_in f ys x later)
]

pub from_map : {X Y : Type 0} (f : X → Y) (xs : List X) (y : Y) → Contains (map f xs) y → (x : X) × Contains xs x × (f x ≡ y)
from_map f [] y held = absurd (none_in_nil y held)
from_map f (x ∷ xs) y held = elim (cases_in (f x) (map f xs) y held) [
  | inl here ↦ (x, first_in x xs x refl, here)
  | inr later ↦ let found = from_map f xs y later in (found.0, later_in x xs found.0 found.1, found.2)
]

pub from_chosen : {X Y : Type 0} (f : X → Option Y) (xs : List X) (y : Y) → Contains (filter_map f xs) y → (x : X) × Contains xs x × (f x ≡ Some y)
from_chosen f [] y held = absurd (none_in_nil y held)
from_chosen {X} {Y} f (x ∷ xs) y held = by_value (f x) refl held (λ later. from_chosen f xs y later)
  where
    by_value : (o : Option Y) → f x ≡ o → Contains (cons_option o (filter_map f xs)) y → (Contains (filter_map f xs) y → (z : X) × Contains xs z × (f z ≡ Some y)) → (z : X) × Contains (x ∷ xs) z × (f z ≡ Some y)
    by_value None is among rest = let found = rest among in (found.0, later_in x xs found.0 found.1, found.2)
    by_value (Some w) is among rest = elim (cases_in w (filter_map f xs) y among) [
      | inl here ↦ (x, first_in x xs x refl, is ∙ ap Some here)
      | inr later ↦ let found = rest later in (found.0, later_in x xs found.0 found.1, found.2)
    ]

-- ---- chunks

-- a chunk of a value stands in the slot that an entry of its id names
pub record IsChunkOf (store : Store) (value_id : ℕ) (chunk : Chunk) : Type 0 where
  pub entry : Entry
  pub of_value : Contains (of_id value_id store.index.entries) entry
  pub there : item_in store.rel.pages entry.tid ≡ Some chunk

chunk_from : (store : Store) (value_id : ℕ) (chunk : Chunk) → Contains (chunks_of store value_id) chunk → IsChunkOf store value_id chunk
chunk_from store value_id chunk held = let found = from_chosen (λ (e : Entry). item_in store.rel.pages e.tid) (of_id value_id store.index.entries) chunk held in record { entry = found.0; of_value = found.1; there = found.2 }

-- a stamp of a value's chunks is that of one of them
pub record IsStampOf (store : Store) (value_id : ℕ) (stamp : Stamp) : Type 0 where
  pub chunk : Chunk
  pub is : chunk_stamp chunk ≡ stamp
  pub of_value : IsChunkOf store value_id chunk

stamp_from : (store : Store) (value_id : ℕ) (stamp : Stamp) → Contains (chunk_stamps store value_id) stamp → IsStampOf store value_id stamp
stamp_from store value_id stamp held = let found = from_map chunk_stamp (chunks_of store value_id) stamp held in record { chunk = found.0; is = found.2; of_value = chunk_from store value_id found.0 found.1 }

-- and each of them has its stamp among these
stamp_in : (store : Store) (value_id : ℕ) (chunk : Chunk) (e : Entry) → Contains (of_id value_id store.index.entries) e → item_in store.rel.pages e.tid ≡ Some chunk → Contains (chunk_stamps store value_id) (chunk_stamp chunk)
stamp_in store value_id chunk e held there = map_in chunk_stamp (chunks_of store value_id) chunk (chosen_in (λ (f : Entry). item_in store.rel.pages f.tid) (of_id value_id store.index.entries) e chunk held there)

-- ---- xids

line_given : (xacts : Xacts) (line : LinePointer Chunk) (chunk : Chunk) (xid : ℕ) → IsLineAssigned chunk_stamp xacts line → item_of line ≡ Some chunk → chunk.ender ≡ Some xid → IsAssigned xacts xid
line_given xacts (Normal size item) chunk xid given is names = given.ender xid (ap (λ (c : Chunk). c.ender) (same_Some _ _ is) ∙ names)
line_given xacts Dead chunk xid given is names = absurd (none-some chunk is)
line_given xacts Unused chunk xid given is names = absurd (none-some chunk is)

pub chunks_given : (xacts : Xacts) (store : Store) (value_id : ℕ) → AreAssigned xacts store.rel.pages → AreGiven xacts (chunk_stamps store value_id)
chunks_given xacts store value_id assigned = record {
  each = λ stamp xid held names. let found = stamp_from store value_id stamp held in
      line_given xacts (slot_of store.rel.pages found.of_value.entry.tid) found.chunk xid (assigned.each found.of_value.entry.tid) found.of_value.there (ap (λ (s : Stamp). s.ender) found.is ∙ names);
}

-- ---- a chunk is ended

line_ended : (xid : ℕ) (line : LinePointer Chunk) (chunk : Chunk) → item_of (ended xid line) ≡ Some chunk → (was : Chunk) × (item_of line ≡ Some was) × (chunk_stamp chunk ≡ ended_by xid (chunk_stamp was))
line_ended xid (Normal size was) chunk is = (was, refl, ap chunk_stamp (sym (same_Some _ _ is)))
line_ended xid Dead chunk is = absurd (none-some chunk is)
line_ended xid Unused chunk is = absurd (none-some chunk is)

pub may_end : (old new : Store) (tid : Tid) (xid value_id : ℕ) → Ends old new tid xid → MayEnd (chunk_stamps old value_id) (chunk_stamps new value_id) xid
may_end old new tid xid value_id ends = record { each = λ stamp held. let found = stamp_from new value_id stamp held in by_slot stamp found.chunk found.is found.of_value.entry (subst (λ es. Contains (of_id value_id es) found.of_value.entry) ends.entries found.of_value.of_value) found.of_value.there }
  where
    by_slot : (stamp : Stamp) (chunk : Chunk) → chunk_stamp chunk ≡ stamp → (e : Entry) → Contains (of_id value_id old.index.entries) e → item_in new.rel.pages e.tid ≡ Some chunk → Contains (chunk_stamps old value_id) stamp ⊎ ((was : Stamp) × Contains (chunk_stamps old value_id) was × (stamp ≡ ended_by xid was))
    by_slot stamp chunk is e held there = elim (chunk_of-ended xid old.rel.pages tid e.tid) [
      | inl same ↦ inl (subst (λ s. Contains (chunk_stamps old value_id) s) is (stamp_in old value_id chunk e held (sym same ∙ ap (λ pages. item_in pages e.tid) (sym ends.pages) ∙ there)))
      | inr h ↦
          let was = line_ended xid (slot_of old.rel.pages tid) chunk (sym h.1 ∙ ap (λ pages. item_in pages e.tid) (sym ends.pages) ∙ there) in
          inr (chunk_stamp was.0, stamp_in old value_id was.0 e held (ap (item_in old.rel.pages) h.0 ∙ was.1), sym is ∙ was.2)
    ]

-- ---- a page is pruned

pub among_pruned : (old new : Store) (xacts : Xacts) (bound page value_id : ℕ) → Prunes old new xacts bound page → AreAmong (chunk_stamps old value_id) (chunk_stamps new value_id)
among_pruned old new xacts bound page value_id prunes = record { each = λ stamp held. let found = stamp_from new value_id stamp held in by_slot stamp found.chunk found.is found.of_value.entry (subst (λ es. Contains (of_id value_id es) found.of_value.entry) prunes.entries found.of_value.of_value) found.of_value.there }
  where
    by_slot : (stamp : Stamp) (chunk : Chunk) → chunk_stamp chunk ≡ stamp → (e : Entry) → Contains (of_id value_id old.index.entries) e → item_in new.rel.pages e.tid ≡ Some chunk → Contains (chunk_stamps old value_id) stamp
    by_slot stamp chunk is e held there = elim (chunk_of-pruned xacts bound old.rel.pages page e.tid) [
      | inl same ↦ subst (λ s. Contains (chunk_stamps old value_id) s) is (stamp_in old value_id chunk e held (sym same ∙ ap (λ pages. item_in pages e.tid) (sym prunes.pages) ∙ there))
      | inr h ↦ absurd (none-some chunk (sym h.3 ∙ ap (λ pages. item_in pages e.tid) (sym prunes.pages) ∙ there))
    ]

-- no chunk of a value that a protected version holds is dead under the horizon
pub spared : (xacts : Xacts) (snaps : Snaps) (bound : ℕ) (store : Store) (value_id : ℕ) (holders : Holders Tid) (place : Tid) (stamp : Stamp) → IsRegistryOf xacts snaps → bound ≤ horizon xacts snaps → IsHeld xacts snaps holders (chunk_stamps store value_id) → Protects xacts snaps holders place stamp → IsSpared store value_id xacts bound
spared xacts snaps bound store value_id holders place stamp registry le held protects = record { each = λ chunk among. laws.chunk xacts snaps bound holders (chunk_stamps store value_id) place stamp (chunk_stamp chunk) registry le held protects (map_in chunk_stamp (chunks_of store value_id) chunk among) }
  where
    laws : ProtectedIsSpared Tid
    laws = protected_is_spared
