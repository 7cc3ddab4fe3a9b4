-- A relation of versions of rows.
use Rattle.std.specs.Prelude.{ℕ, ℤ, ◌≡◌, Bool, false, not, ◌&&◌, List, [], length, map, filter, Option, Some, is_some, Contains, ⊤}
use Rattle.std.specs.Option.{option_map_or}
use Rattle.std.specs.Ordering.{int_cmp, is_eq}
use Rattle.std.specs.List.Sorted.{IsStrictlySortedBy}
use Rattle.slot_page.specs.declared.line.Tid.{Tid}
use Rattle.slot_page.specs.declared.line.LinePointer.{LinePointer}
use Rattle.slot_page.specs.declared.line.LinePointer.TheVariants.{Normal, Dead, Unused}
use Rattle.slot_page.specs.Pages.{slot_of, item_in, written, put_tid, with_put_on}
use Rattle.tuple_layout.specs.Schemas.{TableSchema}
use Rattle.xact_status.specs.Xacts.{Xacts}
use Rattle.xact_status.specs.Versions.{is_current}
use Rattle.heap_prune.specs.Prunes as prunes
use Rattle.snapshot_registry.specs.Snapshots.{Snaps, sees_at}
use Rattle.row_versions.specs.declared.version.Version.{Version}
use Rattle.row_versions.specs.declared.keys.KeyEntry.{KeyEntry}
use Rattle.row_versions.specs.Versions.{IsSized, ended, version_stamp}
use Rattle.row_versions.specs.Keys.{entry, entry_cmp, has_key, names_one_of, with_entry}

-- pages of slots, each with what stands in it
abbrev pub Pages : Type 0
Pages = List (List (LinePointer Version))

-- a relation of versions: its schema, its pages, and the entries of its key map
pub record Relation : Type 0 where
  pub schema : TableSchema
  pub pages : Pages
  pub entries : List KeyEntry

-- a relation without a version
abbrev pub no_versions : TableSchema → Relation
no_versions schema = record { schema = schema; pages = []; entries = [] }

-- the version at a tid, if there is one: the relation as a map
abbrev pub version_in : Relation → Tid → Option Version
version_in rel tid = item_in rel.pages tid

-- the tids that entries name and that have a version
abbrev pub with_versions : Pages → List KeyEntry → List Tid
with_versions pages entries = filter (λ tid. is_some (item_in pages tid)) (map (λ e. e.tid) entries)

-- the tids of the versions of a key, in order
abbrev pub versions_of : Relation → ℤ → List Tid
versions_of rel key = with_versions rel.pages (filter (has_key key) rel.entries)

-- whether a reader with the snapshot that is registered under an id, and with an xid of its own, sees the version at a tid
abbrev pub is_seen_at : Xacts → Snaps → ℕ → Option ℕ → Pages → Tid → Bool
is_seen_at xacts snaps id own pages tid = option_map_or (λ version. sees_at xacts snaps id version.inserter version.ender own) (item_in pages tid) false

-- whether it sees the version there and that is of the row at a key
abbrev pub is_seen : Xacts → Snaps → ℕ → Option ℕ → Relation → ℤ → Tid → Bool
is_seen xacts snaps id own rel key tid = option_map_or (λ version. is_eq (int_cmp version.key key)) (version_in rel tid) false && is_seen_at xacts snaps id own rel.pages tid

-- whether the version at a tid is there at this moment for a transaction with an xid of its own, or for one without
abbrev pub is_current_at : Xacts → Option ℕ → Pages → Tid → Bool
is_current_at xacts own pages tid = option_map_or (λ version. is_current xacts own (version_stamp version)) (item_in pages tid) false

-- whether it is, and is of the row at a key
abbrev pub is_current_row : Xacts → Option ℕ → Relation → ℤ → Tid → Bool
is_current_row xacts own rel key tid = option_map_or (λ version. is_eq (int_cmp version.key key)) (version_in rel tid) false && is_current_at xacts own rel.pages tid

-- the relation with one version more, at the next tid for its size
abbrev pub with_version : Relation → Version → Relation
with_version rel version = record rel { pages = with_put_on (length version.tuple) version rel.pages; entries = with_entry rel.entries (entry version.key (put_tid (length version.tuple) rel.pages)) }

-- the pages with the version at a tid ended by a transaction
abbrev pub pages_ended : ℕ → Pages → Tid → Pages
pages_ended xid pages tid = written pages tid (ended xid (slot_of pages tid))

abbrev pub with_ended : ℕ → Relation → Tid → Relation
with_ended xid rel tid = record rel { pages = pages_ended xid rel.pages tid }

-- the pages with one of them pruned ("Routine Vacuuming, Recovering Disk Space")
abbrev pub pages_pruned : Xacts → ℕ → Pages → ℕ → Pages
pages_pruned xacts horizon pages page = prunes.with_pruned version_stamp xacts horizon pages page

abbrev pub with_pruned : Xacts → ℕ → Relation → ℕ → Relation
with_pruned xacts horizon rel page = record rel { pages = pages_pruned xacts horizon rel.pages page }

-- the relation without the entries that name one of these tids
abbrev pub without_entries : Relation → List Tid → Relation
without_entries rel tids = record rel { entries = filter (λ e. not (names_one_of tids e)) rel.entries }

-- the relation with a tid free for another version
abbrev pub with_reaped : Relation → Tid → Relation
with_reaped rel tid = record rel { pages = written rel.pages tid Unused }

-- the transactions that the versions of a relation name were given their xids
abbrev pub AreAssigned : Xacts → Pages → Type 0
AreAssigned xacts pages = prunes.AreAssigned version_stamp xacts pages

-- what an entry may name: a version of its key, or a dead slot
abbrev pub Names : KeyEntry → LinePointer Version → Type 0
Names e (Normal size version) = version.key ≡ e.key
Names e Dead = ⊤
Names e Unused = ⊥

-- the entries stand in order, each names a version of its key or a dead slot, and each version has its entry
pub record IsKeyMap (pages : Pages) (entries : List KeyEntry) : Type 0 where
  pub sorted : IsStrictlySortedBy entry_cmp entries
  pub named : (e : KeyEntry) → Contains entries e → Names e (slot_of pages e.tid)
  pub complete : (tid : Tid) (version : Version) → item_in pages tid ≡ Some version → Contains entries (entry version.key tid)

-- what holds of each relation: its key map is sound, and each version's tuple has the size of one
pub record IsRelation (rel : Relation) : Type 0 where
  pub keys : IsKeyMap rel.pages rel.entries
  pub sized : (tid : Tid) (version : Version) → version_in rel tid ≡ Some version → IsSized version
