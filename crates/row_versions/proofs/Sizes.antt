-- Each relation is sound, after each change: its key map is, and each version's tuple has the size of one.
use Rattle.std.proofs.Common.{ℕ, ℤ, ◌≡◌, ◌≤◌, ◌≢◌, inl, inr, not, Some, None, Result, Ok, Err, OnOk, OnErr, List, [], length, filter, Contains, refl, sym, ap, ◌∙◌, subst}
use Rattle.std.proofs.lemmas.Option.{same_Some}
use Rattle.std.specs.declared.alloc.AllocError.{AllocError}
use Rattle.slot_page.specs.declared.line.Tid.{Tid}
use Rattle.slot_page.specs.declared.line.LinePointer.{LinePointer}
use Rattle.slot_page.specs.declared.line.LinePointer.TheVariants.{Normal, Dead, Unused}
use Rattle.slot_page.specs.Slots.{item_of, IsDead}
use Rattle.slot_page.specs.Pages.{slot_of, put_tid, with_put_on}
use Rattle.tuple_layout.specs.Sizes.{largest_tuple}
use Rattle.tuple_layout.specs.Schemas.{TableSchema}
use Rattle.xact_status.specs.Xacts.{Xacts}
use Rattle.heap_prune.proofs.Events.{was_there}
use Rattle.row_versions.specs.declared.version.Version.{Version}
use Rattle.row_versions.specs.declared.keys.KeyEntry.{KeyEntry}
use Rattle.row_versions.specs.Versions.{IsSized, ended, version_stamp}
use Rattle.row_versions.specs.Keys.{entry, with_entry}
use Rattle.row_versions.specs.Relations.{Pages, Relation, IsRelation, no_versions, version_in, with_version, with_ended, pages_pruned, with_pruned, without_entries, with_reaped}
use Rattle.row_versions.proofs.Events.{item_of-put, item_of-ended, item_of-reaped}
use Rattle.row_versions.proofs.KeyMaps.{keys_none, keys_put, keys_ended, keys_pruned, keys_fewer, keys_reaped}

pub relation_none : (schema : TableSchema) → IsRelation (no_versions schema)
relation_none schema = record { keys = keys_none; sized = λ tid version is. absurd (cc) }

pub relation_put : (rel : Relation) (version : Version) → IsRelation rel → IsSized version → IsRelation (with_version rel version)
relation_put rel version sound sized = record {
  keys = keys_put (length version.tuple) version rel.pages rel.entries sound.keys;
  sized = λ tid item is. elim (item_of-put (length version.tuple) version rel.pages tid) [
    | inl same ↦ sound.sized tid item (sym same ∙ is)
    | inr new ↦ subst IsSized (same_Some version item (sym new.1 ∙ is)) sized
  ];
}

-- the same in the names of the call that puts
pub relation_after_put : (rel : Relation) (version : Version) (key : ℤ) (size : ℕ) (tuple : List ℕ) (tid : Tid) (pages : Pages) (kept entries : List KeyEntry) (e : KeyEntry) → IsRelation rel → version.key ≡ key → version.tuple ≡ tuple → 24 ≤ length tuple → length tuple ≤ largest_tuple → size ≡ length tuple
    → tid ≡ put_tid size rel.pages → pages ≡ with_put_on size version rel.pages → kept ≡ rel.entries → e ≡ entry key tid → entries ≡ with_entry kept e → IsRelation (record rel { pages = pages; entries = entries })
relation_after_put rel version key size tuple tid pages kept entries e sound of_key of_tuple least most of_size at put same new added =
    rw (put, added, same, new, at, of_size, ← of_key, ← of_tuple) (relation_put rel version sound (rw of_tuple (record { least = least; most = most })))

-- a version that is ended keeps its tuple
tuple_kept : (xid : ℕ) (line : LinePointer Version) (version : Version) → item_of (ended xid line) ≡ Some version → ((before : Version) → item_of line ≡ Some before → IsSized before) → IsSized version
tuple_kept xid (Normal size before) version is sized = subst IsSized (same_Some (record before { ender = Some xid }) version is) (sized before refl)
tuple_kept xid Dead version is sized = absurd (cc)
tuple_kept xid Unused version is sized = absurd (cc)

pub relation_ended : (rel : Relation) (tid : Tid) (xid : ℕ) → IsRelation rel → IsRelation (with_ended xid rel tid)
relation_ended rel tid xid sound = record {
  keys = keys_ended xid rel.pages rel.entries tid sound.keys;
  sized = λ t version is. elim (item_of-ended xid rel.pages tid t) [
    | inl same ↦ sound.sized t version (sym same ∙ is)
    | inr here ↦ tuple_kept xid (slot_of rel.pages tid) version (sym here.1 ∙ is) (sound.sized tid)
  ];
}

pub relation_pruned : (xacts : Xacts) (horizon : ℕ) (rel : Relation) (page : ℕ) → IsRelation rel → IsRelation (with_pruned xacts horizon rel page)
relation_pruned xacts horizon rel page sound = record {
  keys = keys_pruned xacts horizon rel.pages rel.entries page sound.keys;
  sized = λ tid version is. sound.sized tid version (was_there version_stamp xacts horizon rel.pages page tid version is);
}

-- the same in the names of the call that prunes
pub relation_after_prune : (xacts : Xacts) (horizon : ℕ) (rel : Relation) (page : ℕ) (answer : Result ℕ AllocError) (pages : Pages) → IsRelation rel → OnOk answer (pages ≡ pages_pruned xacts horizon rel.pages page) → OnErr answer (pages ≡ rel.pages) → IsRelation (record rel { pages = pages })
relation_after_prune xacts horizon rel page (Ok count) pages sound pruned same = rw pruned (relation_pruned xacts horizon rel page sound)
relation_after_prune xacts horizon rel page (Err fault) pages sound pruned same = rw same sound

pub relation_unindexed : (rel : Relation) (tids : List Tid) → IsRelation rel → ((tid : Tid) → Contains tids tid → IsDead (slot_of rel.pages tid)) → IsRelation (without_entries rel tids)
relation_unindexed rel tids sound dead = record { keys = keys_fewer rel.pages rel.entries tids sound.keys dead; sized = sound.sized }

pub relation_reaped : (rel : Relation) (tid : Tid) → IsRelation rel → IsDead (slot_of rel.pages tid) → ((e : KeyEntry) → Contains rel.entries e → e.tid ≢ tid) → IsRelation (with_reaped rel tid)
relation_reaped rel tid sound dead unnamed = record {
  keys = keys_reaped rel.pages rel.entries tid sound.keys unnamed;
  sized = λ t version is. sound.sized t version (sym (item_of-reaped rel.pages tid t dead) ∙ is);
}
