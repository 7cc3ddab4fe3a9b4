-- The key map after each change: its entries stay in order, each names a version of its key or a dead slot, and each version has its entry.
use Rattle.std.proofs.Common.{ℕ, ◌≡◌, ◌≢◌, inl, inr, Bool, true, false, not, cond, Some, None, List, [], filter, Contains, refl, sym, ap, ◌∙◌, subst}
use Rattle.std.specs.Ordering.{is_lt}
use Rattle.std.proofs.lemmas.Bool.{cases_Bool, cond_both}
use Rattle.std.proofs.lemmas.List.Kept.{IsStrictlySortedBy-filter}
use Rattle.slot_page.specs.declared.line.Tid.{Tid}
use Rattle.slot_page.specs.declared.line.LinePointer.{LinePointer}
use Rattle.slot_page.specs.declared.line.LinePointer.TheVariants.{Normal, Dead, Unused}
use Rattle.slot_page.specs.Slots.{item_of, with_item, IsDead}
use Rattle.slot_page.specs.Pages.{slot_of, item_in, written, put_tid, with_put_on}
use Rattle.slot_page.proofs.Pages.{put_here, put_was_free, slot_of-put, slot_of-written}
use Rattle.xact_status.specs.Xacts.{Xacts}
use Rattle.row_versions.specs.declared.version.Version.{Version}
use Rattle.row_versions.specs.declared.keys.KeyEntry.{KeyEntry}
use Rattle.row_versions.specs.Versions.{ended, version_stamp, is_dead_version}
use Rattle.heap_prune.specs.Lines.{pruned}
use Rattle.heap_prune.proofs.Events.{was_there}
use Rattle.row_versions.specs.Keys.{entry, entry_cmp, names_one_of, with_entry}
use Rattle.row_versions.specs.Relations.{Pages, IsKeyMap, Names, pages_ended, pages_pruned}
use Rattle.row_versions.proofs.Events.{slot_of-pruned}
use Rattle.slot_page.proofs.Tids.{listed_among}
use Rattle.row_versions.proofs.Entries.{entry_total, entry_exact}
use Rattle.list_facts.proofs.Members.{none_in_nil, filter_holds, held_by_filter}
use Rattle.row_versions.proofs.Sorted.{sorted_with, held_with, new_held, still_held, sorted_nil}

-- no version and no entry
pub keys_none : IsKeyMap [] []
keys_none = record {
  sorted = sorted_nil entry_cmp;
  named = λ e held. absurd (none_in_nil e held);
  complete = λ tid version is. absurd (cc);
}

-- a change at one tid
pub keys_written : (pages : Pages) (entries : List KeyEntry) (tid : Tid) (line : LinePointer Version) → IsKeyMap pages entries → ((e : KeyEntry) → Contains entries e → e.tid ≡ tid → Names e line) → ((version : Version) → item_of line ≡ Some version → Contains entries (entry version.key tid)) → IsKeyMap (written pages tid line) entries
keys_written pages entries tid line keys names full = record {
  sorted = keys.sorted;
  named = λ e held. elim (slot_of-written pages tid e.tid line) [
    | inl same ↦ rw same (keys.named e held)
    | inr h ↦ rw h.1 (names e held h.0)
  ];
  complete = λ t version is. elim (slot_of-written pages tid t line) [
    | inl same ↦ keys.complete t version (sym (ap item_of same) ∙ is)
    | inr h ↦ rw h.0 (full version (sym (ap item_of h.1) ∙ is))
  ];
}

-- a version that is ended
names_ended : (e : KeyEntry) (xid : ℕ) (line : LinePointer Version) → Names e line → Names e (ended xid line)
names_ended e xid (Normal size version) named = named
names_ended e xid Dead named = named
names_ended e xid Unused named = named

key_ended : (xid : ℕ) (line : LinePointer Version) (version : Version) → item_of (ended xid line) ≡ Some version → (before : Version) × (item_of line ≡ Some before) × (before.key ≡ version.key)
key_ended xid (Normal size before) version is = (before, refl, key_of is)
  where
    key_of : Some (record before { ender = Some xid }) ≡ Some version → before.key ≡ version.key
    key_of same = let is' : record before { ender = Some xid } ≡ version = cc in ap (λ (v : Version). v.key) is'
key_ended xid Dead version is = absurd (cc)
key_ended xid Unused version is = absurd (cc)

pub keys_ended : (xid : ℕ) (pages : Pages) (entries : List KeyEntry) (tid : Tid) → IsKeyMap pages entries → IsKeyMap (pages_ended xid pages tid) entries
keys_ended xid pages entries tid keys = keys_written pages entries tid (ended xid (slot_of pages tid)) keys
    (λ e held at. names_ended e xid (slot_of pages tid) (rw (← at) (keys.named e held)))
    (λ version is. let before = key_ended xid (slot_of pages tid) version is in rw (← before.2) (keys.complete tid before.0 before.1))

-- a page that is pruned
names_pruned : (e : KeyEntry) (xacts : Xacts) (horizon : ℕ) (line : LinePointer Version) → Names e line → Names e (pruned version_stamp xacts horizon line)
names_pruned e xacts horizon (Normal size version) named = cond_both (is_dead_version xacts horizon version) Dead (Normal size version) (Names e) (λ dead. tt) (λ live. named)
names_pruned e xacts horizon Dead named = tt
names_pruned e xacts horizon Unused named = named

pub keys_pruned : (xacts : Xacts) (horizon : ℕ) (pages : Pages) (entries : List KeyEntry) (page : ℕ) → IsKeyMap pages entries → IsKeyMap (pages_pruned xacts horizon pages page) entries
keys_pruned xacts horizon pages entries page keys = record {
  sorted = keys.sorted;
  named = λ e held. elim (slot_of-pruned xacts horizon pages page e.tid) [
    | inl h ↦ rw h.1 (keys.named e held)
    | inr h ↦ rw h.1 (names_pruned e xacts horizon (slot_of pages e.tid) (keys.named e held))
  ];
  complete = λ t version is. keys.complete t version (was_there version_stamp xacts horizon pages page t version is);
}

-- entries that are taken away name dead slots
dead_empty : (line : LinePointer Version) (version : Version) → IsDead line → item_of line ≡ Some version → ⊥
dead_empty (Normal size item) version dead is = dead
dead_empty Dead version dead is = cc
dead_empty Unused version dead is = dead

pub keys_fewer : (pages : Pages) (entries : List KeyEntry) (tids : List Tid) → IsKeyMap pages entries → ((tid : Tid) → Contains tids tid → IsDead (slot_of pages tid)) → IsKeyMap pages (filter (λ e. not (names_one_of tids e)) entries)
keys_fewer pages entries tids keys dead = record {
  sorted = IsStrictlySortedBy-filter entry_cmp (λ e. not (names_one_of tids e)) entries keys.sorted;
  named = λ e held. keys.named e (filter_holds (λ f. not (names_one_of tids f)) entries e held).0;
  complete = λ t version is. held_by_filter (λ f. not (names_one_of tids f)) entries (entry version.key t) (keys.complete t version is) (unnamed t version is (names_one_of tids (entry version.key t)) refl);
}
  where
    unnamed : (t : Tid) (version : Version) → item_in pages t ≡ Some version → (b : Bool) → names_one_of tids (entry version.key t) ≡ b → not (names_one_of tids (entry version.key t)) ≡ true
    unnamed t version is true named = absurd (dead_empty (slot_of pages t) version (dead t (listed_among tids t named)) is)
    unnamed t version is false other = ap not other

-- a version that is put, with its entry
pub keys_put : (size : ℕ) (version : Version) (pages : Pages) (entries : List KeyEntry) → IsKeyMap pages entries → IsKeyMap (with_put_on size version pages) (with_entry entries (entry version.key (put_tid size pages)))
keys_put size version pages entries keys = record {
  sorted = sorted_with entry_total entry_exact entries new keys.sorted absent;
  named = λ e held. elim (held_with (λ f. is_lt (entry_cmp f new)) entries new e held) [
    | inl old ↦ elim (slot_of-put size version pages e.tid) [
      | inl same ↦ rw same (keys.named e old)
      | inr h ↦ absurd (rw (h.0, put_was_free size pages) at (keys.named e old))
    ]
    | inr is ↦ subst (λ f. Names f (slot_of (with_put_on size version pages) f.tid)) is (rw (put_here size version pages) refl)
  ];
  complete = λ t item is. elim (slot_of-put size version pages t) [
    | inl same ↦ still_held (λ f. is_lt (entry_cmp f new)) entries new (entry item.key t) (keys.complete t item (sym (ap item_of same) ∙ is))
    | inr h ↦
        let put : version ≡ item = (let some : Some version ≡ Some item = sym (ap item_of h.1) ∙ is in cc) in
        rw (h.0, ← put) (new_held (λ f. is_lt (entry_cmp f new)) entries new)
  ];
}
  where
    new : KeyEntry
    new = entry version.key (put_tid size pages)

    absent : Contains entries new → ⊥
    absent held = rw (put_was_free size pages) at (keys.named new held)

-- a slot whose version was written with another ender
item_ended : (xid : ℕ) (line : LinePointer Version) (version : Version) → Some version ≡ item_of line → with_item line (record version { ender = Some xid }) ≡ ended xid line
item_ended xid (Normal size item) version is = let same : version ≡ item = cc in ap (λ (v : Version). Normal size (record v { ender = Some xid })) same
item_ended xid Dead version is = refl
item_ended xid Unused version is = refl

-- the pages after a version was ended in place
pub ended_in_place : (xid : ℕ) (pages : Pages) (tid : Tid) (version : Version) → Some version ≡ item_in pages tid → written pages tid (with_item (slot_of pages tid) (record version { ender = Some xid })) ≡ pages_ended xid pages tid
ended_in_place xid pages tid version is = ap (written pages tid) (item_ended xid (slot_of pages tid) version is)

-- a dead slot that no entry names is freed
pub keys_reaped : (pages : Pages) (entries : List KeyEntry) (tid : Tid) → IsKeyMap pages entries → ((e : KeyEntry) → Contains entries e → e.tid ≢ tid) → IsKeyMap (written pages tid Unused) entries
keys_reaped pages entries tid keys unnamed = keys_written pages entries tid Unused keys (λ e held at. absurd (unnamed e held at)) (λ version is. absurd (cc))
