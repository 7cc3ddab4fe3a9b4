-- What a reader with a snapshot and an xid of its own sees, and what a look-up finds.
use Rattle.std.proofs.Common.{ℕ, ℤ, ◌≡◌, ◌⊎◌, inl, inr, Bool, true, false, ◌&&◌, cond, Option, Some, None, refl, sym, ap, ◌∙◌}
use Rattle.std.specs.Option.{option_map_or}
use Rattle.std.specs.Ordering.{int_cmp, is_eq}
use Rattle.slot_page.specs.declared.line.Tid.{Tid}
use Rattle.slot_page.specs.Pages.{item_in}
use Rattle.xact_status.specs.Xacts.{Xacts}
use Rattle.snapshot_registry.specs.declared.Snapshot.{Snapshot}
use Rattle.snapshot_registry.specs.declared.Held.{Held}
use Rattle.snapshot_registry.specs.Snapshots.{Snaps, committed_in, takes_effect, held_at}
use Rattle.row_versions.specs.declared.version.Version.{Version}
use Rattle.row_versions.specs.Relations.{Pages, Relation, is_seen}
use Rattle.xact_status.specs.Versions.{is_there, counts_for}
use Rattle.table_rows.specs.Worlds.{tuple_at, tuple_in, IsOne, IsUntouched, Agree}
use Rattle.table_rows.specs.Views.{IsViewNow, is_found}
use Rattle.table_rows.proofs.Worlds.{one_same, world_none, world_has, at_version, at_nothing, of_present, at_agreed}
use Rattle.table_rows.proofs.Tests.{other_counts}
use Rattle.table_rows.proofs.Unique.{agree_untouched}
use Rattle.table_rows.proofs.Moments.{world_agreed}

-- ---- a look-up

-- what it finds is the world's at the tid
pub found_at : (counts : ℕ → Bool) (pages : Pages) (key : ℤ) (tid : Tid) → is_found counts pages key tid ≡ true → (version : Version) × (item_in pages tid ≡ Some version) × (tuple_at counts pages key tid ≡ Some version.tuple)
found_at counts pages key tid found = by_item (item_in pages tid) refl found
  where
    both : (a b : Bool) → (a && b) ≡ true → (a ≡ true) × (b ≡ true)
    both true b e = (refl, e)
    both false b e = absurd (cc)

    by_item : (o : Option Version) → item_in pages tid ≡ o → (option_map_or (λ version. is_eq (int_cmp version.key key)) o false && option_map_or (λ version. is_there counts version.inserter version.ender) o false) ≡ true → (version : Version) × (item_in pages tid ≡ Some version) × (tuple_at counts pages key tid ≡ Some version.tuple)
    by_item None is e = absurd (cc)
    by_item (Some version) is e =
        let parts = both (is_eq (int_cmp version.key key)) (is_there counts version.inserter version.ender) e in
        (version, is, at_version counts pages key tid version is ∙ of_present counts key version parts.0 parts.1)

-- and where it finds nothing the world has nothing at the tid
pub unfound_at : (counts : ℕ → Bool) (pages : Pages) (key : ℤ) (tid : Tid) → is_found counts pages key tid ≡ false → tuple_at counts pages key tid ≡ None
unfound_at counts pages key tid unfound = by_item (item_in pages tid) refl unfound
  where
    shut : (a b : Bool) (version : Version) → (a && b) ≡ false → cond (a && b) (Some version.tuple) None ≡ None
    shut a b version e = ap (λ c. cond c (Some version.tuple) None) e

    by_item : (o : Option Version) → item_in pages tid ≡ o → (option_map_or (λ version. is_eq (int_cmp version.key key)) o false && option_map_or (λ version. is_there counts version.inserter version.ender) o false) ≡ false → tuple_at counts pages key tid ≡ None
    by_item None is e = at_nothing counts pages key tid is
    by_item (Some version) is e = at_version counts pages key tid version is ∙ shut (is_eq (int_cmp version.key key)) (is_there counts version.inserter version.ender) version e

-- so with at most one version of the key it finds the world's
pub found_in : (counts : ℕ → Bool) (pages : Pages) (key : ℤ) (tid : Tid) → IsOne counts pages key → is_found counts pages key tid ≡ true → (version : Version) × (item_in pages tid ≡ Some version) × (tuple_in counts pages key ≡ Some version.tuple)
found_in counts pages key tid one found = let at = found_at counts pages key tid found in (at.0, at.1, world_has counts pages key tid at.0.tuple one at.2)

pub unfound_in : (counts : ℕ → Bool) (pages : Pages) (key : ℤ) → ((tid : Tid) → is_found counts pages key tid ≡ false) → tuple_in counts pages key ≡ None
unfound_in counts pages key unfound = world_none counts pages key (λ tid. unfound_at counts pages key tid (unfound tid))

-- the look-up by a registered snapshot is one by the test of its reader
pub seen_is_found : (xacts : Xacts) (snaps : Snaps) (id : ℕ) (held : Held) (own : Option ℕ) (rel : Relation) (key : ℤ) (tid : Tid) → held_at snaps id ≡ Some held → is_seen xacts snaps id own rel key tid ≡ is_found (takes_effect xacts held.snapshot own) rel.pages key tid
seen_is_found xacts snaps id held own rel key tid is = by_item (item_in rel.pages tid)
  where
    by_item : (o : Option Version) → (option_map_or (λ version. is_eq (int_cmp version.key key)) o false && option_map_or (λ version. option_map_or (λ h. is_there (takes_effect xacts h.snapshot own) version.inserter version.ender) (held_at snaps id) false) o false)
        ≡ (option_map_or (λ version. is_eq (int_cmp version.key key)) o false && option_map_or (λ version. is_there (takes_effect xacts held.snapshot own) version.inserter version.ender) o false)
    by_item None = refl
    by_item (Some version) = ap (λ h. is_eq (int_cmp version.key key) && option_map_or (λ (g : Held). is_there (takes_effect xacts g.snapshot own) version.inserter version.ender) h false) is

-- ---- a reader with a snapshot and an xid of its own

-- at a key that it has not touched it sees what its snapshot shows
pub agree_unwritten : (xacts : Xacts) (snapshot : Snapshot) (x : ℕ) (pages : Pages) (key : ℤ) → IsUntouched x pages key → Agree (committed_in xacts snapshot) (takes_effect xacts snapshot (Some x)) pages key
agree_unwritten xacts snapshot x pages key untouched = agree_untouched (committed_in xacts snapshot) (takes_effect xacts snapshot (Some x)) x pages key untouched (λ z apart. sym (other_counts x z (committed_in xacts snapshot z) apart))

pub view_unwritten : (xacts : Xacts) (snapshot : Snapshot) (x : ℕ) (pages : Pages) (key : ℤ) → IsUntouched x pages key → tuple_in (takes_effect xacts snapshot (Some x)) pages key ≡ tuple_in (committed_in xacts snapshot) pages key
view_unwritten xacts snapshot x pages key untouched = sym (world_agreed _ _ pages key (agree_unwritten xacts snapshot x pages key untouched))

-- at one where its own change is the last it sees what is there for it now
pub view_written : (xacts : Xacts) (snapshot : Snapshot) (x : ℕ) (pages : Pages) (key : ℤ) → IsViewNow xacts snapshot x pages key → tuple_in (takes_effect xacts snapshot (Some x)) pages key ≡ tuple_in (counts_for xacts (Some x)) pages key
view_written xacts snapshot x pages key now = world_agreed _ _ pages key now

-- so at most one version
pub one_viewed : (xacts : Xacts) (snapshot : Snapshot) (x : ℕ) (pages : Pages) (key : ℤ) → IsOne (committed_in xacts snapshot) pages key → IsOne (counts_for xacts (Some x)) pages key → IsUntouched x pages key ⊎ IsViewNow xacts snapshot x pages key → IsOne (takes_effect xacts snapshot (Some x)) pages key
one_viewed xacts snapshot x pages key shown own (inl untouched) = one_same _ _ pages pages key (at_agreed _ _ pages key (agree_unwritten xacts snapshot x pages key untouched)) shown
one_viewed xacts snapshot x pages key shown own (inr now) = one_same _ _ pages pages key (λ t. sym (at_agreed _ _ pages key now t)) own
