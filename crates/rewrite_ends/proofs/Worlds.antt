-- What each world has at each key, in the old table and in the new one.
use Rattle.std.proofs.Common.{ℕ, ℤ, ◌≡◌, Bool, true, false, ◌||◌, Option, Some, None, List, refl, sym, ap, ◌∙◌}
use Rattle.std.specs.Option.{option_map, option_map_or}
use Rattle.std.specs.Ordering.{int_cmp, is_eq}
use Rattle.std.proofs.lemmas.Bool.{false≢true}
use Rattle.std.proofs.lemmas.Option.{none-some}
use Rattle.slot_page.specs.declared.line.Tid.{Tid}
use Rattle.xact_status.specs.Xacts.{Xacts}
use Rattle.xact_status.specs.Versions.{is_there}
use Rattle.snapshot_registry.specs.declared.Held.{Held}
use Rattle.snapshot_registry.specs.Snapshots.{Snaps, committed_in, held_at, is_protected, sees_at}
use Rattle.row_versions.specs.declared.version.Version.{Version}
use Rattle.value_holders.proofs.Readers.{readers_are_safe}
use Rattle.value_holders.proofs.Tests.{current_is_protected}
use Rattle.table_rows.specs.Steps.{stamp_of}
use Rattle.table_rows.specs.Worlds.{World, Latest, Own, Shown, AreOne, IsOne, IsWorld, counts_in, tuple_at, tuple_in}
use Rattle.table_rows.proofs.Worlds.{at_version, of_present, version_shown, world_gives_none, world_has, world_is, world_none}
use Rattle.table_state.specs.declared.table.Table.{Table}
use Rattle.table_state.specs.Rows.{row_of}
use Rattle.table_state.specs.Tables.{row_in}
use Rattle.rewrite_facts.specs.Copies.{Copied, version_of}
use Rattle.rewrite_facts.specs.Holds.{RewriteHolds}
use Rattle.rewrite_facts.specs.Rewrites.{Rewriting, new_table}
use Rattle.rewrite_ends.specs.Quiet.{AreQuiet}
use Rattle.rewrite_ends.specs.Ends.{IsReady}
use Rattle.rewrite_ends.specs.Laws.{WorldsSame}
use Rattle.rewrite_ends.proofs.Laid.{LiesAt, lies_once}
use Rattle.rewrite_ends.proofs.Chosen.{protected_chosen}
use Rattle.rewrite_ends.proofs.Events.{quiet_at}
use Rattle.rewrite_ends.proofs.Copied.{copy_row, copy_there, new_version, same_schema}

-- what is there in a world must be kept
pub world_protected : (xacts : Xacts) (snaps : Snaps) (world : World) (version : Version) → IsWorld xacts world → is_there (counts_in xacts snaps world) version.inserter version.ender ≡ true → is_protected xacts snaps version.inserter version.ender ≡ true
world_protected xacts snaps Latest version is there = current_is_protected xacts snaps None (stamp_of version) tt there
world_protected xacts snaps (Own x) version runs there = current_is_protected xacts snaps (Some x) (stamp_of version) runs there
world_protected xacts snaps (Shown id) version is there = readers_are_safe.seen_is_protected xacts snaps id version.inserter version.ender None tt (by_held (held_at snaps id) refl)
  where
    -- whether the world of what is registered under the id has the version
    has : Option Held → Bool
    has o = is_there (λ z. option_map_or (λ (held : Held). committed_in xacts held.snapshot z) o false) version.inserter version.ender

    sees : Option Held → Bool
    sees o = option_map_or (λ (held : Held). is_there (λ z. false || committed_in xacts held.snapshot z) version.inserter version.ender) o false

    by_held : (o : Option Held) → held_at snaps id ≡ o → sees_at xacts snaps id version.inserter version.ender None ≡ true
    by_held None none = absurd (false≢true (ap has (sym none) ∙ there))
    by_held (Some held) some = ap sees some ∙ ap has (sym some) ∙ there

-- what a world has in the new table it has in the old one, where the copied version stands
pub record IsShownOld (counts : ℕ → Bool) (old : Table) (r : Rewriting) (copies : List Copied) (key : ℤ) (tid : Tid) : Type 0 where
  pub copy : Copied
  pub lies : LiesAt old.rows.schema copies tid copy
  pub at : tuple_at counts old.rows.pages key copy.from ≡ Some copy.was.tuple

shown_old : (xacts : Xacts) (snaps : Snaps) (old : Table) (r : Rewriting) (holds : RewriteHolds xacts snaps old r) (counts : ℕ → Bool) (key : ℤ) (tid : Tid) (a : List ℕ) → tuple_at counts r.rows.pages key tid ≡ Some a → IsShownOld counts old r holds.copies key tid
shown_old xacts snaps old r holds counts key tid a at =
    let shown = version_shown counts r.rows.pages key tid a at in
    let new = new_version xacts snaps old r holds tid shown.0 shown.1.at.there in
    record {
      copy = new.copy;
      lies = new.lies;
      at = at_version counts old.rows.pages key new.copy.from new.copy.was new.made.old_one.there
          ∙ of_present counts key new.copy.was (ap (λ (v : Version). is_eq (int_cmp v.key key)) new.is ∙ shown.1.at.of_key) (ap (λ (v : Version). is_there counts v.inserter v.ender) new.is ∙ shown.1.present);
    }

-- so it has no two versions of a key there
pub one_new : (xacts : Xacts) (snaps : Snaps) (old : Table) (r : Rewriting) → RewriteHolds xacts snaps old r → (counts : ℕ → Bool) (key : ℤ) → IsOne counts old.rows.pages key → IsOne counts r.rows.pages key
one_new xacts snaps old r holds counts key one = record {
  same = λ t u a b at also.
      let first = shown_old xacts snaps old r holds counts key t a at in
      let second = shown_old xacts snaps old r holds counts key u b also in
      lies_once old.rows.schema r.place holds.copies t u first.copy second.copy holds.order first.lies second.lies (one.same first.copy.from second.copy.from first.copy.was.tuple second.copy.was.tuple first.at second.at);
}

pub one_version : (xacts : Xacts) (snaps : Snaps) (old : Table) (r : Rewriting) → AreOne xacts snaps old.rows.pages → RewriteHolds xacts snaps old r → AreOne xacts snaps r.rows.pages
one_version xacts snaps old r one holds = record { each = λ world key is. one_new xacts snaps old r holds (counts_in xacts snaps world) key (one.each world key is) }

-- ---- the rows of a world

-- the old row of a world is that of a version which is copied
row_copied : (xacts : Xacts) (snaps : Snaps) (old : Table) (r : Rewriting) (world : World) (key : ℤ) → IsWorld xacts world → AreQuiet xacts old.rows.pages → IsOne (counts_in xacts snaps world) old.rows.pages key → IsReady xacts snaps old r
    → (t : Tid) (a : List ℕ) → tuple_at (counts_in xacts snaps world) old.rows.pages key t ≡ Some a → option_map (row_of old.rows.schema.storages r.toast) (tuple_in (counts_in xacts snaps world) r.rows.pages key) ≡ Some (row_of old.rows.schema.storages old.toast a)
row_copied xacts snaps old r world key is quiet one ready t a at =
    let counts = counts_in xacts snaps world in
    let shown = version_shown counts old.rows.pages key t a at in
    let was = shown.0 in
    let found = copy_there xacts snaps old r ready t was shown.1.at.there (protected_chosen xacts snaps was (quiet_at xacts old.rows.pages t was quiet shown.1.at.there) (world_protected xacts snaps world was is shown.1.present)) in
    let version = version_of old.rows.schema.storages found.copy in
    let new_at = at_version counts r.rows.pages key found.tid version found.there ∙ of_present counts key version (ap (λ (v : Version). is_eq (int_cmp v.key key)) found.was_is ∙ shown.1.at.of_key) (ap (λ (v : Version). is_there counts v.inserter v.ender) found.was_is ∙ shown.1.present) in
    ap (option_map (row_of old.rows.schema.storages r.toast)) (world_has counts r.rows.pages key found.tid version.tuple (one_new xacts snaps old r ready.holds counts key one) new_at)
    ∙ ap Some (copy_row old r found.copy ready.columns found.made ∙ ap (λ (v : Version). row_of old.rows.schema.storages old.toast v.tuple) found.was_is ∙ ap (row_of old.rows.schema.storages old.toast) shown.1.tuple)

-- where the old table has none the new one has none
none_copied : (xacts : Xacts) (snaps : Snaps) (old : Table) (r : Rewriting) → RewriteHolds xacts snaps old r → (counts : ℕ → Bool) (key : ℤ) → tuple_in counts old.rows.pages key ≡ None → tuple_in counts r.rows.pages key ≡ None
none_copied xacts snaps old r holds counts key none = world_none counts r.rows.pages key (λ t. by_tuple t (tuple_at counts r.rows.pages key t) refl)
  where
    by_tuple : (t : Tid) (o : Option (List ℕ)) → tuple_at counts r.rows.pages key t ≡ o → o ≡ None
    by_tuple t None at = refl
    by_tuple t (Some a) at =
        let old_one = shown_old xacts snaps old r holds counts key t a at in
        absurd (none-some old_one.copy.was.tuple (sym (world_gives_none counts old.rows.pages key none old_one.copy.from) ∙ old_one.at))

row : (xacts : Xacts) (snaps : Snaps) (old : Table) (r : Rewriting) (world : World) (key : ℤ) → IsWorld xacts world → AreQuiet xacts old.rows.pages → AreOne xacts snaps old.rows.pages → IsReady xacts snaps old r
    → row_in (new_table r) (counts_in xacts snaps world) key ≡ row_in old (counts_in xacts snaps world) key
row xacts snaps old r world key is quiet one ready = ap (λ schema. option_map (row_of schema.storages r.toast) (tuple_in (counts_in xacts snaps world) r.rows.pages key)) (same_schema xacts snaps old r ready.holds) ∙ by_old (tuple_in (counts_in xacts snaps world) old.rows.pages key) refl
  where
    by_old : (o : Option (List ℕ)) → tuple_in (counts_in xacts snaps world) old.rows.pages key ≡ o → option_map (row_of old.rows.schema.storages r.toast) (tuple_in (counts_in xacts snaps world) r.rows.pages key) ≡ row_in old (counts_in xacts snaps world) key
    by_old None none = ap (option_map (row_of old.rows.schema.storages r.toast)) (none_copied xacts snaps old r ready.holds (counts_in xacts snaps world) key none) ∙ sym (ap (option_map (row_of old.rows.schema.storages old.toast)) none)
    by_old (Some a) some =
        let found = world_is (counts_in xacts snaps world) old.rows.pages key a some in
        row_copied xacts snaps old r world key is quiet (one.each world key is) ready found.0 a found.1 ∙ sym (ap (option_map (row_of old.rows.schema.storages old.toast)) some)

pub worlds_same : WorldsSame
worlds_same = record { row = row; one_version = one_version }
