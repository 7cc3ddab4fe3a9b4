-- Who put the versions that are copied has committed.
use Rattle.std.proofs.Common.{ℕ, ◌≡◌, inl, inr, Bool, true, false, ◌||◌, ◌&&◌, List, [], ◌∷◌, Option, Some, None, refl, sym, ap, ◌∙◌}
use Rattle.std.specs.List.{list_any}
use Rattle.std.specs.Option.{option_map_or}
use Rattle.std.proofs.lemmas.Bool.{false≢true}
use Rattle.std.proofs.lemmas.Option.{none-some, same_Some}
use Rattle.list_facts.proofs.Members.{cases_in}
use Rattle.slot_page.specs.declared.line.Tid.{Tid}
use Rattle.slot_page.specs.Pages.{item_in}
use Rattle.xact_status.specs.Xacts.{Xacts, is_aborted, is_committed}
use Rattle.xact_status.specs.declared.Stamp.{Stamp}
use Rattle.snapshot_registry.specs.declared.Snapshot.{Snapshot}
use Rattle.snapshot_registry.specs.Snapshots.{Snaps, seen_by_any, sees, snapshots}
use Rattle.snapshot_registry.proofs.Unseen.{not_shown, uninserted_unseen}
use Rattle.row_versions.specs.declared.version.Version.{Version}
use Rattle.table_state.specs.declared.table.Table.{Table}
use Rattle.rewrite_facts.specs.Copies.{Copied, is_chosen}
use Rattle.rewrite_facts.specs.Holds.{AreInserted, IsCopyOf, StandsAt}
use Rattle.rewrite_facts.specs.Rewrites.{Rewriting, inserter_at, restored}
use Rattle.rewrite_facts.specs.declared.stage.RowCopy.{RowCopy}
use Rattle.rewrite_facts.specs.declared.stage.RewriteStage.{RewriteStage}
use Rattle.rewrite_facts.specs.declared.stage.RewriteStage.TheVariants.{Visiting, Filling, Reading, Placing, Laying, Ready}

-- ---- what is chosen

-- what a registered snapshot sees was put by a transaction that has committed
pub seen_committed : (xacts : Xacts) (snaps : Snaps) (inserter : ℕ) (ender : Option ℕ) → seen_by_any xacts snaps inserter ender ≡ true → is_committed xacts inserter ≡ true
seen_committed xacts snaps inserter ender seen = by_test (is_committed xacts inserter) refl
  where
    none_sees : is_committed xacts inserter ≡ false → (all : List Snapshot) → list_any (λ snapshot. sees xacts snapshot inserter ender None) all ≡ false
    none_sees not_yet [] = refl
    none_sees not_yet (snapshot ∷ rest) = ap (λ b. b || list_any (λ s. sees xacts s inserter ender None) rest) (uninserted_unseen xacts snapshot inserter ender (not_shown xacts snapshot inserter not_yet)) ∙ none_sees not_yet rest

    by_test : (b : Bool) → is_committed xacts inserter ≡ b → is_committed xacts inserter ≡ true
    by_test true is = is
    by_test false not_yet = absurd (false≢true (sym (none_sees not_yet (snapshots snaps)) ∙ seen))

-- so was what is chosen
pub chosen_committed : (xacts : Xacts) (snaps : Snaps) (version : Version) → is_chosen xacts snaps version ≡ true → is_committed xacts version.inserter ≡ true
chosen_committed xacts snaps version =
    by_parts (is_committed xacts version.inserter) (option_map_or (is_aborted xacts) version.ender true) (seen_by_any xacts snaps version.inserter version.ender) (seen_committed xacts snaps version.inserter version.ender)
  where
    by_parts : (committed aborted seen : Bool) → (seen ≡ true → committed ≡ true) → ((committed && aborted) || seen) ≡ true → committed ≡ true
    by_parts true aborted seen by is = refl
    by_parts false aborted seen by is = by is

-- ---- the version that is being copied

-- it stands at the rewrite's place
pub record StandsThere (old : Table) (place : Tid) (inserter : ℕ) : Type 0 where
  pub was : Version
  pub there : item_in old.rows.pages place ≡ Some was
  pub by : was.inserter ≡ inserter

pub stands_there : (old : Table) (r : Rewriting) (stage : RewriteStage) (inserter : ℕ) → StandsAt old r stage → inserter_at stage ≡ Some inserter → StandsThere old r.place inserter
stands_there old r stage inserter = by_stage stage
  where
    of_copy : (copy : RowCopy) (was : Version) → IsCopyOf old r.place copy was → Some copy.stamp.inserter ≡ Some inserter → StandsThere old r.place inserter
    of_copy copy was of is = record { was = was; there = of.old_one.there; by = ap (λ (s : Stamp). s.inserter) (sym of.stamp) ∙ same_Some copy.stamp.inserter inserter is }

    by_stage : (s : RewriteStage) → StandsAt old r s → inserter_at s ≡ Some inserter → StandsThere old r.place inserter
    by_stage Visiting stands is = absurd (none-some inserter is)
    by_stage (Filling copy) stands is = of_copy copy stands.0.was stands.0.of is
    by_stage (Reading copy at fetch) stands is = of_copy copy stands.0.was stands.0.of is
    by_stage (Placing copy columns at) stands is = of_copy copy stands.0.was stands.0.of is
    by_stage (Laying copy columns at job) stands is = of_copy (restored copy columns at job.value) stands.0.was stands.0.of is
    by_stage Ready stands is = absurd (none-some inserter is)

-- ---- steps

-- the same copies, and the same version that is being copied
pub inserted_same : (xacts : Xacts) (copies : List Copied) (before after : RewriteStage) → inserter_at after ≡ inserter_at before → AreInserted xacts copies before → AreInserted xacts copies after
inserted_same xacts copies before after same inserted = record { each = inserted.each; under_way = λ inserter is. inserted.under_way inserter (sym same ∙ is) }

-- a visit that comes to one that is chosen, or to none
pub inserted_visited : (xacts : Xacts) (snaps : Snaps) (old : Table) (r : Rewriting) (copies : List Copied) (before : RewriteStage) → ((version : Version) → item_in old.rows.pages r.place ≡ Some version → inserter_at r.stage ≡ Some version.inserter → is_chosen xacts snaps version ≡ true)
    → StandsAt old r r.stage → AreInserted xacts copies before → AreInserted xacts copies r.stage
inserted_visited xacts snaps old r copies before chosen stands inserted = record {
  each = inserted.each;
  under_way = λ inserter is.
      let one = stands_there old r r.stage inserter stands is in
      ap (is_committed xacts) (sym one.by) ∙ chosen_committed xacts snaps one.was (chosen one.was one.there (is ∙ ap (λ (x : ℕ). Some x) (sym one.by)));
}

-- the version is put
pub inserted_made : (xacts : Xacts) (made : Copied) (copies : List Copied) (before after : RewriteStage) → inserter_at before ≡ Some made.was.inserter → inserter_at after ≡ None → AreInserted xacts copies before → AreInserted xacts (made ∷ copies) after
inserted_made xacts made copies before after is none inserted = record {
  each = λ copy held. elim (cases_in made copies copy held) [
    | inl same ↦ ap (λ (c : Copied). is_committed xacts c.was.inserter) (sym same) ∙ inserted.under_way made.was.inserter is
    | inr earlier ↦ inserted.each copy earlier
  ];
  under_way = λ inserter other. absurd (none-some inserter (sym none ∙ other));
}
