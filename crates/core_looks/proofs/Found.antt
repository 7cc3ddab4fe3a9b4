-- What a look-up by a table's key map finds is the row that the world of its test has at the key.
use Rattle.std.proofs.Common.{ap, inl, inr, refl, subst, sym, ◌∙◌}
use Rattle.std.proofs.lemmas.Bool.{cases_Bool}
use Rattle.std.specs.List.{find}
use Rattle.std.specs.Option.{option_map, option_map_or}
use Rattle.std.specs.Ordering.{int_cmp, is_eq}
use Rattle.std.specs.Prelude.{Bool, None, Option, Some, false, map, option_and_then, true, ℕ, ℤ, ◌&&◌, ◌≡◌}
use Rattle.list_facts.proofs.Members.{found_in, none_passes}
use Rattle.tuple_layout.specs.Places.{Row}
use Rattle.slot_page.specs.Pages.{item_in}
use Rattle.slot_page.specs.declared.line.Tid.{Tid}
use Rattle.xact_status.specs.Versions.{is_there}
use Rattle.row_versions.proofs.Histories.{among_versions}
use Rattle.row_versions.specs.Relations.{IsRelation, versions_of}
use Rattle.row_versions.specs.declared.version.Version.{Version}
use Rattle.toast_store.specs.Stores.{Store}
use Rattle.table_rows.proofs.Views.{unfound_in}
use Rattle.table_rows.proofs.Worlds.{key_is}
use Rattle.table_rows.specs.Views.{is_found}
use Rattle.table_rows.specs.Worlds.{IsOne, tuple_in}
use Rattle.table_state.proofs.Tells.{tables_tell}
use Rattle.table_state.specs.Found.{row_read}
use Rattle.table_state.specs.LookUps.{FindsRow}
use Rattle.table_state.specs.Rows.{cell_value}
use Rattle.table_state.specs.Tables.{row_in, stored_of}
use Rattle.table_state.specs.declared.table.FoundRow.{FoundRow}
use Rattle.table_state.specs.declared.table.Table.{Table}
use Rattle.write_steps.specs.declared.stage.OldRow.{OldRow}
use Rattle.core_state.specs.Views.{found_row, row_there}

both : (a b : Bool) → (a && b) ≡ true → (a ≡ true) × (b ≡ true)
both true b e = (refl, e)
both false b e = absurd (cc)

-- a found row is the one that the version at its tid stores
pub record IsAt (counts : ℕ → Bool) (table : Table) (key : ℤ) (old : OldRow) : Type 0 where
  pub version : Version
  pub there : item_in table.rows.pages old.tid ≡ Some version
  pub stored : old.stored ≡ stored_of table.rows.schema.storages version
  pub of_key : is_eq (int_cmp version.key key) ≡ true
  pub counted : is_there counts version.inserter version.ender ≡ true
  pub found : is_found counts table.rows.pages key old.tid ≡ true

-- what stands at a tid that a look-up finds
pub found_version : (counts : ℕ → Bool) (table : Table) (key : ℤ) (tid : Tid) → is_found counts table.rows.pages key tid ≡ true
    → (version : Version) × (item_in table.rows.pages tid ≡ Some version) × (is_eq (int_cmp version.key key) ≡ true) × (is_there counts version.inserter version.ender ≡ true)
found_version counts table key tid found = by (item_in table.rows.pages tid) refl found
  where
    by : (o : Option Version) → item_in table.rows.pages tid ≡ o → (option_map_or (λ version. is_eq (int_cmp version.key key)) o false && option_map_or (λ version. is_there counts version.inserter version.ender) o false) ≡ true
        → (version : Version) × (item_in table.rows.pages tid ≡ Some version) × (is_eq (int_cmp version.key key) ≡ true) × (is_there counts version.inserter version.ender ≡ true)
    by None is e = absurd (cc)
    by (Some version) is e =
        let parts = both (is_eq (int_cmp version.key key)) (is_there counts version.inserter version.ender) e in
        (version, is, parts.0, parts.1)

pub found_is : (counts : ℕ → Bool) (table : Table) (key : ℤ) (old : OldRow) → found_row table counts key ≡ Some old → IsAt counts table key old
found_is counts table key old e = by (find (λ tid. is_found counts table.rows.pages key tid) (versions_of table.rows key)) refl e
  where
    some_is : (a b : OldRow) → Some a ≡ Some b → a ≡ b
    some_is a b e = cc

    by : (o : Option Tid) → find (λ tid. is_found counts table.rows.pages key tid) (versions_of table.rows key) ≡ o → option_and_then (row_there table) o ≡ Some old → IsAt counts table key old
    by None is e = absurd (cc)
    by (Some tid) is e =
        let found = (found_in (λ tid. is_found counts table.rows.pages key tid) (versions_of table.rows key) tid is).1 in
        let at = found_version counts table key tid found in
        let row : OldRow = record { tid = tid; stored = stored_of table.rows.schema.storages at.0 } in
        let here : option_map (λ version. record { tid = tid; stored = stored_of table.rows.schema.storages version }) (item_in table.rows.pages tid) ≡ Some row = ap (option_map (λ (version : Version). record { tid = tid; stored = stored_of table.rows.schema.storages version })) at.1 in
        let same : row ≡ old = some_is row old (sym here ∙ e) in
        subst (λ (r : OldRow). IsAt counts table key r) same (record { version = at.0; there = at.1; stored = refl; of_key = at.2; counted = at.3; found = found })

-- where it finds none nothing is to be found
pub unfound_is : (counts : ℕ → Bool) (table : Table) (key : ℤ) → IsRelation table.rows → found_row table counts key ≡ None → (tid : Tid) → is_found counts table.rows.pages key tid ≡ false
unfound_is counts table key relation e tid = elim (cases_Bool (is_found counts table.rows.pages key tid)) [
  | inl found ↦ absurd (by (find (λ u. is_found counts table.rows.pages key u) (versions_of table.rows key)) refl e found)
  | inr unfound ↦ unfound
]
  where
    by : (o : Option Tid) → find (λ u. is_found counts table.rows.pages key u) (versions_of table.rows key) ≡ o → option_and_then (row_there table) o ≡ None → is_found counts table.rows.pages key tid ≡ true → ⊥
    by None is e found =
        let at = found_version counts table key tid found in
        let among = among_versions table.rows key tid at.0 relation.keys at.1 (key_is at.0.key key at.2) in
        let passes : is_found counts table.rows.pages key tid ≡ false = none_passes (λ u. is_found counts table.rows.pages key u) (versions_of table.rows key) tid is among in
        absurd (cc)
    by (Some other) is e found =
        let its = (found_in (λ u. is_found counts table.rows.pages key u) (versions_of table.rows key) other is).1 in
        let at = found_version counts table key other its in
        let there = at.1 in
        absurd (cc)

pub not_found : (counts : ℕ → Bool) (table : Table) (key : ℤ) → IsRelation table.rows → found_row table counts key ≡ None → tuple_in counts table.rows.pages key ≡ None
not_found counts table key relation e = unfound_in counts table.rows.pages key (unfound_is counts table key relation e)

-- a found row as its table tells it
abbrev pub as_found : OldRow → FoundRow
as_found old = record { tid = old.tid; stored = old.stored }

pub finds_row : (counts : ℕ → Bool) (table : Table) (key : ℤ) (o : Option OldRow) → IsRelation table.rows → found_row table counts key ≡ o → FindsRow counts table key (option_map as_found o)
finds_row counts table key None relation e = not_found counts table key relation e
finds_row counts table key (Some old) relation e =
    let at = found_is counts table key old e in
    record { found = at.found; stored = ap (option_map (stored_of table.rows.schema.storages)) at.there ∙ ap Some (sym at.stored) }

-- the values of a row that was found
abbrev pub values_found : Store → OldRow → Row
values_found store old = map (cell_value store) old.stored.cells

pub row_found : (counts : ℕ → Bool) (table : Table) (key : ℤ) → IsRelation table.rows → IsOne counts table.rows.pages key → option_map (values_found table.toast) (found_row table counts key) ≡ row_in table counts key
row_found counts table key relation one = by (found_row table counts key) refl
  where
    as_read : (o : Option OldRow) → option_map (values_found table.toast) o ≡ option_map (row_read table.toast) (option_map as_found o)
    as_read None = refl
    as_read (Some old) = refl

    by : (o : Option OldRow) → found_row table counts key ≡ o → option_map (values_found table.toast) o ≡ row_in table counts key
    by o e = as_read o ∙ tables_tell.found counts table key (option_map as_found o) one (finds_row counts table key o relation e)
