-- Where the copies lie in the new relation.
use Rattle.std.proofs.Common.{◌≡◌, ◌⊎◌, inl, inr, Some, List, [], ◌∷◌, length, Contains, refl, sym, ap, ◌∙◌}
use Rattle.std.proofs.lemmas.Bool.{false≢true}
use Rattle.std.proofs.lemmas.Option.{none-some, same_Some}
use Rattle.list_facts.proofs.Members.{cases_in, first_in, later_in, none_in_nil}
use Rattle.slot_page.specs.declared.line.Tid.{Tid}
use Rattle.slot_page.specs.Pages.{item_in, put_tid}
use Rattle.slot_page.specs.NextItems.{is_before}
use Rattle.slot_page.proofs.Tids.{cases_tid}
use Rattle.tuple_layout.specs.Schemas.{TableSchema}
use Rattle.row_versions.specs.declared.version.Version.{Version}
use Rattle.row_versions.specs.Relations.{Pages, Relation}
use Rattle.table_rows.specs.Steps.{IsPut}
use Rattle.table_rows.proofs.Pages.{is_put}
use Rattle.rewrite_facts.specs.Copies.{AreInOrder, Copied, laid, version_of}
use Rattle.rewrite_facts.proofs.Orders.{not_before_self, order_before}

-- the pages of the copies
abbrev pub laid_pages : TableSchema → List Copied → Pages
laid_pages schema copies = Relation.pages (laid schema copies)

-- where a copy is put
abbrev pub place_of : TableSchema → List Copied → Copied → Tid
place_of schema copies copy = put_tid (length (Version.tuple (version_of schema.storages copy))) (laid_pages schema copies)

-- a copy lies at a tid
abbrev pub LiesAt : TableSchema → List Copied → Tid → Copied → Type 0
LiesAt schema [] tid copy = ⊥
LiesAt schema (first ∷ copies) tid copy = ((first ≡ copy) × (tid ≡ place_of schema copies first)) ⊎ LiesAt schema copies tid copy

-- the last copy is put where no version stood
last_put : (schema : TableSchema) (first : Copied) (copies : List Copied) → IsPut (laid_pages schema copies) (laid_pages schema (first ∷ copies)) (place_of schema copies first) (version_of schema.storages first)
last_put schema first copies = is_put (length (Version.tuple (version_of schema.storages first))) (version_of schema.storages first) (laid_pages schema copies)

pub laid_schema : (schema : TableSchema) (copies : List Copied) → Relation.schema (laid schema copies) ≡ schema
laid_schema schema [] = refl
laid_schema schema (copy ∷ copies) = laid_schema schema copies

-- what lies at a tid is one of the copies, and stands there
pub lies_in : (schema : TableSchema) (copies : List Copied) (tid : Tid) (copy : Copied) → LiesAt schema copies tid copy → Contains copies copy
lies_in schema [] tid copy lies = absurd lies
lies_in schema (first ∷ copies) tid copy (inl last) = first_in first copies copy last.0
lies_in schema (first ∷ copies) tid copy (inr earlier) = later_in first copies copy (lies_in schema copies tid copy earlier)

pub lies_there : (schema : TableSchema) (copies : List Copied) (tid : Tid) (copy : Copied) → LiesAt schema copies tid copy → item_in (laid_pages schema copies) tid ≡ Some (version_of schema.storages copy)
lies_there schema [] tid copy lies = absurd lies
lies_there schema (first ∷ copies) tid copy (inl last) = ap (item_in (laid_pages schema (first ∷ copies))) last.1 ∙ IsPut.put (last_put schema first copies) ∙ ap (λ c. Some (version_of schema.storages c)) last.0
lies_there schema (first ∷ copies) tid copy (inr earlier) =
    let there = lies_there schema copies tid copy earlier in
    IsPut.elsewhere (last_put schema first copies) tid (λ same. none-some (version_of schema.storages copy) (sym (IsPut.free (last_put schema first copies)) ∙ ap (item_in (laid_pages schema copies)) (sym same) ∙ there)) ∙ there

-- each copy lies somewhere
pub record IsLaid (schema : TableSchema) (copies : List Copied) (copy : Copied) : Type 0 where
  pub tid : Tid
  pub lies : LiesAt schema copies tid copy

pub copy_laid : (schema : TableSchema) (copies : List Copied) (copy : Copied) → Contains copies copy → IsLaid schema copies copy
copy_laid schema [] copy held = absurd (none_in_nil copy held)
copy_laid schema (first ∷ copies) copy held = elim (cases_in first copies copy held) [
  | inl is ↦ record { tid = place_of schema copies first; lies = inl (is, refl) }
  | inr later ↦ let found = copy_laid schema copies copy later in record { tid = found.tid; lies = inr found.lies }
]

-- each version is that of a copy which lies there
pub record IsOfCopy (schema : TableSchema) (copies : List Copied) (tid : Tid) (version : Version) : Type 0 where
  pub copy : Copied
  pub lies : LiesAt schema copies tid copy
  pub is : version_of schema.storages copy ≡ version

pub of_copy : (schema : TableSchema) (copies : List Copied) (tid : Tid) (version : Version) → item_in (laid_pages schema copies) tid ≡ Some version → IsOfCopy schema copies tid version
of_copy schema [] tid version there = absurd (none-some version there)
of_copy schema (first ∷ copies) tid version there = elim (cases_tid tid (place_of schema copies first)) [
  | inl here ↦ record { copy = first; lies = inl (refl, here); is = same_Some _ _ (sym (IsPut.put (last_put schema first copies)) ∙ ap (item_in (laid_pages schema (first ∷ copies))) (sym here) ∙ there) }
  | inr other ↦ let found = of_copy schema copies tid version (sym (IsPut.elsewhere (last_put schema first copies) tid other) ∙ there) in record { copy = found.copy; lies = inr found.lies; is = found.is }
]

-- no old version has two copies: one of an earlier place is not of this one
not_earlier : (schema : TableSchema) (first : Copied) (copies : List Copied) (tid : Tid) (copy : Copied) → AreInOrder first.from copies → LiesAt schema copies tid copy → first.from ≡ copy.from → ⊥
not_earlier schema first copies tid copy order lies same = false≢true (sym (not_before_self first.from) ∙ ap (λ t. is_before t first.from) same ∙ order_before first.from copies copy order (lies_in schema copies tid copy lies))

pub lies_once : (schema : TableSchema) (place : Tid) (copies : List Copied) (t u : Tid) (copy other : Copied) → AreInOrder place copies → LiesAt schema copies t copy → LiesAt schema copies u other → copy.from ≡ other.from → t ≡ u
lies_once schema place [] t u copy other order lies lies_too same = absurd lies
lies_once schema place (first ∷ copies) t u copy other order (inl last) (inl last_too) same = last.1 ∙ sym last_too.1
lies_once schema place (first ∷ copies) t u copy other order (inl last) (inr earlier) same = absurd (not_earlier schema first copies u other order.1 earlier (ap (λ (c : Copied). c.from) last.0 ∙ same))
lies_once schema place (first ∷ copies) t u copy other order (inr earlier) (inl last) same = absurd (not_earlier schema first copies t copy order.1 earlier (ap (λ (c : Copied). c.from) last.0 ∙ sym same))
lies_once schema place (first ∷ copies) t u copy other order (inr earlier) (inr earlier_too) same = lies_once schema first.from copies t u copy other order.1 earlier earlier_too same
