-- The tables once the versions of one of them have changed.
use Rattle.std.proofs.Common.{ap, arith, refl, sym}
use Rattle.std.proofs.lemmas.Bool.Decides.{nat_tests}
use Rattle.std.proofs.lemmas.List.{length-set}
use Rattle.std.specs.Prelude.{Bool, List, [], false, length, slice_index_or, slice_set, suc, true, zero, ℕ, ◌-◌, ◌<◌, ◌==◌, ◌∷◌, ◌≡◌, ◌≢◌}
use Rattle.tuple_layout.specs.Schemas.{TableSchema}
use Rattle.row_versions.specs.Relations.{Pages}
use Rattle.row_versions.specs.declared.keys.KeyEntry.{KeyEntry}
use Rattle.table_state.specs.Events.{with_rows}
use Rattle.table_state.specs.declared.table.Table.{Table}
use Rattle.core_state.proofs.Lists.{read_other, read_written}
use Rattle.core_state.specs.Lines.{with_table}
use Rattle.core_state.specs.State.{IsTableOf, no_table, schemas_of, table_at}

-- of the tables one has other versions
pub record Steps (tables later : List Table) (t : ℕ) (pages : Pages) (entries : List KeyEntry) : Type 0 where
  pub count : length later ≡ length tables
  pub schemas : schemas_of later ≡ schemas_of tables
  pub here : table_at later t ≡ with_rows (table_at tables t) pages entries
  pub other : (k : ℕ) → k ≢ t → table_at later k ≡ table_at tables k

-- writing a table with the schema that it has leaves the schemas
schemas_set : (tables : List Table) (i : ℕ) (table : Table) → table.rows.schema ≡ (slice_index_or tables i no_table).rows.schema → schemas_of (slice_set tables i table) ≡ schemas_of tables
schemas_set [] i table same = refl
schemas_set (was ∷ tables) zero table same = ap (λ (schema : TableSchema). schema ∷ schemas_of tables) same
schemas_set (was ∷ tables) (suc i) table same = ap (λ (schemas : List TableSchema). was.rows.schema ∷ schemas) (schemas_set tables i table same)

pub steps_at : (tables : List Table) (t : ℕ) (pages : Pages) (entries : List KeyEntry) → IsTableOf tables t → Steps tables (with_table tables t (with_rows (table_at tables t) pages entries)) t pages entries
steps_at tables zero pages entries there =
    let low = there.from_one in
    absurd (omega (arith, low))
steps_at tables (suc i) pages entries there =
    let within = there.within in
    let place : suc i - 1 ≡ i = omega arith in
    let low : i < length tables = omega (arith, within) in
    let table = with_rows (slice_index_or tables i no_table) pages entries in
    rw place (record {
      count = length-set tables i table;
      schemas = schemas_set tables i table refl;
      here = read_written tables i table no_table low;
      other = λ k differ. by k differ;
    })
  where
    by : (k : ℕ) → k ≢ suc i → table_at (slice_set tables i (with_rows (slice_index_or tables i no_table) pages entries)) k ≡ table_at tables k
    by zero differ = refl
    by (suc k) differ = read_other tables i k (with_rows (slice_index_or tables i no_table) pages entries) no_table (λ e. differ (ap suc e))

-- what holds of each table then, by whether it is the one
pub at_table : (tables later : List Table) (t k : ℕ) (pages : Pages) (entries : List KeyEntry) (P : Table → Type 0) → Steps tables later t pages entries
    → (k ≡ t → P (with_rows (table_at tables t) pages entries)) → (k ≢ t → P (table_at tables k)) → P (table_at later k)
at_table tables later t k pages entries P steps same other = by (k == t) refl
  where
    by : (b : Bool) → (k == t) ≡ b → P (table_at later k)
    by true e =
        let is : k ≡ t = grind (arith, nat_tests, e) in
        rw is (rw steps.here (same is))
    by false e =
        let differ : k ≢ t = grind (arith, nat_tests, e) in
        rw (steps.other k differ) (other differ)

-- the values out of line are as before
pub toast_same : (tables later : List Table) (t k : ℕ) (pages : Pages) (entries : List KeyEntry) → Steps tables later t pages entries → (table_at later k).toast ≡ (table_at tables k).toast
toast_same tables later t k pages entries steps =
    at_table tables later t k pages entries (λ (table : Table). table.toast ≡ (table_at tables k).toast) steps (λ is. ap (λ (n : ℕ). (table_at tables n).toast) (sym is)) (λ differ. refl)
