-- What a look-up reads.
use Rattle.std.proofs.Common.{ℕ, ℤ, ◌≡◌, ◌≢◌, false, ◌&&◌, List, Option, Some, None, Result, Ok, Err, refl, sym, ap, subst, ◌∙◌}
use Rattle.std.specs.Option.{option_map_or}
use Rattle.std.specs.Ordering.{int_cmp, is_eq}
use Rattle.slot_page.specs.declared.line.Tid.{Tid}
use Rattle.slot_page.specs.Pages.{item_in}
use Rattle.tuple_layout.specs.Schemas.{TableSchema}
use Rattle.tuple_layout.specs.Tuples.{HasTuple, tuple}
use Rattle.tuple_layout.specs.declared.cell.Stored.{Stored}
use Rattle.tuple_layout.specs.declared.fault.TupleFault.{TupleFault}
use Rattle.tuple_layout.specs.declared.fault.TupleFault.TheVariants.{Memory}
use Rattle.xact_status.specs.Xacts.{Xacts}
use Rattle.xact_status.specs.Versions.{is_there}
use Rattle.snapshot_registry.specs.declared.Held.{Held}
use Rattle.snapshot_registry.specs.Snapshots.{Snaps, held_at, takes_effect}
use Rattle.row_versions.specs.declared.version.Version.{Version}
use Rattle.row_versions.specs.Relations.{Relation, is_seen}
use Rattle.table_rows.specs.Views.{is_found}
use Rattle.table_state.specs.Tables.{IsStored, stored_in}
use Rattle.table_state.specs.LookUps.{counts_seen}

-- a tuple that can be read is read as what it stores, unless memory is wanting
read_is : (given schema : TableSchema) (bytes read : List ℕ) (key : ℤ) (r : Result Stored TupleFault) → given ≡ schema → read ≡ bytes → IsStored schema.storages key bytes
    → ((stored : Stored) → HasTuple given.storages stored → read ≡ tuple given.storages stored → r ≢ Err Memory → r ≡ Ok stored) → r ≢ Err Memory → r ≡ Ok (stored_in schema.storages key bytes)
read_is given schema bytes read key r schemas same is again enough = again (stored_in schema.storages key bytes)
    (subst (λ (s : TableSchema). HasTuple s.storages (stored_in schema.storages key bytes)) (sym schemas) is.has)
    (same ∙ is.is ∙ ap (λ (s : TableSchema). tuple s.storages (stored_in schema.storages key bytes)) (sym schemas)) enough

-- what the two ways of an answer hold
read_in : Stored → Result Stored TupleFault → Stored
read_in other (Ok stored) = stored
read_in other (Err fault) = other

fault_in : TupleFault → Result Stored TupleFault → TupleFault
fault_in other (Ok stored) = other
fault_in other (Err fault) = fault

ok_differs : (stored : Stored) (fault : TupleFault) (r : Result Stored TupleFault) → r ≡ Ok stored → r ≡ Err fault → ⊥
ok_differs stored fault (Ok s) is other = absurd (cc)
ok_differs stored fault (Err f) is other = absurd (cc)

pub read_ok : (given schema : TableSchema) (bytes read : List ℕ) (key : ℤ) (r : Result Stored TupleFault) (stored : Stored) → r ≡ Ok stored → given ≡ schema → read ≡ bytes → IsStored schema.storages key bytes
    → ((s : Stored) → HasTuple given.storages s → read ≡ tuple given.storages s → r ≢ Err Memory → r ≡ Ok s) → stored_in schema.storages key bytes ≡ stored
unfolding read_in
read_ok given schema bytes read key r stored was schemas same is again =
    ap (read_in stored) (sym (read_is given schema bytes read key r schemas same is again (λ e. ok_differs stored Memory r was e)) ∙ was)

pub read_err : (given schema : TableSchema) (bytes read : List ℕ) (key : ℤ) (r : Result Stored TupleFault) (fault : TupleFault) → r ≡ Err fault → fault ≢ Memory → given ≡ schema → read ≡ bytes → IsStored schema.storages key bytes
    → ((s : Stored) → HasTuple given.storages s → read ≡ tuple given.storages s → r ≢ Err Memory → r ≡ Ok s) → ⊥
unfolding fault_in
read_err given schema bytes read key r fault was other schemas same is again =
    ok_differs (stored_in schema.storages key bytes) fault r (read_is given schema bytes read key r schemas same is again (λ e. other (ap (fault_in fault) (sym was ∙ e)))) was

-- the look-up by a registered snapshot is one by its reader's test
pub seen_found : (xacts : Xacts) (snaps : Snaps) (id : ℕ) (own : Option ℕ) (rel : Relation) (key : ℤ) (tid : Tid) → is_seen xacts snaps id own rel key tid ≡ is_found (counts_seen xacts snaps id own) rel.pages key tid
seen_found xacts snaps id own rel key tid = by_item (item_in rel.pages tid)
  where
    by_held : (version : Version) (o : Option Held) → option_map_or (λ h. is_there (takes_effect xacts h.snapshot own) version.inserter version.ender) o false ≡ is_there (λ z. option_map_or (λ (h : Held). takes_effect xacts h.snapshot own z) o false) version.inserter version.ender
    by_held version None = refl
    by_held version (Some held) = refl

    by_item : (o : Option Version) → (option_map_or (λ version. is_eq (int_cmp version.key key)) o false && option_map_or (λ version. option_map_or (λ h. is_there (takes_effect xacts h.snapshot own) version.inserter version.ender) (held_at snaps id) false) o false)
        ≡ (option_map_or (λ version. is_eq (int_cmp version.key key)) o false && option_map_or (λ version. is_there (counts_seen xacts snaps id own) version.inserter version.ender) o false)
    by_item None = refl
    by_item (Some version) = ap (λ b. is_eq (int_cmp version.key key) && b) (by_held version (held_at snaps id))
