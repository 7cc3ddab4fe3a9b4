use Rattle.std.proofs.Common.{ℕ, ◌≡◌, inl, inr, List, Some, sym, subst, ◌∙◌, arith}
use Rattle.std.proofs.lemmas.Option.{same_Some}
use Rattle.slot_page.specs.declared.line.Tid.{Tid}
use Rattle.slot_page.specs.Pages.{item_in, with_put_on}
use Rattle.xact_status.specs.Xacts.{IsAssigned}
use Rattle.heap_prune.proofs.Events.{new_stamp_assigned}
use Rattle.tuple_layout.specs.declared.Storage.{Storage}
use Rattle.row_versions.specs.declared.version.Version.{Version}
use Rattle.row_versions.specs.Versions.{new_version}
use Rattle.row_versions.specs.Relations.{Pages}
use Rattle.row_versions.proofs.Events.{assigned_put, item_of-put}
use Rattle.table_state.specs.Tables.{IsStored}
use Rattle.row_trials.proofs.tables.put_row.Goals as goal

-- where each version before was one that can be read, so is each after it
each_put : (schema : List Storage) (size : ℕ) (version : Version) (pages : Pages) → IsStored schema version.key version.tuple → ((tid : Tid) (old : Version) → item_in pages tid ≡ Some old → IsStored schema old.key old.tuple)
    → (tid : Tid) (now : Version) → item_in (with_put_on size version pages) tid ≡ Some now → IsStored schema now.key now.tuple
each_put schema size version pages new olds tid now at = elim (item_of-put size version pages tid) [
  | inl same ↦ olds tid now (sym same ∙ at)
  | inr here ↦ subst (λ (v : Version). IsStored schema v.key v.tuple) (same_Some version now (sym here.1 ∙ at)) new
]

pub returns-in_err-put_version-clause-stored : goal.returns-in_err-put_version-clause-stored
returns-in_err-put_version-clause-stored g c = rw c.in_err-put_version.ensures.unchanged c.requires.stored

pub returns-clause-assigned : goal.returns-clause-assigned
returns-clause-assigned g c =
    let given : IsAssigned c.args.xacts.now c.args.xid = record { from_first = omega arith; below_next = omega arith } in
    rw c.in_ok-put_version.ensures.put (assigned_put c.args.xacts.now _ _ c.args.table.now.rows.pages c.requires.assigned (new_stamp_assigned c.args.xacts.now c.args.xid given))

pub returns-clause-stored : goal.returns-clause-stored
returns-clause-stored g c =
    let new : IsStored c.args.table.now.rows.schema.storages c.args.key.now c.in_ok-bytes.bytes = subst (IsStored c.args.table.now.rows.schema.storages c.args.key.now) (sym c.in_ok-bytes.ensures) c.requires.row in
    rw c.in_ok-put_version.ensures.put (record { each = each_put c.args.table.now.rows.schema.storages _ (new_version c.args.key.now c.args.xid c.in_ok-bytes.bytes) c.args.table.now.rows.pages new c.requires.stored.each })
