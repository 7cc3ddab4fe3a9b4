use Rattle.std.proofs.Common.{ℕ, ◌≡◌, inl, inr, List, Option, Some, refl, subst, sym, ◌∙◌, arith}
use Rattle.std.proofs.lemmas.Option.{none-some, same_Some}
use Rattle.slot_page.specs.declared.line.LinePointer.{LinePointer}
use Rattle.slot_page.specs.declared.line.LinePointer.TheVariants.{Normal, Dead, Unused}
use Rattle.slot_page.specs.declared.line.Tid.{Tid}
use Rattle.slot_page.specs.Pages.{item_in, slot_of}
use Rattle.slot_page.specs.Slots.{item_of}
use Rattle.xact_status.specs.Xacts.{IsAssigned}
use Rattle.tuple_layout.specs.declared.Storage.{Storage}
use Rattle.row_versions.specs.declared.version.Version.{Version}
use Rattle.row_versions.specs.Versions.{ended}
use Rattle.row_versions.specs.Relations.{Pages, pages_ended}
use Rattle.row_versions.proofs.Events.{assigned_ended, item_of-ended, shown_normal}
use Rattle.table_state.specs.Tables.{IsStored}
use Rattle.row_trials.proofs.tables.end.Goals as goal

ended_line : (schema : List Storage) (xid : ℕ) (line : LinePointer Version) (now : Version) → ((old : Version) → item_of line ≡ Some old → IsStored schema old.key old.tuple) → item_of (ended xid line) ≡ Some now → IsStored schema now.key now.tuple
ended_line schema xid (Normal size version) now olds at = subst (λ (v : Version). IsStored schema v.key v.tuple) (same_Some (record version { ender = Some xid }) now at) (olds version refl)
ended_line schema xid Dead now olds at = absurd (none-some now at)
ended_line schema xid Unused now olds at = absurd (none-some now at)

-- where each version before was one that can be read, so is each after it
each_ended : (schema : List Storage) (xid : ℕ) (pages : Pages) (tid : Tid) → ((t : Tid) (old : Version) → item_in pages t ≡ Some old → IsStored schema old.key old.tuple)
    → (t : Tid) (now : Version) → item_in (pages_ended xid pages tid) t ≡ Some now → IsStored schema now.key now.tuple
each_ended schema xid pages tid olds t now at = elim (item_of-ended xid pages tid t) [
  | inl same ↦ olds t now (sym same ∙ at)
  | inr here ↦ ended_line schema xid (slot_of pages tid) now (olds tid) (sym here.1 ∙ at)
]

pub set_ender-requires : goal.set_ender-requires
set_ender-requires g c = shown_normal (slot_of c.args.table.now.rows.pages c.args.tid) c.version_at.result c.version_at.ensures.version (cc c.is_some.ensures)

pub returns-clause-assigned : goal.returns-clause-assigned
returns-clause-assigned g c =
    let given : IsAssigned c.args.xacts.now c.in-Some.xid = record { from_first = omega arith; below_next = omega arith } in
    rw c.set_ender.ensures.ended (assigned_ended c.args.xacts.now c.in-Some.xid c.args.table.now.rows.pages c.args.tid c.requires.assigned given)

pub returns-clause-stored : goal.returns-clause-stored
returns-clause-stored g c = rw c.set_ender.ensures.ended (record { each = each_ended c.args.table.now.rows.schema.storages c.in-Some.xid c.args.table.now.rows.pages c.args.tid c.requires.stored.each })
