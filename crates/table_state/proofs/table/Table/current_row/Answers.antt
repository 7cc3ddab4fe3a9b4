use Rattle.std.proofs.Common.{ℤ, ◌≡◌, false, w64, subst}
use Rattle.std.proofs.lemmas.Int.{to_z-of_z}
use Rattle.slot_page.specs.declared.line.Tid.{Tid}
use Rattle.xact_status.specs.Versions.{counts_for}
use Rattle.row_versions.specs.Relations.{is_current_row}
use Rattle.table_rows.proofs.Views.{unfound_in}
use Rattle.table_state.proofs.table.Table.current_row.Goals as goal

pub returns-in_default : goal.returns-in_default
returns-in_default c = unfound_in (counts_for c.args.xacts.now c.args.own) c.args.self.now.rows.pages c.args.key
    (subst (λ (k : ℤ). (tid : Tid) → is_current_row c.args.xacts.now c.args.own c.args.self.now.rows k tid ≡ false) (to_z-of_z w64 c.args.key c.ranges.key) c.in_default.ensures.none)
