use Rattle.std.proofs.Common.{ℤ, ◌≡◌, false, w64, sym, subst, ◌∙◌}
use Rattle.std.proofs.lemmas.Int.{to_z-of_z}
use Rattle.slot_page.specs.declared.line.Tid.{Tid}
use Rattle.row_versions.specs.Relations.{is_seen}
use Rattle.table_rows.proofs.Views.{unfound_in}
use Rattle.table_state.specs.LookUps.{counts_seen}
use Rattle.table_state.proofs.Readings.{seen_found}
use Rattle.table_state.proofs.table.Table.seen_row.Goals as goal

pub returns-in_default : goal.returns-in_default
returns-in_default c =
    let none = subst (λ (k : ℤ). (tid : Tid) → is_seen c.args.xacts.now c.args.snaps.now c.args.snap c.args.own c.args.self.now.rows k tid ≡ false) (to_z-of_z w64 c.args.key c.ranges.key) c.in_default.ensures.none in
    unfound_in (counts_seen c.args.xacts.now c.args.snaps.now c.args.snap c.args.own) c.args.self.now.rows.pages c.args.key (λ tid. sym (seen_found c.args.xacts.now c.args.snaps.now c.args.snap c.args.own c.args.self.now.rows c.args.key tid) ∙ none tid)
