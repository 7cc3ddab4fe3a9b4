use Rattle.std.proofs.Common.{ℕ, ℤ, List, Option, map, refl, sym, ap, ◌∙◌, w64}
use Rattle.std.proofs.lemmas.Int.{to_z-of_z}
use Rattle.tuple_layout.specs.declared.cell.Cell.{Cell}
use Rattle.tuple_layout.specs.declared.cell.Stored.{Stored}
use Rattle.row_versions.specs.Versions.{version_stamp}
use Rattle.table_state.proofs.Readings.{read_err, read_ok}
use Rattle.rewrite_facts.specs.Copies.{id_of}
use Rattle.rewrite_facts.specs.declared.stage.RowCopy.{RowCopy}
use Rattle.rewrite_full.proofs.copies.copy_of.Goals as goal

pub unreachable-requires : goal.unreachable-requires
unreachable-requires c = read_err c.args.schema.now c.args.schema.now c.args.version.now.tuple c.as_slice.result.now c.args.version.now.key c.read_tuple.result c.in-Err.fault c.in-Err.is c.in_default.not-Memory refl c.as_slice.ensures c.requires c.read_tuple.ensures.again

pub returns : goal.returns
returns c =
    let stored : List Cell = c.in-Ok.stored.cells in
    let is = ap (λ (s : Stored). s.cells) (sym (read_ok c.args.schema.now c.args.schema.now c.args.version.now.tuple c.as_slice.result.now c.args.version.now.key c.read_tuple.result c.in-Ok.stored c.in-Ok.is refl c.as_slice.ensures c.requires c.read_tuple.ensures.again)) in
    let copy : ℤ → List (Option ℕ) → List Cell → RowCopy = λ key ids cells. record { key = key; stamp = version_stamp c.args.version.now; ids = ids; cells = cells } in
    ap (λ (key : ℤ). copy key c.in_ok-ids.ids stored) (to_z-of_z w64 c.args.version.now.key c.requires.has.key)
    ∙ ap (λ (ids : List (Option ℕ)). copy c.args.version.now.key ids stored) (c.in_ok-ids.ensures ∙ ap (map id_of) c.as_slice-2.ensures)
    ∙ ap (λ (cells : List Cell). copy c.args.version.now.key (map id_of cells) cells) is
