use Rattle.std.proofs.Common.{◌≡◌, sym, ◌∙◌, rules, tests}
use Rattle.std.specs.List.{list_any}
use Rattle.std.proofs.lemmas.Iterator.{YieldsList-from_slice}
use Rattle.std.proofs.lemmas.Iterator.Search.{any_from_yields_List}
use Rattle.tuple_layout.specs.declared.cell.Cell.{Cell}
use Rattle.tuple_layout.specs.Tuples.{cell_width, is_outside}
use Rattle.tuple_layout.proofs.DataLemmas.{list_any_of_map}
use Rattle.tuple_layout.proofs.header.has_pointer.Goals as goal

pub returns : goal.returns
returns c =
    let by_cell : c.any.result ≡ list_any (λ (cell : Cell). is_outside (cell_width cell)) c.args.cells.now =
    any_from_yields_List (λ (cell : Cell). is_outside (cell_width cell)) _ _ _ c.any.ensures.ran (YieldsList-from_slice c.args.cells.now cc) (λ x b q. search (rules, tests)) in
    by_cell ∙ sym (list_any_of_map is_outside cell_width c.args.cells.now)
