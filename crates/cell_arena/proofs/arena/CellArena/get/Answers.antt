use Rattle.std.proofs.Common.{◌≡◌, ◌≢◌, ◌<◌, ◌/◌, ◌%◌, ℕ, [], get_or, sym, ap, ◌∙◌, subst}
use Rattle.cell_arena.specs.Entries.{cells_of, cells_here}
use Rattle.cell_arena.proofs.Lists.{entry_is}
use Rattle.cell_arena.proofs.Entries.{Cells, place_below, cell_at_place, vacant_cell}
use Rattle.cell_arena.proofs.arena.CellArena.get.Goals as goal

pub index-requires : goal.index-requires
index-requires c =
    let same : get_or (cells_of c.self.inside.entries.items) c.id.inside.number [] ≡ get_or c.args.self.now.cells c.args.id.now [] = λ i. get_or (c.self.view_is i).cells (c.id.view_is i) [] in
    let held : get_or (cells_of c.self.inside.entries.items) c.id.inside.number [] ≢ [] = λ z. c.requires (sym same ∙ z) in
    subst (λ (n : ℕ). c.id.inside.number / 64 < n) (sym c.self.inside.entries.ok.0) (place_below _ c.self.invariant.table.whole c.id.inside.number held)

pub unreachable-requires : goal.unreachable-requires
unreachable-requires c =
    let same : get_or (cells_of c.self.inside.entries.items) c.id.inside.number [] ≡ get_or c.args.self.now.cells c.args.id.now [] = λ i. get_or (c.self.view_is i).cells (c.id.view_is i) [] in
    let held : get_or (cells_of c.self.inside.entries.items) c.id.inside.number [] ≢ [] = λ z. c.requires (sym same ∙ z) in
    let below = place_below _ c.self.invariant.table.whole c.id.inside.number held in
    let there = entry_is _ _ c.index.result.now below c.index.ensures in
    held (cell_at_place _ c.self.invariant.table.whole c.id.inside.number _ there ∙ vacant_cell _ _ c.in-None.is)

pub returns : goal.returns
returns c =
    let same : get_or (cells_of c.self.inside.entries.items) c.id.inside.number [] ≡ get_or c.args.self.now.cells c.args.id.now [] = λ i. get_or (c.self.view_is i).cells (c.id.view_is i) [] in
    let held : get_or (cells_of c.self.inside.entries.items) c.id.inside.number [] ≢ [] = λ z. c.requires (sym same ∙ z) in
    let below = place_below _ c.self.invariant.table.whole c.id.inside.number held in
    let there = entry_is _ _ c.index.result.now below c.index.ensures in
    c.get.ensures ∙ sym (ap (λ (b : Cells). get_or (cells_here b) (c.id.inside.number % 64) []) c.in-Some.is) ∙ sym (cell_at_place _ c.self.invariant.table.whole c.id.inside.number _ there) ∙ same
