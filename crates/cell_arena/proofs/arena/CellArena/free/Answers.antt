use Rattle.std.proofs.Common.{◌≡◌, ◌≢◌, ◌<◌, ◌/◌, List, [], length, get_or, sym, ap, ◌∙◌, subst, arith}
use Rattle.cell_arena.specs.Entries.{cells_of, free_here, total}
use Rattle.cell_arena.specs.declared.entry.Entry.{Entry}
use Rattle.cell_arena.proofs.Entries.{blocks_length, counted, place_below}
use Rattle.cell_arena.proofs.arena.CellArena.free.Goals as goal

pub release-self-inside-requires-clause-cell : goal.release-self-inside-requires-clause-cell
release-self-inside-requires-clause-cell c =
    let same : get_or (cells_of c.self.inside.entries.items) c.id.inside.number [] ≡ get_or c.args.self.now.cells c.args.id [] = λ i. get_or (c.self.view_is i).cells (c.id.view_is i) [] in
    let held : get_or (cells_of c.self.inside.entries.items) c.id.inside.number [] ≢ [] = λ z. c.requires (sym same ∙ z) in
    (subst (λ (l : List Entry). c.id.inside.number / 64 < length l) (sym c.deref_mut.ensures.value) (place_below c.self.inside.entries.items c.self.invariant.table.whole c.id.inside.number held), omega arith)

pub overflow_add-self : goal.overflow_add-self
overflow_add-self c =
    let r = c.release-self-inside.ensures in
    let size = r.size in
    let free = r.free in
    let same = ap (total free_here) c.deref_mut.ensures.value in
    let spare = c.self.invariant.spare_is in
    let sum = counted c.release-self-inside.new.entries r.table.whole in
    let few = blocks_length c.release-self-inside.new.entries in
    let fits = c.deref_mut.type_inv.1 in
    record { fits = omega (arith, size, free, same, spare, sum, few, fits) }
