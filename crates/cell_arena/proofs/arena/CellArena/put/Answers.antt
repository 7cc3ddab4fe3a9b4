use Rattle.std.proofs.Common.{◌≡◌, ◌<◌, ◌+◌, ◌*◌, List, [], length, get_or, sym, ap, subst, arith}
use Rattle.cell_arena.specs.Cells.{CellMap}
use Rattle.cell_arena.specs.Entries.{IsFilled, free_here, total}
use Rattle.cell_arena.specs.declared.entry.Entry.{Entry}
use Rattle.cell_arena.proofs.Entries.{length_cells}
use Rattle.cell_arena.proofs.Lists.{get_below}
use Rattle.cell_arena.proofs.Sums.{first_open}
use Rattle.cell_arena.proofs.arena.CellArena.put.Goals as goal

pub put_first-cell-requires-clause-room : goal.put_first-cell-requires-clause-room
put_first-cell-requires-clause-room c =
    let is = ap (λ (m : CellMap). m.spare) c.self.view_is in
    let some_free = c.requires.room in
    let sum = c.self.invariant.spare_is in
    let w = first_open c.self.inside.entries.items c.self.inside.first c.self.invariant.table (omega (arith, is, some_free, sum)) in
    let here = get_below c.self.inside.entries.items c.self.inside.first w.0 w.1 in
    subst (λ (l : List Entry). (c.self.inside.first < length l) × (0 < total free_here l)) (sym c.deref_mut.ensures.value) (here, omega (arith, is, some_free, sum))

pub returns-clause-id : goal.returns-clause-id
returns-clause-id c =
    let f = subst (λ (old : List Entry). IsFilled old c.self.inside.first c.args.bytes.now c.put_first-cell.result.0 c.put_first-cell.new.entries c.put_first-cell.result.1) c.deref_mut.ensures.value c.put_first-cell.ensures in
    let size = length_cells c.self.inside.entries.items c.self.invariant.table.whole in
    let there = f.there.0 in
    let cell = f.there.1 in
    subst (λ (m : CellMap). (c.self.inside.first * 64 + c.put_first-cell.result.0 < length m.cells) × (get_or m.cells (c.self.inside.first * 64 + c.put_first-cell.result.0) [] ≡ [])) c.self.view_is
    (omega (arith, size, there, cell), f.was_free)
