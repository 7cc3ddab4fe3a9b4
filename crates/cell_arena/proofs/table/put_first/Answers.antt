use Rattle.std.proofs.Common.{rules, ◌≡◌, ◌<◌, ℕ, length, inl, inr, refl, sym, ap, ◌∙◌, subst, arith, get_or, length-set, get_or-set_same}
use Rattle.cell_arena.specs.Entries.{IsOpen, cells_here, free_here}
use Rattle.cell_arena.specs.declared.entry.Entry.{Entry}
use Rattle.cell_arena.proofs.Lists.{index_is, same_at}
use Rattle.cell_arena.proofs.Sums.{filled_by, first_open}
use Rattle.cell_arena.proofs.table.put_first.Goals as goal

pub fill-cell-requires-clause-open : goal.fill-cell-requires-clause-open
fill-cell-requires-clause-open c =
    let w = first_open c.args.entries.now c.args.first c.requires.table c.requires.room.1 in
    let there = index_is c.args.entries.now c.args.first c.index-entries-first.result c.requires.room.0 in
    subst (λ (e : Entry). IsOpen e.block) (same_at c.args.entries.now c.args.first _ _ w.1 there) w.2

pub free_cells-requires : goal.free_cells-requires
free_cells-requires c =
    let w = first_open c.args.entries.now c.args.first c.requires.table c.requires.room.1 in
    let there = index_is c.args.entries.now c.args.first c.index-entries-first.result c.requires.room.0 in
    let read = get_or-set_same c.args.entries.now c.args.first c.fill-cell.new.entry _ c.requires.room.0 in
    ap (λ (e : Entry). length (cells_here e.block)) (read ∙ c.fill-cell.ensures.full) ∙ length-set (cells_here (get_or c.args.entries.now c.args.first c.index-entries-first.result).block) c.fill-cell.result c.args.bytes.now ∙ c.requires.table.whole _ _ there

pub returns-then-free_cells-gt0 : goal.returns-then-free_cells-gt0
returns-then-free_cells-gt0 c =
    let w = first_open c.args.entries.now c.args.first c.requires.table c.requires.room.1 in
    let there = index_is c.args.entries.now c.args.first c.index-entries-first.result c.requires.room.0 in
    let opened : IsOpen (get_or c.args.entries.now c.args.first c.index-entries-first.result).block = subst (λ (e : Entry). IsOpen e.block) (same_at c.args.entries.now c.args.first _ _ w.1 there) w.2 in
    let left : 0 < c.free_cells.result = search rules in
    let still = subst (λ (n : ℕ). 0 < n) (c.free_cells.ensures ∙ ap (λ (e : Entry). free_here e.block) (get_or-set_same c.args.entries.now c.args.first c.fill-cell.new.entry _ c.requires.room.0)) left in
    filled_by _ _ _ _ _ _ _ c.requires.table there opened c.fill-cell.ensures.free.0 c.fill-cell.ensures.free.1 c.requires.bytes.0 c.fill-cell.ensures.full (inl (still, refl))

pub returns : goal.returns
returns c =
    let w = first_open c.args.entries.now c.args.first c.requires.table c.requires.room.1 in
    let there = index_is c.args.entries.now c.args.first c.index-entries-first.result c.requires.room.0 in
    let opened : IsOpen (get_or c.args.entries.now c.args.first c.index-entries-first.result).block = subst (λ (e : Entry). IsOpen e.block) (same_at c.args.entries.now c.args.first _ _ w.1 there) w.2 in
    let none : c.free_cells.result ≡ 0 = search rules in
    let closed : free_here c.fill-cell.new.entry.block ≡ 0 = sym (c.free_cells.ensures ∙ ap (λ (e : Entry). free_here e.block) (get_or-set_same c.args.entries.now c.args.first c.fill-cell.new.entry _ c.requires.room.0)) ∙ none in
    filled_by _ _ _ _ _ _ _ c.requires.table there opened c.fill-cell.ensures.free.0 c.fill-cell.ensures.free.1 c.requires.bytes.0 c.fill-cell.ensures.full
    (inr ((λ o. omega (arith, o, closed)), ap (λ (e : Entry). e.next) (get_or-set_same c.args.entries.now c.args.first c.fill-cell.new.entry _ c.requires.room.0)))
