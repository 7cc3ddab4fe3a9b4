use Rattle.std.proofs.Common.{rules, ◌≡◌, ◌≢◌, ◌<◌, ◌+◌, ◌*◌, ℕ, List, [], get_or, inl, inr, refl, sym, ap, ◌∙◌, subst, set-set, get_or-set_same}
use Rattle.cell_arena.specs.Entries.{IsOpen, IsReleased, cells_here, free_here}
use Rattle.cell_arena.specs.declared.entry.Entry.{Entry}
use Rattle.cell_arena.proofs.Lists.{index_is, same_at}
use Rattle.cell_arena.proofs.Entries.{cell_is}
use Rattle.cell_arena.proofs.Sums.{released_by}
use Rattle.cell_arena.proofs.table.release.Goals as goal

pub free_cells-was_full-requires : goal.free_cells-was_full-requires
free_cells-was_full-requires c = c.requires.table.whole _ _ (index_is c.args.entries.now c.args.place c.index-entries-place.result c.requires.cell.0)

pub empty-requires : goal.empty-requires
empty-requires c =
    let there = index_is c.args.entries.now c.args.place c.index-entries-place-2.result c.requires.cell.0 in
    (c.requires.cell.1, λ z. c.requires.held (cell_is _ c.requires.table.whole _ _ _ there c.requires.cell.1 ∙ z))

pub returns-then-was_full : goal.returns-then-was_full
returns-then-was_full c =
    let there = index_is c.args.entries.now c.args.place c.index-entries-place-2.result c.requires.cell.0 in
    let before = index_is c.args.entries.now c.args.place c.index-entries-place.result c.requires.cell.0 in
    let read = get_or-set_same c.args.entries.now c.args.place c.empty.new.entry _ c.requires.cell.0 in
    let held : get_or (cells_here (get_or c.args.entries.now c.args.place c.index-entries-place-2.result).block) c.args.cell [] ≢ [] = λ z. c.requires.held (cell_is _ c.requires.table.whole _ _ _ there c.requires.cell.1 ∙ z) in
    let none : c.free_cells-was_full.result ≡ 0 = search rules in
    let closed : free_here (get_or c.args.entries.now c.args.place c.index-entries-place-2.result).block ≡ 0 = ap (λ (e : Entry). free_here e.block) (same_at c.args.entries.now c.args.place _ _ there before) ∙ sym c.free_cells-was_full.ensures ∙ none in
    subst (λ (l : List Entry). IsReleased c.args.entries.now (c.args.place * 64 + c.args.cell) l c.args.place) (sym (set-set c.args.entries.now c.args.place c.empty.new.entry _))
    (released_by _ _ _ _ _ _ _ c.requires.table there c.requires.cell.1 held (ap (λ (e : Entry). e.block) (read ∙ c.empty.ensures)) (inl (closed, refl, refl)))

pub returns : goal.returns
returns c =
    let there = index_is c.args.entries.now c.args.place c.index-entries-place-2.result c.requires.cell.0 in
    let before = index_is c.args.entries.now c.args.place c.index-entries-place.result c.requires.cell.0 in
    let held : get_or (cells_here (get_or c.args.entries.now c.args.place c.index-entries-place-2.result).block) c.args.cell [] ≢ [] = λ z. c.requires.held (cell_is _ c.requires.table.whole _ _ _ there c.requires.cell.1 ∙ z) in
    let some_free : 0 < c.free_cells-was_full.result = search rules in
    let opened : IsOpen (get_or c.args.entries.now c.args.place c.index-entries-place-2.result).block = subst (λ (n : ℕ). 0 < n) (c.free_cells-was_full.ensures ∙ ap (λ (e : Entry). free_here e.block) (same_at c.args.entries.now c.args.place _ _ before there)) some_free in
    released_by _ _ _ _ _ _ _ c.requires.table there c.requires.cell.1 held (ap (λ (e : Entry). e.block) c.empty.ensures) (inr (opened, ap (λ (e : Entry). e.next) c.empty.ensures, refl))
