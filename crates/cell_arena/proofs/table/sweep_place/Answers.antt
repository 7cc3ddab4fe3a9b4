use Rattle.std.proofs.Common.{rules, ◌≡◌, ◌≢◌, ◌⊎◌, ◌<◌, ◌≤◌, ◌+◌, ◌-◌, ℕ, get_or, inl, inr, refl, sym, ap, ◌∙◌, subst, arith}
use Rattle.cell_arena.specs.Entries.{free_here}
use Rattle.cell_arena.specs.declared.entry.Entry.{Entry}
use Rattle.cell_arena.proofs.Lists.{index_is, same_at}
use Rattle.cell_arena.proofs.Entries.{total_at}
use Rattle.cell_arena.proofs.Sweeps.{sweep_given, sweep_kept, sweep_linked}
use Rattle.cell_arena.proofs.table.sweep_place.Goals.{else-free-eq-BLOCK_CELLS-via-then-free-eq-BLOCK_CELLS+else-keep-swept, else-free-eq-BLOCK_CELLS-via-else-free-eq-BLOCK_CELLS}
use Rattle.cell_arena.proofs.table.sweep_place.Goals as goal

pub free_cells-free-requires : goal.free_cells-free-requires
free_cells-free-requires c = c.requires.whole _ _ (index_is c.args.entries.now c.args.place c.index-entries-place.result c.requires.place)

pub overflow_sub-swept : goal.overflow_sub-swept
overflow_sub-swept c =
    let all : c.free_cells-free.result ≡ 64 = search rules in
    let is = c.free_cells-free.ensures in
    let part = total_at free_here c.args.entries.now c.args.place _ (index_is c.args.entries.now c.args.place c.index-entries-place.result c.requires.place) in
    let sum = c.requires.spare in
    omega (arith, all, is, part, sum)

pub overflow_sub-result : goal.overflow_sub-result
overflow_sub-result c =
    let all : c.free_cells-free.result ≡ 64 = search rules in
    let is = c.free_cells-free.ensures in
    let part = total_at free_here c.args.entries.now c.args.place _ (index_is c.args.entries.now c.args.place c.index-entries-place.result c.requires.place) in
    let sum = c.requires.spare in
    omega (arith, all, is, part, sum)

pub returns-then-keep-swept : goal.returns-then-keep-swept
returns-then-keep-swept c old a =
    let all : c.free_cells-free.result ≡ 64 = search rules in
    let there = index_is c.args.entries.now c.args.place c.index-entries-place.result c.requires.place in
    let is = c.free_cells-free.ensures in
    let part = total_at free_here c.args.entries.now c.args.place _ there in
    let sum = c.requires.spare in
    let left : c.args.keep ≤ c.args.swept.spare - 64 = search rules in
    sweep_given old _ _ _ _ _ _ a there refl (sym is ∙ all) (omega (arith, all, is, part, sum)) left

pub returns-then-free-gt0 : goal.returns-then-free-gt0
returns-then-free-gt0 c old a =
    let there = index_is c.args.entries.now c.args.place c.index-entries-place.result c.requires.place in
    let again = index_is c.args.entries.now c.args.place c.index-entries-place-then-free-gt0.result c.requires.place in
    let some_free : 0 < c.free_cells-free.result = search rules in
    let opened = subst (λ (n : ℕ). 0 < n) c.free_cells-free.ensures some_free in
    let e = get_or c.args.entries.now c.args.place c.index-entries-place.result in
    let stays : (free_here e.block ≢ 64) ⊎ (c.args.swept.spare < c.args.keep + 64) = elim c.else-free-eq-BLOCK_CELLS.branch [
      | else-free-eq-BLOCK_CELLS-via-then-free-eq-BLOCK_CELLS+else-keep-swept w ↦ let few = w.if-keep-swept.false in inr (omega (arith, few))
      | else-free-eq-BLOCK_CELLS-via-else-free-eq-BLOCK_CELLS w ↦ inl (λ z. w.if-free-eq-BLOCK_CELLS.false (c.free_cells-free.ensures ∙ z))
    ] in
    sweep_linked old _ _ _ _ _ _ a there (ap (λ (e : Entry). e.block) (same_at c.args.entries.now c.args.place _ _ again there)) refl opened stays

pub returns : goal.returns
returns c old a =
    let there = index_is c.args.entries.now c.args.place c.index-entries-place.result c.requires.place in
    let none : c.free_cells-free.result ≡ 0 = search rules in
    sweep_kept old _ _ _ _ _ a there (sym c.free_cells-free.ensures ∙ none)
