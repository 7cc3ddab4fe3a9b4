use Rattle.std.proofs.Common.{ℕ, List, Option, None, sym, ap, ◌∙◌, set, subst}
use mathlib.Core.Option.{some}
use Rattle.cell_arena.specs.Held.{AreHeld}
use Rattle.cell_arena.proofs.Lists.{index_is}
use Rattle.cell_arena.proofs.Held.{held_less}
use Rattle.cell_arena.proofs.tests.free.Goals as goal

pub free-requires : goal.free-requires
free-requires c = c.requires.held.each c.args.k c.in-Some.id (index_is c.args.ids.now c.args.k c.index-ids-k.result c.requires.there ∙ ap (λ (x : Option ℕ). some x) (sym c.in-Some.ensures.value))

pub returns-in-Some-clause-held : goal.returns-in-Some-clause-held
returns-in-Some-clause-held c =
    let there = index_is c.args.ids.now c.args.k c.index-ids-k.result c.requires.there ∙ ap (λ (x : Option ℕ). some x) (sym c.in-Some.ensures.value) in
    let less = held_less c.args.arena.now.cells c.args.ids.now c.args.k c.in-Some.id c.requires.held there in
    let cells = subst (λ (cells : List (List ℕ)). AreHeld cells (set c.args.ids.now c.args.k None)) (sym c.free.ensures.cells) less in
    subst (λ (x : Option ℕ). AreHeld c.free.new.self.cells (set c.args.ids.now c.args.k x)) (sym c.in-Some.ensures.after) cells
