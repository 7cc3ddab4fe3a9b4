use Rattle.std.proofs.Common.{◌-◌, ◌/◌, ℕ, List, ◌++◌, length, take, drop, sym, ◌∙◌, subst}
use Rattle.cell_arena.specs.Cells.{CellMap, IsGivenBack}
use Rattle.cell_arena.specs.Entries.{cells_of}
use Rattle.cell_arena.specs.Sweeps.{AreSwept}
use Rattle.cell_arena.specs.declared.entry.Entry.{Entry}
use Rattle.cell_arena.proofs.Lists.{all_kept}
use Rattle.cell_arena.proofs.Sweeps.{given_back}
use Rattle.cell_arena.proofs.arena.CellArena.give_back_blocks.Goals as goal

pub returns : goal.returns
returns c =
    let old = c.self.inside.entries.items in
    let new = c.sweep-swept.new.entries in
    let s = c.sweep-swept.result in
    let a = subst (λ (l : List Entry). AreSwept l c.args.keep (length l) s new) c.deref_mut.ensures.value c.sweep-swept.ensures in
    let back = given_back old new c.args.keep c.self.inside.spare c.self.inside.blocks s c.self.invariant.spare_is c.self.invariant.blocks_is a in
    let all = all_kept new old c.self.inside.entries.len (a.size ∙ sym c.self.inside.entries.ok.0) in
    let given : ℕ = (c.self.inside.spare - s.spare) / 64 in
    let seen : List Entry → CellMap = λ l. record { cells = cells_of l; spare = s.spare; blocks = c.self.inside.blocks - given } in
    subst (λ (m : CellMap). IsGivenBack m c.args.keep given (seen (take c.self.inside.entries.len (new ++ drop (length new) old)))) c.self.view_is
    (subst (λ (l : List Entry). IsGivenBack (record { cells = cells_of old; spare = c.self.inside.spare; blocks = c.self.inside.blocks }) c.args.keep given (seen l)) (sym all) back)
