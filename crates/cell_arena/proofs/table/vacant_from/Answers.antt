use Rattle.std.proofs.Common.{rules, ◌≡◌, get_or, None, inr}
use Rattle.cell_arena.proofs.Lists.{index_is}
use Rattle.cell_arena.proofs.table.vacant_from.Goals as goal

pub returns-then-is_none : goal.returns-then-is_none
returns-then-is_none c =
    let none : (get_or c.args.entries.now c.loop-place.place c.index-entries-place.result).block ≡ None = search rules in
    inr (_, index_is c.args.entries.now c.loop-place.place c.index-entries-place.result c.loop-place-test.true, none)
