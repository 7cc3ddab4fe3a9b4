use Rattle.std.proofs.Common.{◌≡◌, ap, arith}
use Rattle.cell_arena.specs.Entries.{blocks_here, total}
use Rattle.cell_arena.proofs.Entries.{blocks_length}
use Rattle.cell_arena.proofs.arena.CellArena.reserve.Goals as goal

pub overflow_add-self : goal.overflow_add-self
overflow_add-self c =
    let new = c.add_all-first.new.entries in
    let sum = c.add_all-first.ensures.blocks in
    let same : total blocks_here c.reserve.new.self.items ≡ total blocks_here c.self.inside.entries.items = ap (total blocks_here) c.in_ok-reserve.ensures.items in
    let was = c.self.invariant.blocks_is in
    let few = blocks_length new.items in
    let long = new.ok.0 in
    let room = new.ok.1 in
    let small = new.small in
    let count = c.in_ok-fresh.ensures.0 in
    let fresh = c.in_ok-fresh.fresh.ok.0 in
    record { fits = omega (arith, sum, same, was, few, long, room, small, count, fresh) }
