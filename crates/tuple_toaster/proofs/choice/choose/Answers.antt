use Rattle.std.proofs.Common.{◌≡◌, ◌<◌, ◌≤◌, [], sym, arith}
use Rattle.tuple_layout.specs.Tuples.{cell_widths}
use Rattle.tuple_toaster.specs.Pushed.{size_with}
use Rattle.tuple_toaster.proofs.Walks.{chosen_none, chosen_more, chosen_fits}
use Rattle.tuple_toaster.proofs.choice.choose.Goals as goal

pub loop-out-init : goal.loop-out-init
loop-out-init c =
    let none : c.new-out.result ≡ [] = c.new-out.ensures in
    rw none (chosen_none c.args.schema.now.storages (cell_widths c.args.cells.now) c.args.target)

pub push-requires : goal.push-requires
push-requires c =
    let ws = cell_widths c.args.cells.now in
    let large : c.args.target < size_with c.args.schema.now.storages ws c.loop-out.out = omega (arith, c.loop-out-test.true, c.size_with.ensures) in
    let more = chosen_more c.args.schema.now.storages ws c.args.target c.in-Some.column c.in-Some.field-0-1 c.loop-out.out c.loop-out.invariant large (sym c.in-Some.ensures.first) in
    omega (arith, more.1, c.in-Some.ensures.few)

pub loop-out-preserved : goal.loop-out-preserved
loop-out-preserved c =
    let ws = cell_widths c.args.cells.now in
    let large : c.args.target < size_with c.args.schema.now.storages ws c.loop-out.out = omega (arith, c.loop-out-test.true, c.size_with.ensures) in
    let more = chosen_more c.args.schema.now.storages ws c.args.target c.in-Some.column c.in-Some.field-0-1 c.loop-out.out c.loop-out.invariant large (sym c.in-Some.ensures.first) in
    rw c.push.ensures more.0

pub returns-after-loop-out : goal.returns-after-loop-out
returns-after-loop-out c =
    let small : size_with c.args.schema.now.storages (cell_widths c.args.cells.now) c.loop-out.out ≤ c.args.target = omega (arith, c.loop-out-test.false, c.size_with.ensures) in
    chosen_fits c.args.schema.now.storages (cell_widths c.args.cells.now) c.args.target c.loop-out.out c.loop-out.invariant small
