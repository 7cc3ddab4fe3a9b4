use Rattle.std.proofs.Common.{ap, arith, refl, ◌∙◌}
use Rattle.std.proofs.lemmas.Bool.Decides.{nat_tests}
use Rattle.std.specs.Prelude.{Bool, List, false, nat_lt, ◌≡◌, ◌≤◌}
use Rattle.tuple_layout.specs.Sizes.{largest_tuple}
use Rattle.tuple_layout.specs.Tuples.{cell_widths}
use Rattle.tuple_layout.specs.declared.cell.Cell.{Cell}
use Rattle.tuple_toaster.proofs.AllLeast.{all_least}
use Rattle.tuple_toaster.proofs.AllSmall.{size_small}
use Rattle.tuple_toaster.specs.Pushed.{all_moved_size, pushed, size_with, tuple_target}
use Rattle.command_set.specs.Replies.{answers_if}
use Rattle.command_set.specs.declared.Reply.TheVariants as replies
use Rattle.core_writing.proofs.begin.plan_of_row.Goals as goal

pub overflow_cast-result : goal.overflow_cast-result
overflow_cast-result c =
    let schema = c.args.schema.now.storages in
    let small = size_small schema c.args.new.now.cells c.requires.columns c.requires.can.one_each c.requires.can.limits in
    let is = c.in-Err.ensures.all_out (omega arith) ∙ ap (λ (cells : List Cell). all_moved_size schema (cell_widths cells)) c.as_slice.ensures in
    omega (arith, small, is)

pub returns-in-Ok-clause-fits : goal.returns-in-Ok-clause-fits
returns-in-Ok-clause-fits c =
    let schema = c.args.schema.now.storages in
    let ws = cell_widths c.args.new.now.cells in
    let least = all_least schema ws tuple_target in
    let fits : size_with schema ws (pushed schema ws tuple_target) ≤ largest_tuple = rw c.as_slice.ensures at (c.in-Ok.ensures.fits refl) in
    let small : nat_lt largest_tuple (all_moved_size schema ws) ≡ false = grind (arith, nat_tests, least, fits) in
    ap (λ (b : Bool). answers_if b (replies.TooBig (all_moved_size schema ws))) small
