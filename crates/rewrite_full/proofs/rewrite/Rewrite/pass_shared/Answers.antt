use Rattle.std.proofs.Common.{◌-◌, subst, arith}
use Rattle.std.proofs.lemmas.Option.{slice_get_within}
use Rattle.tuple_layout.specs.declared.cell.Cell.TheVariants.{Inline}
use Rattle.rewrite_facts.specs.Rewrites.{Rewriting, table_of}
use Rattle.rewrite_full.specs.Moves.{IsSharedAt}
use Rattle.rewrite_full.proofs.Lefts.{more_passed}
use Rattle.rewrite_full.proofs.Settles.{next_inline, passed_one}
use Rattle.rewrite_full.proofs.rewrite.Rewrite.pass_shared.Goals as goal

pub pointer_of-pointer-requires : goal.pointer_of-pointer-requires
pointer_of-pointer-requires c = next_inline (table_of c.args.old.now.rows.now c.args.old.now.toast.now) c.args.self.now.toast c.args.self.now.place c.loop-at.copy c.args.columns.now c.loop-at.at c.in-Some.column c.in-Some.ensures.some.column c.loop-at.invariant.0.stage.0

pub with_pointer-copy-requires-clause-there : goal.with_pointer-copy-requires-clause-there
with_pointer-copy-requires-clause-there c =
    let has = next_inline (table_of c.args.old.now.rows.now c.args.old.now.toast.now) c.args.self.now.toast c.args.self.now.place c.loop-at.copy c.args.columns.now c.loop-at.at c.in-Some.column c.in-Some.ensures.some.column c.loop-at.invariant.0.stage.0 in
    slice_get_within c.loop-at.copy.cells (c.in-Some.column - 1) (Inline has.value) has.inline

pub loop-at-preserved : goal.loop-at-preserved
loop-at-preserved c =
    let old = table_of c.args.old.now.rows.now c.args.old.now.toast.now in
    let holds = passed_one c.args.old.now.xacts.now c.args.old.now.snaps.now old c.args.self.now c.loop-at.copy c.with_pointer-copy.result c.args.columns.now c.loop-at.at (c.in-Some.column, c.in-Some.id) c.args.toast_rel c.pointer_of-pointer.result
    c.requires.own (subst (λ (r : Rewriting). IsSharedAt r.toast c.loop-at.copy c.args.columns.now c.loop-at.at (c.in-Some.column, c.in-Some.id)) c.self.view_is c.in-Some.ensures.some) c.pointer_of-pointer.ensures.pointer c.pointer_of-pointer.ensures.in_range c.with_pointer-copy.ensures c.loop-at.invariant.0 in
    let passed = more_passed old c.args.self.now.place c.loop-at.copy c.with_pointer-copy.result c.args.columns.now c.loop-at.at c.in-Some.column c.pointer_of-pointer.result c.with_pointer-copy.ensures in
    (holds, omega (arith, c.loop-at.invariant.1, passed))

pub returns-clause-unshared : goal.returns-clause-unshared
returns-clause-unshared c column id here had =
    let within = slice_get_within c.args.columns.now c.loop-at.at column here in
    absurd (grind (arith, within, c.loop-at-test.false, c.as_slice-count.ensures.all))
