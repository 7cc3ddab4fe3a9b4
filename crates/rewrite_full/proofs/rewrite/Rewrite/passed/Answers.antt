use Rattle.std.proofs.Common.{refl, sym, ◌∙◌, subst, arith}
use Rattle.tuple_layout.specs.declared.cell.Cell.TheVariants.{Null}
use Rattle.rewrite_facts.specs.Holds.{RewriteHolds}
use Rattle.rewrite_facts.specs.Rewrites.{at_stage, table_of, with_cell}
use Rattle.rewrite_facts.specs.declared.stage.RewriteStage.{RewriteStage}
use Rattle.rewrite_full.specs.Stages.{IsBegun}
use Rattle.rewrite_full.proofs.Lefts.{more_kept}
use Rattle.rewrite_full.proofs.Settles.{next_inline, passed_kept}
use Rattle.rewrite_full.proofs.rewrite.Rewrite.passed.Goals as goal

pub begun-requires : goal.begun-requires
begun-requires c = next_inline (table_of c.args.old.now.rows.now c.args.old.now.toast.now) c.args.self.now.toast c.args.self.now.place c.pass_shared-copy.result.0 c.in-Placing.columns c.pass_shared-copy.result.1 c.in-Some.column (sym c.column_at.ensures ∙ c.in-Some.is) c.pass_shared-copy.ensures.holds.stage.0

pub returns-clause-holds : goal.returns-clause-holds
returns-clause-holds c =
    let old = table_of c.args.old.now.rows.now c.args.old.now.toast.now in
    let here = sym c.column_at.ensures ∙ c.in-Some.is in
    let had = sym c.id_at.ensures ∙ c.in-Some-id_at.is in
    let begun : IsBegun c.args.self.now.xid c.pass_shared-copy.result.0 c.in-Placing.columns c.pass_shared-copy.result.1 c.in-Some.column c.in-Some-id_at.id c.begun.result = c.begun.ensures in
    subst (λ (s : RewriteStage). RewriteHolds c.args.old.now.xacts.now c.args.old.now.snaps.now old (at_stage c.args.self.now s)) (sym begun.stage_is)
    (passed_kept c.args.old.now.xacts.now c.args.old.now.snaps.now old c.args.self.now c.pass_shared-copy.result.0 (with_cell c.pass_shared-copy.result.0 c.in-Some.column Null) c.in-Placing.columns c.pass_shared-copy.result.1 c.in-Some.column c.in-Some-id_at.id begun.value
    here had (c.pass_shared-copy.ensures.unshared c.in-Some.column c.in-Some-id_at.id here had) refl begun.inline c.pass_shared-copy.ensures.holds)

pub returns-clause-left : goal.returns-clause-left
returns-clause-left c =
    let old = table_of c.args.old.now.rows.now c.args.old.now.toast.now in
    let here = sym c.column_at.ensures ∙ c.in-Some.is in
    let can = c.pass_shared-copy.ensures.holds.stage.0.push.values c.pass_shared-copy.result.1 c.in-Some.column (omega arith) here in
    let begun : IsBegun c.args.self.now.xid c.pass_shared-copy.result.0 c.in-Placing.columns c.pass_shared-copy.result.1 c.in-Some.column c.in-Some-id_at.id c.begun.result = c.begun.ensures in
    more_kept old c.args.self.now c.args.stage c.begun.result c.in-Placing.copy c.pass_shared-copy.result.0 c.in-Placing.columns c.in-Placing.at c.pass_shared-copy.result.1 c.in-Some.column c.args.self.now.xid c.in-Some-id_at.id c.in-Placing.is can begun c.pass_shared-copy.ensures.left
