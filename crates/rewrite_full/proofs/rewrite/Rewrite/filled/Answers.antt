use Rattle.std.proofs.Common.{ℕ, ap, subst}
use Rattle.std.specs.Prelude.{IfOk}
use Rattle.std.proofs.lemmas.Result.{IfOk-weaker}
use Rattle.tuple_layout.specs.Schemas.{TableSchema}
use Rattle.rewrite_facts.specs.Rewrites.{Rewriting, at_stage, table_of}
use Rattle.rewrite_facts.specs.declared.stage.RewriteStage.{RewriteStage}
use Rattle.rewrite_facts.specs.declared.stage.RewriteStage.TheVariants.{Filling}
use Rattle.rewrite_facts.proofs.Cells.{within_limits}
use Rattle.rewrite_full.specs.Moves.{IsNextOf}
use Rattle.rewrite_full.proofs.Lefts.{more_filled}
use Rattle.rewrite_full.proofs.Settles.{filled_on, filling_fits, stands_here}
use Rattle.rewrite_full.proofs.rewrite.Rewrite.filled.Goals as goal

pub next_of-requires-clause-limits : goal.next_of-requires-clause-limits
next_of-requires-clause-limits c =
    let old = table_of c.args.old.now.rows.now c.args.old.now.toast.now in
    let stands = stands_here c.args.old.now.xacts.now c.args.old.now.snaps.now old (at_stage c.args.self.now c.args.stage) (Filling c.in-Filling.copy) c.in-Filling.is c.requires.holds in
    within_limits old.rows.schema.storages c.in-Filling.copy.cells stands.0.has.one_each stands.0.limits

pub next_of-requires-clause-fits : goal.next_of-requires-clause-fits
next_of-requires-clause-fits c none columns =
    let old = table_of c.args.old.now.rows.now c.args.old.now.toast.now in
    let stands = stands_here c.args.old.now.xacts.now c.args.old.now.snaps.now old (at_stage c.args.self.now c.args.stage) (Filling c.in-Filling.copy) c.in-Filling.is c.requires.holds in
    rw c.schema.ensures.schema (filling_fits old c.args.self.now.place c.in-Filling.copy c.schema.ensures.sound (rw c.schema.ensures.schema at columns) none stands.0)

pub returns-in-Filling-clause-holds : goal.returns-in-Filling-clause-holds
returns-in-Filling-clause-holds c =
    let old = table_of c.args.old.now.rows.now c.args.old.now.toast.now in
    let r = at_stage c.args.self.now c.args.stage in
    IfOk-weaker c.next_of.result _ _ (λ (next : RewriteStage) is. filled_on c.args.old.now.xacts.now c.args.old.now.snaps.now old r c.in-Filling.copy next c.in-Filling.is c.requires.sound is c.requires.holds)
    (subst (λ (n : ℕ). IfOk c.next_of.result (IsNextOf old.rows.schema.storages n c.in-Filling.copy)) (ap (λ (r : Rewriting). r.session) c.self.view_is) (subst (λ (s : TableSchema). IfOk c.next_of.result (IsNextOf s.storages c.self.inside.session c.in-Filling.copy)) c.schema.ensures.schema c.next_of.ensures))

pub returns-in-Filling-clause-left : goal.returns-in-Filling-clause-left
returns-in-Filling-clause-left c =
    let old = table_of c.args.old.now.rows.now c.args.old.now.toast.now in
    IfOk-weaker c.next_of.result _ _ (λ (next : RewriteStage) is. more_filled old c.args.self.now c.args.stage next c.in-Filling.copy c.self.inside.session c.in-Filling.is is)
    (subst (λ (s : TableSchema). IfOk c.next_of.result (IsNextOf s.storages c.self.inside.session c.in-Filling.copy)) c.schema.ensures.schema c.next_of.ensures)
