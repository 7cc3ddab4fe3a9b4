use Rattle.std.proofs.Common.{◌-◌, Some, None, sym, ap, ◌∙◌, subst}
use Rattle.std.proofs.lemmas.Result.{IfOk-weaker}
use Rattle.tuple_layout.specs.declared.cell.Cell.TheVariants.{Inline}
use Rattle.rewrite_facts.specs.Holds.{RewriteHolds}
use Rattle.rewrite_facts.specs.Rewrites.{Rewriting, at_stage, column_at, table_of}
use Rattle.rewrite_facts.specs.declared.stage.RowCopy.{RowCopy}
use Rattle.rewrite_facts.specs.declared.stage.RewriteStage.{RewriteStage}
use Rattle.rewrite_facts.specs.declared.stage.RewriteStage.TheVariants.{Filling, Laying, Placing, Reading, Visiting}
use Rattle.rewrite_facts.proofs.Cells.{within_limits}
use Rattle.rewrite_facts.proofs.Reading.{hold_read, hold_reading}
use Rattle.rewrite_full.specs.Stages.{IsDrawing}
use Rattle.rewrite_full.proofs.Acts.{act_draw, act_lay, act_put, both_ok, draws_at, laying_from, laying_here, laying_there, placing_fits, stands_at, steps_told}
use Rattle.rewrite_full.proofs.Lefts.{fewer_drawn, fewer_laid, fewer_read, fewer_reading}
use Rattle.rewrite_full.proofs.Settles.{next_inline}
use Rattle.rewrite_full.proofs.rewrite.Rewrite.act.Goals as goal

pub draw-requires : goal.draw-requires
draw-requires c =
    let old = table_of c.args.rows.now c.args.toast.now in
    let stands = stands_at old c.args.self.now c.args.stage (Placing c.in-Placing.copy c.in-Placing.columns c.in-Placing.at) c.in-Placing.is c.requires.stands in
    record { value = next_inline old c.args.self.now.toast c.args.self.now.place c.in-Placing.copy c.in-Placing.columns c.in-Placing.at c.in-Some-column_at.column (sym c.column_at.ensures ∙ c.in-Some-column_at.is) stands.0 }

pub put-requires-clause-limits : goal.put-requires-clause-limits
put-requires-clause-limits c =
    let old = table_of c.args.rows.now c.args.toast.now in
    let stands = stands_at old c.args.self.now c.args.stage (Placing c.in-Placing.copy c.in-Placing.columns c.in-Placing.at) c.in-Placing.is c.requires.stands in
    within_limits old.rows.schema.storages c.in-Placing.copy.cells stands.0.new_one.has.one_each stands.0.new_one.limits

pub put-requires-clause-size : goal.put-requires-clause-size
put-requires-clause-size c sound has =
    let old = table_of c.args.rows.now c.args.toast.now in
    let stands = stands_at old c.args.self.now c.args.stage (Placing c.in-Placing.copy c.in-Placing.columns c.in-Placing.at) c.in-Placing.is c.requires.stands in
    placing_fits old c.args.self.now.toast c.args.self.now.place c.in-Placing.copy c.in-Placing.columns c.in-Placing.at sound has (sym c.column_at.ensures ∙ c.in-None-column_at.is) stands.0

pub lay-requires-clause-here : goal.lay-requires-clause-here
lay-requires-clause-here c =
    let stands = stands_at (table_of c.args.rows.now c.args.toast.now) c.args.self.now c.args.stage (Laying c.in-Laying.copy c.in-Laying.columns c.in-Laying.at c.in-Laying.pieces) c.in-Laying.is c.requires.stands in
    laying_here c.in-Laying.columns c.in-Laying.at stands.1.0.column stands.1.0.here

pub lay-requires-clause-from : goal.lay-requires-clause-from
lay-requires-clause-from c =
    let stands = stands_at (table_of c.args.rows.now c.args.toast.now) c.args.self.now c.args.stage (Laying c.in-Laying.copy c.in-Laying.columns c.in-Laying.at c.in-Laying.pieces) c.in-Laying.is c.requires.stands in
    laying_from c.in-Laying.columns c.in-Laying.at stands.1.0.column stands.1.0.here (stands.0.push.there c.in-Laying.at stands.1.0.column stands.1.0.here)

pub lay-requires-clause-there : goal.lay-requires-clause-there
lay-requires-clause-there c =
    let stands = stands_at (table_of c.args.rows.now c.args.toast.now) c.args.self.now c.args.stage (Laying c.in-Laying.copy c.in-Laying.columns c.in-Laying.at c.in-Laying.pieces) c.in-Laying.is c.requires.stands in
    laying_there c.in-Laying.copy c.in-Laying.columns c.in-Laying.at stands.1.0.column (column_at c.in-Laying.columns c.in-Laying.at - 1) c.in-Laying.pieces.value (Inline c.in-Laying.pieces.value) stands.1.0.here stands.1.0.value

pub returns-in-Some-column_at-clause-holds : goal.returns-in-Some-column_at-clause-holds
returns-in-Some-column_at-clause-holds c xacts snaps holds =
    let old = table_of c.args.rows.now c.args.toast.now in
    let here = sym c.column_at.ensures ∙ c.in-Some-column_at.is in
    let none = subst IsDrawing c.in-Placing.is c.requires.drawing c.in-Some-column_at.column here in
    IfOk-weaker c.draw.result _ _ (λ (next : RewriteStage) draws. act_draw xacts snaps old (at_stage c.args.self.now c.args.stage) c.args.ids.now c.draw.new.ids c.in-Placing.copy c.in-Placing.columns c.in-Placing.at c.in-Some-column_at.column next c.in-Placing.is here none (draws_at c.args.toast.now c.args.ids.now c.args.self.now c.args.stage c.in-Placing.copy c.in-Placing.columns c.in-Placing.at c.in-Some-column_at.column c.draw.new.ids next draws) holds) c.draw.ensures.ok

pub returns-in-None-column_at-clause-holds : goal.returns-in-None-column_at-clause-holds
returns-in-None-column_at-clause-holds c xacts snaps holds =
    let old = table_of c.args.rows.now c.args.toast.now in
    let none = sym c.column_at.ensures ∙ c.in-None-column_at.is in
    both_ok c.put.result _ _ _ (λ (next : RewriteStage) visits is. act_put xacts snaps old (at_stage c.args.self.now c.args.stage) (at_stage c.put.new.self next) c.in-Placing.copy c.in-Placing.columns c.in-Placing.at c.in-Placing.is none (ap (λ (s : RewriteStage). at_stage c.put.new.self s) visits ∙ ap (λ (r : Rewriting). at_stage r Visiting) is) holds) c.put.ensures.stage c.put.ensures.put

pub returns-in-Laying-clause-holds : goal.returns-in-Laying-clause-holds
returns-in-Laying-clause-holds c xacts snaps holds =
    let old = table_of c.args.rows.now c.args.toast.now in
    let stands = stands_at old c.args.self.now c.args.stage (Laying c.in-Laying.copy c.in-Laying.columns c.in-Laying.at c.in-Laying.pieces) c.in-Laying.is c.requires.stands in
    let here = laying_here c.in-Laying.columns c.in-Laying.at stands.1.0.column stands.1.0.here in
    IfOk-weaker c.lay.result _ _ (λ (next : RewriteStage) lays. subst (λ (r : Rewriting). RewriteHolds xacts snaps old (at_stage r next)) (sym c.lay.ensures.rest) (act_lay xacts snaps old (at_stage c.args.self.now c.args.stage) c.in-Laying.copy c.in-Laying.columns c.in-Laying.at c.in-Laying.pieces c.lay.new.self.toast next c.in-Laying.is here c.lay.ensures.sound lays holds)) c.lay.ensures.ok

pub returns-in-Some-column_at-clause-falls : goal.returns-in-Some-column_at-clause-falls
returns-in-Some-column_at-clause-falls c =
    let old = table_of c.args.rows.now c.args.toast.now in
    let stands = stands_at old c.args.self.now c.args.stage (Placing c.in-Placing.copy c.in-Placing.columns c.in-Placing.at) c.in-Placing.is c.requires.stands in
    IfOk-weaker c.draw.result _ _ (λ (next : RewriteStage) draws. fewer_drawn old c.args.ids.now c.draw.new.ids c.args.self.now c.args.stage next c.in-Placing.copy c.in-Placing.columns c.in-Placing.at c.in-Some-column_at.column c.in-Placing.is (sym c.column_at.ensures ∙ c.in-Some-column_at.is) stands.0 draws) c.draw.ensures.ok

pub returns-in-Laying-clause-falls : goal.returns-in-Laying-clause-falls
returns-in-Laying-clause-falls c =
    let old = table_of c.args.rows.now c.args.toast.now in
    IfOk-weaker c.lay.result _ _ (λ (next : RewriteStage) lays. fewer_laid old c.args.self.now c.lay.new.self c.args.stage next c.in-Laying.copy c.in-Laying.columns c.in-Laying.at c.in-Laying.pieces c.args.self.now.toast.rel.rel_id (ap (λ (r : Rewriting). r.place) c.lay.ensures.rest) c.in-Laying.is lays) c.lay.ensures.ok

pub returns-in-None-clause-holds : goal.returns-in-None-clause-holds
returns-in-None-clause-holds c xacts snaps holds =
    let old = table_of c.args.rows.now c.args.toast.now in
    let steps = steps_told c.args.toast.now c.read.new.toast c.in-Reading.fetch c.read.new.fetch c.in_ok-read-in-Reading.field-0 None c.in-None.is c.in_ok-read-in-Reading.ensures.ok in
    hold_reading xacts snaps old (at_stage c.args.self.now c.args.stage) c.in-Reading.copy c.in-Reading.at c.in-Reading.fetch c.read.new.fetch c.read.new.toast c.in-Reading.is steps holds

pub returns-in-Some-clause-holds : goal.returns-in-Some-clause-holds
returns-in-Some-clause-holds c xacts snaps holds =
    let old = table_of c.args.rows.now c.args.toast.now in
    let steps = steps_told c.args.toast.now c.read.new.toast c.in-Reading.fetch c.read.new.fetch c.in_ok-read-in-Reading.field-0 (Some c.in-Some.value) c.in-Some.is c.in_ok-read-in-Reading.ensures.ok in
    subst (λ (copy : RowCopy). RewriteHolds xacts snaps (table_of c.args.rows.now c.read.new.toast) (at_stage c.args.self.now (Filling copy))) (sym c.with_value.ensures)
    (hold_read xacts snaps old (at_stage c.args.self.now c.args.stage) c.in-Reading.copy c.in-Reading.at c.in-Reading.fetch c.read.new.fetch c.read.new.toast c.in-Some.value c.in-Reading.is c.requires.sound steps holds)

pub returns-in-None-clause-falls : goal.returns-in-None-clause-falls
returns-in-None-clause-falls c =
    let old = table_of c.args.rows.now c.args.toast.now in
    let steps = steps_told c.args.toast.now c.read.new.toast c.in-Reading.fetch c.read.new.fetch c.in_ok-read-in-Reading.field-0 None c.in-None.is c.in_ok-read-in-Reading.ensures.ok in
    fewer_reading old c.args.self.now c.args.stage c.in-Reading.copy c.in-Reading.at c.in-Reading.fetch c.read.new.fetch c.read.new.toast c.in-Reading.is steps

pub returns-in-Some-clause-falls : goal.returns-in-Some-clause-falls
returns-in-Some-clause-falls c =
    let old = table_of c.args.rows.now c.args.toast.now in
    let stands = stands_at old c.args.self.now c.args.stage (Reading c.in-Reading.copy c.in-Reading.at c.in-Reading.fetch) c.in-Reading.is c.requires.stands in
    let steps = steps_told c.args.toast.now c.read.new.toast c.in-Reading.fetch c.read.new.fetch c.in_ok-read-in-Reading.field-0 (Some c.in-Some.value) c.in-Some.is c.in_ok-read-in-Reading.ensures.ok in
    fewer_read old c.args.self.now c.args.stage c.in-Reading.copy c.with_value.result c.in-Reading.at c.in-Reading.fetch c.read.new.fetch c.read.new.toast c.in-Some.value c.in-Reading.is stands.1 steps c.with_value.ensures
