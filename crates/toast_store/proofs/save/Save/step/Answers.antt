use Rattle.std.proofs.Common.{ℕ, ◌≡◌, ◌+◌, true, false, Result, Ok, Err, IfErr, refl, sym, ap, ◌∙◌, subst}
use Rattle.std.specs.Result.{IsErrAnd}
use Rattle.std.proofs.lemmas.Bool.{false≢true}
use Rattle.external_pointer.specs.Spelling.{IsInRange}
use Rattle.value_ids.specs.Ids.{Pool}
use Rattle.external_pointer.specs.declared.external.Pointer.{Pointer}
use Rattle.toast_store.specs.PieceJobs.{Piecing, is_laid, new_pieces, pointer_to}
use Rattle.toast_store.specs.Saves.{Saving, IsSave, SaveFails, SaveStands, SaveSteps, parts_of, saving_of}
use Rattle.toast_store.specs.declared.save.SaveStage.{SaveStage}
use Rattle.toast_store.specs.declared.save.SaveStage.TheVariants as stages
use Rattle.toast_store.specs.declared.save.SaveStep.TheVariants.{More, Done}
use Rattle.toast_store.proofs.Saving.{draw_fails, draw_steps, lay_steps}
use Rattle.toast_store.proofs.save.Save.step.Goals as goal

-- a fault that was handed on has the cause that it had
handed_on : {T E : Type 0} (r : Result T E) (P : E → Type 0) (fault : E) → IsErrAnd r (λ e. e ≡ fault) → P fault → IfErr r P
handed_on (Ok x) P fault is h = tt
handed_on (Err e) P fault is h = subst P (sym is) h

-- a save that was opened at a stage
opened : (table session : ℕ) (found stage : SaveStage) (save : Saving) → saving_of table session found ≡ save → found ≡ stage → saving_of table session stage ≡ save
opened table session found stage save view is = ap (saving_of table session) (sym is) ∙ view

pub returns-in_err-value_id-in-Drawing-clause-err : goal.returns-in_err-value_id-in-Drawing-clause-err
returns-in_err-value_id-in-Drawing-clause-err c =
    let stage = stages.Drawing c.in-Drawing.xid c.in-Drawing.value in
    let old = parts_of c.args.store.now c.args.ids.now c.args.log.now in
    let new = parts_of c.args.store.now c.draw.new.self c.args.log.now in
    let save = saving_of c.self.inside.table c.self.inside.session stage in
    let refused = c.in_err-value_id-in-Drawing.ensures in
    handed_on c.from_residual.result (SaveFails old c.args.self.now new save) _ c.from_residual.ensures.1
    (draw_fails old new save c.args.self.now _ (opened c.self.inside.table c.self.inside.session c.self.inside.stage stage c.args.self.now c.self.view_is c.in-Drawing.is) refl refused.cause (ap (λ (ids : Pool). parts_of c.args.store.now ids c.args.log.now) refused.unchanged))

pub returns-in_ok-value_id-in-Drawing-clause-ok : goal.returns-in_ok-value_id-in-Drawing-clause-ok
returns-in_ok-value_id-in-Drawing-clause-ok c =
    let stage = stages.Drawing c.in-Drawing.xid c.in-Drawing.value in
    let old = parts_of c.args.store.now c.args.ids.now c.args.log.now in
    let new = parts_of c.args.store.now c.draw.new.self c.args.log.now in
    let table = c.self.inside.table in
    let session = c.self.inside.session in
    let id = c.in_ok-value_id-in-Drawing.value_id in
    let is : IsSave (saving_of table session stage) = subst (λ (s : SaveStage). IsSave (saving_of table session s)) c.in-Drawing.is c.self.invariant in
    let job_is : c.new-in-Drawing.result ≡ new_pieces c.in-Drawing.xid id c.in-Drawing.value = c.new-in-Drawing.ensures.job ∙ ap (new_pieces c.in-Drawing.xid id) c.replace-value.ensures.value in
    subst (λ (j : Piecing). SaveSteps old c.args.self.now new (saving_of table session (stages.Laying j)) More) (sym job_is)
    (subst (λ (s : Saving). SaveSteps old s new (saving_of table session (stages.Laying (new_pieces c.in-Drawing.xid id c.in-Drawing.value))) More) (opened table session c.self.inside.stage stage c.args.self.now c.self.view_is c.in-Drawing.is)
    (draw_steps old new table session c.in-Drawing.xid id c.in-Drawing.value is.least c.in_ok-value_id-in-Drawing.ensures.id c.in_ok-value_id-in-Drawing.ensures.taken refl refl))

pub returns-then-is_over-clause-ok : goal.returns-then-is_over-clause-ok
returns-then-is_over-clause-ok c =
    let stage = stages.Laying c.in-Laying.job in
    let old = parts_of c.args.store.now c.args.ids.now c.args.log.now in
    let new = parts_of c.lay.new.store c.args.ids.now c.lay.new.log in
    let table = c.self.inside.table in
    let session = c.self.inside.session in
    let laid = c.in_ok-lay-in-Laying.ensures in
    let same = opened table session c.self.inside.stage stage c.args.self.now c.self.view_is c.in-Laying.is in
    let is : IsSave (saving_of table session stage) = subst (λ (s : SaveStage). IsSave (saving_of table session s)) c.in-Laying.is c.self.invariant in
    let stands = subst (SaveStands c.args.store.now c.args.ids.now) (sym same) c.requires.stands in
    let over : is_laid c.lay.new.job.stage ≡ true = sym c.is_over.ensures.over ∙ c.if-is_over.true in
    let pointer : c.pointer.result ≡ pointer_to c.lay.new.job (8192 + table) = c.pointer.ensures.pointer ∙ ap (λ (n : ℕ). pointer_to c.lay.new.job (8192 + n)) c.from-toast_rel.ensures in
    subst (λ (p : Pointer). SaveSteps old c.args.self.now new (saving_of table session (stages.Laying c.lay.new.job)) (Done p)) (sym pointer)
    (subst (λ (s : Saving). SaveSteps old s new (saving_of table session (stages.Laying c.lay.new.job)) (Done (pointer_to c.lay.new.job (8192 + table)))) same
    (lay_steps old new table session c.in-Laying.job c.lay.new.job true is.least laid.own laid.step refl laid.log stands over (λ h. subst IsInRange pointer c.pointer.ensures.in_range)))

pub returns-else-is_over-clause-ok : goal.returns-else-is_over-clause-ok
returns-else-is_over-clause-ok c =
    let stage = stages.Laying c.in-Laying.job in
    let old = parts_of c.args.store.now c.args.ids.now c.args.log.now in
    let new = parts_of c.lay.new.store c.args.ids.now c.lay.new.log in
    let table = c.self.inside.table in
    let session = c.self.inside.session in
    let laid = c.in_ok-lay-in-Laying.ensures in
    let same = opened table session c.self.inside.stage stage c.args.self.now c.self.view_is c.in-Laying.is in
    let is : IsSave (saving_of table session stage) = subst (λ (s : SaveStage). IsSave (saving_of table session s)) c.in-Laying.is c.self.invariant in
    let stands = subst (SaveStands c.args.store.now c.args.ids.now) (sym same) c.requires.stands in
    let going : is_laid c.lay.new.job.stage ≡ false = sym c.is_over.ensures.over ∙ c.if-is_over.false in
    subst (λ (s : Saving). SaveSteps old s new (saving_of table session (stages.Laying c.lay.new.job)) More) same
    (lay_steps old new table session c.in-Laying.job c.lay.new.job false is.least laid.own laid.step refl laid.log stands going (λ h. absurd (false≢true h)))
