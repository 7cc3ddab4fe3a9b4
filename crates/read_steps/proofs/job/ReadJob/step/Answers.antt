use Rattle.std.proofs.Common.{◌≡◌, ℕ, List, ap, sym, subst, ◌∙◌}
use Rattle.tuple_layout.specs.declared.cell.Cell.{Cell}
use Rattle.tuple_layout.specs.declared.cell.Stored.{Stored}
use Rattle.toast_store.specs.Fetches.{Fetching}
use Rattle.toast_store.specs.declared.fetch.FetchStep.{FetchStep}
use Rattle.read_steps.specs.Reads.{Reading, CanRead, row_left, with_value}
use Rattle.read_steps.specs.Sound.{IsReadStage}
use Rattle.read_steps.specs.Fetched.{FetchEnds, FetchGoesOn, FetchLeaves}
use Rattle.read_steps.specs.declared.stage.ReadStage.{ReadStage}
use Rattle.read_steps.specs.declared.stage.ReadStage.TheVariants as stages
use Rattle.toast_store.proofs.Begun.{some_left}
use Rattle.read_steps.proofs.Leaving.{part_begins, row_begins, row_comes, value_ends, value_goes}
use Rattle.read_steps.proofs.job.ReadJob.step.Goals as goal

-- a read stands at a stage
stands : (session : ℕ) (stage at : ReadStage) (read : Reading) → stage ≡ at → record { session = session; stage = stage } ≡ read → record { session = session; stage = at } ≡ read
stands session stage at read e is = subst (λ (s : ReadStage). record { session = session; stage = s } ≡ read) e is

pub begin_row-requires-clause-comes : goal.begin_row-requires-clause-comes
begin_row-requires-clause-comes c = row_comes c.args.toast.now c.self.inside.session c.in-Row.stored c.args.self.now (stands c.self.inside.session _ _ _ c.in-Row.is c.self.view_is) c.requires.comes

pub returns-in_default-clause-leaves : goal.returns-in_default-clause-leaves
returns-in_default-clause-leaves c =
    let goes : FetchGoesOn c.args.toast.now c.in-RowValue.fetch c.fetch_on.new.toast c.fetch_on.new.fetch = subst (λ (step : FetchStep). FetchLeaves c.args.toast.now c.in-RowValue.fetch c.fetch_on.new.toast c.fetch_on.new.fetch step) c.in_default.is c.in_ok-bytes-in-RowValue.ensures.leaves in
    value_goes c.args.toast.now _ c.self.inside.session c.in-RowValue.stored c.in-RowValue.at c.in-RowValue.fetch _ c.args.self.now (stands c.self.inside.session _ _ _ c.in-RowValue.is c.self.view_is) c.in_ok-bytes-in-RowValue.ensures.toast goes

pub returns-in_ok-stage-in-Row-clause-leaves : goal.returns-in_ok-stage-in-Row-clause-leaves
returns-in_ok-stage-in-Row-clause-leaves c = row_begins c.args.toast.now _ c.self.inside.session c.in-Row.stored c.args.self.now (c.in_ok-stage-in-Row.stage, c.in_ok-stage-in-Row.step) (stands c.self.inside.session _ _ _ c.in-Row.is c.self.view_is) c.in_ok-stage-in-Row.ensures.begun c.in_ok-stage-in-Row.ensures.toast c.in_ok-stage-in-Row.ensures.goes

pub returns-in-Done-clause-leaves : goal.returns-in-Done-clause-leaves
returns-in-Done-clause-leaves c =
    let stored : Stored = c.in-RowValue.stored in
    let fetch : Fetching = c.in-RowValue.fetch in
    let stage : ReadStage = stages.RowValue stored c.in-RowValue.at fetch in
    let is = stands c.self.inside.session _ _ _ c.in-RowValue.is c.self.view_is in
    let own : IsReadStage c.self.inside.session stage = subst (λ (s : ReadStage). IsReadStage c.self.inside.session s) c.in-RowValue.is c.self.invariant.2 in
    let can : CanRead c.args.toast.now (record { session = c.self.inside.session; stage = stage }) = subst (λ (r : Reading). CanRead c.args.toast.now r) (sym is) c.requires.can in
    let some = some_left c.args.toast.now.index.entries (Fetching.walk fetch) own.1.some can.can_step.0 in
    let ends : FetchEnds c.args.toast.now fetch c.fetch_on.new.toast c.in-Done.bytes = subst (λ (step : FetchStep). FetchLeaves c.args.toast.now fetch c.fetch_on.new.toast c.fetch_on.new.fetch step) c.in-Done.is c.in_ok-bytes-in-RowValue.ensures.leaves in
    let left_is : c.row_left-stage.result ≡ row_left (with_value stored c.in-RowValue.at c.in-Done.bytes) =
    c.row_left-stage.ensures
    ∙ ap (λ (cells : List Cell). row_left (record { key = c.taken-stored.result.key; cells = cells })) c.set.ensures
    ∙ ap (λ (taken : Stored). row_left (with_value taken c.in-RowValue.at c.in-Done.bytes)) c.taken-stored.ensures in
    value_ends c.args.toast.now _ c.self.inside.session stored c.in-RowValue.at fetch c.in-Done.bytes c.args.self.now c.row_left-stage.result is c.in_ok-bytes-in-RowValue.ensures.toast own.1.of_session some ends left_is

pub returns-in_ok-stage-in-Part-clause-leaves : goal.returns-in_ok-stage-in-Part-clause-leaves
returns-in_ok-stage-in-Part-clause-leaves c = part_begins c.args.toast.now _ c.self.inside.session c.in-Part.cell c.in-Part.span c.args.self.now (c.in_ok-stage-in-Part.stage, c.in_ok-stage-in-Part.step) (stands c.self.inside.session _ _ _ c.in-Part.is c.self.view_is) c.in_ok-stage-in-Part.ensures.begun c.in_ok-stage-in-Part.ensures.toast c.in_ok-stage-in-Part.ensures.goes
