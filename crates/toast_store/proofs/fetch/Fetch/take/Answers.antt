use Rattle.std.proofs.Common.{sym, ap, ◌∙◌, subst}
use Rattle.std.proofs.lemmas.Result.{err_from_is_err_and}
use Rattle.toast_store.specs.Walks.{IsUnderWay}
use Rattle.toast_store.specs.Fetches.{Fetching}
use Rattle.toast_store.specs.Stores.{Store}
use Rattle.toast_store.proofs.Walked.{steps_taken}
use Rattle.toast_store.proofs.Outcomes.{cause_taken, due_taken, same_taken, same_asked, with_chunk_walk}
use Rattle.toast_store.proofs.fetch.Fetch.take.Goals as goal

pub returns-in_err-read-in-Some-clause-cause : goal.returns-in_err-read-in-Some-clause-cause
returns-in_err-read-in-Some-clause-cause c =
    let p = err_from_is_err_and c.from_residual.result c.from_residual.ensures.1 in
    rw (p.1, p.2) (cause_taken c.args.store.now _ c.args.self.now c.in-Some.entry _ c.self.view_is (sym c.in-Some.ensures.entry) c.in_err-read-in-Some.ensures.cause)

pub returns-in_err-read-in-Some-clause-refused : goal.returns-in_err-read-in-Some-clause-refused
returns-in_err-read-in-Some-clause-refused c =
    let p = err_from_is_err_and c.from_residual.result c.from_residual.ensures.1 in
    rw (p.1, p.2) (due_taken c.args.store.now _ c.args.self.now c.in-Some.entry _ c.self.view_is (sym c.in-Some.ensures.entry) c.in_err-read-in-Some.ensures.refused)

pub returns-in_ok-read-in-Some-clause-same : goal.returns-in_ok-read-in-Some-clause-same
returns-in_ok-read-in-Some-clause-same c =
    let reads = c.in_ok-read-in-Some.ensures.read in
    same_taken c.args.store.now _ _ c.args.self.now _ c.in-Some.entry _ c.self.view_is (sym c.in-Some.ensures.entry) (c.self-in-Some.view_is ∙ reads) (rw reads at c.in_ok-read-in-Some.ensures.same) c.pass.ensures.walk c.pass.ensures.store

pub returns-in_ok-ask-in-None-clause-same : goal.returns-in_ok-ask-in-None-clause-same
returns-in_ok-ask-in-None-clause-same c = same_asked c.args.store.now _ _ c.args.self.now _ c.self.view_is c.requires.sound.index (c.in-None.ensures.stage (subst (λ (f : Fetching). IsUnderWay f.walk.stage) (sym c.self.view_is) c.requires.under_way)) c.in_ok-ask-in-None.ensures.walk c.in_ok-ask-in-None.ensures.store

pub returns-in_ok-read-in-Some-clause-left : goal.returns-in_ok-read-in-Some-clause-left
returns-in_ok-read-in-Some-clause-left c =
    let reads = c.self-in-Some.view_is ∙ c.in_ok-read-in-Some.ensures.read in
    steps_taken c.args.store.now.index _ c.args.self.now.walk _ _ _ (ap (λ (f : Fetching). f.walk) c.self.view_is) (ap (λ (f : Fetching). f.walk) reads ∙ with_chunk_walk c.args.self.now _) c.requires.sound.index c.entry.ensures.sound c.requires.under_way c.pass.ensures.walk (ap (λ (s : Store). s.index) c.pass.ensures.store)

pub returns-in_ok-ask-in-None-clause-left : goal.returns-in_ok-ask-in-None-clause-left
returns-in_ok-ask-in-None-clause-left c =
    let same = ap (λ (f : Fetching). f.walk) c.self.view_is in
    steps_taken c.args.store.now.index _ c.args.self.now.walk _ _ _ same same c.requires.sound.index c.entry.ensures.sound c.requires.under_way c.in_ok-ask-in-None.ensures.walk (ap (λ (s : Store). s.index) c.in_ok-ask-in-None.ensures.store)
