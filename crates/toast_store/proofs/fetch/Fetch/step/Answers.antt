use Rattle.std.proofs.Common.{◌≡◌, ◌<◌, ◌≤◌, true, false, List, ℕ, sym, ap, ◌∙◌, subst}
use Rattle.std.proofs.lemmas.Bool.{le-ltb, lt-ltb}
use Rattle.toast_store.specs.Walks.{IsStage, is_over}
use Rattle.toast_store.specs.Fetches.{Fetching, FetchSteps, store_after_fault}
use Rattle.toast_store.specs.declared.fault.FetchFault.TheVariants.{MissingChunk}
use Rattle.toast_store.specs.declared.fetch.FetchStep.TheVariants.{Done}
use Rattle.toast_store.specs.contracts.fetch.Fetch.{the_view}
use Rattle.toast_store.proofs.Fetched.{HasTaken, fetch_gives_up, fetch_goes_on, fetch_is_done, fetch_misses}
use Rattle.toast_store.proofs.fetch.Fetch.step.Goals as goal

pub returns-in-Err-clause-err : goal.returns-in-Err-clause-err
returns-in-Err-clause-err c =
    let took = c.in-Err.ensures in
    fetch_gives_up c.args.store.now c.take.new.store c.give_up.new.store c.args.self.now c.take.new.self c.give_up.new.self c.in-Err.fault _ took.fetch_stays took.store_stays took.cause took.refused c.give_up.ensures.fault c.give_up.ensures.fetch c.give_up.ensures.store

pub returns-then-not-is_over-clause-ok : goal.returns-then-not-is_over-clause-ok
returns-then-not-is_over-clause-ok c =
    let took = c.in_default.ensures in
    let going : is_over c.take.new.self.walk.stage ≡ false = ap (λ (f : Fetching). is_over f.walk.stage) (sym c.self.view_is) ∙ sym c.is_over.ensures.over ∙ c.if-not-is_over.true in
    let stage = subst (λ (f : Fetching). IsStage f.walk.first f.walk.end f.walk.stage) c.self.view_is c.is_over.ensures.sound in
    fetch_goes_on c.args.store.now c.take.new.store c.args.self.now c.take.new.self (record { stage = took.stage; fetch = took.fetch; store = took.store; same = took.same; left = took.left; taken = took.taken }) stage going

pub returns-then-self-end-clause-err : goal.returns-then-self-end-clause-err
returns-then-self-end-clause-err c =
    let took = c.in_default.ensures in
    let has : HasTaken c.args.store.now c.args.self.now c.take.new.store c.take.new.self = record { stage = took.stage; fetch = took.fetch; store = took.store; same = took.same; left = took.left; taken = took.taken } in
    let over : is_over c.self.inside.walk.stage ≡ true = sym c.is_over.ensures.over ∙ c.if-not-is_over.false in
    let wanted : c.self.inside.next < c.self.inside.walk.end = subst (λ (n : ℕ). c.self.inside.next < n) c.end.ensures c.if-self-end.true in
    fetch_misses c.args.store.now c.take.new.store c.give_up-then-self-end.new.store c.args.self.now (the_view c.self.inside) c.give_up-then-self-end.new.self _ c.facts.ensures.index (subst (HasTaken c.args.store.now c.args.self.now c.take.new.store) (sym c.self.view_is) has) over
    (lt-ltb c.self.inside.next c.self.inside.walk.end wanted) c.give_up-then-self-end.ensures.fault c.give_up-then-self-end.ensures.fetch
    (c.give_up-then-self-end.ensures.store ∙ ap (λ (f : Fetching). store_after_fault c.take.new.store f.walk.session (MissingChunk c.self.inside.next)) (sym c.self.view_is))

pub returns-clause-ok : goal.returns-clause-ok
returns-clause-ok c =
    let took = c.in_default.ensures in
    let has : HasTaken c.args.store.now c.args.self.now c.take.new.store c.take.new.self = record { stage = took.stage; fetch = took.fetch; store = took.store; same = took.same; left = took.left; taken = took.taken } in
    let over : is_over c.self.inside.walk.stage ≡ true = sym c.is_over.ensures.over ∙ c.if-not-is_over.false in
    let all : c.self.inside.walk.end ≤ c.self.inside.next = subst (λ (n : ℕ). n ≤ c.self.inside.next) c.end.ensures c.if-self-end.false in
    subst (λ (bytes : List ℕ). FetchSteps c.args.store.now c.args.self.now c.take.new.store (record (the_view c.self.inside) { got = c.replace.new.dest }) (Done bytes)) (sym c.replace.ensures.value)
    (fetch_is_done c.args.store.now c.take.new.store c.args.self.now (the_view c.self.inside) c.replace.new.dest (subst (HasTaken c.args.store.now c.args.self.now c.take.new.store) (sym c.self.view_is) has) over (le-ltb c.self.inside.next c.self.inside.walk.end all))
