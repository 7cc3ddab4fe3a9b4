use Rattle.std.proofs.Common.{◌≡◌, ℕ, Ok, sym, ap, ◌∙◌, subst}
use Rattle.slice_fetch.specs.Spans.{bytes_in}
use Rattle.toast_store.specs.Walks.{new_walk}
use Rattle.toast_store.specs.Fetches.{Fetching, outcome}
use Rattle.toast_store.proofs.Wholes.{outcome_whole}
use Rattle.toast_store.proofs.Held.{held_new}
use Rattle.toast_store.proofs.fetch.Fetch.new.Goals as goal

pub returns-clause-whole : goal.returns-clause-whole
returns-clause-whole c = λ store value is whole.
    let got = c.in_ok-reserve.ensures ∙ c.new-got.ensures in
    let next = ap (λ (ends : ℕ × ℕ). ends.0) c.pieces_of-first.ensures in
    let walk = c.new.ensures ∙ ap (λ (ends : ℕ × ℕ). new_walk c.args.p.value_id ends.0 ends.1 c.args.session) c.pieces_of-first.ensures in
    subst (λ (f : Fetching). outcome store f ≡ Ok (bytes_in c.args.span value)) (λ i. record { size = c.args.p.size; span = c.args.span; got = sym got i; next = sym next i; walk = sym walk i })
    (outcome_whole store c.args.p c.args.span c.args.session value c.requires.ordered c.requires.within is whole)

pub returns-clause-batch : goal.returns-clause-batch
returns-clause-batch c = λ entries. rw c.new.ensures (held_new c.args.p.value_id c.pieces_of-first.result.0 c.pieces_of-first.result.1 c.args.session entries)
