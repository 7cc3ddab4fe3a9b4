use Rattle.std.proofs.Common.{not, ◌==◌, rules}
use Rattle.std.proofs.lemmas.Fn.{filter_same}
use Rattle.std.proofs.lemmas.List.Kept.{IsStrictlySortedBy-filter}
use Rattle.chunk_index.specs.declared.entry.Pin.{Pin}
use Rattle.chunk_index.specs.Pinned.{pin_cmp}
use Rattle.chunk_index.proofs.pins.Pins.unpin.Goals as goal

pub invariant_of-self : goal.invariant_of-self
invariant_of-self c =
    let kept = λ (p : Pin). not (p.session == c.args.session) in
    rw (filter_same _ kept _ (λ x b f' k. search rules) _ _ c.retain.ensures.filtered) (IsStrictlySortedBy-filter pin_cmp kept c.self.inside.pins.items c.self.invariant)

pub returns-clause-dropped : goal.returns-clause-dropped
returns-clause-dropped c = rw (← c.self.view_is) (filter_same _ (λ (p : Pin). not (p.session == c.args.session)) _ (λ x b f' k. search rules) _ _ c.retain.ensures.filtered)

pub returns-clause-sorted : goal.returns-clause-sorted
returns-clause-sorted c =
    let kept = λ (p : Pin). not (p.session == c.args.session) in
    rw (filter_same _ kept _ (λ x b f' k. search rules) _ _ c.retain.ensures.filtered) (IsStrictlySortedBy-filter pin_cmp kept c.self.inside.pins.items c.self.invariant)
