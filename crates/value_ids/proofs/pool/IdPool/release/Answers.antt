use Rattle.std.proofs.Common.{not, ◌==◌, rules}
use Rattle.std.proofs.lemmas.Fn.{filter_same}
use Rattle.value_ids.specs.declared.pool.InHand.{InHand}
use Rattle.value_ids.proofs.pool.IdPool.release.Goals as goal

pub returns-clause-released : goal.returns-clause-released
returns-clause-released c =
    let kept = filter_same _ (λ (held : InHand). not (held.session == c.args.session)) _ (λ x b f' k. search rules) _ _ c.retain.ensures.filtered in
    rw (← c.self.view_is) (λ i. record { low = c.self.inside.low; high = c.self.inside.high; next = c.self.inside.next; in_hand = kept i })
