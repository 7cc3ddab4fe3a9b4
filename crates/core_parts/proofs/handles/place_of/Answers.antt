use Rattle.std.proofs.Common.{ap, length, not, ◌∙◌}
use Rattle.std.proofs.lemmas.List.Sums.{prefix_len-le-length}
use Rattle.std.specs.Option.{unwrap_or}
use Rattle.std.specs.Prelude.{nat_lt}
use Rattle.core_state.specs.declared.seat.Handle.{Handle}
use Rattle.core_parts.proofs.Named.{place_from}
use Rattle.core_parts.proofs.handles.place_of.Goals as goal

pub returns-clause-place : goal.returns-clause-place
returns-clause-place c = c.unwrap_or.ensures ∙ ap (λ o. unwrap_or o (length c.args.handles.now)) c.first_after.ensures ∙ place_from (λ (other : Handle). nat_lt c.args.name other.name) c.args.handles.now

pub returns-clause-within : goal.returns-clause-within
returns-clause-within c =
    let least = prefix_len-le-length (λ (other : Handle). not (nat_lt c.args.name other.name)) c.args.handles.now in
    rw (c.unwrap_or.ensures ∙ ap (λ o. unwrap_or o (length c.args.handles.now)) c.first_after.ensures ∙ place_from (λ (other : Handle). nat_lt c.args.name other.name) c.args.handles.now) least
