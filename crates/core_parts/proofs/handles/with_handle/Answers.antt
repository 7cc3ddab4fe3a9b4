use Rattle.std.proofs.Common.{ap, ◌∙◌}
use Rattle.std.specs.List.{insert, position_or_len}
use Rattle.std.specs.Prelude.{List, nat_lt, ℕ}
use Rattle.core_state.specs.declared.seat.Handle.{Handle}
use Rattle.core_parts.proofs.Named.{inserted_is}
use Rattle.core_parts.proofs.handles.with_handle.Goals as goal

pub returns : goal.returns
returns c =
    c.from_vec.ensures ∙ c.insert_kept.ensures
    ∙ ap (λ (n : ℕ). insert c.args.handles.items n c.args.handle) (c.place_of-place.ensures.place ∙ ap (λ (hs : List Handle). position_or_len (λ other. nat_lt c.args.handle.name other.name) hs) c.as_slice.ensures.value)
    ∙ inserted_is c.args.handles.items c.args.handle c.requires.named c.requires.new
