-- A change more is within its ranges, and nothing is gathered behind it.
use Rattle.std.proofs.Common.{◌++◌, ◌∷◌, [], List, ap, ◌∙◌}
use Rattle.std.proofs.lemmas.List.Elements.{All-push}
use Rattle.stream_wire.specs.Spelling.{IsInRange}
use Rattle.stream_wire.specs.declared.message.Message.{Message}
use Rattle.decode_stream.proofs.Opens.{open_change}
use Rattle.decode_stream.proofs.open.Open.change.Goals as goal

pub invariant_of-self-2 : goal.invariant_of-self-2
invariant_of-self-2 c = rw (c.push_kept.ensures, c.in_ok-reserve.ensures.items) (All-push IsInRange c.self.inside.changes.items c.in_ok-change.change c.self.invariant c.in_ok-change.ensures.range)

pub returns-clause-ok : goal.returns-clause-ok
returns-clause-ok c =
    rw (← c.self.view_is)
    (open_change _ _ c.args.e.now c.in_ok-change.change c.requires.row c.in_ok-change.ensures.ok
    (c.push_kept.ensures ∙ ap (λ (before : List Message). before ++ c.in_ok-change.change ∷ []) c.in_ok-reserve.ensures.items)
    c.new.ensures.empty)
