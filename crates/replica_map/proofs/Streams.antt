-- A stream is applied part by part.
use Rattle.std.proofs.Common.{◌≡◌, List, [], ◌∷◌, ◌++◌, Result, Ok, Err, refl}
use Rattle.tuple_layout.specs.Places.{Rows}
use Rattle.stream_wire.specs.declared.message.Message.{Message}
use Rattle.replica_map.specs.declared.fault.ApplyFault.{ApplyFault}
use Rattle.replica_map.specs.Applies.{and_then, apply_all, apply_message}

-- what comes after a step that came to this
and_then-append : (step : Result Rows ApplyFault) (ms ns : List Message) → ((rows : Rows) → apply_all rows (ms ++ ns) ≡ and_then (λ after. apply_all after ns) (apply_all rows ms))
    → and_then (λ after. apply_all after (ms ++ ns)) step ≡ and_then (λ after. apply_all after ns) (and_then (λ after. apply_all after ms) step)
and_then-append (Ok rows) ms ns h = h rows
and_then-append (Err fault) ms ns h = refl

-- the messages of two streams, one after the other
pub apply_all-append : (rows : Rows) (ms ns : List Message) → apply_all rows (ms ++ ns) ≡ and_then (λ after. apply_all after ns) (apply_all rows ms)
apply_all-append rows [] ns = refl
apply_all-append rows (m ∷ ms) ns = and_then-append (apply_message rows m) ms ns (λ after. apply_all-append after ms ns)
