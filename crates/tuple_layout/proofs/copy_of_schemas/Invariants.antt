use Rattle.std.proofs.Common.{◌≡◌, take}
use Rattle.tuple_layout.proofs.copy_of_schemas.Given as goal

abbrev pub invariant-loop-schema : goal.invariant-loop-schema
invariant-loop-schema l = l.copies ≡ take l.schema-index l.schema-items
