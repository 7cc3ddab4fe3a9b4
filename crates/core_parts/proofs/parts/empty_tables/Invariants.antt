use Rattle.std.proofs.Common.{◌≡◌, ◌+◌, ◌++◌, drop}
use Rattle.core_parts.specs.First.{AreTablesMade, tables_from}
use Rattle.core_parts.proofs.parts.empty_tables.Given as goal

abbrev pub invariant-loop-schema : goal.invariant-loop-schema
invariant-loop-schema l = record { number : l.number ≡ l.schema-index; tables : l.tables.items ++ tables_from (l.schema-index + 1) (drop l.schema-index l.schema-items) ≡ tables_from 1 l.schema-items; made : AreTablesMade l.tables.items }
