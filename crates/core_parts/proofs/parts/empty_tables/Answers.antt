use Rattle.std.proofs.Common.{ap, ◌∙◌}
use Rattle.std.specs.Prelude.{ℕ, ◌+◌}
use Rattle.table_state.specs.LookUps.{no_rows}
use Rattle.core_parts.proofs.First.{made_pushed, tables_pushed}
use Rattle.core_parts.proofs.parts.empty_tables.Goals as goal

pub loop-schema-preserved : goal.loop-schema-preserved
loop-schema-preserved c = record {
  number = ap (λ (n : ℕ). n + 1) c.loop-schema.invariant.number;
  tables = rw c.in_ok-push.ensures.items (tables_pushed c.loop-schema.tables.items c.as_slice-schema-items.result.now c.loop-schema.schema-index c.schema-item.result c.in_ok-empty_table.field-0 c.loop-schema-test.true c.schema-item.is
      (c.in_ok-empty_table.ensures.is ∙ ap (λ (n : ℕ). no_rows c.schema-item.result (n + 1)) c.loop-schema.invariant.number) c.loop-schema.invariant.tables);
  made = rw c.in_ok-push.ensures.items (made_pushed c.loop-schema.tables.items c.in_ok-empty_table.field-0 c.loop-schema.invariant.made c.in_ok-empty_table.ensures.made);
}
