use Rattle.std.proofs.Common.{◌≡◌, ◌≤◌, List, length, sym, ap, subst, arith}
use Rattle.tuple_layout.specs.Tuples.{HasTuple, tuple}
use Rattle.tuple_layout.specs.declared.Storage.{Storage}
use Rattle.tuple_layout.specs.declared.cell.Cell.{Cell}
use Rattle.tuple_layout.specs.declared.cell.Stored.{Stored}
use Rattle.table_state.specs.Tables.{IsStored, stored_in}
use Rattle.table_state.proofs.Tuples.{cells_of_tuple}
use Rattle.row_trials.proofs.tables.row_of.Goals as goal

-- the tuple of a stored row is one that can be read
of_stored : (schema : List Storage) (stored : Stored) → length schema ≤ 8 → HasTuple schema stored → IsStored schema stored.key (tuple schema stored)
of_stored schema stored few has = record { has = subst (HasTuple schema) (sym row) has; is = ap (tuple schema) (sym row) }
  where
    row : stored_in schema stored.key (tuple schema stored) ≡ stored
    row = ap (λ (cells : List Cell). record stored { cells = cells }) (cells_of_tuple schema stored few has)

pub returns : goal.returns
returns g c = subst (IsStored c.args.schema.now.storages c.in_ok-stored.stored.key) (sym c.in_ok-stored.ensures.found.1)
    (of_stored c.args.schema.now.storages c.in_ok-stored.stored (omega arith) c.in_ok-stored.ensures.found.0)
