-- What is there now for a session.
use Rattle.std.specs.Prelude.{Bool, ℕ, ℤ}
use Rattle.slot_page.specs.declared.line.Tid.{Tid}
use Rattle.table_rows.specs.Views.{is_found}
use Rattle.core_state.specs.State.{CoreState, seat_of, table_at}
use Rattle.core_state.specs.Views.{in_sight}

-- whether the version at a tid is the row that is there at a key of a table, whatever the session's snapshot shows
abbrev pub is_there_now : CoreState → ℕ → ℕ → ℤ → Tid → Bool
is_there_now c s t key tid = is_found (in_sight c.xacts (seat_of c s).state) (table_at c.tables t).rows.pages key tid
