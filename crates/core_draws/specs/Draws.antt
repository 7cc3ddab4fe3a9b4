-- How many ids are in use for a table, and how many draws the writes under way on it still owe.
use Rattle.std.specs.Prelude.{Bool, List, count_by, if◌then◌else◌, length, option_to_list, sum_by, ℕ, ◌+◌, ◌-◌, ◌==◌}
use Rattle.value_ids.specs.Ids.{id_count, ids_from, is_in_use}
use Rattle.toast_store.specs.Stores.{is_used}
use Rattle.write_steps.specs.declared.stage.WriteStage.{WriteStage}
use Rattle.core_state.specs.Coming.{id_drawn, to_push}
use Rattle.core_state.specs.State.{CoreState, table_at}
use Rattle.core_state.specs.declared.seat.Job.{Job}
use Rattle.core_state.specs.declared.seat.Seat.{Seat}
use Rattle.core_state.specs.declared.seat.Job.TheVariants as jobs

-- whether an id is in use for a table: an entry of it names a chunk, or it is in hand
abbrev pub in_use_for : CoreState → ℕ → ℕ → Bool
in_use_for c t id = is_in_use (is_used (table_at c.tables t).toast) c.ids.in_hand t id

-- how many ids of the core's range are in use for a table
abbrev pub ids_used : CoreState → ℕ → ℕ
ids_used c t = count_by (in_use_for c t) (ids_from c.ids.low (id_count c.ids))

-- how many ids a write has still to draw: one for each column that is to go out, but for the one whose value has its id
abbrev pub draws_left : WriteStage → ℕ
draws_left stage = length (to_push stage) - length (option_to_list (id_drawn stage))

-- how many a job has still to draw for a table
abbrev pub draws_of : ℕ → Job → ℕ
draws_of t jobs.Idle = 0
draws_of t (jobs.Submitted command) = 0
draws_of t (jobs.Reading table snapshot read) = 0
draws_of t (jobs.Writing table write) = if table == t then draws_left write.stage else 0

-- and all sessions together
abbrev pub draws_owed : List Seat → ℕ → ℕ
draws_owed seats t = sum_by (λ seat. draws_of t seat.job) seats

-- the ids in use for a table, and the draws that are owed
abbrev pub draws_counted : CoreState → ℕ → ℕ
draws_counted c t = ids_used c t + draws_owed c.seats t

-- the draws for a table that begin with an event: those of the write that goes on from the moment of its command
abbrev pub draws_begun : Job → Job → ℕ → ℕ
draws_begun jobs.Idle later t = 0
draws_begun (jobs.Submitted command) later t = draws_of t later
draws_begun (jobs.Reading table snapshot read) later t = 0
draws_begun (jobs.Writing table write) later t = 0
