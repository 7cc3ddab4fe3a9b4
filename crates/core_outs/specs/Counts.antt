-- The draw count: how many columns of a table the granted writes of a journal push.
use Rattle.std.specs.Option.{option_map_or}
use Rattle.std.specs.Prelude.{List, [], drop, if◌then◌else◌, length, sum_by, ℕ, ◌+◌, ◌==◌, ◌∷◌}
use Rattle.tuple_layout.specs.Sizes.{widths}
use Rattle.tuple_toaster.specs.Pushed.{is_among, pushed, tuple_target}
use Rattle.command_set.specs.Journals.{Moment, moments}
use Rattle.command_set.specs.Replies.{schema_of}
use Rattle.command_set.specs.declared.JournalEntry.{JournalEntry}
use Rattle.command_set.specs.declared.Script.{Script}
use Rattle.change_stream.specs.Streams.{Stream, first_stream, put_by, stream_after, written_after, written_of}
use Rattle.change_stream.specs.declared.written.Written.{Written}

-- how many columns go out of line at a change that puts a row in a table, beside those that it keeps there
abbrev pub pushed_by : Script → ℕ → Written → ℕ
pushed_by script t w = option_map_or (λ put. if put.0.table == t then length (pushed (schema_of script.schemas put.0.table).storages (widths put.1 (is_among w.kept)) tuple_target) else 0) (put_by w.change) 0

-- the same of the changes that a moment adds to its session's: the one of a granted write, else none
abbrev pub pushed_at : Script → Stream → Moment → ℕ → ℕ
pushed_at script st x t = sum_by (pushed_by script t) (drop (length (written_of st x.entry.session)) (written_after script st x))

-- and of these moments together
abbrev pub pushed_through : Script → Stream → List Moment → ℕ → ℕ
pushed_through script st [] t = 0
pushed_through script st (x ∷ xs) t = pushed_at script st x t + pushed_through script (stream_after script st x) xs t

-- the draw count of a table after these entries: no upkeep is built, so that no rewrite adds to it
abbrev pub draw_count : Script → List JournalEntry → ℕ → ℕ
draw_count script journal t = pushed_through script (first_stream (length script.sessions)) (moments script journal) t
