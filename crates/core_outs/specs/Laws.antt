-- What the events of a core make of the columns that the stream tells of its rows, and how many draws the stream says that a moment begins.
use Rattle.std.specs.Prelude.{List, Option, length, map as mapped, true, ℕ, ◌≡◌, ◌≢◌, ◌≤◌, ◌⊎◌}
use Rattle.tuple_layout.specs.Schemas.{TableSchema}
use Rattle.command_set.specs.Journals.{Moment}
use Rattle.command_set.specs.declared.Command.{Command}
use Rattle.command_set.specs.declared.Kind.TheVariants as kinds
use Rattle.command_set.specs.declared.Reply.{Reply}
use Rattle.command_set.specs.declared.Script.{Script}
use Rattle.write_steps.specs.Writes.{Writing}
use Rattle.core_state.specs.Events.{Event}
use Rattle.core_state.specs.Facts.{IsSound}
use Rattle.core_state.specs.Lines.{after_submit}
use Rattle.core_state.specs.Moves.{OthersStay, Says}
use Rattle.core_state.specs.Stands.{Stands}
use Rattle.core_state.specs.State.{CoreState, is_past_moment, schemas_of, seat_of}
use Rattle.core_state.specs.declared.advance.Advance.{Advance}
use Rattle.core_parts.specs.First.{first_core}
use Rattle.core_events.specs.Advanced.{FailsBy}
use Rattle.core_events.specs.Laws.{IsSoundAt}
use Rattle.core_draws.specs.Draws.{draws_of}
use Rattle.change_stream.specs.Streams.{Stream, changes_of, first_stream, stream_after, written_of}
use Rattle.core_outs.specs.Counts.{pushed_at}
use Rattle.core_outs.specs.Outs.{OutsStand}
use Rattle.command_set.specs.declared.Reply.TheVariants as replies
use Rattle.core_state.specs.declared.advance.Advance.TheVariants as advances
use Rattle.core_state.specs.declared.seat.Job.TheVariants as jobs

-- what the stream tells is so of a core
abbrev pub StreamOuts : CoreState → Stream → Type 0
StreamOuts c st = OutsStand c st.outs (written_of st)

-- ---- a moment

-- a command's moment in a core, and in the plain store and the stream
pub record IsRun (c : CoreState) (new : CoreState) (advance : Advance) (script : Script) (st : Stream) (x : Moment) : Type 0 where
  pub at : IsSoundAt c x.entry.session
  pub sound : IsSound new
  pub others : OthersStay c x.entry.session new
  pub job : (seat_of c x.entry.session).job ≡ jobs.Submitted x.command
  pub event : Event c x.entry.session new advance
  -- the plain store before it and after it
  pub replies : List (Option Reply)
  pub later : List (Option Reply)
  pub stood : Stands c x.before replies
  pub stands : Stands new x.after later
  pub says : Says x.command (seat_of new x.entry.session).job advance x.reply
  -- its entry, and what the stream tells
  pub kind : x.entry.kind ≡ kinds.Run
  pub schemas : script.schemas ≡ schemas_of c.tables
  pub count : length st.written ≡ length c.seats
  pub told : (k : ℕ) → mapped (λ w. w.change) (written_of st k) ≡ changes_of x.before k

-- what the stream tells after it is so of the core then, and the draws that begin are no more than the columns that it pushes
pub record RunsOut : Type 0 where
  pub outs : (c new : CoreState) (advance : Advance) (script : Script) (st : Stream) (x : Moment) → IsRun c new advance script st x → StreamOuts c st → StreamOuts new (stream_after script st x)
  pub draws : (c new : CoreState) (advance : Advance) (script : Script) (st : Stream) (x : Moment) (t : ℕ) → IsRun c new advance script st x → StreamOuts c st → draws_of t (seat_of new x.entry.session).job ≤ pushed_at script st x t

-- ---- all else

-- a command that ends early, and the entry that tells of it
pub record IsCut (c new : CoreState) (st : Stream) (x : Moment) : Type 0 where
  pub at : IsSoundAt c x.entry.session
  pub others : OthersStay c x.entry.session new
  pub kind : (x.entry.kind ≡ kinds.NoValueId) ⊎ (x.entry.kind ≡ kinds.Memory)
  pub count : length st.written ≡ length c.seats

-- what the stream tells goes on to be so: from the first, as a command is submitted, through the later steps of commands, and where one ends early
pub record OutsKeep : Type 0 where
  pub first : (schemas : List TableSchema) (low high sessions : ℕ) → StreamOuts (first_core schemas low high sessions) (first_stream sessions)
  pub submitted : (c : CoreState) (s : ℕ) (command : Command) (st : Stream) → IsSoundAt c s → OthersStay c s (after_submit c s command) → (seat_of c s).job ≡ jobs.Idle → StreamOuts c st → StreamOuts (after_submit c s command) st
  pub stepped : (c : CoreState) (s : ℕ) (new : CoreState) (advance : Advance) (st : Stream) → IsSoundAt c s → OthersStay c s new → is_past_moment (seat_of c s).job ≡ true → Event c s new advance → advance ≢ advances.Done replies.NoValueId → StreamOuts c st → StreamOuts new st
  pub refused : (c new : CoreState) (script : Script) (st : Stream) (x : Moment) (t : ℕ) (write : Writing) → IsCut c new st x → (seat_of c x.entry.session).job ≡ jobs.Writing t write → Event c x.entry.session new (advances.Done replies.NoValueId) → StreamOuts c st
      → StreamOuts new (stream_after script st x)
  pub failed : (c new : CoreState) (script : Script) (st : Stream) (x : Moment) → IsCut c new st x → FailsBy c x.entry.session new → StreamOuts c st → StreamOuts new (stream_after script st x)
