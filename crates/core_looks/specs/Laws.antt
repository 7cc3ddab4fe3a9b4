-- What a session's uses and look-ups keep of a core and tell of the plain store, the reply of each moment, and the moments that are refused.
use Rattle.std.specs.FinMap as map
use Rattle.std.specs.Option.{option_map}
use Rattle.std.specs.Prelude.{List, Option, Some, false, map as mapped, slice_set, true, ℕ, ℤ, ◌-◌, ◌<◌, ◌≡◌}
use Rattle.command_set.specs.Answers.{answer, effect, once_used, table_of, with_use}
use Rattle.command_set.specs.Changes.{place}
use Rattle.command_set.specs.Plain.{now_of, session_of, view_of, with_session}
use Rattle.command_set.specs.Replies.{granted, is_granted, transaction_of}
use Rattle.command_set.specs.declared.Command.{Command}
use Rattle.command_set.specs.declared.Reply.{Reply}
use Rattle.command_set.specs.declared.state.Answered.{Answered}
use Rattle.command_set.specs.declared.state.Plain.{Plain}
use Rattle.command_set.specs.declared.state.Session.TheVariants.{Open}
use Rattle.command_set.specs.declared.state.Transaction.{Transaction}
use Rattle.table_state.specs.Rows.{cell_value}
use Rattle.write_steps.specs.declared.stage.OldRow.{OldRow}
use Rattle.core_state.specs.Events.{at_moment, left, line_due}
use Rattle.core_state.specs.Facts.{IsSound, PartsAreSound}
use Rattle.core_state.specs.Lines.{after_commit_of, after_looking, after_use, takes_copy}
use Rattle.core_state.specs.Moves.{Runs}
use Rattle.core_state.specs.Stands.{Stands}
use Rattle.core_state.specs.State.{CoreState, IsSession, IsTableOf, is_open, is_past_moment, is_repeatable, schemas_of, seat_of, table_at, xid_of}
use Rattle.core_state.specs.Views.{in_view, row_seen}
use Rattle.core_looks.specs.Due.{reply_due, row_now}
use Rattle.command_set.specs.declared.Command.TheVariants as commands
use Rattle.command_set.specs.declared.Reply.TheVariants as replies
use Rattle.core_state.specs.declared.advance.Advance.TheVariants as advances
use Rattle.core_state.specs.declared.seat.Job.TheVariants as jobs

-- ---- uses

-- what a use leaves of a session's seat: all but the snapshot, which a repeatable read transaction has from then on
pub record IsUsed (c : CoreState) (s : ℕ) (used : CoreState) : Type 0 where
  pub tables : used.tables ≡ c.tables
  pub job : (seat_of used s).job ≡ (seat_of c s).job
  pub handles : (seat_of used s).handles ≡ (seat_of c s).handles
  pub xid : xid_of (seat_of used s).state ≡ xid_of (seat_of c s).state
  pub opened : is_open (seat_of used s).state ≡ is_open (seat_of c s).state
  pub repeats : is_repeatable (seat_of used s).state ≡ is_repeatable (seat_of c s).state
  -- whose changes count for what it reads
  pub counts : in_view used.xacts used.snaps (seat_of used s).state ≡ in_view c.xacts c.snaps (seat_of c s).state
  -- none is to be taken any more
  pub copied : takes_copy (seat_of used s).state ≡ false

-- a session of an open transaction uses a table, before a moment
pub record UsesKeep : Type 0 where
  pub sound : (c : CoreState) (s t : ℕ) → IsSession c.seats s → is_open (seat_of c s).state ≡ true → is_past_moment (seat_of c s).job ≡ false → IsSound c → IsSound (after_use c s t)
  pub stands : (c : CoreState) (m : Plain) (replies : List (Option Reply)) (s t : ℕ) (tr : Transaction) → IsSession c.seats s → is_past_moment (seat_of c s).job ≡ false → IsSound c → Stands c m replies → session_of m s ≡ Open tr
      → Stands (after_use c s t) (with_session m s (Open (with_use m tr t))) replies
  pub session : (c : CoreState) (s t : ℕ) → IsSession c.seats s → IsSession (after_use c s t).seats s
  pub leaves : (c : CoreState) (s t : ℕ) → IsSession c.seats s → is_open (seat_of c s).state ≡ true → IsUsed c s (after_use c s t)
  -- its reads find what they found
  pub sees : (c : CoreState) (s t other : ℕ) (key : ℤ) → IsSession c.seats s → is_open (seat_of c s).state ≡ true → row_seen (after_use c s t) s other key ≡ row_seen c s other key
  -- and where its command is over then
  pub looked : (c : CoreState) (s t : ℕ) (command : Command) → IsSession c.seats s → is_open (seat_of c s).state ≡ true → (seat_of c s).job ≡ jobs.Submitted command → IsSound c → IsSound (after_looking c s t)
  pub answered : (c : CoreState) (m : Plain) (replies : List (Option Reply)) (s t : ℕ) (command : Command) (reply : Reply) (tr : Transaction) → IsSession c.seats s → (seat_of c s).job ≡ jobs.Submitted command → IsSound c → Stands c m replies → session_of m s ≡ Open tr
      → Stands (after_looking c s t) (with_session m s (Open (with_use m tr t))) (slice_set replies (s - 1) (Some reply))

-- ---- look-ups

-- the values of a row that was found in a table
abbrev pub values_at : CoreState → ℕ → OldRow → List (Option (List ℕ))
values_at c t old = mapped (cell_value (table_at c.tables t).toast) old.stored.cells

-- what an open transaction's look-ups find before a moment is what the plain store's has
pub record LooksTell : Type 0 where
  -- in its view
  pub view : (c : CoreState) (s t : ℕ) (key : ℤ) (m : Plain) (replies : List (Option Reply)) (tr : Transaction) → IsSession c.seats s → IsTableOf c.tables t → is_past_moment (seat_of c s).job ≡ false → IsSound c → PartsAreSound c → Stands c m replies → session_of m s ≡ Open tr
      → map.get (view_of m (with_use m tr t)) (place t key) ≡ option_map (values_at c t) (row_seen c s t key)
  -- and now
  pub now : (c : CoreState) (s t : ℕ) (key : ℤ) (m : Plain) (replies : List (Option Reply)) (tr : Transaction) → IsSession c.seats s → IsTableOf c.tables t → is_past_moment (seat_of c s).job ≡ false → IsSound c → PartsAreSound c → Stands c m replies → session_of m s ≡ Open tr
      → map.get (now_of m (with_use m tr t)) (place t key) ≡ option_map (values_at c t) (row_now c s t key)

-- the reply of each moment is the one that is due
abbrev pub RepliesAreDue : Type 0
RepliesAreDue = (c : CoreState) (s : ℕ) (command : Command) (m : Plain) (replies : List (Option Reply)) → IsSession c.seats s → IsSound c → PartsAreSound c → (seat_of c s).job ≡ jobs.Submitted command → Stands c m replies
    → Answered.reply (answer (schemas_of c.tables) m s command) ≡ reply_due c s command

-- ---- moments

-- what a granted command answers once its table is used, and the state after its effect
abbrev pub granted_answer : Plain → ℕ → Command → Answered
granted_answer m s command =
    let used = once_used m s (session_of m s) (table_of command) in
    let t = transaction_of (session_of used s) in
    record { reply = granted used t command; after = effect used s t command }

-- a granted moment
pub record GrantedTell : Type 0 where
  pub is : (c : CoreState) (s : ℕ) (command : Command) (m : Plain) (replies : List (Option Reply)) → IsSession c.seats s → IsSound c → PartsAreSound c → (seat_of c s).job ≡ jobs.Submitted command → Stands c m replies → is_granted (reply_due c s command) ≡ true
      → answer (schemas_of c.tables) m s command ≡ granted_answer m s command
  -- the state in which an open transaction has used a table, and the transaction that it then has
  pub used : (c : CoreState) (s t : ℕ) (m : Plain) (replies : List (Option Reply)) (tr : Transaction) → Stands c m replies → session_of m s ≡ Open tr → once_used m s (session_of m s) (Some t) ≡ with_session m s (Open (with_use m tr t))
  pub its : (c : CoreState) (s : ℕ) (m : Plain) (replies : List (Option Reply)) (tr : Transaction) → IsSession c.seats s → Stands c m replies → session_of (with_session m s (Open tr)) s ≡ Open tr

-- a command's moment that is refused: the core is sound after the line that is due, it stands for the plain store's answer, and what is left falls
pub record RefusedMoments : Type 0 where
  pub sound : (c : CoreState) (s : ℕ) (command : Command) → IsSession c.seats s → IsSound c → (seat_of c s).job ≡ jobs.Submitted command → is_granted (reply_due c s command) ≡ false → IsSound (at_moment (line_due c s command (reply_due c s command)) c s)
  pub runs : (c : CoreState) (s : ℕ) (command : Command) → IsSession c.seats s → IsSound c → PartsAreSound c → (seat_of c s).job ≡ jobs.Submitted command → is_granted (reply_due c s command) ≡ false
      → Runs c s command (at_moment (line_due c s command (reply_due c s command)) c s) (advances.Done (reply_due c s command))
  pub falls : (c : CoreState) (s : ℕ) (command : Command) → IsSession c.seats s → IsSound c → (seat_of c s).job ≡ jobs.Submitted command → is_granted (reply_due c s command) ≡ false → left (at_moment (line_due c s command (reply_due c s command)) c s) s < left c s

-- an open transaction commits: the core stands for the plain store's state after it, and what is left falls. That it is sound is a law of the core's lines
pub record CommitsRun : Type 0 where
  pub runs : (c : CoreState) (s : ℕ) → IsSession c.seats s → IsSound c → (seat_of c s).job ≡ jobs.Submitted commands.Commit → is_open (seat_of c s).state ≡ true → Runs c s commands.Commit (after_commit_of c s) (advances.Done replies.Okay)
  pub falls : (c : CoreState) (s : ℕ) → IsSession c.seats s → (seat_of c s).job ≡ jobs.Submitted commands.Commit → left (after_commit_of c s) s < left c s
