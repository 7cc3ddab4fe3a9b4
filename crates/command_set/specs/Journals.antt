-- Journals: the moments of a script's commands in the order in which they fell, and what the plain store answers at each.
use Rattle.std.specs.Prelude.{ℕ, ◌+◌, ◌-◌, Bool, true, false, List, [], ◌∷◌, ◌++◌, Option, Some, None, length, map as mapped, slice_get, slice_set, replicate, ◌==◌, ◌&&◌, ◌||◌, not, is_some, if◌then◌else◌}
use Rattle.std.specs.List.{filter, list_all, list_any, enumerate_from}
use Rattle.std.specs.Option.{option_map, option_map_or, option_to_list, unwrap_or}
use Rattle.command_set.specs.Plain.{first_state, nth}
use Rattle.command_set.specs.declared.state.Plain.{Plain}
use Rattle.command_set.specs.Replies.{is_granted}
use Rattle.command_set.specs.Answers.{answer, with_failure}
use Rattle.command_set.specs.declared.state.Answered.{Answered}
use Rattle.command_set.specs.declared.journal.Line.{Line}
use Rattle.command_set.specs.declared.journal.Run.{Run}
use Rattle.command_set.specs.declared.journal.Told.{Told}
use Rattle.command_set.specs.declared.Script.{Script}
use Rattle.command_set.specs.declared.JournalEntry.{JournalEntry}
use Rattle.command_set.specs.declared.Kind.{Kind}
use Rattle.command_set.specs.declared.Kind.TheVariants as kinds
use Rattle.command_set.specs.declared.Command.{Command}
use Rattle.command_set.specs.declared.Command.TheVariants as commands
use Rattle.command_set.specs.declared.Reply.{Reply}
use Rattle.command_set.specs.declared.Reply.TheVariants as replies

-- a session's command, both counted from 1
abbrev pub command_at : Script → ℕ → ℕ → Option Command
command_at script s n = nth (unwrap_or (nth script.sessions s) []) n

-- whether a session runs upkeep
abbrev pub runs_upkeep : Plain → ℕ → Bool
runs_upkeep m s = list_any (λ running. running.session == s) m.upkeep

-- the state without a session's upkeep
abbrev pub without_upkeep : Plain → ℕ → Plain
without_upkeep m s = record m { upkeep = filter (λ running. not (running.session == s)) m.upkeep }

-- the state after a command has ended early: the upkeep that the session runs is over, or its open transaction has failed
abbrev pub cut_short : Plain → ℕ → Plain
cut_short m s = if runs_upkeep m s then without_upkeep m s else with_failure m s

-- what comes of a command at an entry of this kind: the answer at its moment, afterwards what ends it
abbrev pub came_of : Script → Plain → ℕ → Command → Kind → Answered
came_of script m s command kinds.Run = answer script.schemas m s command
came_of script m s command kinds.End = record { reply = replies.Done; after = without_upkeep m s }
came_of script m s command kinds.NoValueId = record { reply = replies.NoValueId; after = cut_short m s }
came_of script m s command kinds.Memory = record { reply = replies.Memory; after = cut_short m s }

-- one entry of a journal in the plain store: the state before it, its command, its reply and the state after it
pub record Moment : Type 0 where
  pub entry : JournalEntry
  pub before : Plain
  pub command : Command
  pub reply : Reply
  pub after : Plain

-- the moment of an entry in a state, where its command is
abbrev pub moment_at : Plain → JournalEntry → Command → Answered → Moment
moment_at m e command came = record { entry = e; before = m; command = command; reply = came.reply; after = came.after }

-- the moment of an entry in a state; an entry that names no command of the script has none
abbrev pub moment_of : Script → Plain → JournalEntry → Option Moment
moment_of script m e =
    option_map (λ command. moment_at m e command (came_of script m e.session command e.kind)) (command_at script e.session e.number)

-- the state after a moment, if there is one
abbrev pub state_after : Plain → Option Moment → Plain
state_after m x = option_map_or (λ x. x.after) x m

-- the moments of a journal from a state on, each in the state after the one before it
abbrev pub moments_on : Script → Plain → List JournalEntry → List Moment
moments_on script m [] = []
moments_on script m (e ∷ es) = let x = moment_of script m e in option_to_list x ++ moments_on script (state_after m x) es

-- the moments of a journal; its lines, its legality and all else that it tells are told by these
abbrev pub moments : Script → List JournalEntry → List Moment
moments script journal = moments_on script (first_state (length script.sessions)) journal

-- whether a command reads or writes rows
abbrev pub is_data : Command → Bool
is_data (commands.Begin level) = false
is_data commands.Commit = false
is_data commands.Rollback = false
is_data (commands.VacuumMain table) = false
is_data (commands.VacuumToast table) = false
is_data (commands.Rewrite table) = false
is_data command = true

-- whether a command writes a row with a value, and so may draw value ids
abbrev pub writes_values : Command → Bool
writes_values (commands.Insert table key row) = true
writes_values (commands.Update table key sets) = true
writes_values (commands.Rekey table from to sets) = true
writes_values command = false

-- whether a command is a rewrite of a table
abbrev pub is_rewrite_command : Command → Bool
is_rewrite_command (commands.Rewrite table) = true
is_rewrite_command command = false

-- whether a command takes no memory: begin, commit and rollback
abbrev pub takes_no_memory : Command → Bool
takes_no_memory (commands.Begin level) = true
takes_no_memory commands.Commit = true
takes_no_memory commands.Rollback = true
takes_no_memory command = false

-- a session none of whose commands has begun
abbrev pub untold : Told
untold = record { begun = 0; last = None; reply = None }

-- before the first entry
abbrev pub first_run : Script → Run
first_run script = record {
  plain = first_state (length script.sessions);
  told = replicate (length script.sessions) untold;
  lines = [];
}

-- what is told of a session
abbrev pub told_of : Run → ℕ → Told
told_of run s = unwrap_or (nth run.told s) untold

-- the run with a session's place after an entry, and the state and the lines after it
abbrev pub told_more : Run → JournalEntry → Option Reply → Plain → List Line → Run
told_more run e reply plain lines = record {
  plain = plain;
  told = slice_set run.told (e.session - 1) (record { begun = e.number; last = Some e.kind; reply = reply });
  lines = lines;
}

-- the line of an entry's command with this reply
abbrev pub line_of : JournalEntry → Reply → Line
line_of e reply = record { session = e.session; number = e.number; reply = reply }

-- a line with a new reply, if it is the line of an entry's command
abbrev pub corrected : JournalEntry → Reply → Line → Line
corrected e reply line = if (line.session == e.session) && (line.number == e.number) then record line { reply = reply } else line

-- the lines with a new reply in a command's line
abbrev pub with_reply : List Line → JournalEntry → Reply → List Line
with_reply lines e reply = mapped (corrected e reply) lines

-- what the moment of an entry's command answered, if it has had one
abbrev pub reply_before : Run → JournalEntry → Option Reply
reply_before run e = let told = told_of run e.session in if told.begun == e.number then told.reply else None

-- whether an entry tells of a command's moment
abbrev pub is_run : Kind → Bool
is_run kinds.Run = true
is_run kind = false

-- whether an entry ends its command early
abbrev pub is_cut : Kind → Bool
is_cut kinds.Run = false
is_cut kinds.End = false
is_cut kinds.NoValueId = true
is_cut kinds.Memory = true

-- what is known of the reply of a command's moment after an entry
abbrev pub reply_after : Run → Moment → Option Reply
reply_after run x = if is_run x.entry.kind then Some x.reply else reply_before run x.entry

-- the lines after an entry: a data command that ends early after its moment has its line changed, any other entry has a line of its own
abbrev pub lines_after : Run → Moment → List Line
lines_after run x =
    if is_cut x.entry.kind && (is_some (reply_before run x.entry) && is_data x.command)
    then with_reply run.lines x.entry x.reply
    else run.lines ++ line_of x.entry x.reply ∷ []

-- what a journal with this moment more tells
abbrev pub after_moment : Run → Moment → Run
after_moment run x = told_more run x.entry (reply_after run x) x.after (lines_after run x)

-- what a journal with this entry more tells; one that names no command tells nothing
abbrev pub after_entry : Script → Run → JournalEntry → Run
after_entry script run e = option_map_or (after_moment run) (moment_of script run.plain e) run

-- what is told after these moments, in order
abbrev pub run_through : Run → List Moment → Run
run_through run [] = run
run_through run (x ∷ xs) = run_through (after_moment run x) xs

-- what a journal's entries tell after what is told
abbrev pub run_on : Script → Run → List JournalEntry → Run
run_on script run journal = run_through run (moments_on script run.plain journal)

-- what a whole journal tells
abbrev pub run_of : Script → List JournalEntry → Run
run_of script journal = run_on script (first_run script) journal

-- the plain store's state at a journal's end
abbrev pub plain_run : Script → List JournalEntry → Plain
plain_run script journal = (run_of script journal).plain

-- the printed replies, in the order in which they are printed
abbrev pub lines : Script → List JournalEntry → List Line
lines script journal = (run_of script journal).lines

-- whether a reply says that upkeep has begun
abbrev pub is_started : Reply → Bool
is_started replies.Started = true
is_started reply = false

-- whether upkeep is under way: its moment is the session's last entry and answered that it has begun
abbrev pub is_under_way : Told → Bool
is_under_way told = option_map_or is_run told.last false && option_map_or is_started told.reply false

-- whether an entry of this kind may come second for a command whose moment gave this reply: upkeep that has begun ends; a granted write of values may be refused an id; want of memory may end any of these
abbrev pub may_come_second : Command → Reply → Kind → Bool
may_come_second command reply kinds.Run = false
may_come_second command reply kinds.End = is_started reply
may_come_second command reply kinds.NoValueId = (is_started reply && is_rewrite_command command) || (is_granted reply && writes_values command)
may_come_second command reply kinds.Memory = is_started reply || (is_granted reply && is_data command)

-- whether an entry of this kind may come first for a command
abbrev pub may_come_first : Command → Kind → Bool
may_come_first command kinds.Run = true
may_come_first command kinds.Memory = not (takes_no_memory command)
may_come_first command kind = false

-- whether a moment may follow what is told of its session: it is the first of the session's next command, when no upkeep of the session is under way, or a second one after the moment of the session's last command
abbrev pub may_come : Told → Moment → Bool
may_come told x =
    ((x.entry.number == told.begun + 1) && (not (is_under_way told) && may_come_first x.command x.entry.kind))
    || ((x.entry.number == told.begun) && (option_map_or is_run told.last false
    && option_map_or (λ reply. may_come_second x.command reply x.entry.kind) told.reply false))

-- whether an entry names a command and may follow what a journal tells
abbrev pub may_follow : Script → Run → JournalEntry → Bool
may_follow script run e = option_map_or (may_come (told_of run e.session)) (moment_of script run.plain e) false

-- whether entries may follow what a journal tells, one after another
abbrev pub may_follow_on : Script → Run → List JournalEntry → Bool
may_follow_on script run [] = true
may_follow_on script run (e ∷ es) = may_follow script run e && may_follow_on script (after_entry script run e) es

-- whether a journal is legal for a script: each session's entries go through its commands in order
abbrev pub is_legal : Script → List JournalEntry → Bool
is_legal script journal = may_follow_on script (first_run script) journal

-- whether a session has gone through so many commands
abbrev pub has_ended : Told → ℕ → Bool
has_ended told commands = (told.begun == commands) && not (is_under_way told)

-- whether each session has gone through its commands
abbrev pub all_ended : List Told → List (List Command) → Bool
all_ended told sessions = list_all (λ (n, session). has_ended (unwrap_or (slice_get told n) untold) (length session)) (enumerate_from 0 sessions)

-- whether a legal journal is complete for its script: every command has its entries
abbrev pub is_complete : Script → List JournalEntry → Bool
is_complete script journal = all_ended (run_of script journal).told script.sessions
