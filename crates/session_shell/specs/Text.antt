-- The text of a journal's printed lines.
use Rattle.std.specs.Prelude.{◌≡◌, ℕ, true, List, [], Option, Some, None, slice_get, is_some}
use Rattle.std.specs.List.{flat_map}
use Rattle.command_set.specs.declared.journal.Line.{Line}
use Rattle.command_set.specs.declared.Script.{Script}
use Rattle.command_set.specs.declared.JournalEntry.{JournalEntry}
use Rattle.command_set.specs.declared.Reply.{Reply}
use Rattle.command_set.specs.Journals.{lines}
use Rattle.transcript.specs.Lines.{reply_line}
use Rattle.session_shell.specs.declared.hub.KeptLine.{KeptLine}

-- a printed line
abbrev pub line_text : Line → List ℕ
line_text line = reply_line line.session line.number line.reply

-- the text of a journal's lines
abbrev pub text_of : Script → List JournalEntry → List ℕ
text_of script journal = flat_map line_text (lines script journal)

-- the line of a session's command with this reply, if it is known
abbrev pub said_by : ℕ → ℕ → Option Reply → List ℕ
said_by session number None = []
said_by session number (Some reply) = reply_line session number reply

-- a kept line
abbrev pub said_text : KeptLine → List ℕ
said_text line = said_by line.session line.number line.reply

-- each line has its reply
pub record AreSaid (kept : List KeptLine) : Type 0 where
  pub each : (k : ℕ) (line : KeptLine) → slice_get kept k ≡ Some line → is_some line.reply ≡ true
