-- What a command leaves of its source, its sink and the hub that it kept, where source and sink tell their bytes.
use Rattle.std.specs.Prelude.{◌≡◌, ◌≢◌, ◌⊎◌, ℕ, Bool, true, false, List, Option, Some, None, Err, Ok}
use Rattle.std.specs.Io.KnownBytes.{Appends}
use Rattle.toast_io.specs.Faults.{HasRisen}
use Rattle.toast_io.specs.Source.{Takes}
use Rattle.toast_io.specs.Sink.{AppendsPart}
use Rattle.command_set.specs.declared.Script.{Script}
use Rattle.command_set.specs.Journals.{is_complete, is_legal}
use Rattle.script_text.specs.Scripts.{script_in}
use Rattle.script_words.specs.declared.fault.LineFault.{LineFault}
use Rattle.script_text.specs.declared.fault.ScriptFault.TheVariants as scripts
use Rattle.draw_counts.specs.Drawn.{ReachesIds}
use Rattle.command_words.specs.declared.CommandWords.{CommandWords}
use Rattle.command_words.specs.declared.CommandWords.TheVariants.{Replay, Run, Make}
use Rattle.session_shell.specs.Hubs.{HubState}
use Rattle.session_shell.specs.Follows.{IsIdle, IsOfTurns}
use Rattle.session_shell.specs.Replay.{HasRun, ReadsNoScript, ReadsScript, TellsWhole, Told, WritesNothing, has_want, text_in}
use Rattle.session_shell.specs.declared.Status.{Status}
use Rattle.session_shell.specs.declared.Status.TheVariants.{Done, Usage, BadScript, ReadFault, WriteFault, TooLong, Memory}
use Rattle.toast_program.specs.Makes.{MakesBy}

-- a hub has run a script in whatever order its sessions took their turns: what `HasRun` says, but that the journal follows the schedule
pub record HasRunFreely (script : Script) (hub : HubState) : Type 0 where
  pub own : hub.script ≡ script
  pub legal : is_legal script hub.journal ≡ true
  pub complete : is_complete script hub.journal ≡ true
  pub turns : IsOfTurns script hub.journal
  pub draws : ReachesIds script hub.journal
  pub idle : IsIdle hub

-- a script was read, and a hub is kept that has run it
pub record Keeps (HasRun : Script → HubState → Type 0) (t : Told) : Type 0 where
  pub script : Script
  pub reads : ReadsScript t.left t.left' script
  pub hub : HubState
  pub is : t.kept' ≡ Some hub
  pub run : HasRun script hub

-- the run wanted no memory, and its whole text is written behind what the sink held
pub record PrintsText (HasRun : Script → HubState → Type 0) (t : Told) : Type 0 where
  pub by : Keeps HasRun t
  pub sound : has_want by.hub.journal ≡ false
  pub text : Appends t.written t.written' (text_in by.hub)

-- some first bytes of the run's text are written behind what the sink held, and not all
pub record PrintsPart (HasRun : Script → HubState → Type 0) (t : Told) : Type 0 where
  pub by : Keeps HasRun t
  pub part : AppendsPart t.written t.written' (text_in by.hub)

-- the run wanted memory, and its whole text is written behind what the sink held
pub record PrintsWanting (HasRun : Script → HubState → Type 0) (t : Told) : Type 0 where
  pub by : Keeps HasRun t
  pub wanting : has_want by.hub.journal ≡ true
  pub text : Appends t.written t.written' (text_in by.hub)

-- what a command that runs a script promises, by its status
pub record RunsBy (HasRun : Script → HubState → Type 0) (t : Told) (status : Status) : Type 0 where
  pub command : status ≢ Usage
  -- what is written and what is kept
  pub done : status ≡ Done → PrintsText HasRun t
  pub write_fault : status ≡ WriteFault → PrintsPart HasRun t
  pub memory : status ≡ Memory → WritesNothing t.written t.written' t.kept' ⊎ PrintsWanting HasRun t
  pub unwritten : status ≢ Done → status ≢ WriteFault → status ≢ Memory → WritesNothing t.written t.written' t.kept'
  -- the causes of the other statuses; want of memory is free
  pub read_cause : status ≡ ReadFault → HasRisen t.reads t.reads'
  pub write_cause : status ≡ WriteFault → HasRisen t.writes t.writes'
  pub too_long : status ≡ TooLong → Takes t.left t.left' 4194305
  pub taken : (bytes : List ℕ) → t.left ≡ Some bytes → Takes t.left t.left' 4194305 → status ≡ TooLong
  pub bad_script : (line : ℕ) → status ≡ BadScript line → ReadsNoScript t.left t.left' line
  -- where bytes are told and no call fails: a script is done, and all else refused, unless memory runs out
  pub refuses : (bytes : List ℕ) (line : ℕ) (cause : LineFault) → TellsWhole t.left t.reads t.reads' bytes → script_in bytes ≡ Err (scripts.BadScript line cause) → (status ≡ BadScript line) ⊎ (status ≡ Memory)
  pub answers : (bytes : List ℕ) (script : Script) → TellsWhole t.left t.reads t.reads' bytes → ¬ (HasRisen t.writes t.writes') → script_in bytes ≡ Ok script → (status ≡ Done) ⊎ (status ≡ Memory)

-- what the program promises, by the command that its words are
abbrev pub DoesBy : Option CommandWords → Told → Status → Type 0
DoesBy None t status = WritesNothing t.written t.written' t.kept'
DoesBy (Some Replay) t status = RunsBy HasRun t status
DoesBy (Some Run) t status = RunsBy HasRunFreely t status
DoesBy (Some (Make n)) t status = MakesBy n t.written t.written' t.writes t.writes' status × (t.kept' ≡ None)

-- whether a command reads a script
abbrev pub is_reader : Option CommandWords → Bool
is_reader None = false
is_reader (Some Replay) = true
is_reader (Some Run) = true
is_reader (Some (Make n)) = false
