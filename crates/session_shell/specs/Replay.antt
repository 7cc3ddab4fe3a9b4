-- What a replay leaves of its source, its sink and the hub that it kept, where source and sink tell their bytes.
use Rattle.std.specs.Prelude.{◌≡◌, ◌⊎◌, ℕ, ◌≤◌, Bool, true, false, List, [], ◌∷◌, length, Option, Some, None, Result, Ok, Err, codes}
use Rattle.std.specs.List.{list_any}
use Rattle.std.specs.Io.KnownBytes.{Appends}
use Rattle.toast_io.specs.Faults.{HasRisen}
use Rattle.toast_io.specs.Source.{Takes, TakesUpTo}
use Rattle.toast_io.specs.Sink.{AppendsPart}
use Rattle.toast_io.specs.ReadAll.{IsWhole}
use Rattle.command_set.specs.declared.Script.{Script}
use Rattle.command_set.specs.declared.JournalEntry.{JournalEntry}
use Rattle.command_set.specs.declared.Kind.{Kind}
use Rattle.command_set.specs.declared.Kind.TheVariants as kinds
use Rattle.command_set.specs.Journals.{is_complete, is_legal}
use Rattle.script_text.specs.Scripts.{script_in}
use Rattle.script_words.specs.declared.fault.LineFault.{LineFault}
use Rattle.script_text.specs.declared.fault.ScriptFault.TheVariants as scripts
use Rattle.session_shell.specs.Hubs.{HubState}
use Rattle.session_shell.specs.Follows.{Follows, IsIdle}
use Rattle.session_shell.specs.Text.{text_of}
use Rattle.draw_counts.specs.Drawn.{ReachesIds}
use Rattle.session_shell.specs.declared.Status.{Status}
use Rattle.session_shell.specs.declared.Status.TheVariants.{Done, Usage, BadScript, ReadFault, WriteFault, TooLong, Memory}

-- the one word `replay`
abbrev pub replay_words : List (List ℕ)
replay_words = codes "replay" ∷ []

-- the source was read to its end, and its bytes are this script
pub record ReadsScript (old new : Option (List ℕ)) (script : Script) : Type 0 where
  pub bytes : List ℕ
  pub whole : IsWhole 4194304 old new bytes
  pub spelled : script_in bytes ≡ Ok script

-- the source was read to its end, and its bytes are no script; this is the first bad line
pub record ReadsNoScript (old new : Option (List ℕ)) (line : ℕ) : Type 0 where
  pub bytes : List ℕ
  pub whole : IsWhole 4194304 old new bytes
  pub cause : LineFault
  pub refused : script_in bytes ≡ Err (scripts.BadScript line cause)

-- a hub has run a script: its journal is legal and complete, follows the script, and tells of a refused draw only where the draw count has reached the number of ids; nothing is under way
pub record HasRun (script : Script) (hub : HubState) : Type 0 where
  pub own : hub.script ≡ script
  pub legal : is_legal script hub.journal ≡ true
  pub complete : is_complete script hub.journal ≡ true
  pub follows : Follows script hub.journal
  pub draws : ReachesIds script hub.journal
  pub idle : IsIdle hub

-- whether an entry tells of want of memory
abbrev pub is_want : Kind → Bool
is_want kinds.Run = false
is_want kinds.End = false
is_want kinds.NoValueId = false
is_want kinds.Memory = true

-- whether a journal has an entry that tells of want of memory
abbrev pub has_want : List JournalEntry → Bool
has_want journal = list_any (λ e. is_want e.kind) journal

-- a script was read, and the hub that ran it is kept
pub record Kept (left left' : Option (List ℕ)) (kept : Option HubState) : Type 0 where
  pub script : Script
  pub reads : ReadsScript left left' script
  pub hub : HubState
  pub is : kept ≡ Some hub
  pub run : HasRun script hub

-- the text of the hub's journal
abbrev pub text_in : HubState → List ℕ
text_in hub = text_of hub.script hub.journal

-- the run wanted no memory, and its whole text is written behind what the sink held
pub record WritesText (left left' written written' : Option (List ℕ)) (kept : Option HubState) : Type 0 where
  pub by : Kept left left' kept
  pub sound : has_want by.hub.journal ≡ false
  pub text : Appends written written' (text_in by.hub)

-- some first bytes of the run's text are written behind what the sink held, and not all
pub record WritesPart (left left' written written' : Option (List ℕ)) (kept : Option HubState) : Type 0 where
  pub by : Kept left left' kept
  pub part : AppendsPart written written' (text_in by.hub)

-- the run wanted memory, and its whole text is written behind what the sink held
pub record WritesWanting (left left' written written' : Option (List ℕ)) (kept : Option HubState) : Type 0 where
  pub by : Kept left left' kept
  pub wanting : has_want by.hub.journal ≡ true
  pub text : Appends written written' (text_in by.hub)

-- nothing is written, and no hub is kept
pub record WritesNothing (written written' : Option (List ℕ)) (kept : Option HubState) : Type 0 where
  pub same : written' ≡ written
  pub none : kept ≡ None

-- the source told at most 4,194,304 bytes, and no read failed
pub record TellsWhole (left : Option (List ℕ)) (faults faults' : ℕ) (bytes : List ℕ) : Type 0 where
  pub told : left ≡ Some bytes
  pub within : length bytes ≤ 4194304
  pub sound : ¬ (HasRisen faults faults')

-- what a source and a sink told before and after a call, how often each had failed, and what was kept
pub record Told : Type 0 where
  pub left : Option (List ℕ)
  pub left' : Option (List ℕ)
  pub reads : ℕ
  pub reads' : ℕ
  pub written : Option (List ℕ)
  pub written' : Option (List ℕ)
  pub writes : ℕ
  pub writes' : ℕ
  pub kept' : Option HubState

-- what came of reading a script, by the answer
abbrev pub ReadsByAnswer : Option (List ℕ) → Option (List ℕ) → Result Script Status → Type 0
ReadsByAnswer left left' (Ok script) = ReadsScript left left' script
ReadsByAnswer left left' (Err (BadScript line)) = ReadsNoScript left left' line
ReadsByAnswer left left' (Err ReadFault) = TakesUpTo left left' 4194304
ReadsByAnswer left left' (Err TooLong) = Takes left left' 4194305
ReadsByAnswer left left' (Err Memory) = TakesUpTo left left' 4194304
ReadsByAnswer left left' (Err status) = ⊥

-- what printing a hub's lines leaves, by its status
abbrev pub PrintsBy : HubState → Option (List ℕ) → Option (List ℕ) → ℕ → ℕ → Status → Type 0
PrintsBy hub written written' writes writes' Done = (has_want hub.journal ≡ false) × Appends written written' (text_in hub)
PrintsBy hub written written' writes writes' WriteFault = AppendsPart written written' (text_in hub) × HasRisen writes writes'
PrintsBy hub written written' writes writes' Memory = (has_want hub.journal ≡ true) × Appends written written' (text_in hub)
PrintsBy hub written written' writes writes' status = ⊥

-- what came of a replay, by its status
abbrev pub Replays : Told → Status → Type 0
Replays t Done = WritesText t.left t.left' t.written t.written' t.kept'
Replays t Usage = ⊥
Replays t (BadScript line) = ReadsNoScript t.left t.left' line × WritesNothing t.written t.written' t.kept'
Replays t ReadFault = TakesUpTo t.left t.left' 4194304 × HasRisen t.reads t.reads' × WritesNothing t.written t.written' t.kept'
Replays t WriteFault = WritesPart t.left t.left' t.written t.written' t.kept' × HasRisen t.writes t.writes'
Replays t TooLong = Takes t.left t.left' 4194305 × WritesNothing t.written t.written' t.kept'
Replays t Memory = TakesUpTo t.left t.left' 4194304 × (WritesNothing t.written t.written' t.kept' ⊎ WritesWanting t.left t.left' t.written t.written' t.kept')
