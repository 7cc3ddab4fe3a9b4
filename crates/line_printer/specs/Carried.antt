-- What becomes of a text that goes to a sink through a buffer, where the sink tells its bytes.
use Rattle.std.specs.Prelude.{◌≡◌, ℕ, Bool, true, false, List, [], ◌++◌, Option}
use Rattle.std.specs.Io.KnownBytes.{Appends}
use Rattle.toast_io.specs.Faults.{HasRisen, NeverFalls}
use Rattle.toast_io.specs.Sink.{AppendsPart}
use Rattle.toast_io.specs.declared.sink.Sink as sink

-- what a sink tells: the bytes that were written to it, and how often a write has failed
pub record SinkTold : Type 0 where
  pub written : Option (List ℕ)
  pub faults : ℕ

abbrev pub told : {K : Type 0} → sink.Ghosts K → K → SinkTold
told kind k = record { written = kind.written k; faults = kind.faults k }

-- a printer: the bytes that it holds for the sink, and whether a write has failed
pub record PrinterState : Type 0 where
  pub held : List ℕ
  pub failed : Bool

-- a printer that has printed nothing
abbrev pub first_printer : PrinterState
first_printer = record { held = []; failed = false }

-- no write has failed: what was written since the start, and then what is held, is the text
pub record Flows (start now : SinkTold) (held text : List ℕ) : Type 0 where
  pub front : List ℕ
  pub written : Appends start.written now.written front
  pub is : text ≡ front ++ held

-- a write has failed since the start: some first bytes of the text were written, and not all
pub record Breaks (start now : SinkTold) (text : List ℕ) : Type 0 where
  pub part : AppendsPart start.written now.written text
  pub cause : HasRisen start.faults now.faults

abbrev pub CarriedBy : Bool → SinkTold → SinkTold → List ℕ → List ℕ → Type 0
CarriedBy false start now held text = Flows start now held text
CarriedBy true start now held text = Breaks start now text

-- this text was printed since the start
pub record Carried (start now : SinkTold) (printer : PrinterState) (text : List ℕ) : Type 0 where
  pub count : NeverFalls start.faults now.faults
  pub by : CarriedBy printer.failed start now printer.held text

-- these bytes are printed, behind whatever was
pub record Prints (old new : SinkTold) (printer printer' : PrinterState) (bytes : List ℕ) : Type 0 where
  pub on : (start : SinkTold) (text : List ℕ) → Carried start old printer text → Carried start new printer' (text ++ bytes)

-- all that was printed is written
pub record WritesAll (old new : SinkTold) (printer : PrinterState) : Type 0 where
  pub on : (start : SinkTold) (text : List ℕ) → Carried start old printer text → Appends start.written new.written text

-- a part of what was printed is written, and not all
pub record WritesLess (old new : SinkTold) (printer : PrinterState) : Type 0 where
  pub on : (start : SinkTold) (text : List ℕ) → Carried start old printer text → Breaks start new text
