-- What the making of a script leaves of its sink, where the sink tells its bytes.
use Rattle.std.specs.Prelude.{◌≡◌, ℕ, List, Option}
use Rattle.std.specs.Io.KnownBytes.{Appends}
use Rattle.toast_io.specs.Faults.{HasRisen}
use Rattle.toast_io.specs.Sink.{AppendsPart}
use Rattle.made_script.specs.Made.{made_text}
use Rattle.session_shell.specs.declared.Status.{Status}
use Rattle.session_shell.specs.declared.Status.TheVariants.{Done, WriteFault, Memory}

-- by the status: the whole made script for n keys is written behind what the sink held, or some first bytes of it and not all, or nothing; there is no other status
abbrev pub MakesBy : ℕ → Option (List ℕ) → Option (List ℕ) → ℕ → ℕ → Status → Type 0
MakesBy n written written' writes writes' Done = Appends written written' (made_text n)
MakesBy n written written' writes writes' WriteFault = AppendsPart written written' (made_text n) × HasRisen writes writes'
MakesBy n written written' writes writes' Memory = written' ≡ written
MakesBy n written written' writes writes' status = ⊥
