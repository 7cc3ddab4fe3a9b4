-- From a line's refusal to what is told of the script.
use Rattle.std.specs.Prelude.{ℕ}
use Rattle.script_words.specs.declared.fault.Refusal.{Refusal}
use Rattle.script_words.specs.declared.fault.Refusal.TheVariants.{Fault, Memory}
use Rattle.script_text.specs.declared.fault.ScriptFault.{ScriptFault}
use Rattle.script_text.specs.declared.fault.ScriptFault.TheVariants as script

-- the refusal of the line with this number
abbrev pub fault_at : ℕ → Refusal → ScriptFault
fault_at n (Fault cause) = script.BadScript n cause
fault_at n Memory = script.Memory
