-- Reading goes on line by line.
use Rattle.std.proofs.Common.{◌≡◌, ◌==◌, ◌∷◌, [], ℕ, Bool, true, List, Result, Ok, Err, length, refl, sym, arith}
use Rattle.std.proofs.lemmas.Bool.Decides.{nat_tests}
use Rattle.command_set.specs.declared.Script.{Script}
use Rattle.script_words.specs.Lines.{content, lines, words}
use Rattle.script_words.specs.declared.fault.Refusal.{Refusal}
use Rattle.script_words.specs.declared.fault.Refusal.TheVariants.{Fault, Memory}
use Rattle.script_text.specs.Scripts.{Read, Tells, after_lines, next_number, with_words}
use Rattle.script_text.specs.Drafts.{Reads}
use Rattle.script_text.specs.Faults.{fault_at}
use Rattle.script_text.specs.declared.reader.Reader.{Reader}
use Rattle.script_text.specs.declared.fault.ScriptFault.{ScriptFault}

-- one line more
pub lines_on : (n m : ℕ) (read next : Read) (before rest : List (List ℕ)) (line text : List ℕ) (whole : Result Script ScriptFault) → before ≡ line ∷ rest → text ≡ content line → with_words read (words text) ≡ Ok next → m ≡ next_number n → after_lines n read before ≡ whole → after_lines m next rest ≡ whole
unfolding after_lines
lines_on n m read next before rest line text whole cut says is number h =
    rw number (rw (cut, ← says, is) at h)

-- a line that is refused
pub lines_refused : (r : Refusal) (n : ℕ) (reader : Reader) (read : Read) (before rest : List (List ℕ)) (line text : List ℕ) (whole : Result Script ScriptFault) → before ≡ line ∷ rest → text ≡ content line → Reads {A = Unit {0}} reader (Err r) (with_words read (words text)) → after_lines n read before ≡ whole → Tells (Err (fault_at n r)) whole
unfolding after_lines
lines_refused Memory n reader read before rest line text whole cut says is h = tt
lines_refused (Fault fault) n reader read before rest line text whole cut says is h = sym (rw (cut, ← says, is) at h)

-- no bytes are left
pub no_bytes : (bytes : List ℕ) (none : Bool) → none ≡ (length bytes == 0) → none ≡ true → length bytes ≡ 0
no_bytes bytes none test h = grind (arith, nat_tests)

no_lines : (bytes : List ℕ) → length bytes ≡ 0 → lines bytes ≡ []
unfolding lines
no_lines [] h = refl
no_lines (b ∷ bytes) h = absurd (omega (arith, h))

-- no more lines
pub lines_end : (n : ℕ) (read : Read) (bytes : List ℕ) (whole : Result Script ScriptFault) → length bytes ≡ 0 → after_lines n read (lines bytes) ≡ whole → whole ≡ Ok read.script
unfolding after_lines
lines_end n read bytes whole none h = sym (rw (no_lines bytes none) at h)
