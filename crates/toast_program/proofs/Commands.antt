-- What the calls promise, as the top call tells it.
use Rattle.std.proofs.Common.{◌≡◌, ℕ, List, Option, Some, ◌⊎◌, inl, inr, sym, subst}
use Rattle.std.specs.Prelude.{◌≤◌}
use Rattle.command_words.specs.Commands.{command_in}
use Rattle.command_words.specs.declared.CommandWords.{CommandWords}
use Rattle.command_words.specs.declared.CommandWords.TheVariants as commands
use Rattle.command_words.proofs.Spelled.{commands_spelled}
use Rattle.session_shell.specs.Replay.{HasRun, Kept, Told, WritesNothing, WritesPart, WritesText, WritesWanting, replay_words}
use Rattle.toast_program.specs.Runs.{DoesBy, Keeps, PrintsPart, PrintsText, PrintsWanting, RunsBy}
use Rattle.session_shell.specs.declared.Status.{Status}

-- the words of `replay`
pub replay_is : (words : List (List ℕ)) → command_in words ≡ Some commands.Replay → words ≡ replay_words
replay_is words is = ((commands_spelled words commands.Replay).0 is).1

-- the number of `make`
pub make_from : (words : List (List ℕ)) (n : ℕ) → command_in words ≡ Some (commands.Make n) → 1 ≤ n
make_from words n is = ((commands_spelled words (commands.Make n)).0 is).0.0

pub make_to : (words : List (List ℕ)) (n : ℕ) → command_in words ≡ Some (commands.Make n) → n ≤ 1000
make_to words n is = ((commands_spelled words (commands.Make n)).0 is).0.1

kept_is : (t : Told) → Kept t.left t.left' t.kept' → Keeps HasRun t
kept_is t k = record { script = k.script; reads = k.reads; hub = k.hub; is = k.is; run = k.run }

pub text_is : (t : Told) → WritesText t.left t.left' t.written t.written' t.kept' → PrintsText HasRun t
unfolding kept_is
text_is t w = record { by = kept_is t w.by; sound = w.sound; text = w.text }

pub part_is : (t : Told) → WritesPart t.left t.left' t.written t.written' t.kept' → PrintsPart HasRun t
unfolding kept_is
part_is t w = record { by = kept_is t w.by; part = w.part }

pub wanting_is : (t : Told) → WritesNothing t.written t.written' t.kept' ⊎ WritesWanting t.left t.left' t.written t.written' t.kept' → WritesNothing t.written t.written' t.kept' ⊎ PrintsWanting HasRun t
unfolding kept_is
wanting_is t (inl none) = inl none
wanting_is t (inr w) = inr (record { by = kept_is t w.by; wanting = w.wanting; text = w.text })

-- what a call promised is what the program promises with its word
pub replayed : (words : List (List ℕ)) (t : Told) (status : Status) → command_in words ≡ Some commands.Replay → RunsBy HasRun t status → DoesBy (command_in words) t status
replayed words t status is by = subst (λ (command : Option CommandWords). DoesBy command t status) (sym is) by
