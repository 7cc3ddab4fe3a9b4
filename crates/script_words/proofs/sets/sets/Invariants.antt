use Rattle.std.proofs.Common.{◌≡◌, [], length}
use Rattle.script_words.specs.Lines.{words}
use Rattle.script_words.specs.Sets.{sets_in}
use Rattle.script_words.proofs.sets.sets.Given as goal

abbrev pub invariant-words : goal.invariant-words
invariant-words l = sets_in l.columns l.sets (words l.rest) ≡ sets_in l.columns [] (words l.fn.text)

abbrev pub decreases-words : goal.decreases-words
decreases-words l = length l.rest
