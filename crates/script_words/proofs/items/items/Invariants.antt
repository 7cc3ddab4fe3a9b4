use Rattle.std.proofs.Common.{◌≡◌, length}
use Rattle.script_words.specs.Lines.{words}
use Rattle.script_words.specs.Reading.{each_of}
use Rattle.script_words.specs.Items.{item_in}
use Rattle.script_words.proofs.Steps.{with_front}
use Rattle.script_words.proofs.items.items.Given as goal

abbrev pub invariant-words : goal.invariant-words
invariant-words l = with_front l.items (each_of (item_in l.sessions) (words l.rest)) ≡ each_of (item_in l.sessions) (words l.fn.text)

abbrev pub decreases-words : goal.decreases-words
decreases-words l = length l.rest
