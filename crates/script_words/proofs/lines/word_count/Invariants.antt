use Rattle.std.proofs.Common.{◌≡◌, ◌+◌, ◌≤◌, length}
use Rattle.script_words.specs.Lines.{words}
use Rattle.script_words.proofs.lines.word_count.Given as goal

abbrev pub invariant-words : goal.invariant-words
invariant-words l = record {
  counted : l.count + length (words l.rest) ≡ length (words l.fn.text);
  few : l.count + length l.rest ≤ length l.fn.text;
}

abbrev pub decreases-words : goal.decreases-words
decreases-words l = length l.rest
