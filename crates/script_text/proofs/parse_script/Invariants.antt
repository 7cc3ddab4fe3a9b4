use Rattle.std.proofs.Common.{◌≡◌, length}
use Rattle.script_words.specs.Lines.{lines}
use Rattle.script_text.specs.Scripts.{after_lines, script_in}
use Rattle.script_text.specs.Drafts.{Counts, read_of}
use Rattle.script_text.proofs.parse_script.Given as goal

abbrev pub invariant-lines : goal.invariant-lines
invariant-lines l = record {
  goes_on : after_lines l.line (read_of l.reader) (lines l.rest) ≡ script_in l.fn.bytes;
  counts : Counts l.reader.draft;
}

abbrev pub decreases-lines : goal.decreases-lines
decreases-lines l = length l.rest
