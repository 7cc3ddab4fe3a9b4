use Rattle.std.proofs.Common.{refl}
use Rattle.script_words.specs.Lines.{lines}
use Rattle.script_text.specs.Scripts.{script_in}
use Rattle.script_text.specs.Drafts.{read_of}
use Rattle.script_text.proofs.Steps.{lines_on, lines_refused, lines_end, no_bytes}
use Rattle.script_text.proofs.parse_script.Goals as goal

pub lines-init : goal.lines-init
unfolding script_in
lines-init c = record { goes_on = rw c.new-reader.ensures.read refl; counts = c.new-reader.ensures.counts }

pub returns-in-Err : goal.returns-in-Err
returns-in-Err c = rw c.fault_at.ensures (lines_refused c.in-Err.refusal c.lines.line c.add_words.new.self (read_of c.lines.reader) (lines c.lines.rest.now) _ c.cut_line.result.0.now c.content_of.result.now _ c.cut_line.ensures.cut c.content_of.ensures c.in-Err.ensures c.lines.invariant.goes_on)

pub lines-preserved : goal.lines-preserved
lines-preserved c = record {
  goes_on = lines_on c.lines.line c.saturating_add-line.result (read_of c.lines.reader) (read_of c.add_words.new.self) (lines c.lines.rest.now) _ c.cut_line.result.0.now c.content_of.result.now _ c.cut_line.ensures.cut c.content_of.ensures c.in-Ok.ensures.0 c.saturating_add-line.ensures c.lines.invariant.goes_on;
  counts = c.in-Ok.ensures.1;
}

pub returns : goal.returns
returns c = rw c.into_script.ensures (lines_end c.lines.line (read_of c.lines.reader) c.lines.rest.now _ (no_bytes c.lines.rest.now c.is_empty.result c.is_empty.ensures c.lines-test.false) c.lines.invariant.goes_on)
