use Rattle.std.proofs.Common.{length}
use Rattle.line_printer.specs.Carried.{told}
use Rattle.line_printer.proofs.Digits.{Goes}
use Rattle.line_printer.proofs.printer.Printer.put_digits.Given as goal

abbrev pub invariant-loop-rest : goal.invariant-loop-rest
invariant-loop-rest g l = Goes l.bytes l.rest (told g.K.Sink l.initial.sink) (told g.K.Sink l.sink) l.initial.self l.self

abbrev pub decreases-loop-rest : goal.decreases-loop-rest
decreases-loop-rest g l = length l.rest
