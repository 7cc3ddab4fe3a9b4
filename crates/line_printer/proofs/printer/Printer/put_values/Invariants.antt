use Rattle.std.proofs.Common.{take}
use Rattle.transcript.specs.Lines.{values_text}
use Rattle.line_printer.specs.Carried.{Prints, told}
use Rattle.line_printer.proofs.printer.Printer.put_values.Given as goal

abbrev pub invariant-loop-value : goal.invariant-loop-value
invariant-loop-value g l = Prints (told g.K.Sink l.initial.sink) (told g.K.Sink l.sink) l.initial.self l.self (values_text (take l.value-index l.values))
