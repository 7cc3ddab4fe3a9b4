use Rattle.std.proofs.Common.{take}
use Rattle.std.specs.List.{flat_map}
use Rattle.line_printer.specs.Carried.{Prints, told}
use Rattle.session_shell.specs.Text.{said_text}
use Rattle.session_shell.proofs.print.print_lines.Given as goal

abbrev pub invariant-loop-line : goal.invariant-loop-line
invariant-loop-line g l = Prints (told g.K.Sink l.initial.sink) (told g.K.Sink l.sink) l.initial.printer l.printer (flat_map said_text (take l.line-index l.kept))
