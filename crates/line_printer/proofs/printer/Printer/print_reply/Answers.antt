use Rattle.std.proofs.Common.{codes}
use Rattle.std.specs.Fmt.{decimal}
use Rattle.transcript.specs.Lines.{reply_text}
use Rattle.line_printer.proofs.Carries.{line_on}
use Rattle.line_printer.proofs.printer.Printer.print_reply.Goals as goal

pub returns : goal.returns
returns g c = rw (← c.from.ensures) (line_on _ _ _ _ _ _ _ _ _ _ _ _ (codes "s") (decimal c.from.result) (codes ".") (decimal c.args.number) (codes " ") (reply_text c.args.reply.now) (codes "\n") c.put_numbered.ensures c.put_numbered-2.ensures c.put.ensures c.put_reply.ensures c.put-2.ensures)
