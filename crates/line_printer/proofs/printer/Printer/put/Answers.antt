use Rattle.std.proofs.Common.{[]}
use Rattle.line_printer.proofs.Carries.{prints_on}
use Rattle.line_printer.proofs.printer.Printer.put.Goals as goal

pub returns : goal.returns
returns g c = prints_on _ _ _ _ _ _ [] c.args.piece.now c.make_room.ensures.prints (c.hold.ensures _)
