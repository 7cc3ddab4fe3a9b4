use Rattle.line_printer.proofs.printer.Printer.put_reply.Goals as goal

pub returns-in-HandleThere : goal.returns-in-HandleThere
returns-in-HandleThere g c = rw c.in-HandleThere.is c.put-in-HandleThere.ensures

pub returns-in-NoValueId : goal.returns-in-NoValueId
returns-in-NoValueId g c = rw c.in-NoValueId.is c.put-in-NoValueId.ensures
