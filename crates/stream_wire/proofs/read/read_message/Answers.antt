use Rattle.std.proofs.Common.{arith}
use Rattle.stream_wire.proofs.Only.{reads_begins, one_message, no_message, found_again, none_again, rest_within}
use Rattle.stream_wire.proofs.read.read_message.Goals as goal

pub overflow_sub-result : goal.overflow_sub-result
overflow_sub-result c = rest_within c.args.bytes.now c.in-Ok.message c.in-Ok.rest.now (λ i. omega (arith, c.type_inv.bytes i)) c.in-Ok.ensures

pub returns-in-Ok-clause-found : goal.returns-in-Ok-clause-found
returns-in-Ok-clause-found c = reads_begins c.args.bytes.now c.in-Ok.message c.in-Ok.rest.now (λ i. omega (arith, c.type_inv.bytes i)) c.in-Ok.ensures

pub returns-in-Ok-clause-only : goal.returns-in-Ok-clause-only
returns-in-Ok-clause-only c = λ m n h. one_message c.args.bytes.now c.in-Ok.message m c.in-Ok.rest.now n c.in-Ok.ensures h

pub returns-in-Ok-clause-again : goal.returns-in-Ok-clause-again
returns-in-Ok-clause-again c = found_again c.args.bytes.now c.in-Ok.message c.in-Ok.rest.now c.in-Ok.ensures

pub returns-in-Err-NoMessage-clause-only : goal.returns-in-Err-NoMessage-clause-only
returns-in-Err-NoMessage-clause-only c = λ m n h. no_message c.args.bytes.now m n (rw c.in-Err-NoMessage.field-0-is at c.in-Err-NoMessage.ensures) h

pub returns-in-Err-NoMessage-clause-none : goal.returns-in-Err-NoMessage-clause-none
returns-in-Err-NoMessage-clause-none c = λ m n h. no_message c.args.bytes.now m n (rw c.in-Err-NoMessage.field-0-is at c.in-Err-NoMessage.ensures) h

pub returns-in-Err-NoMessage-clause-again : goal.returns-in-Err-NoMessage-clause-again
returns-in-Err-NoMessage-clause-again c = none_again c.args.bytes.now (rw c.in-Err-NoMessage.field-0-is at c.in-Err-NoMessage.ensures)
