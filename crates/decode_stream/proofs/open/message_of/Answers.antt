-- The update's columns are those of its cells.
use Rattle.decode_stream.proofs.open.message_of.Goals as goal

pub returns-in_ok-columns-in-Update-clause-ok : goal.returns-in_ok-columns-in-Update-clause-ok
returns-in_ok-columns-in-Update-clause-ok c = rw c.in-Update.is (cc (c.update_of.ensures, c.in_ok-columns-in-Update.ensures.ok, c.as_slice-in-Update.ensures))
