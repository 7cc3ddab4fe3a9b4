-- The row is put at its new place before it is taken from its old one, which comes to the same.
use Rattle.replica_map.proofs.Moves.{moved_is, nothing_there}
use Rattle.replica_map.proofs.replica.rekey.Goals as goal

pub returns : goal.returns
returns c = moved_is _ _ _ _ _ c.in-Some.old.now (cc (c.in-Some.ensures, c.place_of-source.ensures)) (nothing_there _ (cc (c.is_there.ensures, c.if-is_there.false, c.place_of-target.ensures))) c.in_ok-row.ensures.ok.0 (cc (c.take_away.ensures, c.in_ok-put.ensures.ok, c.in_ok-row.ensures.ok.1, c.place_of-source.ensures, c.place_of-target.ensures))
