-- What the entries so far tell is sent, and the parts tell of those from here on.
use Rattle.std.proofs.Common.{◌≡◌, None, take, vec_len}
use Rattle.decode_stream.specs.Decoding.{commits, first_fault, numbered}
use Rattle.decode_stream.specs.Parts.{ArePartsFrom}
use Rattle.decode_stream.proofs.split.merge.Given as goal

abbrev pub invariant-loop-n : goal.invariant-loop-n
invariant-loop-n l = record {
  sound : first_fault (take l.n l.log.entries) ≡ None;
  sent : l.sent ≡ numbered 1 (commits (take l.n l.log.entries));
  parts : ArePartsFrom l.n l.log.entries l.workers l.parts.items;
  len : vec_len l.parts ≡ l.workers;
}
