-- The parts so far are those of the results so far.
use Rattle.std.proofs.Common.{◌≡◌, ◌<◌, ℕ, Ok, length, slice_index_or, vec_len}
use Rattle.decode_stream.specs.Parts.{ToldList}
use Rattle.decode_stream.proofs.split.whole_parts.Given as goal

abbrev pub invariant-loop-part : goal.invariant-loop-part
invariant-loop-part l = record {
  len : vec_len l.all ≡ length l.yielded;
  each : (w : ℕ) (d : _) (f : ToldList) → w < length l.yielded → slice_index_or l.yielded w d ≡ Ok (slice_index_or l.all.items w f);
}
