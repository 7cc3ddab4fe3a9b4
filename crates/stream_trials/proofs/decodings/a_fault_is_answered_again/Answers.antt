-- The first entry is within its ranges, and no transaction is given.
use Rattle.std.proofs.Common.{[], arith}
use Rattle.decode_stream.proofs.Bounds.{commit_fits, first_fits, few_commits}
use Rattle.stream_trials.proofs.decodings.a_fault_is_answered_again.Goals as goal

pub feed-requires-clause-given : goal.feed-requires-clause-given
feed-requires-clause-given g c = λ h. omega (arith, c.in_ok-decoder.ensures.given, few_commits [])

pub feed-requires-clause-fits : goal.feed-requires-clause-fits
feed-requires-clause-fits g c =
    λ h. first_fits c.in_ok-decoder.decoder c.in_ok-chunk.chunk c.in_ok-decoder.ensures c.in_ok-chunk.ensures.ranged (omega (arith, c.in_ok-chunk.ensures.short))

pub feed-requires-2-clause-fits : goal.feed-requires-2-clause-fits
feed-requires-2-clause-fits g c =
    λ h.
    commit_fits [] c.in_ok-chunk.chunk c.in_ok-decoder.decoder c.feed.new.self c.feed.result 4 c.in_ok-decoder.ensures (c.feed.ensures.fed [] c.in_ok-decoder.ensures) c.feed.ensures.memory
