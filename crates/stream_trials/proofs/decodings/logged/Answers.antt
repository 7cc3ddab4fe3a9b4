-- Such a log can be decoded.
use Rattle.std.proofs.Common.{arith}
use Rattle.decode_stream.proofs.Bounds.{decodable}
use Rattle.stream_trials.proofs.decodings.logged.Goals as goal

pub returns : goal.returns
returns g c = decodable c.loop-line.log.entries (omega (arith, c.loop-line.invariant.few)) (omega (arith, c.loop-line.invariant.few, c.loop-line.invariant.short)) c.loop-line.invariant.ranged
