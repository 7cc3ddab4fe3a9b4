-- The log's part up to an entry decides what is fed, and a fault of it is the log's.
use Rattle.std.proofs.Common.{◌+◌, ◌++◌, ◌∷◌, [], take, drop, sym, ◌∙◌, append_assoc, arith}
use Rattle.std.proofs.lemmas.Result.{err_from_is_err_and}
use Rattle.std.proofs.lemmas.List.{take-append-drop}
use Rattle.decode_stream.proofs.Lists.{found_within, take_found, split_found}
use Rattle.decode_stream.proofs.Wholes.{sent_nothing, told_of_part, fits_next, count_next}
use Rattle.decode_stream.proofs.whole.decode_log.Goals as goal

pub loop-n-init : goal.loop-n-init
loop-n-init c = sent_nothing _ _ c.in_ok-decoder.ensures c.new-sent.ensures

pub unreachable-requires : goal.unreachable-requires
unreachable-requires c = found_within c.args.log.now.entries c.loop-n.n (omega (arith, c.loop-n-test.true, c.len-n-end.ensures)) c.in_default.ensures

pub send_next-requires-clause-given : goal.send_next-requires-clause-given
send_next-requires-clause-given c =
    count_next c.args.log.now.entries (take c.loop-n.n c.args.log.now.entries) (drop c.loop-n.n c.args.log.now.entries) c.loop-n.decoder c.requires (sym (take-append-drop c.loop-n.n c.args.log.now.entries)) c.loop-n.invariant.decodes

pub send_next-requires-clause-fits : goal.send_next-requires-clause-fits
send_next-requires-clause-fits c =
    fits_next c.args.log.now.entries (take c.loop-n.n c.args.log.now.entries) (drop (c.loop-n.n + 1) c.args.log.now.entries) c.in-Some.e.now c.loop-n.decoder c.loop-n.sent c.requires
    (split_found c.args.log.now.entries c.loop-n.n c.in-Some.e.now c.in-Some.ensures)
    c.loop-n.invariant

pub returns-in_err-send_next : goal.returns-in_err-send_next
returns-in_err-send_next c =
    let p = err_from_is_err_and c.from_residual-in_err-send_next.result c.from_residual-in_err-send_next.ensures.1 in
    let part = take c.loop-n.n c.args.log.now.entries in
    let rest = drop (c.loop-n.n + 1) c.args.log.now.entries in
    let here = split_found c.args.log.now.entries c.loop-n.n c.in-Some.e.now c.in-Some.ensures in
    rw (p.1, p.2)
    (told_of_part (Unit {0}) c.in_err-send_next.field-0.0 (part ++ c.in-Some.e.now ∷ []) rest c.args.log.now.entries (here ∙ sym (append_assoc part (c.in-Some.e.now ∷ []) rest)) (c.in_err-send_next.ensures.fault part c.loop-n.invariant.decodes))

pub loop-n-preserved : goal.loop-n-preserved
loop-n-preserved c =
    rw (take_found c.args.log.now.entries c.loop-n.n c.in-Some.e.now c.in-Some.ensures) (c.in_ok-send_next.ensures.ok (take c.loop-n.n c.args.log.now.entries) c.loop-n.invariant)
