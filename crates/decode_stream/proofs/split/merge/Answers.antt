-- The part of an entry's worker tells what it has and commits; what is told up to it is sent.
use Rattle.std.proofs.Common.{◌+◌, ◌++◌, ◌∷◌, [], ℕ, List, slice_index_or, take, drop, sym, ap, ◌∙◌, append_assoc, arith}
use Rattle.std.proofs.lemmas.Result.{err_from_is_err_and}
use Rattle.std.proofs.lemmas.List.{take-append-drop}
use Rattle.change_log.specs.declared.entry.LogEntry.{LogEntry}
use Rattle.decode_stream.specs.Decoding.{first_fault, commits, numbered}
use Rattle.decode_stream.specs.Parts.{told_at}
use Rattle.decode_stream.proofs.Lists.{found_within, take_found, split_found}
use Rattle.decode_stream.proofs.Wholes.{told_of_part}
use Rattle.decode_stream.proofs.Parts.{nothing_told, parts_next, room_next, told_given, told_here}
use Rattle.decode_stream.proofs.split.merge.Goals as goal

pub loop-n-init : goal.loop-n-init
loop-n-init c = record { sound = nothing_told.0; sent = c.new-sent.ensures ∙ nothing_told.1; parts = c.requires.parts; len = c.requires.len }

pub unreachable-requires : goal.unreachable-requires
unreachable-requires c = found_within c.args.log.now.entries c.loop-n.n (omega (arith, c.loop-n-test.true, c.len-n-end.ensures)) c.in_default.ensures

pub send_told-requires-clause-room : goal.send_told-requires-clause-room
send_told-requires-clause-room c =
    room_next c.args.log.now.entries (take c.loop-n.n c.args.log.now.entries) (drop c.loop-n.n c.args.log.now.entries) c.loop-n.sent c.requires.log (sym (take-append-drop c.loop-n.n c.args.log.now.entries)) c.loop-n.invariant.sent

pub send_told-requires-clause-given : goal.send_told-requires-clause-given
send_told-requires-clause-given c =
    let w = c.worker_of.ensures.worker in
    told_given c.take_told-told.result (take c.loop-n.n c.args.log.now.entries, c.in-Some.e.now)
    (told_here c.loop-n.n c.args.workers c.args.log.now.entries c.loop-n.parts.items c.in-Some.e.now c.take_told-told.result (omega (arith, c.worker_of.ensures.within, w))
    (λ d. c.take_told-told.ensures.told d ∙ ap (λ (k : ℕ). told_at (slice_index_or c.loop-n.parts.items k d) c.loop-n.n) w)
    c.loop-n.invariant.parts (sym c.in-Some.ensures) c.loop-n.invariant.sound)

pub returns-in_err-send_told : goal.returns-in_err-send_told
returns-in_err-send_told c =
    let p = err_from_is_err_and c.from_residual.result c.from_residual.ensures.1 in
    let part = take c.loop-n.n c.args.log.now.entries in
    let rest = drop (c.loop-n.n + 1) c.args.log.now.entries in
    let here = split_found c.args.log.now.entries c.loop-n.n c.in-Some.e.now c.in-Some.ensures in
    let w = c.worker_of.ensures.worker in
    let told = told_here c.loop-n.n c.args.workers c.args.log.now.entries c.loop-n.parts.items c.in-Some.e.now c.take_told-told.result (omega (arith, c.worker_of.ensures.within, w))
    (λ d. c.take_told-told.ensures.told d ∙ ap (λ (k : ℕ). told_at (slice_index_or c.loop-n.parts.items k d) c.loop-n.n) w)
    c.loop-n.invariant.parts (sym c.in-Some.ensures) c.loop-n.invariant.sound in
    rw (p.1, p.2)
    (told_of_part (Unit {0}) c.in_err-send_told.field-0.0 (part ++ c.in-Some.e.now ∷ []) rest c.args.log.now.entries (here ∙ sym (append_assoc part (c.in-Some.e.now ∷ []) rest))
    (c.in_err-send_told.ensures.fault part c.in-Some.e.now told c.loop-n.invariant.sound))

pub loop-n-preserved : goal.loop-n-preserved
loop-n-preserved c =
    let part = take c.loop-n.n c.args.log.now.entries in
    let more = take_found c.args.log.now.entries c.loop-n.n c.in-Some.e.now c.in-Some.ensures in
    let w = c.worker_of.ensures.worker in
    let told = told_here c.loop-n.n c.args.workers c.args.log.now.entries c.loop-n.parts.items c.in-Some.e.now c.take_told-told.result (omega (arith, c.worker_of.ensures.within, w))
    (λ d. c.take_told-told.ensures.told d ∙ ap (λ (k : ℕ). told_at (slice_index_or c.loop-n.parts.items k d) c.loop-n.n) w)
    c.loop-n.invariant.parts (sym c.in-Some.ensures) c.loop-n.invariant.sound in
    record {
      sound = ap first_fault more ∙ c.in_ok-send_told.ensures.fault part c.in-Some.e.now told c.loop-n.invariant.sound;
      sent = c.in_ok-send_told.ensures.ok part c.in-Some.e.now told c.loop-n.invariant.sound c.loop-n.invariant.sent ∙ ap (λ (l : List LogEntry). numbered 1 (commits l)) (sym more);
      parts = parts_next c.loop-n.n c.args.workers c.args.log.now.entries c.loop-n.parts.items c.take_told-told.new.parts.items c.take_told-told.ensures.others c.loop-n.invariant.parts;
      len = c.take_told-told.ensures.len ∙ c.loop-n.invariant.len;
    }
