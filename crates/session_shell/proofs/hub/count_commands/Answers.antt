use Rattle.std.proofs.Common.{◌≡◌, ◌+◌, arith, length, ap, ◌∙◌}
use Rattle.std.specs.List.{sum_by}
use Rattle.session_shell.proofs.Counts.{all_counted, counted, front_within}
use Rattle.session_shell.proofs.hub.count_commands.Goals as goal

pub overflow_add-count : goal.overflow_add-count
overflow_add-count c =
    let all = c.as_slice-session-items.result.now in
    let i = c.loop-session.session-index in
    let one = counted all i c.loop-session.count c.session-item.result c.loop-session-test.true c.session-item.is c.loop-session.invariant in
    let same : sum_by length all ≡ sum_by length c.args.script.now.sessions = ap (sum_by length) c.as_slice-session-items.ensures in
    omega (arith, one, front_within all (i + 1), same, c.requires, c.len-count.ensures)

pub loop-session-preserved : goal.loop-session-preserved
loop-session-preserved c =
    ap (λ n. c.loop-session.count + n) c.len-count.ensures
    ∙ counted c.as_slice-session-items.result.now c.loop-session.session-index c.loop-session.count c.session-item.result c.loop-session-test.true c.session-item.is c.loop-session.invariant

pub returns : goal.returns
returns c =
    all_counted c.as_slice-session-items.result.now c.loop-session.session-index c.loop-session.count c.loop-session-test.false c.loop-session.invariant
    ∙ ap (sum_by length) c.as_slice-session-items.ensures
