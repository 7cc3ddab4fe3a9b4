use Rattle.std.proofs.Common.{◌≡◌, ◌+◌, ◌<◌, ◌≤◌, length, get_or, drop, sym, ap, ◌∙◌, subst, arith}
use Rattle.toast_vacuum.specs.Machines.{AreReapable, on_page, reaped_all}
use Rattle.toast_vacuum.proofs.Reaping.{at_end, none_more, one_more, still_reapable}
use Rattle.toast_vacuum.proofs.vacuum.reap_page.Goals as goal

pub reap-requires-clause-dead : goal.reap-requires-clause-dead
reap-requires-clause-dead g c =
    let tids = c.args.gathered.now in
    let tid = c.in-Some.tid.now in
    let within : c.loop-tid.at < length tids = omega (arith, c.in-Some.ensures.lookup.3.0, ap length c.as_slice-tids.ensures) in
    let is : tid ≡ get_or tids c.loop-tid.at tid = c.in-Some.ensures.lookup.3.1 tid ∙ ap (λ ts. get_or ts c.loop-tid.at tid) c.as_slice-tids.ensures in
    let list = one_more c.args.page c.loop-tid.at tids tid within is c.if-tid-page.false in
    let ready = subst (λ ts. AreReapable g.T.Sweepable.ops ts c.loop-tid.target) list c.loop-tid.invariant.ready in
    ready.0

pub reap-requires-clause-unnamed : goal.reap-requires-clause-unnamed
reap-requires-clause-unnamed g c =
    let tids = c.args.gathered.now in
    let tid = c.in-Some.tid.now in
    let within : c.loop-tid.at < length tids = omega (arith, c.in-Some.ensures.lookup.3.0, ap length c.as_slice-tids.ensures) in
    let is : tid ≡ get_or tids c.loop-tid.at tid = c.in-Some.ensures.lookup.3.1 tid ∙ ap (λ ts. get_or ts c.loop-tid.at tid) c.as_slice-tids.ensures in
    let list = one_more c.args.page c.loop-tid.at tids tid within is c.if-tid-page.false in
    let ready = subst (λ ts. AreReapable g.T.Sweepable.ops ts c.loop-tid.target) list c.loop-tid.invariant.ready in
    ready.1

pub loop-tid-preserved : goal.loop-tid-preserved
loop-tid-preserved g c =
    let tids = c.args.gathered.now in
    let tid = c.in-Some.tid.now in
    let within : c.loop-tid.at < length tids = omega (arith, c.in-Some.ensures.lookup.3.0, ap length c.as_slice-tids.ensures) in
    let is : tid ≡ get_or tids c.loop-tid.at tid = c.in-Some.ensures.lookup.3.1 tid ∙ ap (λ ts. get_or ts c.loop-tid.at tid) c.as_slice-tids.ensures in
    let list = one_more c.args.page c.loop-tid.at tids tid within is c.if-tid-page.false in
    let ready = subst (λ ts. AreReapable g.T.Sweepable.ops ts c.loop-tid.target) list c.loop-tid.invariant.ready in
    let ops = g.T.Sweepable.ops in
    let later = on_page c.args.page (drop (c.loop-tid.at + 1) tids) in
    record {
      rest = ap (reaped_all ops later) c.reap.ensures.freed ∙ ap (λ ts. reaped_all ops ts c.loop-tid.target) (sym list) ∙ c.loop-tid.invariant.rest;
      count = omega (arith, ap length list, c.loop-tid.invariant.count);
      ready = subst (AreReapable ops later) (sym c.reap.ensures.freed) (still_reapable ops g.met.T.Sweepable.laws later tid c.loop-tid.target ready.2 ready.3);
    }

pub returns-then-tid-page-clause-at : goal.returns-then-tid-page-clause-at
returns-then-tid-page-clause-at g c =
    let tids = c.args.gathered.now in
    let tid = c.in-Some.tid.now in
    let within : c.loop-tid.at < length tids = omega (arith, c.in-Some.ensures.lookup.3.0, ap length c.as_slice-tids.ensures) in
    let is : tid ≡ get_or tids c.loop-tid.at tid = c.in-Some.ensures.lookup.3.1 tid ∙ ap (λ ts. get_or ts c.loop-tid.at tid) c.as_slice-tids.ensures in
    omega (arith, ap length (none_more c.args.page c.loop-tid.at tids tid within is c.if-tid-page.true), c.loop-tid.invariant.count)

pub returns-then-tid-page-clause-reaped : goal.returns-then-tid-page-clause-reaped
returns-then-tid-page-clause-reaped g c =
    let tids = c.args.gathered.now in
    let tid = c.in-Some.tid.now in
    let within : c.loop-tid.at < length tids = omega (arith, c.in-Some.ensures.lookup.3.0, ap length c.as_slice-tids.ensures) in
    let is : tid ≡ get_or tids c.loop-tid.at tid = c.in-Some.ensures.lookup.3.1 tid ∙ ap (λ ts. get_or ts c.loop-tid.at tid) c.as_slice-tids.ensures in
    ap (λ ts. reaped_all g.T.Sweepable.ops ts c.loop-tid.target) (sym (none_more c.args.page c.loop-tid.at tids tid within is c.if-tid-page.true)) ∙ c.loop-tid.invariant.rest

pub returns-clause-at : goal.returns-clause-at
returns-clause-at g c =
    let past : length c.args.gathered.now ≤ c.loop-tid.at = omega (arith, c.in_default.ensures.lookup.3, ap length c.as_slice-tids.ensures) in
    omega (arith, ap length (at_end c.args.page c.loop-tid.at c.args.gathered.now past), c.loop-tid.invariant.count)

pub returns-clause-reaped : goal.returns-clause-reaped
returns-clause-reaped g c =
    let past : length c.args.gathered.now ≤ c.loop-tid.at = omega (arith, c.in_default.ensures.lookup.3, ap length c.as_slice-tids.ensures) in
    ap (λ ts. reaped_all g.T.Sweepable.ops ts c.loop-tid.target) (sym (at_end c.args.page c.loop-tid.at c.args.gathered.now past)) ∙ c.loop-tid.invariant.rest
