use Rattle.std.proofs.Common.{false, refl, rules, true, ◌≡◌}
use Rattle.std.proofs.lemmas.Int.{to_z-of_z}
use mir.Syntax.{w32}
use mir.Val.{SFits}
use Rattle.core_reading.proofs.Slicing.{span_refused, span_told}
use Rattle.core_reading.proofs.spans.span_of.Goals as goal

no : false ≡ true → ⊥
no e = cc

pub returns-in-Ok : goal.returns-in-Ok
returns-in-Ok c =
    let offset : SFits w32 c.args.offset.now = search rules in
    let length : SFits w32 c.args.length.now = search rules in
    let start = simp to_z-of_z at c.in-Ok.ensures.start in
    let slice = simp to_z-of_z at c.in-Ok.ensures.slice in
    let fault = simp to_z-of_z at c.in-Ok.ensures.fault in
    span_told c.args.size c.args.offset.now c.args.length.now c.in-Ok.span (λ below. no (fault.1 below)) start c.in-Ok.ensures.within.0 c.in-Ok.ensures.within.1 slice

pub returns-in-Err : goal.returns-in-Err
returns-in-Err c =
    let offset : SFits w32 c.args.offset.now = search rules in
    let fault = simp to_z-of_z at c.in-Err.ensures.fault in
    span_refused c.args.size c.args.offset.now c.args.length.now (fault.0 refl)
