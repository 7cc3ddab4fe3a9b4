use Rattle.std.proofs.Common.{ap, arith, subst, sym, ◌∙◌}
use Rattle.std.specs.Prelude.{ℕ, ◌-◌}
use Rattle.core_parts.specs.contracts.parts.CoreParts.{the_view}
use Rattle.core_state.specs.Facts.{IsSound}
use Rattle.core_state.specs.Lines.{after_failing}
use Rattle.core_state.specs.State.{CoreState, IsSession, job_table}
use Rattle.core_state.specs.declared.seat.Seat.{Seat}
use Rattle.core_parts.proofs.Ending.{can_end}
use Rattle.core_parts.proofs.Stepping.{back_same, can_go_on, given_at, its_table, lent_seat, lent_table, made_of, same_lent, step_made, step_refused}
use Rattle.core_parts.specs.Ends.{CanEnd}
use Rattle.core_parts.specs.Steps.{lent_of}
use Rattle.core_parts.proofs.parts.CoreParts.step.Goals as goal

pub overflow_sub-from : goal.overflow_sub-from
overflow_sub-from c =
    let there = subst (λ (v : CoreState). IsSession v.seats c.args.session) (sym c.self.view_is) c.requires.session in
    let sound = subst IsSound (sym c.self.view_is) c.requires.sound in
    let seat = lent_seat (the_view c.self.inside) c.args.session c.from-at.result c.index.result.now there c.from-at.ensures c.index.ensures in
    rw c.from.ensures (its_table (the_view c.self.inside) c.args.session c.in-Some.table c.index.result.now c.job_table.result there sound seat c.job_table.ensures c.in-Some.is).from_one

pub index_mut-table-requires : goal.index_mut-table-requires
index_mut-table-requires c =
    let there = subst (λ (v : CoreState). IsSession v.seats c.args.session) (sym c.self.view_is) c.requires.session in
    let sound = subst IsSound (sym c.self.view_is) c.requires.sound in
    let seat = lent_seat (the_view c.self.inside) c.args.session c.from-at.result c.index.result.now there c.from-at.ensures c.index.ensures in
    let table = its_table (the_view c.self.inside) c.args.session c.in-Some.table c.index.result.now c.job_table.result there sound seat c.job_table.ensures c.in-Some.is in
    let low = table.from_one in
    let high = table.within in
    rw c.from.ensures (omega (arith, low, high))

pub step_on-requires : goal.step_on-requires
step_on-requires c =
    let there = subst (λ (v : CoreState). IsSession v.seats c.args.session) (sym c.self.view_is) c.requires.session in
    let sound = subst IsSound (sym c.self.view_is) c.requires.sound in
    let first = lent_seat (the_view c.self.inside) c.args.session c.from-at.result c.index.result.now there c.from-at.ensures c.index.ensures in
    let is_table = its_table (the_view c.self.inside) c.args.session c.in-Some.table c.index.result.now c.job_table.result there sound first c.job_table.ensures c.in-Some.is in
    let seat = lent_seat (the_view c.self.inside) c.args.session c.from-at.result c.index_mut-seat.result.now there c.from-at.ensures c.index_mut-seat.ensures.value in
    let table = lent_table (the_view c.self.inside).tables c.in-Some.table _ c.index_mut-table.result.now is_table (ap (λ (n : ℕ). n - 1) c.from.ensures) c.index_mut-table.ensures.value in
    can_go_on (the_view c.self.inside) c.args.session c.in-Some.table c.index_mut-seat.result.now c.index_mut-table.result.now c.job_table.result there sound seat (c.job_table.ensures ∙ ap (λ (x : Seat). job_table x.job) (first ∙ sym seat)) c.in-Some.is table

pub refuse-requires : goal.refuse-requires
refuse-requires c =
    let there = subst (λ (v : CoreState). IsSession v.seats c.args.session) (sym c.self.view_is) c.requires.session in
    let sound = subst IsSound (sym c.self.view_is) c.requires.sound in
    let first = lent_seat (the_view c.self.inside) c.args.session c.from-at.result c.index.result.now there c.from-at.ensures c.index.ensures in
    let is_table = its_table (the_view c.self.inside) c.args.session c.in-Some.table c.index.result.now c.job_table.result there sound first c.job_table.ensures c.in-Some.is in
    let seat = lent_seat (the_view c.self.inside) c.args.session c.from-at.result c.index_mut-seat.result.now there c.from-at.ensures c.index_mut-seat.ensures.value in
    let table = lent_table (the_view c.self.inside).tables c.in-Some.table _ c.index_mut-table.result.now is_table (ap (λ (n : ℕ). n - 1) c.from.ensures) c.index_mut-table.ensures.value in
    let same = same_lent (the_view c.self.inside) c.args.session c.in-Some.table c.index_mut-seat.result.now c.index_mut-table.result.now _ seat table c.in-Err-NoValueId.ensures.err.same in
    let back = back_same (the_view c.self.inside) c.args.session c.in-Some.table _ _ (lent_of c.step_on.new.seat c.step_on.new.table c.step_on.new.ids c.step_on.new.snaps c.step_on.new.log) there is_table (ap (λ (n : ℕ). n - 1) c.from.ensures) c.from-at.ensures same in
    subst (λ (v : CoreState). CanEnd v c.args.session) (sym back) (can_end (the_view c.self.inside) c.args.session there sound)

pub returns-in-Ok-clause-ok : goal.returns-in-Ok-clause-ok
returns-in-Ok-clause-ok c =
    let there = subst (λ (v : CoreState). IsSession v.seats c.args.session) (sym c.self.view_is) c.requires.session in
    let sound = subst IsSound (sym c.self.view_is) c.requires.sound in
    let first = lent_seat (the_view c.self.inside) c.args.session c.from-at.result c.index.result.now there c.from-at.ensures c.index.ensures in
    let is_table = its_table (the_view c.self.inside) c.args.session c.in-Some.table c.index.result.now c.job_table.result there sound first c.job_table.ensures c.in-Some.is in
    let seat = lent_seat (the_view c.self.inside) c.args.session c.from-at.result c.index_mut-seat.result.now there c.from-at.ensures c.index_mut-seat.ensures.value in
    let table = lent_table (the_view c.self.inside).tables c.in-Some.table _ c.index_mut-table.result.now is_table (ap (λ (n : ℕ). n - 1) c.from.ensures) c.index_mut-table.ensures.value in
    let lent = lent_of c.step_on.new.seat c.step_on.new.table c.step_on.new.ids c.step_on.new.snaps c.step_on.new.log in
    made_of (the_view c.self.inside) c.args.self.now c.args.session _ c.in-Ok.advance c.self.view_is
    (step_made (the_view c.self.inside) c.args.session c.in-Some.table c.index_mut-seat.result.now c.index_mut-table.result.now c.job_table.result lent _ c.in-Ok.advance seat (c.job_table.ensures ∙ ap (λ (x : Seat). job_table x.job) (first ∙ sym seat)) c.in-Some.is table
    c.in-Ok.ensures.ok (given_at (the_view c.self.inside) c.args.session c.in-Some.table _ _ lent (ap (λ (n : ℕ). n - 1) c.from.ensures) c.from-at.ensures))

pub returns-in-Err-NoValueId-clause-ok : goal.returns-in-Err-NoValueId-clause-ok
returns-in-Err-NoValueId-clause-ok c =
    let there = subst (λ (v : CoreState). IsSession v.seats c.args.session) (sym c.self.view_is) c.requires.session in
    let sound = subst IsSound (sym c.self.view_is) c.requires.sound in
    let first = lent_seat (the_view c.self.inside) c.args.session c.from-at.result c.index.result.now there c.from-at.ensures c.index.ensures in
    let is_table = its_table (the_view c.self.inside) c.args.session c.in-Some.table c.index.result.now c.job_table.result there sound first c.job_table.ensures c.in-Some.is in
    let seat = lent_seat (the_view c.self.inside) c.args.session c.from-at.result c.index_mut-seat.result.now there c.from-at.ensures c.index_mut-seat.ensures.value in
    let table = lent_table (the_view c.self.inside).tables c.in-Some.table _ c.index_mut-table.result.now is_table (ap (λ (n : ℕ). n - 1) c.from.ensures) c.index_mut-table.ensures.value in
    let same = same_lent (the_view c.self.inside) c.args.session c.in-Some.table c.index_mut-seat.result.now c.index_mut-table.result.now _ seat table c.in-Err-NoValueId.ensures.err.same in
    let back = back_same (the_view c.self.inside) c.args.session c.in-Some.table _ _ (lent_of c.step_on.new.seat c.step_on.new.table c.step_on.new.ids c.step_on.new.snaps c.step_on.new.log) there is_table (ap (λ (n : ℕ). n - 1) c.from.ensures) c.from-at.ensures same in
    made_of (the_view c.self.inside) c.args.self.now c.args.session c.refuse.new.self c.refuse.result c.self.view_is
    (step_refused (the_view c.self.inside) c.args.session c.in-Some.table c.index_mut-seat.result.now c.index_mut-table.result.now c.job_table.result c.in-Err-NoValueId.field-0-0 _ _ seat (c.job_table.ensures ∙ ap (λ (x : Seat). job_table x.job) (first ∙ sym seat)) c.in-Some.is table
    (rw c.in-Err-NoValueId.field-0-is at c.in-Err-NoValueId.ensures.err.cause) (c.refuse.ensures.after ∙ ap (λ (v : CoreState). after_failing v c.args.session) back) c.refuse.ensures.done)
