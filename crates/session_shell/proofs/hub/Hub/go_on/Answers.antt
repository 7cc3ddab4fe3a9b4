-- A command goes on, is over, or ends early.
use Rattle.std.proofs.Common.{◌-◌, ◌∙◌, slice_set, arith, refl, rules, ap}
use Rattle.session_shell.specs.declared.hub.Progress.{Progress}
use Rattle.session_shell.specs.contracts.hub.Hub.{the_view}
use Rattle.session_shell.proofs.Made.{fits}
use Rattle.session_shell.proofs.Laters.{done_is, granted_of, keeps_more, last_run, later_room, line_is, made_done, made_more, progress_is, short_of, short_so, tells}
use Rattle.session_shell.proofs.Drawing.{drawn_done, drawn_more, drawn_short}
use Rattle.session_shell.proofs.Turning.{turned_on}
use Rattle.session_shell.proofs.hub.Hub.go_on.Goals as goal

pub overflow_sub-at : goal.overflow_sub-at
overflow_sub-at c = c.requires.session.from_one

pub overflow_cast-at : goal.overflow_cast-at
overflow_cast-at c = search rules

pub index-requires : goal.index-requires
index-requires c =
    let q = rw (← c.self.view_is) at c.requires in
    omega (arith, q.session.from_one, q.session.within, c.self.invariant.0.places, c.self.inside.progress.ok.0)

pub later_step-requires-clause-session : goal.later_step-requires-clause-session
later_step-requires-clause-session c =
    let q = rw (← c.self.view_is) at c.requires in
    record { from_one = q.session.from_one; within = omega (arith, q.session.within, c.self.invariant.0.seats) }

pub later_step-requires-clause-under_way : goal.later_step-requires-clause-under_way
later_step-requires-clause-under_way c = let q = rw (← c.self.view_is) at c.requires in q.under_way

pub later_step-requires-clause-granted : goal.later_step-requires-clause-granted
later_step-requires-clause-granted c =
    let q = rw (← c.self.view_is) at c.requires in
    granted_of (the_view c.self.inside) c.self.inside.progress.items c.args.session c.self.invariant.0 q.session.from_one q.session.within q.under_way

pub invariant_of-self : goal.invariant_of-self
invariant_of-self c =
    let q = rw (← c.self.view_is) at c.requires in
    let old = the_view c.self.inside in
    let ps = c.self.inside.progress.items in (
      keeps_more c.self.inside.script c.self.inside.core c.later_step.new.core c.self.inside.journal.items c.self.inside.kept.items c.self.inside.progress.items _ c.args.session c.self.invariant.0 q.session.from_one q.session.within q.under_way c.in-More.ensures.steps c.in-More.ensures.apart,
      c.self.invariant.1,
      c.self.invariant.2,
      turned_on old _ _ c.self.invariant.3 (made_more old c.later_step.new.core ps c.args.session c.self.invariant.0 q.session.from_one q.session.within q.under_way c.in-More.ensures.apart c.in-More.ensures.steps.past c.in-More.ensures.event).ran,
      drawn_more old c.later_step.new.core ps c.args.session c.self.invariant.0 c.self.invariant.4 q.session.from_one q.session.within q.under_way c.in-More.ensures.event.event c.in-More.ensures.apart c.in-More.ensures.kept,
    )

pub set_reply-requires : goal.set_reply-requires
set_reply-requires c =
    let q = rw (← c.self.view_is) at c.requires in
    let old = the_view c.self.inside in
    let ps = c.self.inside.progress.items in
    omega (arith, (line_is old ps c.args.session c.index.result.now c.self.invariant.0 q.session.from_one q.session.within q.under_way c.index.ensures).within, c.self.inside.kept.ok.0)

pub invariant_of-self-in-Done : goal.invariant_of-self-in-Done
invariant_of-self-in-Done c =
    let q = rw (← c.self.view_is) at c.requires in
    let old = the_view c.self.inside in
    let ps = c.self.inside.progress.items in (
      done_is old c.later_step.new.core ps c.args.session c.index.result.now c.in-Done.reply c.set_reply.new.kept.items c.self.invariant.0 q.session.from_one q.session.within q.under_way c.index.ensures c.in-Done.ensures.steps.0 c.in-Done.ensures.apart c.in-Done.ensures.steps.1 c.in-Done.ensures.steps.2 c.set_reply.ensures.line,
      c.self.invariant.1,
      omega (arith, c.self.invariant.2, c.set_reply.ensures.room),
      turned_on old _ _ c.self.invariant.3 (made_done old c.later_step.new.core c.set_reply.new.kept.items ps c.args.session c.index.result.now.entry c.self.invariant.0 q.session.from_one q.session.within q.under_way c.in-Done.ensures.apart c.in-Done.ensures.steps.1 (ap (λ (p : Progress). p.entry) (progress_is old ps c.args.session c.index.result.now c.self.invariant.0 q.session.from_one q.session.within c.index.ensures)) c.in-Done.ensures.event).ran,
      drawn_done old c.later_step.new.core ps c.args.session c.self.invariant.0 c.self.invariant.4 q.session.from_one q.session.within q.under_way c.in-Done.ensures.event c.in-Done.ensures.apart c.in-Done.ensures.kept,
    )

pub overflow_cast-entry : goal.overflow_cast-entry
overflow_cast-entry c =
    let room = fits (the_view c.self.inside) c.self.inside.progress.items c.self.invariant.0 in
    omega (arith, room.journal_fits, room.few, c.len-entry.ensures, c.self.inside.journal.ok.0)

pub index_mut-requires : goal.index_mut-requires
index_mut-requires c =
    let q = rw (← c.self.view_is) at c.requires in
    omega (arith, q.session.from_one, q.session.within, c.self.invariant.0.places, c.self.inside.progress.ok.0)

pub push_entry-requires : goal.push_entry-requires
push_entry-requires c =
    let q = rw (← c.self.view_is) at c.requires in
    let old = the_view c.self.inside in
    let ps = c.self.inside.progress.items in
    let b = short_of old c.later_step.new.core ps c.args.session c.in-Short.cut c.index.result.now c.self.invariant.0 q.session.from_one q.session.within q.under_way c.index.ensures c.in-Short.ensures.steps.0 c.in-Short.ensures.steps.1 c.in-Short.ensures.event c.in-Short.ensures.apart in
    omega (arith, later_room old c.later_step.new.core ps c.args.session c.in-Short.cut c.index.result.now.line b, c.self.invariant.1, c.self.inside.journal.ok.0)

pub set_reply-requires-in-Short : goal.set_reply-requires-in-Short
set_reply-requires-in-Short c =
    let q = rw (← c.self.view_is) at c.requires in
    let old = the_view c.self.inside in
    let ps = c.self.inside.progress.items in
    omega (arith, (line_is old ps c.args.session c.index.result.now c.self.invariant.0 q.session.from_one q.session.within q.under_way c.index.ensures).within, c.self.inside.kept.ok.0)

pub invariant_of-self-in-Short : goal.invariant_of-self-in-Short
invariant_of-self-in-Short c =
    let q = rw (← c.self.view_is) at c.requires in
    let old = the_view c.self.inside in
    let ps = c.self.inside.progress.items in
    let b = short_of old c.later_step.new.core ps c.args.session c.in-Short.cut c.index.result.now c.self.invariant.0 q.session.from_one q.session.within q.under_way c.index.ensures c.in-Short.ensures.steps.0 c.in-Short.ensures.steps.1 c.in-Short.ensures.event c.in-Short.ensures.apart in
    let so = short_so old c.later_step.new.core ps c.args.session c.in-Short.cut c.kind.result c.reply.result c.index.result.now c.push_entry.new.journal.items c.set_reply-in-Short.new.kept.items (slice_set ps (c.args.session - 1) (record { begun = c.index.result.now.begun; entry = c.len-entry.result; line = c.index.result.now.line })) c.len-entry.result c.self.invariant.0 q.session.from_one q.session.within c.index.ensures b c.kind.ensures c.reply.ensures c.push_entry.ensures.items c.set_reply-in-Short.ensures.line refl (c.len-entry.ensures ∙ c.self.inside.journal.ok.0) in (
      so.keeps,
      omega (arith, c.self.invariant.1, c.push_entry.ensures.room),
      omega (arith, c.self.invariant.2, c.set_reply-in-Short.ensures.room),
      turned_on old _ _ c.self.invariant.3 so.made.ran,
      drawn_short old c.later_step.new.core ps c.args.session c.in-Short.cut c.kind.result c.index.result.now c.push_entry.new.journal.items c.self.invariant.0 c.self.invariant.4 q.session.from_one q.session.within q.under_way c.index.ensures c.in-Short.ensures.steps.1 c.in-Short.ensures.event c.in-Short.ensures.apart c.in-Short.ensures.kept c.kind.ensures c.push_entry.ensures.items,
    )

pub returns-in-More-clause-made : goal.returns-in-More-clause-made
returns-in-More-clause-made c =
    let q = rw (← c.self.view_is) at c.requires in
    let old = the_view c.self.inside in
    let ps = c.self.inside.progress.items in
    rw (← c.self.view_is) (made_more old c.later_step.new.core ps c.args.session c.self.invariant.0 q.session.from_one q.session.within q.under_way c.in-More.ensures.apart c.in-More.ensures.steps.past c.in-More.ensures.event)

pub returns-in-More-clause-own : goal.returns-in-More-clause-own
returns-in-More-clause-own c =
    let q = rw (← c.self.view_is) at c.requires in
    tells _ c.self.inside.progress.items (keeps_more c.self.inside.script c.self.inside.core c.later_step.new.core c.self.inside.journal.items c.self.inside.kept.items c.self.inside.progress.items _ c.args.session c.self.invariant.0 q.session.from_one q.session.within q.under_way c.in-More.ensures.steps c.in-More.ensures.apart)

pub returns-in-More-clause-cause : goal.returns-in-More-clause-cause
returns-in-More-clause-cause c =
    let q = rw (← c.self.view_is) at c.requires in
    λ more. last_run _ c.self.inside.progress.items c.args.session (keeps_more c.self.inside.script c.self.inside.core c.later_step.new.core c.self.inside.journal.items c.self.inside.kept.items c.self.inside.progress.items _ c.args.session c.self.invariant.0 q.session.from_one q.session.within q.under_way c.in-More.ensures.steps c.in-More.ensures.apart) q.session.from_one q.session.within c.in-More.ensures.steps.past

pub returns-in-More-clause-left : goal.returns-in-More-clause-left
returns-in-More-clause-left c = rw (← c.self.view_is) (λ _. c.in-More.ensures.steps.fewer)

pub returns-in-Done-clause-made : goal.returns-in-Done-clause-made
returns-in-Done-clause-made c =
    let q = rw (← c.self.view_is) at c.requires in
    let old = the_view c.self.inside in
    let ps = c.self.inside.progress.items in
    rw (← c.self.view_is) (made_done old c.later_step.new.core c.set_reply.new.kept.items ps c.args.session c.index.result.now.entry c.self.invariant.0 q.session.from_one q.session.within q.under_way c.in-Done.ensures.apart c.in-Done.ensures.steps.1
    (ap (λ (p : Progress). p.entry) (progress_is old ps c.args.session c.index.result.now c.self.invariant.0 q.session.from_one q.session.within c.index.ensures))
    c.in-Done.ensures.event)

pub returns-in-Done-clause-own : goal.returns-in-Done-clause-own
returns-in-Done-clause-own c =
    let q = rw (← c.self.view_is) at c.requires in
    let old = the_view c.self.inside in
    let ps = c.self.inside.progress.items in
    tells _ ps (done_is old c.later_step.new.core ps c.args.session c.index.result.now c.in-Done.reply c.set_reply.new.kept.items c.self.invariant.0 q.session.from_one q.session.within q.under_way c.index.ensures c.in-Done.ensures.steps.0 c.in-Done.ensures.apart c.in-Done.ensures.steps.1 c.in-Done.ensures.steps.2 c.set_reply.ensures.line)

pub returns-in-Done-clause-cause : goal.returns-in-Done-clause-cause
returns-in-Done-clause-cause c = λ e. absurd (cc)

pub returns-in-Done-clause-left : goal.returns-in-Done-clause-left
returns-in-Done-clause-left c = λ e. absurd (cc)

pub returns-in-Short-clause-made : goal.returns-in-Short-clause-made
returns-in-Short-clause-made c =
    let q = rw (← c.self.view_is) at c.requires in
    let old = the_view c.self.inside in
    let ps = c.self.inside.progress.items in
    let b = short_of old c.later_step.new.core ps c.args.session c.in-Short.cut c.index.result.now c.self.invariant.0 q.session.from_one q.session.within q.under_way c.index.ensures c.in-Short.ensures.steps.0 c.in-Short.ensures.steps.1 c.in-Short.ensures.event c.in-Short.ensures.apart in
    let so = short_so old c.later_step.new.core ps c.args.session c.in-Short.cut c.kind.result c.reply.result c.index.result.now c.push_entry.new.journal.items c.set_reply-in-Short.new.kept.items (slice_set ps (c.args.session - 1) (record { begun = c.index.result.now.begun; entry = c.len-entry.result; line = c.index.result.now.line })) c.len-entry.result c.self.invariant.0 q.session.from_one q.session.within c.index.ensures b c.kind.ensures c.reply.ensures c.push_entry.ensures.items c.set_reply-in-Short.ensures.line refl (c.len-entry.ensures ∙ c.self.inside.journal.ok.0) in
    rw (← c.self.view_is) so.made

pub returns-in-Short-clause-own : goal.returns-in-Short-clause-own
returns-in-Short-clause-own c =
    let q = rw (← c.self.view_is) at c.requires in
    let old = the_view c.self.inside in
    let ps = c.self.inside.progress.items in
    let b = short_of old c.later_step.new.core ps c.args.session c.in-Short.cut c.index.result.now c.self.invariant.0 q.session.from_one q.session.within q.under_way c.index.ensures c.in-Short.ensures.steps.0 c.in-Short.ensures.steps.1 c.in-Short.ensures.event c.in-Short.ensures.apart in
    let so = short_so old c.later_step.new.core ps c.args.session c.in-Short.cut c.kind.result c.reply.result c.index.result.now c.push_entry.new.journal.items c.set_reply-in-Short.new.kept.items (slice_set ps (c.args.session - 1) (record { begun = c.index.result.now.begun; entry = c.len-entry.result; line = c.index.result.now.line })) c.len-entry.result c.self.invariant.0 q.session.from_one q.session.within c.index.ensures b c.kind.ensures c.reply.ensures c.push_entry.ensures.items c.set_reply-in-Short.ensures.line refl (c.len-entry.ensures ∙ c.self.inside.journal.ok.0) in
    tells _ _ so.keeps

pub returns-in-Short-clause-cause : goal.returns-in-Short-clause-cause
returns-in-Short-clause-cause c = λ e. absurd (cc)

pub returns-in-Short-clause-left : goal.returns-in-Short-clause-left
returns-in-Short-clause-left c = λ e. absurd (cc)
