-- A command begins: what is recorded keeps the hub, and there is room for it.
use Rattle.std.proofs.Common.{ℕ, ◌+◌, arith, length, refl, rules, sym, ap, ◌∙◌}
use Rattle.std.specs.Prelude.{if◌then◌else◌}
use Rattle.std.proofs.lemmas.List.{length-map}
use Rattle.command_set.specs.declared.journal.Told.{Told}
use Rattle.command_set.specs.Journals.{run_of}
use Rattle.session_shell.specs.Hubs.{replies_of}
use Rattle.session_shell.specs.declared.hub.Turn.TheVariants as turns
use Rattle.session_shell.specs.contracts.hub.Hub.{the_view}
use Rattle.session_shell.proofs.Drawing.{drawn_begun}
use Rattle.session_shell.proofs.Made.{begun_hub, begun_is, begun_made, begun_next, fits, goes_on_by, rests, room_left}
use Rattle.session_shell.proofs.Laters.{last_run, tells}
use Rattle.session_shell.proofs.Turning.{turned_on}
use Rattle.session_shell.proofs.hub.Hub.begin_next.Goals as goal

pub overflow_sub-at : goal.overflow_sub-at
overflow_sub-at c = c.requires.session.from_one

pub overflow_cast-at : goal.overflow_cast-at
overflow_cast-at c = search rules

pub index-requires : goal.index-requires
index-requires c =
    let q = rw (← c.self.view_is) at c.requires in
    omega (arith, q.session.from_one, q.session.within, c.self.invariant.0.places, c.self.inside.progress.ok.0)

pub same-self : goal.same-self
same-self c = search rules

pub returns-in_default-clause-made : goal.returns-in_default-clause-made
returns-in_default-clause-made c =
    let q = rw (← c.self.view_is) at c.requires in
    let old = the_view c.self.inside in
    let ps = c.self.inside.progress.items in
    let next = begun_next old ps c.args.session c.index.result.now c.self.invariant.0 q.session.from_one q.session.within c.index.ensures in
    rw (← c.self.view_is) (rests old ps c.args.session (c.index.result.now.begun + 1) c.self.invariant.0 q.session.from_one q.session.within q.idle next (sym c.in_default.ensures))

pub returns-in_default-clause-own : goal.returns-in_default-clause-own
returns-in_default-clause-own c = rw (← c.self.view_is) (tells (the_view c.self.inside) c.self.inside.progress.items c.self.invariant.0)

pub returns-in_default-clause-cause : goal.returns-in_default-clause-cause
returns-in_default-clause-cause c = λ e. absurd (cc)

pub first_step-first-requires-clause-session : goal.first_step-first-requires-clause-session
first_step-first-requires-clause-session c =
    let q = rw (← c.self.view_is) at c.requires in
    record { from_one = q.session.from_one; within = omega (arith, q.session.within, c.self.invariant.0.seats) }

pub first_step-first-requires-clause-idle : goal.first_step-first-requires-clause-idle
first_step-first-requires-clause-idle c = let q = rw (← c.self.view_is) at c.requires in q.idle

pub first_step-first-requires-clause-fits : goal.first_step-first-requires-clause-fits
first_step-first-requires-clause-fits c = rw c.self.invariant.0.schemas (c.self.invariant.0.rules.fits c.args.session (c.index.result.now.begun + 1) c.in-Some.command.now (sym c.in-Some.ensures))

pub first_step-first-requires-clause-stood : goal.first_step-first-requires-clause-stood
first_step-first-requires-clause-stood c =
    let q = rw (← c.self.view_is) at c.requires in
    let run = run_of c.self.inside.script c.self.inside.journal.items in
    record { state = run.plain; replies = replies_of run; within = omega (arith, q.session.from_one, q.session.within, c.self.invariant.0.told, length-map run.told (λ (t : Told). t.reply)); stands = c.self.invariant.0.stands }

pub overflow_cast-entry : goal.overflow_cast-entry
overflow_cast-entry c =
    let room = fits (the_view c.self.inside) c.self.inside.progress.items c.self.invariant.0 in
    omega (arith, room.journal_fits, room.few, c.len-entry.ensures, c.self.inside.journal.ok.0)

pub overflow_add-begun : goal.overflow_add-begun
overflow_add-begun c =
    let q = rw (← c.self.view_is) at c.requires in
    let old = the_view c.self.inside in
    let ps = c.self.inside.progress.items in
    let next = begun_next old ps c.args.session c.index.result.now c.self.invariant.0 q.session.from_one q.session.within c.index.ensures in
    let b = begun_hub old c.first_step-first.new.core ps c.args.session (c.index.result.now.begun + 1) c.in-Some.command.now c.first_step-first.result c.first_step-first.ensures.begins c.first_step-first.ensures.event c.self.invariant.0 q.session.from_one q.session.within q.idle next (sym c.in-Some.ensures) c.first_step-first.ensures.apart in
    let room = room_left old c.first_step-first.new.core ps c.args.session (c.index.result.now.begun + 1) c.first_step-first.result b q.session.from_one q.session.within c.self.invariant.0 next in
    omega (arith, room.number)

pub record_first-requires-clause-session : goal.record_first-requires-clause-session
record_first-requires-clause-session c = c.requires.session.from_one

pub record_first-requires-clause-place : goal.record_first-requires-clause-place
record_first-requires-clause-place c =
    let q = rw (← c.self.view_is) at c.requires in
    omega (arith, q.session.within, c.self.invariant.0.places, c.self.inside.progress.ok.0)

pub record_first-requires-clause-entry : goal.record_first-requires-clause-entry
record_first-requires-clause-entry c =
    let q = rw (← c.self.view_is) at c.requires in
    let old = the_view c.self.inside in
    let ps = c.self.inside.progress.items in
    let next = begun_next old ps c.args.session c.index.result.now c.self.invariant.0 q.session.from_one q.session.within c.index.ensures in
    let b = begun_hub old c.first_step-first.new.core ps c.args.session (c.index.result.now.begun + 1) c.in-Some.command.now c.first_step-first.result c.first_step-first.ensures.begins c.first_step-first.ensures.event c.self.invariant.0 q.session.from_one q.session.within q.idle next (sym c.in-Some.ensures) c.first_step-first.ensures.apart in
    let room = room_left old c.first_step-first.new.core ps c.args.session (c.index.result.now.begun + 1) c.first_step-first.result b q.session.from_one q.session.within c.self.invariant.0 next in
    omega (arith, room.entry, c.self.invariant.1, c.self.inside.journal.ok.0)

pub record_first-requires-clause-line : goal.record_first-requires-clause-line
record_first-requires-clause-line c =
    let q = rw (← c.self.view_is) at c.requires in
    let old = the_view c.self.inside in
    let ps = c.self.inside.progress.items in
    let next = begun_next old ps c.args.session c.index.result.now c.self.invariant.0 q.session.from_one q.session.within c.index.ensures in
    let b = begun_hub old c.first_step-first.new.core ps c.args.session (c.index.result.now.begun + 1) c.in-Some.command.now c.first_step-first.result c.first_step-first.ensures.begins c.first_step-first.ensures.event c.self.invariant.0 q.session.from_one q.session.within q.idle next (sym c.in-Some.ensures) c.first_step-first.ensures.apart in
    let room = room_left old c.first_step-first.new.core ps c.args.session (c.index.result.now.begun + 1) c.first_step-first.result b q.session.from_one q.session.within c.self.invariant.0 next in
    omega (arith, room.line, c.self.invariant.2, c.self.inside.kept.ok.0)

pub record_first-requires-clause-entries : goal.record_first-requires-clause-entries
record_first-requires-clause-entries c =
    let room = fits (the_view c.self.inside) c.self.inside.progress.items c.self.invariant.0 in
    omega (arith, room.journal_fits, room.few, c.self.inside.journal.ok.0)

pub record_first-requires-clause-lines : goal.record_first-requires-clause-lines
record_first-requires-clause-lines c =
    let room = fits (the_view c.self.inside) c.self.inside.progress.items c.self.invariant.0 in
    omega (arith, room.kept_fits, room.few, c.self.inside.kept.ok.0)

pub invariant_of-self : goal.invariant_of-self
invariant_of-self c =
    let q = rw (← c.self.view_is) at c.requires in
    let old = the_view c.self.inside in
    let ps = c.self.inside.progress.items in
    let next = begun_next old ps c.args.session c.index.result.now c.self.invariant.0 q.session.from_one q.session.within c.index.ensures in
    let b = begun_hub old c.first_step-first.new.core ps c.args.session (c.index.result.now.begun + 1) c.in-Some.command.now c.first_step-first.result c.first_step-first.ensures.begins c.first_step-first.ensures.event c.self.invariant.0 q.session.from_one q.session.within q.idle next (sym c.in-Some.ensures) c.first_step-first.ensures.apart in (
      begun_is old c.first_step-first.new.core ps c.record_first.new.progress.items c.args.session (c.index.result.now.begun + 1) c.first_step-first.result c.record_first.new.journal.items c.record_first.new.kept.items b c.record_first.ensures.journal c.record_first.ensures.kept c.record_first.ensures.progress,
      omega (arith, c.self.invariant.1, c.record_first.ensures.entries),
      omega (arith, c.self.invariant.2, c.record_first.ensures.lines),
      turned_on old _ _ c.self.invariant.3 (begun_made old c.first_step-first.new.core ps c.args.session (c.index.result.now.begun + 1) c.first_step-first.result c.record_first.new.journal.items c.record_first.new.kept.items (if c.first_step-first.result.goes_on then turns.More else turns.Ended (length old.journal)) b c.record_first.ensures.journal c.record_first.ensures.kept refl).ran,
      drawn_begun old c.first_step-first.new.core ps c.args.session (c.index.result.now.begun + 1) c.in-Some.command.now c.first_step-first.result c.record_first.new.journal.items c.self.invariant.0 c.self.invariant.4 q.session.from_one q.session.within q.idle (sym c.in-Some.ensures) c.first_step-first.ensures.made c.first_step-first.ensures.event c.first_step-first.ensures.apart c.first_step-first.ensures.kept c.record_first.ensures.journal,
    )

pub returns-clause-made : goal.returns-clause-made
returns-clause-made c =
    let q = rw (← c.self.view_is) at c.requires in
    let old = the_view c.self.inside in
    let ps = c.self.inside.progress.items in
    let next = begun_next old ps c.args.session c.index.result.now c.self.invariant.0 q.session.from_one q.session.within c.index.ensures in
    let b = begun_hub old c.first_step-first.new.core ps c.args.session (c.index.result.now.begun + 1) c.in-Some.command.now c.first_step-first.result c.first_step-first.ensures.begins c.first_step-first.ensures.event c.self.invariant.0 q.session.from_one q.session.within q.idle next (sym c.in-Some.ensures) c.first_step-first.ensures.apart in
    rw (← c.self.view_is) (begun_made old c.first_step-first.new.core ps c.args.session (c.index.result.now.begun + 1) c.first_step-first.result c.record_first.new.journal.items c.record_first.new.kept.items c.turn_after.result b c.record_first.ensures.journal c.record_first.ensures.kept
    (c.turn_after.ensures ∙ ap (λ (at : ℕ). if c.first_step-first.result.goes_on then turns.More else turns.Ended at) (c.len-entry.ensures ∙ c.self.inside.journal.ok.0)))

pub returns-clause-own : goal.returns-clause-own
returns-clause-own c =
    let q = rw (← c.self.view_is) at c.requires in
    let old = the_view c.self.inside in
    let ps = c.self.inside.progress.items in
    let next = begun_next old ps c.args.session c.index.result.now c.self.invariant.0 q.session.from_one q.session.within c.index.ensures in
    let b = begun_hub old c.first_step-first.new.core ps c.args.session (c.index.result.now.begun + 1) c.in-Some.command.now c.first_step-first.result c.first_step-first.ensures.begins c.first_step-first.ensures.event c.self.invariant.0 q.session.from_one q.session.within q.idle next (sym c.in-Some.ensures) c.first_step-first.ensures.apart in
    tells _ c.record_first.new.progress.items (begun_is old c.first_step-first.new.core ps c.record_first.new.progress.items c.args.session (c.index.result.now.begun + 1) c.first_step-first.result c.record_first.new.journal.items c.record_first.new.kept.items b c.record_first.ensures.journal c.record_first.ensures.kept c.record_first.ensures.progress)

pub returns-clause-cause : goal.returns-clause-cause
returns-clause-cause c =
    let q = rw (← c.self.view_is) at c.requires in
    let old = the_view c.self.inside in
    let ps = c.self.inside.progress.items in
    let next = begun_next old ps c.args.session c.index.result.now c.self.invariant.0 q.session.from_one q.session.within c.index.ensures in
    let b = begun_hub old c.first_step-first.new.core ps c.args.session (c.index.result.now.begun + 1) c.in-Some.command.now c.first_step-first.result c.first_step-first.ensures.begins c.first_step-first.ensures.event c.self.invariant.0 q.session.from_one q.session.within q.idle next (sym c.in-Some.ensures) c.first_step-first.ensures.apart in
    λ more. last_run _ c.record_first.new.progress.items c.args.session (begun_is old c.first_step-first.new.core ps c.record_first.new.progress.items c.args.session (c.index.result.now.begun + 1) c.first_step-first.result c.record_first.new.journal.items c.record_first.new.kept.items b c.record_first.ensures.journal c.record_first.ensures.kept c.record_first.ensures.progress) q.session.from_one q.session.within (b.past ∙ goes_on_by c.first_step-first.result.goes_on c.turn_after.result c.len-entry.result c.turn_after.ensures more)

pub returns-clause-under_way : goal.returns-clause-under_way
returns-clause-under_way c =
    let q = rw (← c.self.view_is) at c.requires in
    let old = the_view c.self.inside in
    let ps = c.self.inside.progress.items in
    let next = begun_next old ps c.args.session c.index.result.now c.self.invariant.0 q.session.from_one q.session.within c.index.ensures in
    let b = begun_hub old c.first_step-first.new.core ps c.args.session (c.index.result.now.begun + 1) c.in-Some.command.now c.first_step-first.result c.first_step-first.ensures.begins c.first_step-first.ensures.event c.self.invariant.0 q.session.from_one q.session.within q.idle next (sym c.in-Some.ensures) c.first_step-first.ensures.apart in
    λ more. b.past ∙ goes_on_by c.first_step-first.result.goes_on c.turn_after.result c.len-entry.result c.turn_after.ensures more
