-- What holds of draws between a hub's core and its journal.
use Rattle.std.proofs.Common.{ap, arith, refl, subst, sym, ◌∙◌}
use Rattle.std.proofs.lemmas.List.{length-map}
use Rattle.std.specs.Prelude.{Bool, List, Option, Some, [], get_or, length, true, ℕ, ◌++◌, ◌-◌, ◌∷◌, ◌≡◌, ◌≤◌}
use Rattle.tuple_layout.specs.Schemas.{TableSchema}
use Rattle.command_set.specs.Journals.{command_at, run_of, told_of}
use Rattle.command_set.specs.declared.Command.{Command}
use Rattle.command_set.specs.declared.JournalEntry.{JournalEntry}
use Rattle.command_set.specs.declared.Kind.{Kind}
use Rattle.command_set.specs.declared.Kind.TheVariants as kinds
use Rattle.command_set.specs.declared.Reply.{Reply}
use Rattle.command_set.specs.declared.Reply.TheVariants as replies
use Rattle.command_set.specs.declared.Script.{Script}
use Rattle.command_set.specs.declared.journal.Run.{Run}
use Rattle.command_set.specs.declared.journal.Told.{Told}
use Rattle.write_steps.specs.Writes.{Writing}
use Rattle.core_state.specs.Commands.{IsFitting}
use Rattle.core_state.specs.Events.{Event}
use Rattle.core_state.specs.Moves.{OthersStay}
use Rattle.core_state.specs.State.{CoreState, is_past_moment, seat_of}
use Rattle.core_state.specs.declared.advance.Advance.TheVariants as advances
use Rattle.core_state.specs.declared.seat.Job.{Job}
use Rattle.core_state.specs.declared.seat.Job.TheVariants as jobs
use Rattle.toast_core.specs.Cores.{IsCore}
use Rattle.draw_counts.proofs.Proved.{drawn_keeps}
use Rattle.draw_counts.specs.Drawn.{IsDrawn, ReachesIds}
use Rattle.draw_counts.specs.Laws.{IsAt, IsLeft, IsNext, IsOn, entry_of}
use Rattle.session_shell.specs.Hubs.{HubState, IsBusy, IsHub, is_saving, replies_of}
use Rattle.session_shell.specs.Steps.{HasMade, MayEnd, end_by, kind_of}
use Rattle.session_shell.specs.Turns.{End, EventCut, EventFirst, EventLast, first_hub}
use Rattle.session_shell.specs.declared.hub.Progress.{Progress}
use Rattle.session_shell.specs.declared.steps.Cut.{Cut}
use Rattle.session_shell.specs.declared.steps.Cut.TheVariants as cuts
use Rattle.session_shell.specs.declared.steps.First.{First}
use Rattle.session_shell.proofs.Laters.{busy_of, progress_is}

-- what holds of a hub's draws
abbrev pub HasDrawn : HubState → Type 0
HasDrawn hub = IsDrawn hub.script hub.core hub.journal

-- ---- a new hub

pub drawn_first : (hub : HubState) (script : Script) → hub ≡ first_hub script → IsCore hub.core → HasDrawn hub
drawn_first hub script is core =
    let first = subst (λ (h : HubState). IsCore h.core) is core in
    subst HasDrawn (sym is) (drawn_keeps.first script first.sound first.parts)

-- ---- a session of a hub

drawn_at : (hub : HubState) (ps : List Progress) (s : ℕ) → IsHub hub ps → HasDrawn hub → 1 ≤ s → s ≤ length hub.script.sessions → IsAt hub.script hub.core hub.journal s
drawn_at hub ps s h drawn one within = record {
  there = record { from_one = one; within = omega (arith, within, h.seats) };
  schemas = sym h.schemas;
  seats = h.seats;
  told = h.told;
  drawn = drawn;
}

left_by : (old : HubState) (core : CoreState) (s : ℕ) → IsCore core → OthersStay old.core s core → IsLeft old.core s core
left_by old core s kept others = record { sound = kept.sound; parts = kept.parts; others = others }

-- ---- a turn that begins a command

drawn_next : (hub : HubState) (ps : List Progress) (s n : ℕ) (command : Command) → IsHub hub ps → HasDrawn hub → 1 ≤ s → s ≤ length hub.script.sessions → (seat_of hub.core s).job ≡ jobs.Idle → command_at hub.script s n ≡ Some command
    → IsNext hub.script hub.core hub.journal s n command
drawn_next hub ps s n command h drawn one within idle is =
    let run = run_of hub.script hub.journal in
    record {
      at = drawn_at hub ps s h drawn one within;
      idle = idle;
      is = is;
      fits = subst (λ (schemas : List TableSchema). IsFitting schemas command) (sym h.schemas) (h.rules.fits s n command is);
      replies = replies_of run;
      answered = omega (arith, one, within, h.told, length-map run.told (λ (t : Told). t.reply));
      stands = h.stands;
    }

pub drawn_begun : (old : HubState) (core : CoreState) (ps : List Progress) (s n : ℕ) (command : Command) (first : First) (journal : List JournalEntry) → IsHub old ps → HasDrawn old → 1 ≤ s → s ≤ length old.script.sessions → (seat_of old.core s).job ≡ jobs.Idle
    → command_at old.script s n ≡ Some command → (first.kind ≡ kinds.Run → HasMade old.core s command core) → EventFirst first.kind (end_by first.goes_on) old.core s command core → OthersStay old.core s core → IsCore core
    → journal ≡ old.journal ++ entry_of s n first.kind ∷ [] → IsDrawn old.script core journal
drawn_begun old core ps s n command first journal h drawn one within idle is made event others kept grown = subst (IsDrawn old.script core) (sym grown) (by first.kind made event)
  where
    next : IsNext old.script old.core old.journal s n command
    next = drawn_next old ps s n command h drawn one within idle is

    by : (kind : Kind) → (kind ≡ kinds.Run → HasMade old.core s command core) → EventFirst kind (end_by first.goes_on) old.core s command core → IsDrawn old.script core (old.journal ++ entry_of s n kind ∷ [])
    by kinds.Run made event =
        let m = made refl in
        drawn_keeps.run old.script old.core old.journal s n command core m.advance next m.makes.event.event m.makes.runs (left_by old core s kept others)
    by kinds.End made event = absurd event
    by kinds.NoValueId made event = absurd event
    by kinds.Memory made event = drawn_keeps.wants old.script old.core old.journal s n command core next event (left_by old core s kept others)

-- ---- a turn of a command under way

drawn_on : (hub : HubState) (ps : List Progress) (s n : ℕ) → IsHub hub ps → HasDrawn hub → 1 ≤ s → s ≤ length hub.script.sessions → is_past_moment (seat_of hub.core s).job ≡ true → n ≡ (told_of (run_of hub.script hub.journal) s).begun
    → (command : Command) × IsOn hub.script hub.core hub.journal s n command
drawn_on hub ps s n h drawn one within past last =
    let busy = busy_of hub.script s (told_of (run_of hub.script hub.journal) s) (seat_of hub.core s).job past (h.each s one within).busy in
    (busy.command, record { at = drawn_at hub ps s h drawn one within; past = past; is = ap (command_at hub.script s) last ∙ busy.there; last = last })

pub drawn_more : (old : HubState) (core : CoreState) (ps : List Progress) (s : ℕ) → IsHub old ps → HasDrawn old → 1 ≤ s → s ≤ length old.script.sessions → is_past_moment (seat_of old.core s).job ≡ true → Event old.core s core advances.More → OthersStay old.core s core → IsCore core
    → IsDrawn old.script core old.journal
drawn_more old core ps s h drawn one within past event others kept =
    let n = (told_of (run_of old.script old.journal) s).begun in
    let on = drawn_on old ps s n h drawn one within past refl in
    drawn_keeps.steps old.script old.core old.journal s n on.0 core advances.More on.1 event (λ e. cc) (left_by old core s kept others)

pub drawn_done : (old : HubState) (core : CoreState) (ps : List Progress) (s : ℕ) → IsHub old ps → HasDrawn old → 1 ≤ s → s ≤ length old.script.sessions → is_past_moment (seat_of old.core s).job ≡ true → EventLast old.core s core → OthersStay old.core s core → IsCore core
    → IsDrawn old.script core old.journal
drawn_done old core ps s h drawn one within past last others kept =
    let n = (told_of (run_of old.script old.journal) s).begun in
    let on = drawn_on old ps s n h drawn one within past refl in
    drawn_keeps.steps old.script old.core old.journal s n on.0 core (advances.Done last.reply) on.1 last.event.event (λ e. last.other (same_said last.reply replies.NoValueId e)) (left_by old core s kept others)
  where
    same_said : (a b : Reply) → advances.Done a ≡ advances.Done b → a ≡ b
    same_said a b e = cc

-- a write that saves a value
saving_is : (job : Job) → is_saving job ≡ true → (t : ℕ) × (write : Writing) × (job ≡ jobs.Writing t write)
saving_is jobs.Idle e = absurd (cc)
saving_is (jobs.Submitted command) e = absurd (cc)
saving_is (jobs.Reading table snapshot read) e = absurd (cc)
saving_is (jobs.Writing table write) e = (table, write, refl)

pub drawn_short : (old : HubState) (core : CoreState) (ps : List Progress) (s : ℕ) (cut : Cut) (kind : Kind) (x : Progress) (journal : List JournalEntry) → IsHub old ps → HasDrawn old → 1 ≤ s → s ≤ length old.script.sessions → is_past_moment (seat_of old.core s).job ≡ true → x ≡ get_or ps (s - 1) x
    → MayEnd cut (seat_of old.core s).job → EventCut (kind_of cut) old.core s core → OthersStay old.core s core → IsCore core → kind ≡ kind_of cut → journal ≡ old.journal ++ entry_of s x.begun kind ∷ [] → IsDrawn old.script core journal
drawn_short old core ps s cut kind x journal h drawn one within past is may event others kept same grown =
    subst (IsDrawn old.script core) (sym (grown ∙ ap (λ (k : Kind). old.journal ++ entry_of s x.begun k ∷ []) same)) (by cut may event)
  where
    on : (command : Command) × IsOn old.script old.core old.journal s x.begun command
    on = drawn_on old ps s x.begun h drawn one within past (ap (λ (p : Progress). p.begun) (sym (progress_is old ps s x h one within is)) ∙ (h.each s one within).begun)

    by : (its : Cut) → MayEnd its (seat_of old.core s).job → EventCut (kind_of its) old.core s core → IsDrawn old.script core (old.journal ++ entry_of s x.begun (kind_of its) ∷ [])
    by cuts.NoValueId saves refused =
        let write = saving_is (seat_of old.core s).job saves in
        drawn_keeps.refused old.script old.core old.journal s x.begun on.0 core write.0 write.1 on.1 write.2 refused.event (left_by old core s kept others)
    by cuts.Memory free fails = drawn_keeps.cut old.script old.core old.journal s x.begun on.0 core on.1 fails (left_by old core s kept others)
