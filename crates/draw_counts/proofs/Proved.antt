-- The law of the draws that a journal tells of.
use Rattle.std.proofs.Common.{ap, arith, inl, inr, refl, subst, sym, ◌∙◌}
use Rattle.std.proofs.lemmas.Bool.Decides.{nat_tests}
use Rattle.std.proofs.lemmas.List.{length-set}
use Rattle.std.specs.Option.{unwrap_or}
use Rattle.std.specs.Prelude.{Bool, List, Option, Some, [], false, length, map as mapped, replicate, slice_get, slice_index_or, slice_set, suc, true, zero, ℕ, ◌++◌, ◌+◌, ◌-◌, ◌==◌, ◌∷◌, ◌≡◌, ◌≢◌, ◌≤◌, ◌⊎◌}
use Rattle.list_facts.proofs.Changed.{get_set_other}
use Rattle.tuple_layout.specs.Schemas.{TableSchema}
use Rattle.value_ids.specs.Ids.{id_count}
use Rattle.command_set.proofs.Numbered.{nth_set_other, nth_set_same}
use Rattle.command_set.specs.Answers.{answer, table_of}
use Rattle.command_set.specs.Journals.{Moment, after_moment, command_at, run_of, told_of, untold}
use Rattle.command_set.specs.declared.Command.{Command}
use Rattle.command_set.specs.declared.JournalEntry.{JournalEntry}
use Rattle.command_set.specs.declared.Kind.{Kind}
use Rattle.command_set.specs.declared.Kind.TheVariants as kinds
use Rattle.command_set.specs.declared.Script.{Script}
use Rattle.command_set.specs.declared.journal.Run.{Run}
use Rattle.command_set.specs.declared.journal.Told.{Told}
use Rattle.command_set.specs.Plain.{session_of}
use Rattle.write_steps.specs.Writes.{Writing}
use Rattle.core_state.proofs.Proved.{submit_keeps}
use Rattle.core_state.proofs.Seats.{seat_written}
use Rattle.core_state.specs.Events.{Event, IsDrawRefused, IsDue}
use Rattle.core_state.specs.Lines.{after_failing, after_submit}
use Rattle.core_state.specs.Moves.{OthersStay, Runs, Says}
use Rattle.core_state.specs.Stands.{Stands}
use Rattle.core_state.specs.State.{CoreState, IsSession, is_past_moment, nobody, seat_of}
use Rattle.core_state.specs.declared.advance.Advance.{Advance}
use Rattle.core_state.specs.declared.seat.Job.{Job}
use Rattle.core_state.specs.declared.seat.Seat.{Seat}
use Rattle.core_events.proofs.Proved.{failures_keep}
use Rattle.core_events.specs.Advanced.{FailsBy}
use Rattle.core_events.specs.Laws.{IsSoundAt}
use Rattle.core_draws.proofs.Proved.{draws_keep, draws_refused}
use Rattle.core_draws.specs.Draws.{draws_begun, draws_counted, draws_of}
use Rattle.core_draws.specs.Laws.{SameRange}
use Rattle.change_stream.proofs.Holding.{changes_are}
use Rattle.change_stream.proofs.Telling.{journal_holds}
use Rattle.change_stream.specs.Streams.{Stream, changes_of, written_of}
use Rattle.core_outs.proofs.Proved.{outs_keep, runs_out}
use Rattle.core_outs.proofs.Quiet.{there_then}
use Rattle.core_outs.specs.Counts.{draw_count}
use Rattle.core_outs.specs.Laws.{IsCut, IsRun, StreamOuts}
use Rattle.draw_counts.proofs.Pushes.{count_more, entry_more, next_moment, run_more, stream_more}
use Rattle.draw_counts.proofs.Tables.{moment_table, step_table}
use Rattle.draw_counts.specs.Drawn.{IsDrawn, IsOfTable, ReachesIds, stream_at}
use Rattle.draw_counts.specs.Laws.{DrawnKeeps, IsAt, IsLeft, IsNext, IsOn, entry_of}
use Rattle.command_set.specs.declared.Reply.TheVariants as replies
use Rattle.core_state.specs.declared.advance.Advance.TheVariants as advances
use Rattle.core_state.specs.declared.seat.Job.TheVariants as jobs

-- ---- a journal with one entry more

same_some : {A : Type 0} (x y : A) → Some x ≡ Some y → x ≡ y
same_some x y e = cc

reached_more : (script : Script) (journal : List JournalEntry) (e : JournalEntry) (command : Command) → command_at script e.session e.number ≡ Some command → ReachesIds script journal
    → ((t : ℕ) → e.kind ≡ kinds.NoValueId → table_of command ≡ Some t → script.high - script.low + 1 ≤ draw_count script journal t) → ReachesIds script (journal ++ e ∷ [])
reached_more script journal e command is old here = record {
  each = λ i one its t at kind its_is table. elim (entry_more journal e i one at) [
    | inl h ↦ subst (λ (es : List JournalEntry). script.high - script.low + 1 ≤ draw_count script es t) (sym h.1) (old.each i one its t h.0 kind its_is table)
    | inr h ↦
        let same : command ≡ its = same_some command its (sym is ∙ ap (λ (x : JournalEntry). command_at script x.session x.number) h.0 ∙ its_is) in
        subst (λ (es : List JournalEntry). script.high - script.low + 1 ≤ draw_count script es t) (sym h.1) (here t (ap (λ (x : JournalEntry). x.kind) h.0 ∙ kind) (ap table_of same ∙ table))
  ];
}

read_got : (seats : List Seat) (i : ℕ) → slice_index_or seats i nobody ≡ unwrap_or (slice_get seats i) nobody
read_got [] i = refl
read_got (seat ∷ seats) zero = refl
read_got (seat ∷ seats) (suc i) = read_got seats i

-- another session's seat
seat_stays : (c : CoreState) (s : ℕ) (v : CoreState) (k : ℕ) → IsSession c.seats s → OthersStay c s v → 1 ≤ k → k ≢ s → seat_of v k ≡ seat_of c k
seat_stays c s v k there others low differ =
    let one = there.from_one in
    same_at v.seats c.seats (k - 1) (others.each (k - 1) (λ e. differ (omega (arith, e, low, one))))
  where
    same_at : (xs ys : List Seat) (i : ℕ) → slice_get xs i ≡ slice_get ys i → slice_index_or xs i nobody ≡ slice_index_or ys i nobody
    same_at xs ys i e = read_got xs i ∙ ap (λ (o : Option Seat). unwrap_or o nobody) e ∙ sym (read_got ys i)

tables_more : (script : Script) (core : CoreState) (journal : List JournalEntry) (s n : ℕ) (command : Command) (kind : Kind) (new : CoreState) → IsAt script core journal s → command_at script s n ≡ Some command → OthersStay core s new → IsOfTable (table_of command) (seat_of new s).job
    → (k : ℕ) (its : Command) → 1 ≤ k → command_at script k (told_of (run_of script (journal ++ entry_of s n kind ∷ [])) k).begun ≡ Some its → IsOfTable (table_of its) (seat_of new k).job
tables_more script core journal s n command kind new at is others own k its low its_is = by (k == s) refl
  where
    run : Run
    run = run_of script journal

    x : Moment
    x = next_moment script journal (entry_of s n kind) command

    then_told : command_at script k (told_of (after_moment run x) k).begun ≡ Some its
    then_told = subst (λ (r : Run). command_at script k (told_of r k).begun ≡ Some its) (run_more script journal (entry_of s n kind) command is) its_is

    within : s ≤ length run.told
    within =
        let last = at.there.within in
        let seats = at.seats in
        let told = at.told in
        omega (arith, last, seats, told)

    by : (b : Bool) → (k == s) ≡ b → IsOfTable (table_of its) (seat_of new k).job
    by true same =
        let here : k ≡ s = grind (arith, nat_tests, same) in
        let told : (told_of (after_moment run x) s).begun ≡ n = ap (λ (o : Option Told). (unwrap_or o untold).begun) (nth_set_same run.told s _ at.there.from_one within) in
        let there : command_at script s (told_of (after_moment run x) s).begun ≡ Some its = subst (λ (j : ℕ). command_at script j (told_of (after_moment run x) j).begun ≡ Some its) here then_told in
        let one : command ≡ its = same_some command its (sym is ∙ ap (command_at script s) (sym told) ∙ there) in
        subst (λ (j : ℕ). IsOfTable (table_of its) (seat_of new j).job) (sym here) (subst (λ (c : Command). IsOfTable (table_of c) (seat_of new s).job) one own)
    by false apart =
        let differ : k ≢ s = grind (arith, nat_tests, apart) in
        let told : told_of (after_moment run x) k ≡ told_of run k = ap (λ (o : Option Told). unwrap_or o untold) (nth_set_other run.told s k _ at.there.from_one differ) in
        subst (λ (seat : Seat). IsOfTable (table_of its) seat.job) (sym (seat_stays core s new k at.there others low differ)) (at.drawn.tables k its low (ap (λ (t : Told). command_at script k t.begun) (sym told) ∙ then_told))

-- ---- what the journal says of the stream

lists_are : (script : Script) (core : CoreState) (journal : List JournalEntry) (s : ℕ) → IsAt script core journal s → length (stream_at script journal).written ≡ length core.seats
lists_are script core journal s at = (journal_holds script journal).lists ∙ sym at.seats

told_are : (script : Script) (journal : List JournalEntry) (k : ℕ) → mapped (λ w. w.change) (written_of (stream_at script journal) k) ≡ changes_of (run_of script journal).plain k
told_are script journal k = ((journal_holds script journal).each k).changes ∙ sym (changes_are (session_of (run_of script journal).plain k))

-- ---- a command that is submitted

sound_here : (script : Script) (core : CoreState) (journal : List JournalEntry) (s : ℕ) → IsAt script core journal s → IsSoundAt core s
sound_here script core journal s at = record { there = at.there; sound = at.drawn.sound; parts = at.drawn.parts }

submit_others : (c : CoreState) (s : ℕ) (command : Command) → OthersStay c s (after_submit c s command)
submit_others c s command = record {
  schemas = refl;
  count = length-set c.seats (s - 1) (record (seat_of c s) { job = jobs.Submitted command });
  each = λ i differ. get_set_other c.seats (s - 1) i (record (seat_of c s) { job = jobs.Submitted command }) differ;
}

-- a command that is about to have its moment
record IsSubmitted (script : Script) (core : CoreState) (journal : List JournalEntry) (s : ℕ) (command : Command) (mid : CoreState) (new : CoreState) : Type 0 where
  at : IsSoundAt mid s
  before : OthersStay core s mid
  others : OthersStay mid s new
  job : (seat_of mid s).job ≡ jobs.Submitted command
  outs : StreamOuts mid (stream_at script journal)
  counted : (t : ℕ) → draws_counted mid t ≤ draws_counted core t
  range : SameRange core.ids mid.ids

submitted : (script : Script) (core : CoreState) (journal : List JournalEntry) (s n : ℕ) (command : Command) (new : CoreState) → IsNext script core journal s n command → OthersStay core s new → IsSubmitted script core journal s command (after_submit core s command) new
submitted script core journal s n command new next others =
    let mid = after_submit core s command in
    let before = submit_others core s command in
    let drawn = next.at.drawn in
    let here = sound_here script core journal s next.at in
    record {
      at = record { there = there_then core mid s next.at.there before; sound = submit_keeps.sound core s command next.at.there next.idle next.fits drawn.sound; parts = record { ids = drawn.parts.ids; tables = drawn.parts.tables } };
      before = before;
      others = record { schemas = others.schemas; count = others.count ∙ sym before.count; each = λ i differ. others.each i differ ∙ sym (before.each i differ) };
      job = ap (λ (seat : Seat). seat.job) (seat_written core.seats s _ next.at.there);
      outs = outs_keep.submitted core s command (stream_at script journal) here before next.idle drawn.outs;
      counted = λ t.
          let most = (draws_keep.submitted core s command t here).most in
          omega (arith, most);
      range = record { low = refl; high = refl };
    }

-- ---- a moment

run_drawn : (script : Script) (core : CoreState) (journal : List JournalEntry) (s n : ℕ) (command : Command) (new : CoreState) (advance : Advance) → IsNext script core journal s n command → Event (after_submit core s command) s new advance → Runs core s command new advance
    → IsLeft core s new → IsDrawn script new (journal ++ entry_of s n kinds.Run ∷ [])
run_drawn script core journal s n command new advance next event runs left = record {
  sound = left.sound;
  parts = left.parts;
  low = (range 0).low ∙ next.at.drawn.low;
  high = (range 0).high ∙ next.at.drawn.high;
  outs = subst (StreamOuts new) (sym (stream_more script journal (entry_of s n kinds.Run) command next.is)) (runs_out.outs mid new advance script st x is_run sub.outs);
  counted = λ t.
      let submitted_most = sub.counted t in
      let advanced_most = (draws_keep.advanced mid s new advance t sub.at sub.others event).most in
      let begun : draws_begun (seat_of mid s).job (seat_of new s).job t ≡ draws_of t (seat_of new s).job = ap (λ (job : Job). draws_begun job (seat_of new s).job t) sub.job in
      let pushes = runs_out.draws mid new advance script st x t is_run sub.outs in
      let old = next.at.drawn.counted t in
      let more = count_more script journal (entry_of s n kinds.Run) command t next.is in
      omega (arith, submitted_most, advanced_most, begun, pushes, old, more);
  tables = tables_more script core journal s n command kinds.Run new next.at next.is left.others
      (moment_table mid s command new advance x.reply sub.at.there (subst (λ (job : Job). IsDue job mid s new advance) sub.job event.is) both.1);
  reached = reached_more script journal (entry_of s n kinds.Run) command next.is next.at.drawn.reached (λ t kind. absurd (no_run kind));
}
  where
    mid : CoreState
    mid = after_submit core s command

    st : Stream
    st = stream_at script journal

    x : Moment
    x = next_moment script journal (entry_of s n kinds.Run) command

    sub : IsSubmitted script core journal s command mid new
    sub = submitted script core journal s n command new next left.others

    range : (t : ℕ) → SameRange core.ids new.ids
    range t = (draws_keep.advanced mid s new advance t sub.at sub.others event).range

    no_run : kinds.Run ≡ kinds.NoValueId → ⊥
    no_run e = cc

    both : Stands new x.after (slice_set next.replies (s - 1) (Some x.reply)) × Says command (seat_of new s).job advance x.reply
    both = subst (λ (schemas : List TableSchema). Stands new (answer schemas x.before s command).after (slice_set next.replies (s - 1) (Some (answer schemas x.before s command).reply)) × Says command (seat_of new s).job advance (answer schemas x.before s command).reply)
        (sym next.at.schemas) (runs x.before next.replies next.answered next.stands)

    is_run : IsRun mid new advance script st x
    is_run = record {
      at = sub.at;
      sound = left.sound;
      others = sub.others;
      job = sub.job;
      event = event;
      replies = next.replies;
      later = slice_set next.replies (s - 1) (Some x.reply);
      stood = (submit_keeps.stands core s command next.at.there next.idle).stands x.before next.replies next.stands;
      stands = both.0;
      says = both.1;
      kind = refl;
      schemas = next.at.schemas;
      count = lists_are script core journal s next.at ∙ sym sub.before.count;
      told = told_are script journal;
    }

-- ---- an early end

-- one that finds these counted
record IsFailing (script : Script) (core : CoreState) (journal : List JournalEntry) (s : ℕ) (c : CoreState) (new : CoreState) : Type 0 where
  at : IsSoundAt c s
  fails : FailsBy c s new
  count : length c.seats ≡ length core.seats
  others : OthersStay c s new
  outs : StreamOuts c (stream_at script journal)
  counted : (t : ℕ) → draws_counted c t ≤ draws_counted core t
  range : SameRange core.ids c.ids

no_memory : kinds.Memory ≡ kinds.NoValueId → ⊥
no_memory e = cc

failed_drawn : (script : Script) (core : CoreState) (journal : List JournalEntry) (s n : ℕ) (command : Command) (c new : CoreState) → IsAt script core journal s → command_at script s n ≡ Some command → IsFailing script core journal s c new → IsLeft core s new
    → IsDrawn script new (journal ++ entry_of s n kinds.Memory ∷ [])
failed_drawn script core journal s n command c new at is failing left = record {
  sound = left.sound;
  parts = left.parts;
  low = range.low ∙ failing.range.low ∙ at.drawn.low;
  high = range.high ∙ failing.range.high ∙ at.drawn.high;
  outs = subst (StreamOuts new) (sym (stream_more script journal (entry_of s n kinds.Memory) command is)) (outs_keep.failed c new script (stream_at script journal) x cut failing.fails failing.outs);
  counted = λ t.
      let most = (draws_keep.failed c s new t failing.at failing.others failing.fails).most in
      let before = failing.counted t in
      let old = at.drawn.counted t in
      let more = count_more script journal (entry_of s n kinds.Memory) command t is in
      omega (arith, most, before, old, more);
  tables = tables_more script core journal s n command kinds.Memory new at is left.others (subst (IsOfTable (table_of command)) (sym (failures_keep.falls c s new failing.at failing.fails).over) tt);
  reached = reached_more script journal (entry_of s n kinds.Memory) command is at.drawn.reached (λ t kind. absurd (no_memory kind));
}
  where
    x : Moment
    x = next_moment script journal (entry_of s n kinds.Memory) command

    range : SameRange c.ids new.ids
    range = (draws_keep.failed c s new 0 failing.at failing.others failing.fails).range

    cut : IsCut c new (stream_at script journal) x
    cut = record { at = failing.at; others = failing.others; kind = inr refl; count = lists_are script core journal s at ∙ sym failing.count }

failing_here : (script : Script) (core : CoreState) (journal : List JournalEntry) (s : ℕ) (new : CoreState) → IsAt script core journal s → FailsBy core s new → OthersStay core s new → IsFailing script core journal s core new
failing_here script core journal s new at fails others = record {
  at = sound_here script core journal s at;
  fails = fails;
  count = refl;
  others = others;
  outs = at.drawn.outs;
  counted = λ t. omega arith;
  range = record { low = refl; high = refl };
}

wants_drawn : (script : Script) (core : CoreState) (journal : List JournalEntry) (s n : ℕ) (command : Command) (new : CoreState) → IsNext script core journal s n command → (new ≡ after_failing core s) ⊎ FailsBy (after_submit core s command) s new
    → IsLeft core s new → IsDrawn script new (journal ++ entry_of s n kinds.Memory ∷ [])
wants_drawn script core journal s n command new next fails left = elim fails [
  | inl h ↦ failed_drawn script core journal s n command core new next.at next.is (failing_here script core journal s new next.at (inl h) left.others) left
  | inr h ↦
      let sub = submitted script core journal s n command new next left.others in
      failed_drawn script core journal s n command (after_submit core s command) new next.at next.is
      (record { at = sub.at; fails = h; count = sub.before.count; others = sub.others; outs = sub.outs; counted = sub.counted; range = sub.range }) left
]

-- ---- a later step

no_begun : (job later : Job) (t : ℕ) → is_past_moment job ≡ true → draws_begun job later t ≡ 0
no_begun jobs.Idle later t past = refl
no_begun (jobs.Submitted command) later t past = absurd (cc)
no_begun (jobs.Reading table snapshot read) later t past = refl
no_begun (jobs.Writing table write) later t past = refl

-- of the session's last command
own_table : (script : Script) (core : CoreState) (journal : List JournalEntry) (s n : ℕ) (command : Command) → IsOn script core journal s n command → IsOfTable (table_of command) (seat_of core s).job
own_table script core journal s n command on = on.at.drawn.tables s command on.at.there.from_one (ap (command_at script s) (sym on.last) ∙ on.is)

steps_drawn : (script : Script) (core : CoreState) (journal : List JournalEntry) (s n : ℕ) (command : Command) (new : CoreState) (advance : Advance) → IsOn script core journal s n command → Event core s new advance → advance ≢ advances.Done replies.NoValueId
    → IsLeft core s new → IsDrawn script new journal
steps_drawn script core journal s n command new advance on event differ left = record {
  sound = left.sound;
  parts = left.parts;
  low = range.low ∙ on.at.drawn.low;
  high = range.high ∙ on.at.drawn.high;
  outs = outs_keep.stepped core s new advance (stream_at script journal) at left.others on.past event differ on.at.drawn.outs;
  counted = λ t.
      let most = (draws_keep.advanced core s new advance t at left.others event).most in
      let none = no_begun (seat_of core s).job (seat_of new s).job t on.past in
      let old = on.at.drawn.counted t in
      omega (arith, most, none, old);
  tables = λ k its low is. by k its low is (k == s) refl;
  reached = on.at.drawn.reached;
}
  where
    at : IsSoundAt core s
    at = sound_here script core journal s on.at

    range : SameRange core.ids new.ids
    range = (draws_keep.advanced core s new advance 0 at left.others event).range

    by : (k : ℕ) (its : Command) → 1 ≤ k → command_at script k (told_of (run_of script journal) k).begun ≡ Some its → (b : Bool) → (k == s) ≡ b → IsOfTable (table_of its) (seat_of new k).job
    by k its low is true same =
        let here : k ≡ s = grind (arith, nat_tests, same) in
        subst (λ (j : ℕ). IsOfTable (table_of its) (seat_of new j).job) (sym here)
        (step_table core s new advance (table_of its) on.at.there on.past event differ (subst (λ (j : ℕ). IsOfTable (table_of its) (seat_of core j).job) here (on.at.drawn.tables k its low is)))
    by k its low is false apart =
        let differs : k ≢ s = grind (arith, nat_tests, apart) in
        subst (λ (seat : Seat). IsOfTable (table_of its) seat.job) (sym (seat_stays core s new k on.at.there left.others low differs)) (on.at.drawn.tables k its low is)

-- a draw that is refused
refused_drawn : (script : Script) (core : CoreState) (journal : List JournalEntry) (s n : ℕ) (command : Command) (new : CoreState) (t : ℕ) (write : Writing) → IsOn script core journal s n command → (seat_of core s).job ≡ jobs.Writing t write
    → Event core s new (advances.Done replies.NoValueId) → IsLeft core s new → IsDrawn script new (journal ++ entry_of s n kinds.NoValueId ∷ [])
refused_drawn script core journal s n command new t write on job event left = record {
  sound = left.sound;
  parts = left.parts;
  low = range.low ∙ on.at.drawn.low;
  high = range.high ∙ on.at.drawn.high;
  outs = subst (StreamOuts new) (sym (stream_more script journal (entry_of s n kinds.NoValueId) command on.is)) (outs_keep.refused core new script (stream_at script journal) x t write cut job event on.at.drawn.outs);
  counted = λ k.
      let most = (draws_keep.failed core s new k at left.others fails).most in
      let old = on.at.drawn.counted k in
      let more = count_more script journal (entry_of s n kinds.NoValueId) command k on.is in
      omega (arith, most, old, more);
  tables = tables_more script core journal s n command kinds.NoValueId new on.at on.is left.others (subst (IsOfTable (table_of command)) (sym (failures_keep.falls core s new at fails).over) tt);
  reached = reached_more script journal (entry_of s n kinds.NoValueId) command on.is on.at.drawn.reached (λ k kind table.
      let here : t ≡ k = same_some t k (sym (subst (IsOfTable (table_of command)) job (own_table script core journal s n command on)) ∙ table) in
      let all = draws_refused.refused core s new t write at job event in
      let old = on.at.drawn.counted t in
      let low = on.at.drawn.low in
      let high = on.at.drawn.high in
      let ids : id_count core.ids ≡ script.high - script.low + 1 = ap (λ (h : ℕ). h - core.ids.low + 1) high ∙ ap (λ (l : ℕ). script.high - l + 1) low in
      subst (λ (j : ℕ). script.high - script.low + 1 ≤ draw_count script journal j) here (omega (arith, all, old, ids)));
}
  where
    at : IsSoundAt core s
    at = sound_here script core journal s on.at

    x : Moment
    x = next_moment script journal (entry_of s n kinds.NoValueId) command

    due : IsDrawRefused core s t write new
    due = subst (λ (its : Job). IsDue its core s new (advances.Done replies.NoValueId)) job event.is

    fails : FailsBy core s new
    fails = inl due.is

    range : SameRange core.ids new.ids
    range = (draws_keep.failed core s new 0 at left.others fails).range

    cut : IsCut core new (stream_at script journal) x
    cut = record { at = at; others = left.others; kind = inl refl; count = lists_are script core journal s on.at }

-- ---- the law

pub drawn_keeps : DrawnKeeps
drawn_keeps = record {
  first = λ script sound parts. record {
    sound = sound;
    parts = parts;
    low = refl;
    high = refl;
    outs = outs_keep.first script.schemas script.low script.high (length script.sessions);
    counted = λ t.
        let none = draws_keep.first script.schemas script.low script.high (length script.sessions) t in
        omega (arith, none);
    tables = λ s command low is. none_under_way (length script.sessions) (s - 1) (table_of command);
    reached = record { each = λ i e command t at. absurd (nothing i e at) };
  };
  run = run_drawn;
  wants = wants_drawn;
  steps = steps_drawn;
  refused = refused_drawn;
  cut = λ script core journal s n command new on fails left. failed_drawn script core journal s n command core new on.at on.is (failing_here script core journal s new on.at fails left.others) left;
}
  where
    empty : List JournalEntry
    empty = []

    nothing : (i : ℕ) (e : JournalEntry) → slice_get empty i ≡ Some e → ⊥
    nothing i e h = cc

    none_under_way : (n i : ℕ) (o : Option ℕ) → IsOfTable o (slice_index_or (replicate n nobody) i nobody).job
    none_under_way zero i o = tt
    none_under_way (suc n) zero o = tt
    none_under_way (suc n) (suc i) o = none_under_way n i o
