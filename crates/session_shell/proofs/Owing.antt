-- No command ends before it has taken as many turns as it takes at least.
use Rattle.std.proofs.Common.{ap, arith, inl, inr, length-set, refl, subst, sym, ◌∙◌}
use Rattle.std.proofs.lemmas.Bool.{cases_eq}
use Rattle.std.proofs.lemmas.List.{length-replicate}
use Rattle.std.proofs.lemmas.Option.{unwrap_or-slice_get}
use Rattle.std.specs.Option.{unwrap_or}
use Rattle.std.specs.Prelude.{Bool, Contains, List, None, Option, Some, [], false, if◌then◌else◌, length, replicate, slice_get, slice_index_or, suc, true, zero, ℕ, ◌&&◌, ◌+◌, ◌-◌, ◌<◌, ◌⊎◌, ◌∷◌, ◌≡◌, ◌≢◌, ◌≤◌}
use Rattle.tuple_layout.specs.Schemas.{TableSchema}
use Rattle.command_set.proofs.Moments.{run_on-append}
use Rattle.command_set.specs.Answers.{answer}
use Rattle.command_set.specs.Journals.{command_at, first_run, is_run, run_of, run_on}
use Rattle.command_set.specs.Replies.{is_granted}
use Rattle.command_set.specs.declared.Command.{Command}
use Rattle.command_set.specs.declared.JournalEntry.{JournalEntry}
use Rattle.command_set.specs.declared.Kind.{Kind}
use Rattle.command_set.specs.declared.Reply.{Reply}
use Rattle.command_set.specs.declared.Script.{Script}
use Rattle.command_set.specs.declared.journal.Run.{Run}
use Rattle.command_set.specs.declared.state.Plain.{Plain}
use Rattle.snapshot_registry.specs.Snapshots.{after_take, least_free}
use Rattle.core_state.proofs.Lists.{read_other, read_written}
use Rattle.core_state.proofs.Seats.{place_within, seat_written, session_written}
use Rattle.core_state.specs.Lines.{after_failing, after_submit, seated, takes_copy, with_snapshot}
use Rattle.core_state.specs.Moves.{OthersStay}
use Rattle.core_state.specs.Stands.{Stands}
use Rattle.core_state.specs.State.{CoreState, IsSession, is_past_moment, nobody, schemas_of, seat_of}
use Rattle.core_state.specs.declared.advance.Advance.{Advance}
use Rattle.core_state.specs.declared.seat.Handle.{Handle}
use Rattle.core_state.specs.declared.seat.Seat.{Seat}
use Rattle.core_looks.proofs.Replies.{reply_is}
use Rattle.core_parts.specs.Moments.{idled}
use Rattle.core_parts.specs.Takes.{with_copy}
use Rattle.core_events.specs.Advanced.{FailsBy}
use Rattle.core_events.specs.Laws.{IsSoundAt}
use Rattle.core_counts.proofs.Beginning.{counts_begin}
use Rattle.core_counts.proofs.Falling.{counts_fall}
use Rattle.core_counts.proofs.Shorts.{none_short, own_short, set_short, short_stays}
use Rattle.core_counts.specs.Counts.{least_turns}
use Rattle.core_counts.specs.Laws.{IsGrantedIn}
use Rattle.core_counts.specs.Least.{AreShort, job_least}
use Rattle.toast_core.specs.Cores.{IsCore}
use Rattle.session_shell.specs.Hubs.{HubState, replies_of}
use Rattle.session_shell.specs.Owed.{AreEnough, due_at, due_by, due_first, due_later, due_next, first_owed, owed_after, owed_of}
use Rattle.session_shell.specs.Turns.{End, Ended, EventBegins, EventBy, EventCut, EventFirst, EventLater, EventNext, Leads, MakesFirst, More, MomentEnds, Nothing, Place, TurnLeads, TurnMade, entry_in, first_hub, place_of, places_in}
use Rattle.command_set.specs.declared.Kind.TheVariants as kinds
use Rattle.core_state.specs.declared.advance.Advance.TheVariants as advances
use Rattle.core_state.specs.declared.seat.Job.TheVariants as jobs

-- ---- one session's turn

-- what a turn leaves of what was due: no more than the job then still takes, and nothing at the command's end
record Pays (due : ℕ) (end : End) (new : CoreState) (s : ℕ) : Type 0 where
  rest : due - 1 ≤ job_least (seat_of new s).job
  last : end ≡ Ended → due ≤ 1
  short : AreShort new.seats

pays_none : (end : End) (new : CoreState) (s : ℕ) → AreShort new.seats → Pays 0 end new s
pays_none end new s short = record { rest = omega arith; last = λ is. omega arith; short = short }

sound_at : (c : CoreState) (s : ℕ) → IsSession c.seats s → IsCore c → IsSoundAt c s
sound_at c s there core = record { there = there; sound = core.sound; parts = core.parts }

-- memory is wanting
copy_short : (c : CoreState) (s : ℕ) → IsSession c.seats s → AreShort c.seats → AreShort (with_copy c s).seats
copy_short c s there short = by (takes_copy (seat_of c s).state)
  where
    by : (b : Bool) → AreShort (CoreState.seats (if b then seated (record c { snaps = after_take c.snaps c.xacts }) s (record (seat_of c s) { state = with_snapshot (seat_of c s).state (least_free c.snaps) }) else c))
    by true = set_short c.seats (s - 1) _ (own_short c.seats s there short) short
    by false = short

fails_short : (c : CoreState) (s : ℕ) (new : CoreState) → IsSession c.seats s → FailsBy c s new → AreShort c.seats → AreShort new.seats
fails_short c s new there fails short = elim fails [
  | inl is ↦ subst (λ (core : CoreState). AreShort core.seats) (sym is) (short_stays.failing c s short)
  | inr cut ↦
      let idle : AreShort (idled c s).seats = set_short c.seats (s - 1) _ (own_short c.seats s there short) short in
      subst (λ (core : CoreState). AreShort core.seats) (sym cut.1) (short_stays.failing (with_copy (idled c s) s) s (copy_short (idled c s) s (session_written c.seats s s _ there) idle))
]

-- ---- a later turn

cut_short : (kind : Kind) (old : CoreState) (s : ℕ) (new : CoreState) → IsSession old.seats s → EventCut kind old s new → AreShort old.seats → AreShort new.seats
cut_short kinds.Run old s new there cut short = absurd cut
cut_short kinds.End old s new there cut short = absurd cut
cut_short kinds.NoValueId old s new there cut short = short_stays.event old s new _ (sound_at old s there cut.sound) short cut.event
cut_short kinds.Memory old s new there cut short = fails_short old s new there cut short

later_pays : (old new : CoreState) (s owed : ℕ) (entry : Option JournalEntry) (end : End) → IsSession old.seats s → is_past_moment (seat_of old s).job ≡ true → AreShort old.seats → owed ≤ job_least (seat_of old s).job → EventLater entry end old s new → Pays (due_later owed entry) end new s
later_pays old new s owed None Nothing there past short low event = absurd event
later_pays old new s owed None More there past short low event =
    let at = sound_at old s there event.sound in
    let falls = counts_fall.more old s new at past event.event in
    record { rest = omega (arith, falls, low); last = λ is. absurd (cc); short = short_stays.event old s new advances.More at short event.event }
later_pays old new s owed None Ended there past short low event =
    let at = sound_at old s there event.event.sound in
    let falls = counts_fall.over old s new event.reply at past event.other event.event.event in
    record { rest = omega (arith, falls, low); last = λ is. omega (arith, falls, low); short = short_stays.event old s new (advances.Done event.reply) at short event.event.event }
later_pays old new s owed (Some e) end there past short low event = pays_none end new s (cut_short e.kind old s new there event short)

-- ---- the first turn of a command

-- where its reply is granted, its moment is that of a granted command
granted_in : (old : CoreState) (s : ℕ) (command : Command) (m : Plain) (told : List (Option Reply)) (new : CoreState) (advance : Advance) → IsSession old.seats s → AreShort old.seats → Stands old m told → MakesFirst old s command new advance
    → is_granted (answer (schemas_of old.tables) m s command).reply ≡ true → IsGrantedIn (after_submit old s command) s command m
granted_in old s command m told new advance there short stands made granted =
    let mid = after_submit old s command in
    let there_then : IsSession (CoreState.seats (after_submit old s command)) s = session_written old.seats s s _ there in
    let is : (seat_of (after_submit old s command) s).job ≡ jobs.Submitted command = ap (λ (seat : Seat). seat.job) (seat_written old.seats s (record (seat_of old s) { job = jobs.Submitted command }) there) in
    let stood = made.stands.stands m told stands in
    let due = reply_is mid s command m told there_then made.event.sound.sound made.event.sound.parts is stood in
    record {
      at = sound_at mid s there_then made.event.sound;
      short = short_stays.submitted old s command there short;
      is = is;
      granted = ap is_granted (sym due) ∙ granted;
      told = told;
      stands = stood;
    }

first_short : (old new : CoreState) (s : ℕ) (command : Command) (advance : Advance) → IsSession old.seats s → AreShort old.seats → MakesFirst old s command new advance → AreShort new.seats
first_short old new s command advance there short made =
    short_stays.event (after_submit old s command) s new advance (sound_at (after_submit old s command) s (session_written old.seats s s _ there) made.event.sound) (short_stays.submitted old s command there short) made.event.event

moment_pays : (old new : CoreState) (s : ℕ) (command : Command) (m : Plain) (told : List (Option Reply)) (end : End) → IsSession old.seats s → AreShort old.seats → s - 1 < length told → Stands old m told → MomentEnds end old s command new
    → Pays (if is_granted (answer (schemas_of old.tables) m s command).reply then least_turns m s command else 0) end new s
moment_pays old new s command m told Nothing there short within stands made = absurd made
moment_pays old new s command m told More there short within stands made = by (is_granted (answer (schemas_of old.tables) m s command).reply) refl
  where
    by : (b : Bool) → is_granted (answer (schemas_of old.tables) m s command).reply ≡ b → Pays (if b then least_turns m s command else 0) More new s
    by true granted =
        let counts = counts_begin.more (after_submit old s command) s command m new (granted_in old s command m told new advances.More there short stands made granted) made.event.event in
        record { rest = omega (arith, counts); last = λ is. absurd (cc); short = first_short old new s command advances.More there short made }
    by false refused = pays_none More new s (first_short old new s command advances.More there short made)
moment_pays old new s command m told Ended there short within stands made = by (is_granted (answer (schemas_of old.tables) m s command).reply) refl
  where
    by : (b : Bool) → is_granted (answer (schemas_of old.tables) m s command).reply ≡ b → Pays (if b then least_turns m s command else 0) Ended new s
    by true granted =
        let reply : Reply = made.0 in
        let same : reply ≡ (answer (schemas_of old.tables) m s command).reply = (made.1.runs m told within stands).1.0 in
        let counts = counts_begin.over (after_submit old s command) s command m new reply (granted_in old s command m told new (advances.Done reply) there short stands made.1 granted) (ap is_granted same ∙ granted) made.1.event.event in
        record { rest = omega (arith, counts); last = λ is. counts; short = first_short old new s command (advances.Done made.0) there short made.1 }
    by false refused = pays_none Ended new s (first_short old new s command (advances.Done made.0) there short made.1)

want_short : (old new : CoreState) (s : ℕ) (command : Command) → IsSession old.seats s → AreShort old.seats → (new ≡ after_failing old s) ⊎ FailsBy (after_submit old s command) s new → AreShort new.seats
want_short old new s command there short want = elim want [
  | inl is ↦ subst (λ (core : CoreState). AreShort core.seats) (sym is) (short_stays.failing old s short)
  | inr fails ↦ fails_short (after_submit old s command) s new (session_written old.seats s s _ there) fails (short_stays.submitted old s command there short)
]

first_pays : (script : Script) (run : Run) (old new : CoreState) (s : ℕ) (command : Command) (told : List (Option Reply)) (entry : Option JournalEntry) (end : End) → IsSession old.seats s → AreShort old.seats → schemas_of old.tables ≡ script.schemas → s - 1 < length told
    → Stands old run.plain told → EventBegins entry end old s command new → Pays (due_first script run s command entry) end new s
first_pays script run old new s command told None end there short schemas within stands event = absurd event
first_pays script run old new s command told (Some e) end there short schemas within stands event = by e.kind event
  where
    by : (kind : Kind) → EventFirst kind end old s command new → Pays (if is_run kind && is_granted (answer script.schemas run.plain s command).reply then least_turns run.plain s command else 0) end new s
    by kinds.Run made = subst (λ (its : List TableSchema). Pays (if is_granted (answer its run.plain s command).reply then least_turns run.plain s command else 0) end new s) schemas (moment_pays old new s command run.plain told end there short within stands made)
    by kinds.End made = absurd made
    by kinds.NoValueId made = absurd made
    by kinds.Memory want = pays_none end new s (want_short old new s command there short want)

next_pays : (script : Script) (run : Run) (old new : CoreState) (t : TurnMade) (told : List (Option Reply)) (next : Option Command) → IsSession old.seats t.session → AreShort old.seats → schemas_of old.tables ≡ script.schemas → t.session - 1 < length told
    → Stands old run.plain told → EventNext next t old new → Pays (due_next script run t.session next t.entry) t.end new t.session
next_pays script run old new t told None there short schemas within stands event = pays_none t.end new t.session (subst (λ (core : CoreState). AreShort core.seats) (sym event) short)
next_pays script run old new t told (Some command) there short schemas within stands event = first_pays script run old new t.session command told t.entry t.end there short schemas within stands event

-- ---- a turn of a hub

-- what each session owes is no more than its job still takes
pub record Owes (hub : HubState) (owed : List ℕ) : Type 0 where
  pub count : length owed ≡ length hub.core.seats
  pub each : (s : ℕ) → IsSession hub.core.seats s → owed_of owed s ≤ job_least (seat_of hub.core s).job
  pub short : AreShort hub.core.seats

turn_pays : (old new : HubState) (t : TurnMade) (owed : List ℕ) → TurnLeads old t new → Owes old owed → Pays (due_at old.script (run_of old.script old.journal) (places_in old) owed t) t.end new.core t.session
turn_pays old new t owed leads owes = by (place_of (places_in old) t.session).under_way refl leads.event
  where
    by : (u : Bool) → (place_of (places_in old) t.session).under_way ≡ u → EventBy u (command_at old.script t.session ((place_of (places_in old) t.session).begun + 1)) t old.core new.core
        → Pays (due_by u old.script (run_of old.script old.journal) (place_of (places_in old) t.session).begun (owed_of owed t.session) t) t.end new.core t.session
    by true is event = later_pays old.core new.core t.session (owed_of owed t.session) t.entry t.end leads.at.there (sym leads.at.under_way ∙ is) owes.short (owes.each t.session leads.at.there) event
    by false is event =
        next_pays old.script (run_of old.script old.journal) old.core new.core t (replies_of (run_of old.script old.journal)) (command_at old.script t.session ((place_of (places_in old) t.session).begun + 1)) leads.at.there owes.short leads.at.schemas leads.at.told leads.at.stands event

-- the others owe what they owed
same_seat : (old new : CoreState) (s i : ℕ) → OthersStay old s new → i ≢ s - 1 → slice_index_or new.seats i nobody ≡ slice_index_or old.seats i nobody
same_seat old new s i others other = sym (unwrap_or-slice_get new.seats i nobody) ∙ ap (λ (o : Option Seat). unwrap_or o nobody) (others.each i other) ∙ unwrap_or-slice_get old.seats i nobody

turn_owes : (old new : HubState) (t : TurnMade) (owed : List ℕ) → TurnLeads old t new → Owes old owed → Owes new (owed_after old.script (run_of old.script old.journal) (places_in old) owed t)
turn_owes old new t owed leads owes = record {
  count = length-set owed (t.session - 1) _ ∙ owes.count ∙ sym leads.others.count;
  each = λ s there. by s there (cases_eq (s - 1) (t.session - 1));
  short = (turn_pays old new t owed leads owes).short;
}
  where
    by : (s : ℕ) → IsSession new.core.seats s → (s - 1 ≡ t.session - 1) ⊎ (s - 1 ≢ t.session - 1)
        → owed_of (owed_after old.script (run_of old.script old.journal) (places_in old) owed t) s ≤ job_least (seat_of new.core s).job
    by s there which = elim which [
      | inl same ↦
          let pays = turn_pays old new t owed leads owes in
          let within = place_within old.core.seats t.session leads.at.there in
          let here : owed_of (owed_after old.script (run_of old.script old.journal) (places_in old) owed t) s ≡ due_at old.script (run_of old.script old.journal) (places_in old) owed t - 1 =
          ap (λ (i : ℕ). slice_index_or (owed_after old.script (run_of old.script old.journal) (places_in old) owed t) i 0) same ∙ read_written owed (t.session - 1) _ 0 (omega (arith, within, owes.count)) in
          let job : job_least (seat_of new.core s).job ≡ job_least (seat_of new.core t.session).job = ap (λ (i : ℕ). job_least (slice_index_or new.core.seats i nobody).job) same in
          omega (arith, here, job, pays.rest)
      | inr other ↦
          let here = read_other owed (t.session - 1) (s - 1) (due_at old.script (run_of old.script old.journal) (places_in old) owed t - 1) 0 other in
          let job : job_least (seat_of new.core s).job ≡ job_least (seat_of old.core s).job = ap (λ (seat : Seat). job_least seat.job) (same_seat old.core new.core t.session (s - 1) leads.others other) in
          let was = owes.each s (record { from_one = there.from_one; within = omega (arith, there.within, leads.others.count) }) in
          omega (arith, here, job, was)
    ]

-- ---- turns one after another

pub enough_on : (a b : HubState) (ts : List TurnMade) (owed : List ℕ) → Leads a ts b → Owes a owed → AreEnough a.script (run_of a.script a.journal) (places_in a) owed ts
enough_on a b [] owed leads owes = tt
enough_on a b (t ∷ ts) owed leads owes =
    let mid : HubState = leads.0 in
    let one = leads.1 in
    let owed_then = owed_after a.script (run_of a.script a.journal) (places_in a) owed t in
    let rest = enough_on mid b ts owed_then leads.2 (turn_owes a mid t owed one owes) in
    let run : run_of a.script mid.journal ≡ run_on a.script (run_of a.script a.journal) (entry_in t.entry) = ap (run_of a.script) one.journal ∙ run_on-append a.script (first_run a.script) a.journal (entry_in t.entry) in (
      (turn_pays a mid t owed one owes).last,
      subst (λ (places : List Place). AreEnough a.script (run_on a.script (run_of a.script a.journal) (entry_in t.entry)) places owed_then ts) one.places
          (subst (λ (r : Run). AreEnough a.script r (places_in mid) owed_then ts) run (subst (λ (script : Script). AreEnough script (run_of script mid.journal) (places_in mid) owed_then ts) one.script rest)),
    )

-- ---- from the first turn on

zeros : (n i : ℕ) → slice_index_or (replicate n zero) i zero ≡ zero
zeros zero i = refl
zeros (suc n) zero = refl
zeros (suc n) (suc i) = zeros n i

nobodies_short : (n i : ℕ) (seat : Seat) (handle : Handle) → slice_get (replicate n nobody) i ≡ Some seat → Contains seat.handles handle → seat ≡ nobody
nobodies_short zero i seat handle at has = absurd (cc)
nobodies_short (suc n) zero seat handle at has =
    let same : nobody ≡ seat = some_is nobody seat at in
    sym same
  where
    some_is : (a b : Seat) → Some a ≡ Some b → a ≡ b
    some_is a b e = cc
nobodies_short (suc n) (suc i) seat handle at has = nobodies_short n i seat handle at has

first_owes : (script : Script) → Owes (first_hub script) (first_owed script)
first_owes script = record {
  count = length-replicate (length script.sessions) 0 ∙ sym (length-replicate (length script.sessions) nobody);
  each = λ s there. let none = zeros (length script.sessions) (s - 1) in omega (arith, none);
  short = record {
    each = λ i seat handle at has.
        let same = nobodies_short (length script.sessions) i seat handle at has in
        none_short handle (subst (λ (its : Seat). Contains its.handles handle) same has);
  };
}

pub enough_first : (script : Script) (hub : HubState) (ts : List TurnMade) → Leads (first_hub script) ts hub → AreEnough script (first_run script) (places_in (first_hub script)) (first_owed script) ts
enough_first script hub ts leads = enough_on (first_hub script) hub ts (first_owed script) leads (first_owes script)
