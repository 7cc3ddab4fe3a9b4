-- The later steps of a command.
use Rattle.std.proofs.Common.{◌≡◌, ◌≢◌, ◌<◌, ◌≤◌, ◌+◌, ◌-◌, ◌*◌, inl, inr, ℕ, Bool, true, false, List, [], ◌∷◌, ◌++◌, Option, Some, None, length, get_or, slice_get, slice_set, refl, sym, ap, ◌∙◌, subst, arith, length-append, length-set, eq-eqb, append-nil}
use Rattle.std.specs.Prelude.{◌==◌, ◌&&◌, slice_index_or, if◌then◌else◌}
use Rattle.std.specs.Option.{option_map, unwrap_or}
use Rattle.std.proofs.lemmas.Bool.{cases_eq}
use Rattle.std.proofs.lemmas.Bool.Decides.{nat_tests}
use Rattle.std.proofs.lemmas.Option.{slice_get_within, same_Some, get_or_from_slice_get, slice_get-map}
use Rattle.std.proofs.lemmas.List.{map-set, length-map, get_or_read}
use Rattle.list_facts.proofs.Changed.{get_set_same, get_set_other, get_push_at, get_push_left, set_same}
use Rattle.command_set.specs.Plain.{nth}
use Rattle.command_set.specs.declared.journal.Line.{Line}
use Rattle.command_set.specs.declared.journal.Run.{Run}
use Rattle.command_set.specs.declared.journal.Told.{Told}
use Rattle.command_set.specs.declared.Script.{Script}
use Rattle.command_set.specs.declared.JournalEntry.{JournalEntry}
use Rattle.command_set.specs.declared.Kind.{Kind}
use Rattle.command_set.specs.declared.Kind.TheVariants as kinds
use Rattle.command_set.specs.declared.Reply.{Reply}
use Rattle.command_set.specs.Answers.{with_failure}
use Rattle.command_set.specs.Journals.{told_of, told_more, untold, corrected, with_reply, run_of, command_at, is_run, is_started, may_follow}
use Rattle.core_state.specs.declared.advance.Advance.TheVariants as advances
use Rattle.core_state.specs.declared.seat.Job.{Job}
use Rattle.core_state.specs.declared.seat.Job.TheVariants as jobs
use Rattle.core_state.specs.declared.seat.Seat.{Seat}
use Rattle.core_state.specs.Moves.{Falls, OthersStay}
use Rattle.core_state.specs.Stands.{Stands}
use Rattle.core_state.specs.State.{CoreState, seat_of, is_past_moment}
use Rattle.session_shell.specs.declared.hub.KeptLine.{KeptLine}
use Rattle.session_shell.specs.declared.hub.Progress.{Progress}
use Rattle.session_shell.specs.declared.hub.Turn.{Turn}
use Rattle.session_shell.specs.declared.hub.Turn.TheVariants as turns
use Rattle.session_shell.specs.Hubs.{HubState, IsHub, Keeps, SessionIs, IsBusy, IsBusyBy, IsLine, IsLastEntry, LastIsRun, TellsHub, is_saving, replies_of, progress_of, at_start, kept_of}
use Rattle.session_shell.specs.Lines.{no_line, with_reply as replied}
use Rattle.session_shell.specs.Steps.{StaysFor, EndsWith, GoesOnLater, IsGranted, MayEnd, kind_of, said_of}
use Rattle.session_shell.specs.declared.steps.Cut.{Cut}
use Rattle.session_shell.specs.declared.steps.Cut.TheVariants as cuts
use Rattle.session_shell.specs.Turns.{TurnMade, Nothing, Ended, EventBy, EventCut, EventLast, EventLater, MakesEvent, end_of, place_after, IsTurn, MakesTurn, Ran, turn_made}
use Rattle.script_text.specs.Scripts.{command_count}
use Rattle.session_shell.proofs.Runs.{and_intro, legal_push, may_second, may_short, run_push, run_short, short_no_run}
use Rattle.session_shell.proofs.Frames.{told_here, told_there, seat_there, progress_here, progress_there, one_second}
use Rattle.session_shell.proofs.Kept.{KeptAs, kept_by, said_idle, said_before, refit}
use Rattle.session_shell.proofs.Firsts.{busy_past, busy_idle, session_at, entry_stays, stands_forget}
use Rattle.session_shell.proofs.Made.{fits, named_last, ran_one, told_get}

-- a command that has passed its moment
pub busy_of : (script : Script) (s : ℕ) (told : Told) (job : Job) → is_past_moment job ≡ true → IsBusyBy script s told job → IsBusy script s told job
busy_of script s told jobs.Idle past busy = absurd (cc)
busy_of script s told (jobs.Submitted command) past busy = absurd (cc)
busy_of script s told (jobs.Reading table snapshot read) past busy = busy
busy_of script s told (jobs.Writing table write) past busy = busy

-- while a command is under way, its session's last entry is its granted Run
pub last_run : (hub : HubState) (ps : List Progress) (s : ℕ) → IsHub hub ps → 1 ≤ s → s ≤ length hub.script.sessions → is_past_moment (seat_of hub.core s).job ≡ true → LastIsRun hub s
last_run hub ps s h one within past =
    let told = told_of (run_of hub.script hub.journal) s in
    let own = h.each s one within in
    let busy = busy_of hub.script s told (seat_of hub.core s).job past own.busy in
    record {
      at = (progress_of ps s).entry;
      number = told.begun;
      there = own.kind kinds.Run busy.last;
      last = (own.entry busy.begun).last;
      reply = busy.reply;
      answered = busy.answered;
      granted = busy.granted;
      command = busy.command;
      is = busy.there;
      steps = busy.steps;
    }

-- what a hub's journal tells of it
pub tells : (hub : HubState) (ps : List Progress) → IsHub hub ps → TellsHub hub
tells hub ps h = record { stands = h.stands; legal = h.legal; lines = h.lines }

-- the same with another job
busy_with : (script : Script) (s : ℕ) (told : Told) (job job' : Job) → (is_saving job' ≡ true → is_saving job ≡ true) → IsBusy script s told job → IsBusy script s told job'
busy_with script s told job job' before busy = record {
  begun = busy.begun;
  last = busy.last;
  reply = busy.reply;
  answered = busy.answered;
  granted = busy.granted;
  command = busy.command;
  there = busy.there;
  for_rows = busy.for_rows;
  steps = busy.steps;
  values = λ saves. busy.values (before saves);
}

-- the core stands for a state in which the command under way was granted
pub granted_of : (hub : HubState) (ps : List Progress) (s : ℕ) → IsHub hub ps → 1 ≤ s → s ≤ length hub.script.sessions → is_past_moment (seat_of hub.core s).job ≡ true → IsGranted hub.core s
granted_of hub ps s h one within past =
    let run = run_of hub.script hub.journal in
    let busy = busy_of hub.script s (told_of run s) (seat_of hub.core s).job past (h.each s one within).busy in
    record {
      state = run.plain;
      replies = replies_of run;
      stands = h.stands;
      reply = busy.reply;
      answered = slice_get-map (λ (t : Told). t.reply) run.told (s - 1) ∙ ap (option_map (λ (t : Told). t.reply)) (told_get run.told s one (omega (arith, h.told, within))) ∙ ap Some busy.answered;
      granted = busy.granted;
    }

-- a session whose job alone has changed
with_job : (script : Script) (journal : List JournalEntry) (lines : List Line) (s : ℕ) (told : Told) (job job' : Job) (place : Progress) → IsBusyBy script s told job' → SessionIs script journal lines s told job place → SessionIs script journal lines s told job' place
with_job script journal lines s told job job' place busy h = record {
  begun = h.begun;
  within = h.within;
  busy = busy;
  quiet = h.quiet;
  below = h.below;
  line = h.line;
  entry = h.entry;
  kind = h.kind;
}

-- what the others' lines say stays
view_there : (script : Script) (run : Run) (core core' : CoreState) (s : ℕ) (line : Line) → 1 ≤ s → 1 ≤ line.session → line.session ≢ s → OthersStay core s core' → kept_of script run core line ≡ kept_of script run core' line
view_there script run core core' s line one one' other others =
    ap (λ (seat : Seat). kept_by script (told_of run line.session).begun seat.job line) (sym (seat_there core core' s line.session one one' other others))

-- a later step without an entry, where the session's job is then this and its lines are kept so
pub keeps_job : (script : Script) (core core' : CoreState) (journal : List JournalEntry) (kept kept' : List KeptLine) (ps : List Progress) (run : Run) (s : ℕ) →
    Keeps script core journal kept ps run → 1 ≤ s → s ≤ length script.sessions → StaysFor core core' → OthersStay core s core' →
    IsBusyBy script s (told_of run s) (seat_of core' s).job → KeptAs kept' (kept_of script run core') run.lines → Keeps script core' journal kept' ps run
keeps_job script core core' journal kept kept' ps run s h one within stays others busy seen = record {
  rules = h.rules;
  schemas = others.schemas ∙ h.schemas;
  seats = others.count ∙ h.seats;
  told = h.told;
  places = h.places;
  stands = stays.stands run.plain (replies_of run) h.stands;
  legal = h.legal;
  lines = seen;
  from_one = h.from_one;
  each = λ t one' within'. elim (cases_eq t s) [
    | inl same ↦ subst (λ (x : ℕ). SessionIs script journal run.lines x (told_of run x) (seat_of core' x).job (progress_of ps x)) (sym same)
        (with_job script journal run.lines s (told_of run s) (seat_of core s).job (seat_of core' s).job (progress_of ps s) busy (h.each s one within))
    | inr other ↦ session_at script journal run.lines t (told_of run t) (told_of run t) (seat_of core t).job (seat_of core' t).job (progress_of ps t) (progress_of ps t) refl (ap (λ (seat : Seat). seat.job) (seat_there core core' s t one one' other others)) refl (h.each t one' within')
  ];
  entries = h.entries;
  fewer = h.fewer;
}

past_same : (script : Script) (begun : ℕ) (job job' : Job) (line : Line) → is_past_moment job ≡ true → is_past_moment job' ≡ true → kept_by script begun job line ≡ kept_by script begun job' line
past_same script begun job job' line past past' = simp (past, past')

-- a command goes on
pub keeps_more : (script : Script) (core core' : CoreState) (journal : List JournalEntry) (kept : List KeptLine) (ps : List Progress) (run : Run) (s : ℕ) →
    Keeps script core journal kept ps run → 1 ≤ s → s ≤ length script.sessions → is_past_moment (seat_of core s).job ≡ true → GoesOnLater core s core' → OthersStay core s core' →
    Keeps script core' journal kept ps run
keeps_more script core core' journal kept ps run s h one within past goes others =
    keeps_job script core core' journal kept kept ps run s h one within goes.stays others
    (busy_past script s (told_of run s) (seat_of core' s).job goes.past (busy_with script s (told_of run s) (seat_of core s).job (seat_of core' s).job goes.values (busy_of script s (told_of run s) (seat_of core s).job past (h.each s one within).busy)))
    (refit kept (kept_of script run core) (kept_of script run core') run.lines h.lines (λ k line e. elim (cases_eq line.session s) [
      | inl same ↦ past_same script (told_of run line.session).begun (seat_of core line.session).job (seat_of core' line.session).job line (ap (λ (t : ℕ). is_past_moment (seat_of core t).job) same ∙ past) (ap (λ (t : ℕ). is_past_moment (seat_of core' t).job) same ∙ goes.past)
      | inr other ↦ view_there script run core core' s line one (h.from_one k line e) other others
    ]))

other_line : (view view' : Line → KeptLine) (o : Option Line) → ((line : Line) → o ≡ Some line → view line ≡ view' line) → option_map view o ≡ option_map view' o
other_line view view' None same = refl
other_line view view' (Some line) same = ap Some (same line refl)

-- one kept line is written
set_both : (kept : List KeptLine) (view view' : Line → KeptLine) (lines : List Line) (at : ℕ) (line : Line) (x : KeptLine) → KeptAs kept view lines → slice_get lines at ≡ Some line → at < length kept → x ≡ view' line → ((k : ℕ) (l : Line) → slice_get lines k ≡ Some l → k ≢ at → view l ≡ view' l) → KeptAs (slice_set kept at x) view' lines
set_both kept view view' lines at line x seen there within is others k = elim (cases_eq k at) [
  | inl same ↦
      ap (slice_get (slice_set kept at x)) same
      ∙ get_set_same kept at x within
      ∙ ap Some is
      ∙ sym (ap (option_map view') (ap (slice_get lines) same ∙ there))
  | inr other ↦ get_set_other kept at k x other ∙ seen k ∙ other_line view view' (slice_get lines k) (λ l e. others k l e other)
]

-- the line of a session's command, its place and what is kept of it
pub record OwnLine (script : Script) (core : CoreState) (kept : List KeptLine) (run : Run) (s at : ℕ) : Type 0 where
  pub line : Line
  pub there : slice_get run.lines at ≡ Some line
  pub session : line.session ≡ s
  pub number : line.number ≡ (told_of run s).begun
  pub only : (k : ℕ) (l : Line) → slice_get run.lines k ≡ Some l → l.session ≡ s → l.number ≡ (told_of run s).begun → k ≡ at
  pub reply : (told_of run s).reply ≡ Some line.reply
  pub within : at < length kept
  pub replied : (reply : Reply) → replied (slice_index_or kept at no_line) (Some reply) ≡ record { session = line.session; number = line.number; reply = Some reply }

kept_within : (kept : List KeptLine) (view : Line → KeptLine) (lines : List Line) (at : ℕ) (line : Line) → KeptAs kept view lines → slice_get lines at ≡ Some line → slice_get kept at ≡ Some (view line)
kept_within kept view lines at line seen there = seen at ∙ ap (option_map view) there

pub own_line : (script : Script) (core : CoreState) (journal : List JournalEntry) (kept : List KeptLine) (ps : List Progress) (run : Run) (s at : ℕ) → Keeps script core journal kept ps run → 1 ≤ s → s ≤ length script.sessions → IsBusy script s (told_of run s) (seat_of core s).job → (progress_of ps s).line ≡ at → OwnLine script core kept run s at
own_line script core journal kept ps run s at h one within busy is =
    let line = subst (λ (k : ℕ). IsLine run.lines k s (told_of run s)) is ((h.each s one within).line busy.begun) in
    let l : Line = record { session = s; number = (told_of run s).begun; reply = line.reply } in
    let k = kept_within kept (kept_of script run core) run.lines at l h.lines line.there in
    record {
      line = l;
      there = line.there;
      session = refl;
      number = refl;
      only = line.only;
      reply = line.answered busy.last;
      within = slice_get_within kept at (kept_of script run core l) k;
      replied = λ reply. ap (λ (x : KeptLine). replied x (Some reply)) (get_or_from_slice_get kept at (kept_of script run core l) no_line k);
    }

own_reply : (run : Run) (s : ℕ) (reply said : Reply) → 1 ≤ s → s ≤ length run.told → (told_of run s).reply ≡ Some said → slice_get (replies_of run) (s - 1) ≡ Some (Some reply) → said ≡ reply
own_reply run s reply said one within is there =
    let same : Some (told_of run s).reply ≡ Some (Some reply) = sym (slice_get-map (λ (t : Told). t.reply) run.told (s - 1) ∙ ap (option_map (λ (t : Told). t.reply)) (told_get run.told s one within)) ∙ there in
    same_Some said reply (sym is ∙ same_Some (told_of run s).reply (Some reply) same)

-- what a line of the session says once its command is over
over_line : (script : Script) (core core' : CoreState) (kept : List KeptLine) (run run' : Run) (s at k : ℕ) (l : Line) → OwnLine script core kept run s at → (told_of run' s).begun ≡ (told_of run s).begun → (seat_of core' s).job ≡ jobs.Idle → slice_get run.lines k ≡ Some l → k ≢ at → l.session ≡ s → kept_of script run core l ≡ kept_of script run' core' l
over_line script core core' kept run run' s at k l own begun idle there other same =
    said_before script (told_of run l.session).begun (seat_of core l.session).job l (λ number. other (own.only k l there same (number ∙ ap (λ (t : ℕ). (told_of run t).begun) same)))
    ∙ sym (said_idle script (told_of run' l.session).begun (seat_of core' l.session).job l (ap (λ (t : ℕ). (seat_of core' t).job) same ∙ idle))

-- a command is over
pub keeps_done : (script : Script) (core core' : CoreState) (journal : List JournalEntry) (kept : List KeptLine) (ps : List Progress) (run : Run) (s at : ℕ) (reply : Reply) →
    Keeps script core journal kept ps run → 1 ≤ s → s ≤ length script.sessions → OwnLine script core kept run s at → StaysFor core core' → OthersStay core s core' → (seat_of core' s).job ≡ jobs.Idle → EndsWith core s reply →
    Keeps script core' journal (slice_set kept at (replied (slice_index_or kept at no_line) (Some reply))) ps run
keeps_done script core core' journal kept ps run s at reply h one within own stays others idle ends =
    let said : own.line.reply ≡ reply = own_reply run s reply own.line.reply one (omega (arith, h.told)) own.reply (ends.said run.plain (replies_of run) h.stands) in
    keeps_job script core core' journal kept (slice_set kept at (replied (slice_index_or kept at no_line) (Some reply))) ps run s h one within stays others
    (busy_idle script s (told_of run s) (seat_of core' s).job idle)
    (set_both kept (kept_of script run core) (kept_of script run core') run.lines at own.line (replied (slice_index_or kept at no_line) (Some reply)) h.lines own.there own.within
    (own.replied reply
    ∙ ap (λ (r : Reply). record { session = own.line.session; number = own.line.number; reply = Some r }) (sym said)
    ∙ sym (said_idle script (told_of run own.line.session).begun (seat_of core' own.line.session).job own.line (ap (λ (t : ℕ). (seat_of core' t).job) own.session ∙ idle)))
    (λ k l there other. elim (cases_eq l.session s) [
      | inl same ↦ over_line script core core' kept run run s at k l own refl idle there other same
      | inr apart ↦ view_there script run core core' s l one (h.from_one k l there) apart others
    ]))

-- a line once an entry of the session has corrected it
corrected_by : (b : Bool) (line : Line) (reply : Reply) → (if b then record line { reply = reply } else line).session ≡ line.session
corrected_by true line reply = refl
corrected_by false line reply = refl

corrected_number : (b : Bool) (line : Line) (reply : Reply) → (if b then record line { reply = reply } else line).number ≡ line.number
corrected_number true line reply = refl
corrected_number false line reply = refl

-- a line of other lines is not corrected
corrected_other : (e : JournalEntry) (reply : Reply) (line : Line) → ((line.session ≡ e.session) → (line.number ≡ e.number) → ⊥) → corrected e reply line ≡ line
corrected_other e reply line other =
    let no : ((line.session == e.session) && (line.number == e.number)) ≡ false = grind (arith, nat_tests) in
    ap (λ (b : Bool). if b then record line { reply = reply } else line) no

corrected_own : (e : JournalEntry) (reply : Reply) (line : Line) → line.session ≡ e.session → line.number ≡ e.number → corrected e reply line ≡ record line { reply = reply }
corrected_own e reply line same number = ap (λ (b : Bool). if b then record line { reply = reply } else line) (and_intro (line.session == e.session) (line.number == e.number) (eq-eqb line.session e.session same) (eq-eqb line.number e.number number))

-- a corrected line, and the one that it was
record Was (lines : List Line) (k : ℕ) (l : Line) : Type 0 where
  line : Line
  there : slice_get lines k ≡ Some line
  session : l.session ≡ line.session
  number : l.number ≡ line.number

was_by : (e : JournalEntry) (reply : Reply) (lines : List Line) (k : ℕ) (l : Line) (o : Option Line) → slice_get lines k ≡ o → option_map (corrected e reply) o ≡ Some l → Was lines k l
was_by e reply lines k l None there is = absurd (cc)
was_by e reply lines k l (Some line) there is =
    let same : corrected e reply line ≡ l = same_Some (corrected e reply line) l is in
    record {
      line = line;
      there = there;
      session = ap (λ (x : Line). x.session) (sym same) ∙ corrected_by ((line.session == e.session) && (line.number == e.number)) line reply;
      number = ap (λ (x : Line). x.number) (sym same) ∙ corrected_number ((line.session == e.session) && (line.number == e.number)) line reply;
    }

was : (e : JournalEntry) (reply : Reply) (lines : List Line) (k : ℕ) (l : Line) → slice_get (with_reply lines e reply) k ≡ Some l → Was lines k l
was e reply lines k l there = was_by e reply lines k l (slice_get lines k) refl (sym (slice_get-map (corrected e reply) lines k) ∙ there)

-- another session once a line has been corrected and an entry added
session_corrected : (script : Script) (journal : List JournalEntry) (lines : List Line) (e : JournalEntry) (reply : Reply) (t : ℕ) (told : Told) (job : Job) (place : Progress) → e.session ≢ t → SessionIs script journal lines t told job place → SessionIs script (journal ++ e ∷ []) (with_reply lines e reply) t told job place
session_corrected script journal lines e reply t told job place other h = record {
  begun = h.begun;
  within = h.within;
  busy = h.busy;
  quiet = h.quiet;
  below = λ k l there session. let w = was e reply lines k l there in omega (arith, w.number, h.below k w.line w.there (sym w.session ∙ session));
  line = λ one. let own = h.line one in record {
    reply = own.reply;
    there = slice_get-map (corrected e reply) lines place.line ∙ ap (option_map (corrected e reply)) own.there ∙ ap Some (corrected_other e reply (record { session = t; number = told.begun; reply = own.reply }) (λ session number. other (sym session)));
    answered = own.answered;
    only = λ k l there session number. let w = was e reply lines k l there in own.only k w.line w.there (sym w.session ∙ session) (sym w.number ∙ number);
  };
  entry = λ one. entry_stays journal e place.entry t told.begun other (h.entry one);
  kind = λ kind last. get_push_left journal e place.entry _ (h.kind kind last);
}

never_run : (cut : Cut) → kind_of cut ≡ kinds.Run → ⊥
never_run cuts.NoValueId e = cc
never_run cuts.Memory e = cc

-- the session itself
session_short : (script : Script) (core : CoreState) (journal : List JournalEntry) (kept : List KeptLine) (run : Run) (s at : ℕ) (cut : Cut) (job : Job) (place : Progress) →
    SessionIs script journal run.lines s (told_of run s) job place → (own : OwnLine script core kept run s at) (job' : Job) → job' ≡ jobs.Idle →
    SessionIs script (journal ++ (record { session = s; number = (told_of run s).begun; kind = kind_of cut }) ∷ []) (with_reply run.lines (record { session = s; number = (told_of run s).begun; kind = kind_of cut }) (said_of cut)) s (record { begun = (told_of run s).begun; last = Some (kind_of cut); reply = Some own.line.reply }) job' (record { begun = (told_of run s).begun; entry = length journal; line = at })
session_short script core journal kept run s at cut job place h own job' idle =
    let e : JournalEntry = record { session = s; number = (told_of run s).begun; kind = kind_of cut } in
    record {
      begun = refl;
      within = h.within;
      busy = busy_idle script s (record { begun = (told_of run s).begun; last = Some (kind_of cut); reply = Some own.line.reply }) job' idle;
      quiet = ap (λ (b : Bool). b && is_started own.line.reply) (short_no_run cut);
      below = λ k l there session. let w = was e (said_of cut) run.lines k l there in omega (arith, w.number, h.below k w.line w.there (sym w.session ∙ session));
      line = λ one. record {
        reply = said_of cut;
        there = slice_get-map (corrected e (said_of cut)) run.lines at ∙ ap (option_map (corrected e (said_of cut))) own.there
            ∙ ap Some (corrected_own e (said_of cut) own.line own.session own.number ∙ ap (λ (x : ℕ). record { session = x; number = own.line.number; reply = said_of cut }) own.session ∙ ap (λ (x : ℕ). record { session = s; number = x; reply = said_of cut }) own.number);
        answered = λ run. absurd (never_run cut (same_Some (kind_of cut) kinds.Run run));
        only = λ k l there session number. let w = was e (said_of cut) run.lines k l there in own.only k w.line w.there (sym w.session ∙ session) (sym w.number ∙ number);
      };
      entry = λ one. record {
        kind = kind_of cut;
        there = get_push_at journal e;
        last = λ k x there session. omega (arith, slice_get_within _ k x there, length-append journal (e ∷ []));
      };
      kind = λ own last. subst (λ (k : Kind). slice_get (journal ++ e ∷ []) (length journal) ≡ Some (record { session = s; number = (told_of run s).begun; kind = k })) (same_Some (kind_of cut) own last) (get_push_at journal e);
    }

map_twice : (view : Line → KeptLine) (f : Line → Line) (o : Option Line) → option_map view (option_map f o) ≡ option_map (λ line. view (f line)) o
map_twice view f None = refl
map_twice view f (Some line) = refl

-- a command ends early
pub keeps_short : (script : Script) (core core' : CoreState) (journal : List JournalEntry) (kept : List KeptLine) (ps : List Progress) (run : Run) (s at : ℕ) (cut : Cut) →
    Keeps script core journal kept ps run → run ≡ run_of script journal → 1 ≤ s → s ≤ length script.sessions → IsBusy script s (told_of run s) (seat_of core s).job → (own : OwnLine script core kept run s at) → Falls core s core' → MayEnd cut (seat_of core s).job → OthersStay core s core' →
    Keeps script core' (journal ++ (record { session = s; number = (told_of run s).begun; kind = kind_of cut }) ∷ []) (slice_set kept at (replied (slice_index_or kept at no_line) (Some (said_of cut)))) (slice_set ps (s - 1) (record { begun = (told_of run s).begun; entry = length journal; line = at }))
    (told_more run (record { session = s; number = (told_of run s).begun; kind = kind_of cut }) (Some own.line.reply) (with_failure run.plain s) (with_reply run.lines (record { session = s; number = (told_of run s).begun; kind = kind_of cut }) (said_of cut)))
keeps_short script core core' journal kept ps run s at cut h is one within busy own falls ends others =
    let e : JournalEntry = record { session = s; number = (told_of run s).begun; kind = kind_of cut } in
    let told : Told = record { begun = (told_of run s).begun; last = Some (kind_of cut); reply = Some own.line.reply } in
    let run' : Run = told_more run e (Some own.line.reply) (with_failure run.plain s) (with_reply run.lines e (said_of cut)) in
    let told_within : s ≤ length run.told = omega (arith, h.told) in
    let here : told_of run' s ≡ told = told_here run.told s told one told_within in
    let begun : (told_of run' s).begun ≡ (told_of run s).begun = ap (λ (t : Told). t.begun) here in
    let view' = λ (line : Line). kept_of script run' core' (corrected e (said_of cut) line) in
    let stays = stands_forget core' (with_failure run.plain s) (replies_of run) s (Some own.line.reply) falls.over (falls.stands run.plain (replies_of run) h.stands) in
    let may = may_short cut busy.command busy.reply (seat_of core s).job ends busy.granted busy.for_rows busy.values in
    record {
      rules = h.rules;
      schemas = others.schemas ∙ h.schemas;
      seats = others.count ∙ h.seats;
      told = length-set run.told (s - 1) told ∙ h.told;
      places = length-set ps (s - 1) _ ∙ h.places;
      stands = subst (Stands core' (with_failure run.plain s)) (sym (map-set (λ (t : Told). t.reply) run.told (s - 1) told)) stays;
      legal = legal_push script journal e h.legal (subst (λ (r : Run). may_follow script r e ≡ true) is (may_second script run s (told_of run s).begun (kind_of cut) busy.command busy.reply refl busy.last busy.answered busy.there may));
      lines = λ k.
          set_both kept (kept_of script run core) view' run.lines at own.line (replied (slice_index_or kept at no_line) (Some (said_of cut))) h.lines own.there own.within
          (own.replied (said_of cut)
          ∙ sym (ap (kept_of script run' core') (corrected_own e (said_of cut) own.line own.session own.number)
          ∙ said_idle script (told_of run' own.line.session).begun (seat_of core' own.line.session).job (record own.line { reply = said_of cut }) (ap (λ (t : ℕ). (seat_of core' t).job) own.session ∙ falls.over)))
          (λ i l there other. elim (cases_eq l.session s) [
            | inl same ↦
                over_line script core core' kept run run' s at i l own begun falls.over there other same
                ∙ sym (ap (kept_of script run' core') (corrected_other e (said_of cut) l (λ session number. other (own.only i l there same number))))
            | inr apart ↦
                view_there script run core core' s l one (h.from_one i l there) apart others
                ∙ ap (λ (t : Told). kept_by script t.begun (seat_of core' l.session).job l) (sym (told_there run.told s l.session told one (h.from_one i l there) apart))
                ∙ sym (ap (kept_of script run' core') (corrected_other e (said_of cut) l (λ session number. apart session)))
          ]) k
          ∙ sym (map_twice (kept_of script run' core') (corrected e (said_of cut)) (slice_get run.lines k))
          ∙ sym (ap (option_map (kept_of script run' core')) (slice_get-map (corrected e (said_of cut)) run.lines k));
      from_one = λ k l there. let w = was e (said_of cut) run.lines k l there in subst (λ (x : ℕ). 1 ≤ x) (sym w.session) (h.from_one k w.line w.there);
      each = λ t one' within'. elim (cases_eq t s) [
        | inl same ↦ subst (λ (x : ℕ). SessionIs script (journal ++ e ∷ []) (with_reply run.lines e (said_of cut)) x (told_of run' x) (seat_of core' x).job (progress_of (slice_set ps (s - 1) (record { begun = (told_of run s).begun; entry = length journal; line = at })) x)) (sym same)
            (session_at script _ _ s told (told_of run' s) (seat_of core' s).job (seat_of core' s).job (record { begun = (told_of run s).begun; entry = length journal; line = at }) _ here refl
            (progress_here ps s _ one (omega (arith, h.places)))
            (session_short script core journal kept run s at cut (seat_of core s).job (progress_of ps s) (h.each s one within) own (seat_of core' s).job falls.over))
        | inr other ↦
            session_at script _ _ t (told_of run t) (told_of run' t) (seat_of core t).job (seat_of core' t).job (progress_of ps t) _
            (told_there run.told s t told one one' other)
            (ap (λ (seat : Seat). seat.job) (seat_there core core' s t one one' other others))
            (progress_there ps s t _ one one' other)
            (session_corrected script journal run.lines e (said_of cut) t _ _ _ (λ x. other (sym x)) (h.each t one' within'))
      ];
      entries =
          let more = one_second run.told s told cut one told_within refl busy.begun busy.last refl in
          omega (arith, h.entries, more, length-append journal (e ∷ []));
      fewer = omega (arith, h.fewer, length-append journal (e ∷ []), length-map run.lines (corrected e (said_of cut)));
    }

-- a hub with another core and other kept lines
abbrev pub with_core : HubState → CoreState → List KeptLine → HubState
with_core old core kept = record { script = old.script; core = core; journal = old.journal; kept = kept }

-- the event of a turn that goes on with a command
later_event : (old : HubState) (core : CoreState) (s : ℕ) (t : TurnMade) → is_past_moment (seat_of old.core s).job ≡ true → EventLater t.entry t.end old.core t.session core →
    EventBy (is_past_moment (seat_of old.core s).job) (command_at old.script t.session ((told_of (run_of old.script old.journal) s).begun + 1)) t old.core core
later_event old core s t past event = subst (λ (u : Bool). EventBy u (command_at old.script t.session ((told_of (run_of old.script old.journal) s).begun + 1)) t old.core core) (sym past) event

-- one later turn without an entry
ran_later : (old : HubState) (core : CoreState) (kept : List KeptLine) (ps : List Progress) (s : ℕ) (turn : Turn) → IsHub old ps → 1 ≤ s → s ≤ length old.script.sessions → is_past_moment (seat_of old.core s).job ≡ true → OthersStay old.core s core →
    (end_of turn ≡ Nothing → ⊥) → record { begun = (told_of (run_of old.script old.journal) s).begun; under_way = is_past_moment (seat_of core s).job } ≡ place_after (record { begun = (told_of (run_of old.script old.journal) s).begun; under_way = true }) (end_of turn) → EventLater None (end_of turn) old.core s core →
    Ran old (with_core old core kept) (turn_made s None turn ∷ [])
ran_later old core kept ps s turn h one within past others made place event =
    let run = run_of old.script old.journal in
    let b = (told_of run s).begun in
    let t : TurnMade = turn_made s None turn in
    ran_one old (with_core old core kept) ps s t (told_of run s) h one within refl refl (sym (append-nil old.journal))
    (subst (λ (u : Bool). IsTurn old.script run (record { begun = b; under_way = u }) t) (sym past) (record { made = made; entry = λ e is. absurd (cc) }))
    (sym (set_same run.told (s - 1) (told_of run s) (told_get run.told s one (omega (arith, h.told)))))
    others
    (place ∙ sym (ap (λ (u : Bool). place_after (record { begun = b; under_way = u }) (end_of turn)) past))
    (later_event old core s t past event)

pub made_more : (old : HubState) (core : CoreState) (ps : List Progress) (s : ℕ) → IsHub old ps → 1 ≤ s → s ≤ length old.script.sessions → is_past_moment (seat_of old.core s).job ≡ true → OthersStay old.core s core → is_past_moment (seat_of core s).job ≡ true → MakesEvent old.core s core advances.More → MakesTurn old s (with_core old core old.kept) turns.More
made_more old core ps s h one within past others past' event = record {
  entry = None;
  ran = ran_later old core old.kept ps s turns.More h one within past others (λ e. cc) (ap (λ (u : Bool). record { begun = (told_of (run_of old.script old.journal) s).begun; under_way = u }) past') event;
  named = tt;
}

pub made_done : (old : HubState) (core : CoreState) (kept : List KeptLine) (ps : List Progress) (s at : ℕ) → IsHub old ps → 1 ≤ s → s ≤ length old.script.sessions → is_past_moment (seat_of old.core s).job ≡ true → OthersStay old.core s core → (seat_of core s).job ≡ jobs.Idle → (progress_of ps s).entry ≡ at → EventLast old.core s core → MakesTurn old s (with_core old core kept) (turns.Ended at)
made_done old core kept ps s at h one within past others idle is event =
    let busy = busy_of old.script s (told_of (run_of old.script old.journal) s) (seat_of old.core s).job past (h.each s one within).busy in
    record {
      entry = None;
      ran = ran_later old core kept ps s (turns.Ended at) h one within past others (λ e. cc) (ap (λ (j : Job). record { begun = (told_of (run_of old.script old.journal) s).begun; under_way = is_past_moment j }) idle) event;
      named = subst (λ (k : ℕ). IsLastEntry old.journal k s (told_of (run_of old.script old.journal) s).begun) is ((h.each s one within).entry busy.begun);
    }

-- a hub one of whose commands has ended early
abbrev pub shortened : HubState → CoreState → ℕ → Cut → ℕ → HubState
shortened old core s cut at = record {
  script = old.script;
  core = core;
  journal = old.journal ++ (record { session = s; number = (told_of (run_of old.script old.journal) s).begun; kind = kind_of cut }) ∷ [];
  kept = slice_set old.kept at (replied (slice_index_or old.kept at no_line) (Some (said_of cut)));
}

-- the hub once a command has ended early
pub record HubShort (old : HubState) (core : CoreState) (ps : List Progress) (s : ℕ) (cut : Cut) (at : ℕ) : Type 0 where
  pub keeps : IsHub (shortened old core s cut at) (slice_set ps (s - 1) (record { begun = (told_of (run_of old.script old.journal) s).begun; entry = length old.journal; line = at }))
  pub made : MakesTurn old s (shortened old core s cut at) (turns.Ended (length old.journal))

pub hub_short : (old : HubState) (core : CoreState) (ps : List Progress) (s : ℕ) (cut : Cut) (at : ℕ) → IsHub old ps → 1 ≤ s → s ≤ length old.script.sessions → is_past_moment (seat_of old.core s).job ≡ true → (progress_of ps s).line ≡ at → Falls old.core s core → MayEnd cut (seat_of old.core s).job → EventCut (kind_of cut) old.core s core → OthersStay old.core s core → HubShort old core ps s cut at
hub_short old core ps s cut at h one within past is falls ends event others =
    let run = run_of old.script old.journal in
    let b = (told_of run s).begun in
    let e : JournalEntry = record { session = s; number = b; kind = kind_of cut } in
    let busy = busy_of old.script s (told_of run s) (seat_of old.core s).job past (h.each s one within).busy in
    let own = own_line old.script old.core old.journal old.kept ps run s at h one within busy is in
    let told : Told = record { begun = b; last = Some (kind_of cut); reply = Some own.line.reply } in
    let short = run_short old.script run s b cut busy.command own.line.reply h.stands.upkeep (eq-eqb b b refl) own.reply busy.there busy.for_rows in
    let after = run_push old.script old.journal e ∙ short in
    let new = shortened old core s cut at in
    let ps' = slice_set ps (s - 1) (record { begun = b; entry = length old.journal; line = at }) in
    let keeps : IsHub new ps' = subst (Keeps old.script core new.journal new.kept ps') (sym after) (keeps_short old.script old.core core old.journal old.kept ps run s at cut h refl one within busy own falls ends others) in
    let told_is : (run_of new.script new.journal).told ≡ slice_set run.told (s - 1) told = ap (λ (r : Run). r.told) after in
    let here : (told_of (run_of new.script new.journal) s).begun ≡ b = ap (λ (ts : List Told). (unwrap_or (nth ts s) untold).begun) told_is ∙ ap (λ (t : Told). t.begun) (told_here run.told s told one (omega (arith, h.told))) in
    let t : TurnMade = turn_made s (Some e) (turns.Ended (length old.journal)) in
    record {
      keeps = keeps;
      made = record {
        entry = Some e;
        ran = ran_one old new ps s t told h one within refl refl refl
            (subst (λ (u : Bool). IsTurn old.script run (record { begun = b; under_way = u }) t) (sym past) (record {
              made = λ no. cc;
              entry = λ x is. let same : e ≡ x = same_Some e x is in (ap (λ (y : JournalEntry). y.session) (sym same), ap (λ (y : JournalEntry). y.number) (sym same), ap (λ (y : JournalEntry). is_run y.kind) (sym same) ∙ short_no_run cut, refl);
            }))
            told_is others
            (ap (λ (j : Job). record { begun = b; under_way = is_past_moment j }) falls.over ∙ sym (ap (λ (u : Bool). place_after (record { begun = b; under_way = u }) Ended) past))
            (later_event old core s t past event);
        named = named_last new ps' s (length old.journal) keeps one within (ap (λ (p : Progress). p.entry) (progress_here ps s _ one (omega (arith, h.places)))) (omega (arith, here, busy.begun));
      };
    }

-- there is room for a second entry
pub later_room : (old : HubState) (core : CoreState) (ps : List Progress) (s : ℕ) (cut : Cut) (at : ℕ) → HubShort old core ps s cut at → length old.journal < 2 * command_count old.script
later_room old core ps s cut at b =
    let room = fits (shortened old core s cut at) _ b.keeps in
    omega (arith, room.journal_fits, length-append old.journal ((record { session = s; number = (told_of (run_of old.script old.journal) s).begun; kind = kind_of cut }) ∷ []))

-- how far a session is, as it was read
pub progress_is : (hub : HubState) (ps : List Progress) (s : ℕ) (x : Progress) → IsHub hub ps → 1 ≤ s → s ≤ length hub.script.sessions → x ≡ get_or ps (s - 1) x → progress_of ps s ≡ x
progress_is hub ps s x h one within is = sym (get_or_read ps (s - 1) x (omega (arith, h.places)) is at_start)

-- the line of a command under way, as it was read
pub line_is : (old : HubState) (ps : List Progress) (s : ℕ) (x : Progress) → IsHub old ps → 1 ≤ s → s ≤ length old.script.sessions → is_past_moment (seat_of old.core s).job ≡ true → x ≡ get_or ps (s - 1) x → OwnLine old.script old.core old.kept (run_of old.script old.journal) s x.line
line_is old ps s x h one within past is =
    let run = run_of old.script old.journal in
    own_line old.script old.core old.journal old.kept ps run s x.line h one within
    (busy_of old.script s (told_of run s) (seat_of old.core s).job past (h.each s one within).busy)
    (ap (λ (p : Progress). p.line) (progress_is old ps s x h one within is))

-- the number of the command under way, as it was read
pub number_is : (old : HubState) (ps : List Progress) (s : ℕ) (x : Progress) → IsHub old ps → 1 ≤ s → s ≤ length old.script.sessions → x ≡ get_or ps (s - 1) x → x.begun ≡ (told_of (run_of old.script old.journal) s).begun
number_is old ps s x h one within is = sym (ap (λ (p : Progress). p.begun) (progress_is old ps s x h one within is)) ∙ (h.each s one within).begun

-- a hub as it was recorded
abbrev pub hub_of : Script → CoreState → List JournalEntry → List KeptLine → HubState
hub_of script core journal kept = record { script = script; core = core; journal = journal; kept = kept }

pub done_is : (old : HubState) (core : CoreState) (ps : List Progress) (s : ℕ) (x : Progress) (reply : Reply) (kept : List KeptLine) → IsHub old ps → 1 ≤ s → s ≤ length old.script.sessions → is_past_moment (seat_of old.core s).job ≡ true → x ≡ get_or ps (s - 1) x →
    StaysFor old.core core → OthersStay old.core s core → (seat_of core s).job ≡ jobs.Idle → EndsWith old.core s reply → kept ≡ slice_set old.kept x.line (replied (slice_index_or old.kept x.line no_line) (Some reply)) → IsHub (with_core old core kept) ps
done_is old core ps s x reply kept h one within past is stays others idle ends kept_is =
    subst (λ (k : List KeptLine). IsHub (with_core old core k) ps) (sym kept_is)
    (keeps_done old.script old.core core old.journal old.kept ps (run_of old.script old.journal) s x.line reply h one within (line_is old ps s x h one within past is) stays others idle ends)

pub short_of : (old : HubState) (core : CoreState) (ps : List Progress) (s : ℕ) (cut : Cut) (x : Progress) → IsHub old ps → 1 ≤ s → s ≤ length old.script.sessions → is_past_moment (seat_of old.core s).job ≡ true → x ≡ get_or ps (s - 1) x → Falls old.core s core → MayEnd cut (seat_of old.core s).job → EventCut (kind_of cut) old.core s core → OthersStay old.core s core → HubShort old core ps s cut x.line
short_of old core ps s cut x h one within past is falls ends event others = hub_short old core ps s cut x.line h one within past (ap (λ (p : Progress). p.line) (progress_is old ps s x h one within is)) falls ends event others

-- what was recorded of a command that ended early
pub record ShortSo (old : HubState) (core : CoreState) (ps : List Progress) (s : ℕ) (journal : List JournalEntry) (kept : List KeptLine) (ps' : List Progress) (entry : ℕ) : Type 0 where
  pub keeps : IsHub (hub_of old.script core journal kept) ps'
  pub made : MakesTurn old s (hub_of old.script core journal kept) (turns.Ended entry)

pub short_so : (old : HubState) (core : CoreState) (ps : List Progress) (s : ℕ) (cut : Cut) (kind : Kind) (said : Reply) (x : Progress) (journal : List JournalEntry) (kept : List KeptLine) (ps' : List Progress) (entry : ℕ) → IsHub old ps → 1 ≤ s → s ≤ length old.script.sessions → x ≡ get_or ps (s - 1) x → HubShort old core ps s cut x.line → kind ≡ kind_of cut → said ≡ said_of cut →
    journal ≡ old.journal ++ (record { session = s; number = x.begun; kind = kind }) ∷ [] → kept ≡ slice_set old.kept x.line (replied (slice_index_or old.kept x.line no_line) (Some said)) →
    ps' ≡ slice_set ps (s - 1) (record { begun = x.begun; entry = entry; line = x.line }) → entry ≡ length old.journal → ShortSo old core ps s journal kept ps' entry
short_so old core ps s cut kind said x journal kept ps' entry h one within is b kind_is said_is journal_is kept_is ps_is entry_is =
    let begun = number_is old ps s x h one within is in
    let j : journal ≡ (shortened old core s cut x.line).journal =
    journal_is ∙ ap (λ (k : Kind). old.journal ++ (record { session = s; number = x.begun; kind = k }) ∷ []) kind_is ∙ ap (λ (n : ℕ). old.journal ++ (record { session = s; number = n; kind = kind_of cut }) ∷ []) begun in
    let k : kept ≡ (shortened old core s cut x.line).kept = kept_is ∙ ap (λ (r : Reply). slice_set old.kept x.line (replied (slice_index_or old.kept x.line no_line) (Some r))) said_is in
    let p : ps' ≡ slice_set ps (s - 1) (record { begun = (told_of (run_of old.script old.journal) s).begun; entry = length old.journal; line = x.line }) =
    ps_is ∙ ap (λ (n : ℕ). slice_set ps (s - 1) (record { begun = n; entry = entry; line = x.line })) begun ∙ ap (λ (n : ℕ). slice_set ps (s - 1) (record { begun = (told_of (run_of old.script old.journal) s).begun; entry = n; line = x.line })) entry_is in
    record {
      keeps =
          subst (λ (js : List JournalEntry). IsHub (hub_of old.script core js kept) ps') (sym j)
          (subst (λ (ks : List KeptLine). IsHub (hub_of old.script core (shortened old core s cut x.line).journal ks) ps') (sym k)
          (subst (λ (qs : List Progress). IsHub (shortened old core s cut x.line) qs) (sym p) b.keeps));
      made =
          subst (λ (js : List JournalEntry). MakesTurn old s (hub_of old.script core js kept) (turns.Ended entry)) (sym j)
          (subst (λ (ks : List KeptLine). MakesTurn old s (hub_of old.script core (shortened old core s cut x.line).journal ks) (turns.Ended entry)) (sym k)
          (subst (λ (n : ℕ). MakesTurn old s (shortened old core s cut x.line) (turns.Ended n)) (sym entry_is) b.made));
    }
