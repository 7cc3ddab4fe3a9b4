-- The first entry of a command.
use Rattle.std.proofs.Common.{◌≡◌, ◌≢◌, ◌≤◌, ◌+◌, ◌-◌, inl, inr, ℕ, Bool, true, false, List, [], ◌∷◌, ◌++◌, Option, Some, None, length, slice_get, slice_set, refl, sym, ap, ◌∙◌, subst, arith, length-append, length-set}
use Rattle.std.specs.Prelude.{◌==◌, not}
use Rattle.std.proofs.lemmas.Bool.{cases_eq}
use Rattle.std.proofs.lemmas.Bool.Decides.{nat_tests}
use Rattle.std.proofs.lemmas.Option.{slice_get_within, same_Some, get_or_from_slice_get}
use Rattle.std.proofs.lemmas.List.{map-set, length-map}
use Rattle.list_facts.proofs.Changed.{after_push, get_push_left, get_push_at, get_set_other}
use Rattle.tuple_layout.specs.Schemas.{TableSchema}
use Rattle.command_set.proofs.Numbered.{nth_within}
use Rattle.command_set.specs.declared.state.Plain.{Plain}
use Rattle.command_set.specs.declared.journal.Line.{Line}
use Rattle.command_set.specs.declared.journal.Run.{Run}
use Rattle.command_set.specs.declared.journal.Told.{Told}
use Rattle.command_set.specs.declared.Script.{Script}
use Rattle.command_set.specs.declared.JournalEntry.{JournalEntry}
use Rattle.command_set.specs.declared.Kind.{Kind}
use Rattle.command_set.specs.declared.Kind.TheVariants as kinds
use Rattle.command_set.specs.declared.Command.{Command}
use Rattle.command_set.specs.declared.Reply.{Reply}
use Rattle.command_set.specs.declared.Reply.TheVariants as replies
use Rattle.command_set.specs.Answers.{answer, with_failure}
use Rattle.command_set.specs.Replies.{is_granted}
use Rattle.command_set.specs.Journals.{command_at, told_of, told_more, after_entry, run_of, is_legal, is_under_way, may_come_first, may_follow}
use Rattle.core_state.specs.declared.seat.Job.{Job}
use Rattle.core_state.specs.declared.seat.Job.TheVariants as jobs
use Rattle.core_state.specs.declared.seat.Seat.{Seat}
use Rattle.core_state.specs.Moves.{OthersStay}
use Rattle.core_state.specs.Stands.{pending_of, Stands}
use Rattle.core_state.specs.State.{CoreState, seat_of, nobody, is_past_moment}
use Rattle.session_shell.specs.declared.hub.KeptLine.{KeptLine}
use Rattle.session_shell.specs.declared.hub.Progress.{Progress}
use Rattle.session_shell.specs.Hubs.{Keeps, SessionIs, IsBusy, IsBusyBy, IsLine, IsLastEntry, replies_of, commands_of, is_one_step, progress_of, kept_of}
use Rattle.session_shell.specs.Steps.{StepsFirst, SaysFirst}
use Rattle.session_shell.proofs.Answered.{not_started}
use Rattle.session_shell.proofs.Runs.{legal_push, may_first, run_moment, run_want}
use Rattle.session_shell.proofs.Frames.{told_here, told_there, seat_there, progress_here, progress_there, one_first}
use Rattle.session_shell.proofs.Kept.{kept_by, said_idle, said_before, kept_going, refit, push_both, same_count}

-- what a command has under way that goes on
pub busy_past : (script : Script) (s : ℕ) (told : Told) (job : Job) → is_past_moment job ≡ true → IsBusy script s told job → IsBusyBy script s told job
busy_past script s told jobs.Idle past busy = tt
busy_past script s told (jobs.Submitted command) past busy = absurd (cc)
busy_past script s told (jobs.Reading table snapshot read) past busy = busy
busy_past script s told (jobs.Writing table write) past busy = busy

pub busy_idle : (script : Script) (s : ℕ) (told : Told) (job : Job) → job ≡ jobs.Idle → IsBusyBy script s told job
busy_idle script s told job idle = subst (IsBusyBy script s told) (sym idle) tt

-- what is told of a session that another's entry leaves
pub session_at : (script : Script) (journal : List JournalEntry) (lines : List Line) (t : ℕ) (told told' : Told) (job job' : Job) (place place' : Progress) → told' ≡ told → job' ≡ job → place' ≡ place → SessionIs script journal lines t told job place → SessionIs script journal lines t told' job' place'
session_at script journal lines t told told' job job' place place' e f g h =
    subst (λ (p : Progress). SessionIs script journal lines t told' job' p) (sym g)
    (subst (λ (j : Job). SessionIs script journal lines t told' j place) (sym f)
    (subst (λ (x : Told). SessionIs script journal lines t x job place) (sym e) h))

line_stays : (lines : List Line) (line : Line) (at t : ℕ) (told : Told) → line.session ≢ t → IsLine lines at t told → IsLine (lines ++ line ∷ []) at t told
line_stays lines line at t told other h = record {
  reply = h.reply;
  there = get_push_left lines line at _ h.there;
  answered = h.answered;
  only = λ k l e session number. elim (after_push lines line k l e) [
    | inl new ↦ absurd (other (ap (λ (x : Line). x.session) (sym new.1) ∙ session))
    | inr old ↦ h.only k l old session number
  ];
}

pub entry_stays : (journal : List JournalEntry) (e : JournalEntry) (at t number : ℕ) → e.session ≢ t → IsLastEntry journal at t number → IsLastEntry (journal ++ e ∷ []) at t number
entry_stays journal e at t number other h = record {
  kind = h.kind;
  there = get_push_left journal e at _ h.there;
  last = λ k x there session. elim (after_push journal e k x there) [
    | inl new ↦ absurd (other (ap (λ (y : JournalEntry). y.session) (sym new.1) ∙ session))
    | inr old ↦ h.last k x old session
  ];
}

below_stays : (lines : List Line) (line : Line) (t begun : ℕ) → line.session ≢ t → ((k : ℕ) (l : Line) → slice_get lines k ≡ Some l → l.session ≡ t → l.number ≤ begun) → (k : ℕ) (l : Line) → slice_get (lines ++ line ∷ []) k ≡ Some l → l.session ≡ t → l.number ≤ begun
below_stays lines line t begun other below k l e session = elim (after_push lines line k l e) [
  | inl new ↦ absurd (other (ap (λ (x : Line). x.session) (sym new.1) ∙ session))
  | inr old ↦ below k l old session
]

-- another session's first entry and line
session_stays : (script : Script) (journal : List JournalEntry) (lines : List Line) (e : JournalEntry) (line : Line) (t : ℕ) (told : Told) (job : Job) (place : Progress) → e.session ≢ t → line.session ≢ t → SessionIs script journal lines t told job place → SessionIs script (journal ++ e ∷ []) (lines ++ line ∷ []) t told job place
session_stays script journal lines e line t told job place other other' h = record {
  begun = h.begun;
  within = h.within;
  busy = h.busy;
  quiet = h.quiet;
  below = below_stays lines line t told.begun other' h.below;
  line = λ one. line_stays lines line place.line t told other' (h.line one);
  entry = λ one. entry_stays journal e place.entry t told.begun other (h.entry one);
  kind = λ kind last. get_push_left journal e place.entry _ (h.kind kind last);
}

-- a session's own first entry and line
session_begins : (script : Script) (journal : List JournalEntry) (lines : List Line) (s n begun : ℕ) (kind : Kind) (reply : Option Reply) (said : Reply) (job : Job) →
    n ≡ begun + 1 → n ≤ length (commands_of script s) →
    ((k : ℕ) (l : Line) → slice_get lines k ≡ Some l → l.session ≡ s → l.number ≤ begun) →
    (kind ≡ kinds.Run → reply ≡ Some said) →
    is_under_way (record { begun = n; last = Some kind; reply = reply }) ≡ false →
    IsBusyBy script s (record { begun = n; last = Some kind; reply = reply }) job →
    SessionIs script (journal ++ (record { session = s; number = n; kind = kind }) ∷ []) (lines ++ (record { session = s; number = n; reply = said }) ∷ []) s (record { begun = n; last = Some kind; reply = reply }) job (record { begun = n; entry = length journal; line = length lines })
session_begins script journal lines s n begun kind reply said job next within below answered quiet busy =
    let e : JournalEntry = record { session = s; number = n; kind = kind } in
    let line : Line = record { session = s; number = n; reply = said } in
    record {
      begun = refl;
      within = within;
      busy = busy;
      quiet = quiet;
      below = λ k l there session. elim (after_push lines line k l there) [
        | inl new ↦ omega (arith, ap (λ (x : Line). x.number) new.1)
        | inr old ↦ omega (arith, below k l old session)
      ];
      line = λ one. record {
        reply = said;
        there = get_push_at lines line;
        answered = λ run. answered (same_Some _ _ run);
        only = λ k l there session number. elim (after_push lines line k l there) [
          | inl new ↦ new.0
          | inr old ↦ absurd (omega (arith, below k l old session))
        ];
      };
      entry = λ one. record {
        kind = kind;
        there = get_push_at journal e;
        last = λ k x there session. omega (arith, slice_get_within _ k x there, length-append journal (e ∷ []));
      };
      kind = λ own last. subst (λ (k : Kind). slice_get (journal ++ e ∷ []) (length journal) ≡ Some (record { session = s; number = n; kind = k })) (same_Some kind own last) (get_push_at journal e);
    }

number_within : (script : Script) (s n : ℕ) (command : Command) → 1 ≤ n → command_at script s n ≡ Some command → n ≤ length (commands_of script s)
number_within script s n command one there = (nth_within (commands_of script s) n command there).1

-- one more first entry
pub keeps_first : (script : Script) (core core' : CoreState) (journal : List JournalEntry) (kept : List KeptLine) (ps : List Progress) (run : Run) (s n : ℕ) (kind : Kind) (command : Command) (reply : Option Reply) (said : Reply) (plain : Plain) (kept_reply : Option Reply) →
    Keeps script core journal kept ps run → 1 ≤ s → s ≤ length script.sessions → (seat_of core s).job ≡ jobs.Idle →
    n ≡ (told_of run s).begun + 1 → command_at script s n ≡ Some command →
    is_legal script (journal ++ (record { session = s; number = n; kind = kind }) ∷ []) ≡ true →
    Stands core' plain (slice_set (replies_of run) (s - 1) reply) → OthersStay core s core' →
    (kind ≡ kinds.Run → reply ≡ Some said) →
    is_under_way (record { begun = n; last = Some kind; reply = reply }) ≡ false →
    IsBusyBy script s (record { begun = n; last = Some kind; reply = reply }) (seat_of core' s).job →
    kept_reply ≡ (kept_by script n (seat_of core' s).job (record { session = s; number = n; reply = said })).reply →
    Keeps script core' (journal ++ (record { session = s; number = n; kind = kind }) ∷ []) (kept ++ (record { session = s; number = n; reply = kept_reply }) ∷ []) (slice_set ps (s - 1) (record { begun = n; entry = length journal; line = length kept }))
    (told_more run (record { session = s; number = n; kind = kind }) reply plain (run.lines ++ (record { session = s; number = n; reply = said }) ∷ []))
keeps_first script core core' journal kept ps run s n kind command reply said plain kept_reply h one within idle next there legal stands others answered quiet busy said_is =
    let e : JournalEntry = record { session = s; number = n; kind = kind } in
    let line : Line = record { session = s; number = n; reply = said } in
    let told : Told = record { begun = n; last = Some kind; reply = reply } in
    let run' : Run = told_more run e reply plain (run.lines ++ line ∷ []) in
    let own = h.each s one within in
    let count = same_count kept (kept_of script run core) run.lines h.lines in
    let told_within : s ≤ length run.told = omega (arith, h.told) in
    let here : told_of run' s ≡ told = told_here run.told s told one told_within in
    let old_line : (k : ℕ) (l : Line) → slice_get run.lines k ≡ Some l → kept_of script run core l ≡ kept_of script run' core' l = λ (k : ℕ) (l : Line) e. elim (cases_eq l.session s) [
      | inl same ↦
          said_idle script (told_of run l.session).begun (seat_of core l.session).job l (ap (λ (t : ℕ). (seat_of core t).job) same ∙ idle)
          ∙ sym (said_before script (told_of run' l.session).begun (seat_of core' l.session).job l (λ number.
          let b : (told_of run' l.session).begun ≡ n = ap (λ (t : ℕ). (told_of run' t).begun) same ∙ ap (λ (t : Told). t.begun) here in
          let below = own.below k l e same in
          omega (arith, b, below, number, next)))
      | inr other ↦
          ap (λ (t : Told). kept_by script t.begun (seat_of core l.session).job l) (sym (told_there run.told s l.session told one (h.from_one k l e) other))
          ∙ ap (λ (seat : Seat). kept_by script (told_of run' l.session).begun seat.job l) (sym (seat_there core core' s l.session one (h.from_one k l e) other others))
    ] in
    record {
      rules = h.rules;
      schemas = others.schemas ∙ h.schemas;
      seats = others.count ∙ h.seats;
      told = length-set run.told (s - 1) told ∙ h.told;
      places = length-set ps (s - 1) _ ∙ h.places;
      stands = subst (Stands core' plain) (sym (map-set (λ (t : Told). t.reply) run.told (s - 1) told)) stands;
      legal = legal;
      lines = push_both kept (kept_of script run' core') run.lines _ line (refit kept (kept_of script run core) (kept_of script run' core') run.lines h.lines old_line)
          (ap (λ (o : Option Reply). record { session = s; number = n; reply = o }) (said_is ∙ ap (λ (t : Told). (kept_by script t.begun (seat_of core' s).job line).reply) (sym here)));
      from_one = λ k l e. elim (after_push run.lines line k l e) [
        | inl new ↦ subst (λ (x : ℕ). 1 ≤ x) (sym (ap (λ (x : Line). x.session) new.1)) one
        | inr old ↦ h.from_one k l old
      ];
      each = λ t one' within'. elim (cases_eq t s) [
        | inl same ↦ subst (λ (x : ℕ). SessionIs script (journal ++ e ∷ []) (run.lines ++ line ∷ []) x (told_of run' x) (seat_of core' x).job (progress_of (slice_set ps (s - 1) (record { begun = n; entry = length journal; line = length kept })) x)) (sym same)
            (session_at script _ _ s told (told_of run' s) (seat_of core' s).job (seat_of core' s).job (record { begun = n; entry = length journal; line = length run.lines }) _ here refl
            (progress_here ps s _ one (omega (arith, h.places)) ∙ ap (λ (c : ℕ). record { begun = n; entry = length journal; line = c }) count)
            (session_begins script journal run.lines s n (told_of run s).begun kind reply said (seat_of core' s).job next (number_within script s n command (omega (arith, next)) there) own.below answered quiet busy))
        | inr other ↦
            session_at script _ _ t (told_of run t) (told_of run' t) (seat_of core t).job (seat_of core' t).job (progress_of ps t) _
            (told_there run.told s t told one one' other)
            (ap (λ (seat : Seat). seat.job) (seat_there core core' s t one one' other others))
            (progress_there ps s t _ one one' other)
            (session_stays script journal run.lines e line t _ _ _ (λ x. other (sym x)) (λ x. other (sym x)) (h.each t one' within'))
      ];
      entries =
          let more = one_first run.told s n told kind one told_within next refl refl in
          omega (arith, h.entries, more, length-append journal (e ∷ []));
      fewer = omega (arith, h.fewer, length-append journal (e ∷ []), length-append run.lines (line ∷ []));
    }

-- a session with nothing under way needs no reply
pub stands_forget : (core : CoreState) (m : Plain) (replies : List (Option Reply)) (s : ℕ) (reply : Option Reply) → (seat_of core s).job ≡ jobs.Idle → Stands core m replies → Stands core m (slice_set replies (s - 1) reply)
stands_forget core m replies s reply idle h = record {
  latest = h.latest;
  count = h.count;
  sessions = h.sessions;
  upkeep = h.upkeep;
  pending = λ i seat said there pending. elim (cases_eq i (s - 1)) [
    | inl same ↦
        let is : seat_of core s ≡ seat = get_or_from_slice_get core.seats (s - 1) seat nobody (ap (slice_get core.seats) (sym same) ∙ there) in
        let none : None ≡ Some said = ap (pending_of core.tables) (sym idle ∙ ap (λ (x : Seat). x.job) is) ∙ pending in
        absurd (cc)
    | inr other ↦ get_set_other replies (s - 1) i reply other ∙ h.pending i seat said there pending
  ];
}

-- what a first step leaves, its entry and its line recorded
pub record FirstKept (script : Script) (core' : CoreState) (journal : List JournalEntry) (kept : List KeptLine) (ps : List Progress) (run : Run) (s n : ℕ) (command : Command) (kind : Kind) (goes_on : Bool) (kept_reply : Option Reply) : Type 0 where
  pub reply : Option Reply
  pub told : (after_entry script run (record { session = s; number = n; kind = kind })).told ≡ slice_set run.told (s - 1) (record { begun = n; last = Some kind; reply = reply })
  pub keeps : Keeps script core' (journal ++ (record { session = s; number = n; kind = kind }) ∷ []) (kept ++ (record { session = s; number = n; reply = kept_reply }) ∷ []) (slice_set ps (s - 1) (record { begun = n; entry = length journal; line = length kept })) (after_entry script run (record { session = s; number = n; kind = kind }))
  pub past : is_past_moment (seat_of core' s).job ≡ goes_on
  pub more : goes_on ≡ true → (kind ≡ kinds.Run) × (is_granted (answer script.schemas run.plain s command).reply ≡ true) × (is_one_step command ≡ false)

past_idle : (job : Job) → job ≡ jobs.Idle → is_past_moment job ≡ false
past_idle job idle = ap is_past_moment idle

next_is_other : (b n : ℕ) → n ≡ b + 1 → (b == n) ≡ false
next_is_other b n next = grind (arith, nat_tests)

pub first_by : (kind : Kind) (goes_on : Bool) (kept_reply : Option Reply) (script : Script) (core core' : CoreState) (journal : List JournalEntry) (kept : List KeptLine) (ps : List Progress) (run : Run) (s n : ℕ) (command : Command) →
    StepsFirst kind core s command core' goes_on kept_reply →
    Keeps script core journal kept ps run → run ≡ run_of script journal → 1 ≤ s → s ≤ length script.sessions → (seat_of core s).job ≡ jobs.Idle →
    n ≡ (told_of run s).begun + 1 → command_at script s n ≡ Some command → OthersStay core s core' →
    FirstKept script core' journal kept ps run s n command kind goes_on kept_reply
first_by kinds.Run true kept_reply script core core' journal kept ps run s n command steps h is one within idle next there others =
    let e : JournalEntry = record { session = s; number = n; kind = kinds.Run } in
    let fits = h.rules.fits s n command there in
    let step = subst (λ (schemas : List TableSchema). Stands core' (answer schemas run.plain s command).after (slice_set (replies_of run) (s - 1) (Some (answer schemas run.plain s command).reply)) × SaysFirst true command (seat_of core' s).job kept_reply (answer schemas run.plain s command).reply) h.schemas (steps run.plain (replies_of run) (omega (arith, length-map run.told (λ (t : Told). t.reply), h.told)) h.stands) in
    let said = (answer script.schemas run.plain s command).reply in
    let line : Line = record { session = s; number = n; reply = said } in
    let busy : IsBusy script s (record { begun = n; last = Some kinds.Run; reply = Some said }) (seat_of core' s).job = record { begun = omega (arith, next); last = refl; reply = said; answered = refl; granted = step.1.granted; command = command; there = there; for_rows = step.1.for_rows; steps = step.1.steps; values = step.1.values } in
    let legal = legal_push script journal e h.legal (subst (λ (r : Run). may_follow script r e ≡ true) is (may_first script run s n kinds.Run command next (h.each s one within).quiet there refl)) in
    record {
      reply = Some said;
      told = ap (λ (r : Run). r.told) (run_moment script run s n command there);
      keeps = subst (Keeps script core' (journal ++ e ∷ []) (kept ++ (record { session = s; number = n; reply = kept_reply }) ∷ []) (slice_set ps (s - 1) (record { begun = n; entry = length journal; line = length kept }))) (sym (run_moment script run s n command there))
          (keeps_first script core core' journal kept ps run s n kinds.Run command (Some said) said (answer script.schemas run.plain s command).after kept_reply h one within idle next there legal step.0 others (λ _. refl)
          (not_started script.schemas run.plain s command fits)
          (busy_past script s _ (seat_of core' s).job step.1.past busy)
          (step.1.said ∙ sym (kept_going script n (seat_of core' s).job line command refl step.1.past there)));
      past = step.1.past;
      more = λ _. (refl, step.1.granted, step.1.steps);
    }
first_by kinds.Run false kept_reply script core core' journal kept ps run s n command steps h is one within idle next there others =
    let e : JournalEntry = record { session = s; number = n; kind = kinds.Run } in
    let fits = h.rules.fits s n command there in
    let step = subst (λ (schemas : List TableSchema). Stands core' (answer schemas run.plain s command).after (slice_set (replies_of run) (s - 1) (Some (answer schemas run.plain s command).reply)) × SaysFirst false command (seat_of core' s).job kept_reply (answer schemas run.plain s command).reply) h.schemas (steps run.plain (replies_of run) (omega (arith, length-map run.told (λ (t : Told). t.reply), h.told)) h.stands) in
    let said = (answer script.schemas run.plain s command).reply in
    let line : Line = record { session = s; number = n; reply = said } in
    let legal = legal_push script journal e h.legal (subst (λ (r : Run). may_follow script r e ≡ true) is (may_first script run s n kinds.Run command next (h.each s one within).quiet there refl)) in
    record {
      reply = Some said;
      told = ap (λ (r : Run). r.told) (run_moment script run s n command there);
      keeps = subst (Keeps script core' (journal ++ e ∷ []) (kept ++ (record { session = s; number = n; reply = kept_reply }) ∷ []) (slice_set ps (s - 1) (record { begun = n; entry = length journal; line = length kept }))) (sym (run_moment script run s n command there))
          (keeps_first script core core' journal kept ps run s n kinds.Run command (Some said) said (answer script.schemas run.plain s command).after kept_reply h one within idle next there legal step.0 others (λ _. refl)
          (not_started script.schemas run.plain s command fits)
          (busy_idle script s _ (seat_of core' s).job step.1.1)
          (step.1.0 ∙ sym (ap (λ (l : KeptLine). l.reply) (said_idle script n (seat_of core' s).job line step.1.1))));
      past = past_idle (seat_of core' s).job step.1.1;
      more = λ yes. absurd (cc);
    }
first_by kinds.Memory goes_on kept_reply script core core' journal kept ps run s n command steps h is one within idle next there others =
    let e : JournalEntry = record { session = s; number = n; kind = kinds.Memory } in
    let line : Line = record { session = s; number = n; reply = replies.Memory } in
    let over = steps.0.over in
    let may : may_come_first command kinds.Memory ≡ true = ap not steps.1 in
    let legal = legal_push script journal e h.legal (subst (λ (r : Run). may_follow script r e ≡ true) is (may_first script run s n kinds.Memory command next (h.each s one within).quiet there may)) in
    let other : ((told_of run s).begun == n) ≡ false = next_is_other (told_of run s).begun n next in
    let want = run_want script run s n command h.stands.upkeep other there in
    record {
      reply = None;
      told = ap (λ (r : Run). r.told) want;
      keeps = subst (Keeps script core' (journal ++ e ∷ []) (kept ++ (record { session = s; number = n; reply = kept_reply }) ∷ []) (slice_set ps (s - 1) (record { begun = n; entry = length journal; line = length kept }))) (sym want)
          (keeps_first script core core' journal kept ps run s n kinds.Memory command None replies.Memory (with_failure run.plain s) kept_reply h one within idle next there legal
          (stands_forget core' (with_failure run.plain s) (replies_of run) s None over (steps.0.stands run.plain (replies_of run) h.stands)) others (λ run. absurd (cc)) refl
          (busy_idle script s _ (seat_of core' s).job over)
          (steps.3 ∙ sym (ap (λ (l : KeptLine). l.reply) (said_idle script n (seat_of core' s).job line over))));
      past = past_idle (seat_of core' s).job over ∙ sym steps.2;
      more = λ yes. absurd (let no = steps.2 in cc);
    }
first_by kinds.End goes_on kept_reply script core core' journal kept ps run s n command steps h is one within idle next there others = absurd steps
first_by kinds.NoValueId goes_on kept_reply script core core' journal kept ps run s n command steps h is one within idle next there others = absurd steps
