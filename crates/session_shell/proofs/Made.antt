-- One turn of a hub.
use Rattle.std.proofs.Common.{◌≡◌, ◌<◌, ◌≤◌, ◌+◌, ◌-◌, ◌*◌, ℕ, Bool, true, false, zero, suc, get_or, List, [], ◌∷◌, ◌++◌, Option, Some, None, length, slice_get, slice_set, refl, sym, ap, ◌∙◌, subst, arith, length-append, append-nil}
use Rattle.std.specs.Prelude.{if◌then◌else◌}
use Rattle.std.specs.Option.{unwrap_or}
use Rattle.std.specs.List.{sum_by}
use Rattle.std.proofs.lemmas.Option.{slice_get-get_or}
use Rattle.std.proofs.lemmas.List.{get_or_read, length-map}
use Rattle.std.proofs.lemmas.List.Sums.{sum_by-cons}
use Rattle.list_facts.proofs.Changed.{set_same}
use Rattle.command_set.specs.Plain.{nth}
use Rattle.command_set.proofs.Numbered.{nth_is}
use Rattle.session_shell.proofs.Frames.{told_at}
use Rattle.command_set.specs.declared.journal.Run.{Run}
use Rattle.command_set.specs.declared.journal.Told.{Told}
use Rattle.command_set.specs.declared.Script.{Script}
use Rattle.command_set.specs.declared.JournalEntry.{JournalEntry}
use Rattle.command_set.specs.declared.Kind.{Kind}
use Rattle.command_set.specs.declared.Kind.TheVariants as kinds
use Rattle.command_set.specs.declared.Command.{Command}
use Rattle.command_set.specs.Answers.{answer}
use Rattle.command_set.specs.Replies.{is_granted}
use Rattle.command_set.specs.Journals.{command_at, told_of, untold, run_of}
use Rattle.core_state.specs.declared.seat.Job.{Job}
use Rattle.core_state.specs.declared.seat.Job.TheVariants as jobs
use Rattle.core_state.specs.declared.seat.Seat.{Seat}
use Rattle.core_state.specs.Moves.{OthersStay}
use Rattle.core_state.specs.State.{CoreState, seat_of, is_past_moment}
use Rattle.script_text.specs.Scripts.{command_count}
use Rattle.session_shell.specs.declared.hub.KeptLine.{KeptLine}
use Rattle.session_shell.specs.declared.hub.Progress.{Progress}
use Rattle.session_shell.specs.declared.hub.Turn.{Turn}
use Rattle.session_shell.specs.declared.hub.Turn.TheVariants as turns
use Rattle.session_shell.specs.declared.steps.First.{First}
use Rattle.session_shell.specs.Hubs.{HubState, IsHub, Keeps, IsLastEntry, at_start, is_one_step, progress_of}
use Rattle.session_shell.specs.Steps.{BeginsBy, end_by}
use Rattle.session_shell.specs.Turns.{TurnMade, Place, More, Ended, place_of, places_by, places_in, place_after, IsTurn, BeginsBy as TurnBeginsBy, Ran, MakesTurn, NamesLast, entry_in, turn_made, TurnLeads, EventBegins, EventBy, EventFirst, EventNext}
use Rattle.session_shell.proofs.Runs.{run_push}
use Rattle.session_shell.proofs.Frames.{length-places, place_is, places_set, seats_set, progress_here, told_here, all_entries}
use Rattle.session_shell.proofs.Kept.{same_count}
use Rattle.session_shell.proofs.Firsts.{first_by}

-- the others stay where nothing changes
pub others_same : (core : CoreState) (s : ℕ) → OthersStay core s core
others_same core s = record { schemas = refl; count = refl; each = λ i other. refl }

-- where a session of a hub is
pub place_in_is : (script : Script) (core : CoreState) (journal : List JournalEntry) (kept : List KeptLine) (ps : List Progress) (run : Run) (s : ℕ) → Keeps script core journal kept ps run → 1 ≤ s → s ≤ length script.sessions → place_of (places_by run.told core.seats) s ≡ record { begun = (told_of run s).begun; under_way = is_past_moment (seat_of core s).job }
place_in_is script core journal kept ps run s h one within = place_is run.told core.seats (s - 1) (omega (arith, h.told)) (omega (arith, h.seats)) ∙ ap (λ (o : Option Told). record { begun = (unwrap_or o untold).begun; under_way = is_past_moment (seat_of core s).job }) (sym (nth_is run.told s one))

-- a run of one turn
pub ran_turn : (old new : HubState) (t : TurnMade) → TurnLeads old t new → Ran old new (t ∷ [])
ran_turn old new t h = record {
  chain = (new, h, refl);
  script = h.script;
  journal = h.journal ∙ ap (λ (es : List JournalEntry). old.journal ++ es) (sym (append-nil (entry_in t.entry)));
  each = (h.turn, tt);
  places = h.places;
}

-- one turn
pub ran_one : (old new : HubState) (ps : List Progress) (s : ℕ) (t : TurnMade) (told : Told) →
    IsHub old ps → 1 ≤ s → s ≤ length old.script.sessions → t.session ≡ s → new.script ≡ old.script → new.journal ≡ old.journal ++ entry_in t.entry →
    IsTurn old.script (run_of old.script old.journal) (record { begun = (told_of (run_of old.script old.journal) s).begun; under_way = is_past_moment (seat_of old.core s).job }) t →
    (run_of new.script new.journal).told ≡ slice_set (run_of old.script old.journal).told (s - 1) told → OthersStay old.core s new.core →
    record { begun = told.begun; under_way = is_past_moment (seat_of new.core s).job } ≡ place_after (record { begun = (told_of (run_of old.script old.journal) s).begun; under_way = is_past_moment (seat_of old.core s).job }) t.end →
    EventBy (is_past_moment (seat_of old.core s).job) (command_at old.script t.session ((told_of (run_of old.script old.journal) s).begun + 1)) t old.core new.core →
    Ran old new (t ∷ [])
ran_one old new ps s t told h one within own same grown turn told_is others place event =
    let run = run_of old.script old.journal in
    let here = place_in_is old.script old.core old.journal old.kept ps run s h one within in
    let at : place_of (places_in old) t.session ≡ record { begun = (told_of run s).begun; under_way = is_past_moment (seat_of old.core s).job } = ap (place_of (places_in old)) own ∙ here in
    ran_turn old new t (record {
      script = same;
      journal = grown;
      turn = subst (λ (p : Place). IsTurn old.script run p t) (sym at) turn;
      event = subst (λ (p : Place). EventBy p.under_way (command_at old.script t.session (p.begun + 1)) t old.core new.core) (sym at) event;
      at = record {
        there = record { from_one = rw own one; within = rw own (omega (arith, within, h.seats)) };
        schemas = h.schemas;
        told = rw own (omega (arith, one, within, h.told, length-map run.told (λ (told : Told). told.reply)));
        stands = h.stands;
        under_way = ap (λ (p : Place). p.under_way) at ∙ sym (ap (λ (n : ℕ). is_past_moment (seat_of old.core n).job) own);
      };
      others = subst (λ (n : ℕ). OthersStay old.core n new.core) (sym own) others;
      places =
          ap (λ (ts : List Told). places_by ts new.core.seats) told_is
          ∙ ap (λ (seats : List Seat). places_by (slice_set run.told (s - 1) told) seats) (seats_set old.core new.core s one (omega (arith, h.seats)) others)
          ∙ places_set run.told old.core.seats (s - 1) told (seat_of new.core s)
          ∙ ap (slice_set (places_in old) (s - 1)) (place ∙ ap (λ (p : Place). place_after p t.end) (sym at))
          ∙ ap (λ (x : ℕ). slice_set (places_in old) (x - 1) (place_after (place_of (places_in old) t.session) t.end)) (sym own);
    })

-- what is told of a session stands at its place
pub told_get : (tolds : List Told) (s : ℕ) → 1 ≤ s → s ≤ length tolds → slice_get tolds (s - 1) ≡ Some (unwrap_or (nth tolds s) untold)
told_get tolds s one within = slice_get-get_or tolds (s - 1) untold (omega arith) ∙ ap Some (told_at tolds s one)

-- nothing is left
pub rests : (old : HubState) (ps : List Progress) (s n : ℕ) → IsHub old ps → 1 ≤ s → s ≤ length old.script.sessions → (seat_of old.core s).job ≡ jobs.Idle → n ≡ (told_of (run_of old.script old.journal) s).begun + 1 → command_at old.script s n ≡ None → MakesTurn old s old turns.Nothing
rests old ps s n h one within idle next none =
    let run = run_of old.script old.journal in
    let t : TurnMade = turn_made s None turns.Nothing in
    let b = (told_of run s).begun in
    record {
      entry = None;
      ran = ran_one old old ps s t (told_of run s) h one within refl refl (sym (append-nil old.journal))
          (subst (λ (u : Bool). IsTurn old.script run (record { begun = b; under_way = u }) t) (sym (ap is_past_moment idle))
          (subst (TurnBeginsBy old.script run (record { begun = b; under_way = false }) t) (sym (ap (command_at old.script s) (sym next) ∙ none)) (record { entry = refl; end = refl })))
          (sym (set_same run.told (s - 1) (told_of run s) (told_get run.told s one (omega (arith, h.told)))))
          (others_same old.core s) refl
          (subst (λ (u : Bool). EventBy u (command_at old.script s (b + 1)) t old.core old.core) (sym (ap is_past_moment idle))
          (subst (λ (o : Option Command). EventNext o t old.core old.core) (sym (ap (command_at old.script s) (sym next) ∙ none)) refl));
      named = tt;
    }

-- a hub that has recorded a command's first entry
abbrev pub recorded : HubState → CoreState → ℕ → ℕ → First → HubState
recorded old core s n first = record {
  script = old.script;
  core = core;
  journal = old.journal ++ (record { session = s; number = n; kind = first.kind }) ∷ [];
  kept = old.kept ++ (record { session = s; number = n; reply = first.reply }) ∷ [];
}

-- how far its sessions are
abbrev pub moved : HubState → List Progress → ℕ → ℕ → List Progress
moved old ps s n = slice_set ps (s - 1) (record { begun = n; entry = length old.journal; line = length old.kept })

pub named_last : (hub : HubState) (ps : List Progress) (s at : ℕ) → IsHub hub ps → 1 ≤ s → s ≤ length hub.script.sessions → (progress_of ps s).entry ≡ at → 1 ≤ (told_of (run_of hub.script hub.journal) s).begun → NamesLast hub s (turns.Ended at)
named_last hub ps s at h one within is begun = subst (λ (k : ℕ). IsLastEntry hub.journal k s (told_of (run_of hub.script hub.journal) s).begun) is ((h.each s one within).entry begun)

-- the event of a turn that begins a command
begins_event : (old : HubState) (core : CoreState) (s b : ℕ) (t : TurnMade) (command : Command) → (seat_of old.core s).job ≡ jobs.Idle → command_at old.script t.session (b + 1) ≡ Some command → EventBegins t.entry t.end old.core t.session command core →
    EventBy (is_past_moment (seat_of old.core s).job) (command_at old.script t.session (b + 1)) t old.core core
begins_event old core s b t command idle there event =
    subst (λ (u : Bool). EventBy u (command_at old.script t.session (b + 1)) t old.core core) (sym (ap is_past_moment idle))
    (subst (λ (o : Option Command). EventNext o t old.core core) (sym there) event)

made_by : (goes_on : Bool) (old new : HubState) (ps : List Progress) (s n : ℕ) (command : Command) (kind : Kind) (told : Told) (turn : Turn) →
    IsHub old ps → 1 ≤ s → s ≤ length old.script.sessions → (seat_of old.core s).job ≡ jobs.Idle →
    n ≡ (told_of (run_of old.script old.journal) s).begun + 1 → command_at old.script s n ≡ Some command → OthersStay old.core s new.core → new.script ≡ old.script →
    new.journal ≡ old.journal ++ (record { session = s; number = n; kind = kind }) ∷ [] → told.begun ≡ n →
    (run_of new.script new.journal).told ≡ slice_set (run_of old.script old.journal).told (s - 1) told →
    is_past_moment (seat_of new.core s).job ≡ goes_on →
    (goes_on ≡ true → (kind ≡ kinds.Run) × (is_granted (answer old.script.schemas (run_of old.script old.journal).plain s command).reply ≡ true) × (is_one_step command ≡ false)) →
    NamesLast new s (turns.Ended (length old.journal)) → EventFirst kind (end_by goes_on) old.core s command new.core →
    turn ≡ (if goes_on then turns.More else turns.Ended (length old.journal)) → MakesTurn old s new turn
made_by true old new ps s n command kind told turn h one within idle next there others same grown begun told_is past more named event is =
    let e : JournalEntry = record { session = s; number = n; kind = kind } in
    let run = run_of old.script old.journal in
    let b = (told_of run s).begun in
    let t : TurnMade = turn_made s (Some e) turns.More in
    subst (MakesTurn old s new) (sym is) (record {
      entry = Some e;
      ran = ran_one old new ps s t told h one within refl same grown
          (subst (λ (u : Bool). IsTurn old.script run (record { begun = b; under_way = u }) t) (sym (ap is_past_moment idle))
          (subst (TurnBeginsBy old.script run (record { begun = b; under_way = false }) t) (sym (ap (command_at old.script s) (sym next) ∙ there))
          (record { entry = e; is = refl; session = refl; number = next; made = λ no. absurd (cc); more = λ _. more refl })))
          told_is others
          (ap (λ (x : ℕ). record { begun = x; under_way = is_past_moment (seat_of new.core s).job }) (begun ∙ next)
          ∙ ap (λ (u : Bool). record { begun = b + 1; under_way = u }) past
          ∙ sym (ap (λ (j : Job). place_after (record { begun = b; under_way = is_past_moment j }) More) idle))
          (begins_event old new.core s b t command idle (ap (command_at old.script s) (sym next) ∙ there) event);
      named = tt;
    })
made_by false old new ps s n command kind told turn h one within idle next there others same grown begun told_is past more named event is =
    let e : JournalEntry = record { session = s; number = n; kind = kind } in
    let run = run_of old.script old.journal in
    let b = (told_of run s).begun in
    let t : TurnMade = turn_made s (Some e) (turns.Ended (length old.journal)) in
    subst (MakesTurn old s new) (sym is) (record {
      entry = Some e;
      ran = ran_one old new ps s t told h one within refl same grown
          (subst (λ (u : Bool). IsTurn old.script run (record { begun = b; under_way = u }) t) (sym (ap is_past_moment idle))
          (subst (TurnBeginsBy old.script run (record { begun = b; under_way = false }) t) (sym (ap (command_at old.script s) (sym next) ∙ there))
          (record { entry = e; is = refl; session = refl; number = next; made = λ no. absurd (cc); more = λ no. absurd (cc) })))
          told_is others
          (ap (λ (x : ℕ). record { begun = x; under_way = is_past_moment (seat_of new.core s).job }) (begun ∙ next)
          ∙ ap (λ (u : Bool). record { begun = b + 1; under_way = u }) past
          ∙ sym (ap (λ (j : Job). place_after (record { begun = b; under_way = is_past_moment j }) Ended) idle))
          (begins_event old new.core s b t command idle (ap (command_at old.script s) (sym next) ∙ there) event);
      named = named;
    })

-- the hub once a command has begun
pub record HubBegun (old : HubState) (core : CoreState) (ps : List Progress) (s n : ℕ) (first : First) : Type 0 where
  pub keeps : IsHub (recorded old core s n first) (moved old ps s n)
  pub made : (turn : Turn) → turn ≡ (if first.goes_on then turns.More else turns.Ended (length old.journal)) → MakesTurn old s (recorded old core s n first) turn
  pub past : is_past_moment (seat_of core s).job ≡ first.goes_on

pub begun_hub : (old : HubState) (core : CoreState) (ps : List Progress) (s n : ℕ) (command : Command) (first : First) → BeginsBy old.core s command core first → EventFirst first.kind (end_by first.goes_on) old.core s command core → IsHub old ps → 1 ≤ s → s ≤ length old.script.sessions → (seat_of old.core s).job ≡ jobs.Idle →
    n ≡ (told_of (run_of old.script old.journal) s).begun + 1 → command_at old.script s n ≡ Some command → OthersStay old.core s core → HubBegun old core ps s n first
begun_hub old core ps s n command first begins event h one within idle next there others =
    let e : JournalEntry = record { session = s; number = n; kind = first.kind } in
    let run = run_of old.script old.journal in
    let new = recorded old core s n first in
    let k = first_by first.kind first.goes_on first.reply old.script old.core core old.journal old.kept ps run s n command begins.by h refl one within idle next there others in
    let keeps : IsHub new (moved old ps s n) = subst (Keeps old.script core new.journal new.kept (moved old ps s n)) (sym (run_push old.script old.journal e)) k.keeps in
    let told : Told = record { begun = n; last = Some first.kind; reply = k.reply } in
    let told_is : (run_of new.script new.journal).told ≡ slice_set run.told (s - 1) told = ap (λ (r : Run). r.told) (run_push old.script old.journal e) ∙ k.told in
    let here : (told_of (run_of new.script new.journal) s).begun ≡ n = ap (λ (ts : List Told). (unwrap_or (nth ts s) untold).begun) told_is ∙ ap (λ (t : Told). t.begun) (told_here run.told s told one (omega (arith, h.told))) in
    record {
      keeps = keeps;
      made = λ turn is. made_by first.goes_on old new ps s n command first.kind told turn h one within idle next there others refl refl refl told_is k.past k.more
          (named_last new (moved old ps s n) s (length old.journal) keeps one within (ap (λ (p : Progress). p.entry) (progress_here ps s _ one (omega (arith, h.places)))) (omega (arith, here, next)))
          event is;
      past = k.past;
    }

-- a turn after which the command goes on
pub goes_on_by : (b : Bool) (turn : Turn) (at : ℕ) → turn ≡ (if b then turns.More else turns.Ended at) → turn ≡ turns.More → b ≡ true
goes_on_by true turn at is more = refl
goes_on_by false turn at is more = absurd (cc)

-- the room that a journal and its lines take
pub record Fits (script : Script) (journal : List JournalEntry) (kept : List KeptLine) : Type 0 where
  pub journal_fits : length journal ≤ 2 * command_count script
  pub kept_fits : length kept ≤ 2 * command_count script
  pub few : command_count script ≤ 10000

pub fits : (hub : HubState) (ps : List Progress) → IsHub hub ps → Fits hub.script hub.journal hub.kept
fits hub ps h =
    let run = run_of hub.script hub.journal in
    let begun : (i : ℕ) → i < length run.told → (unwrap_or (slice_get run.told i) untold).begun ≤ length (unwrap_or (slice_get hub.script.sessions i) []) = λ (i : ℕ) (k : i < length run.told).
    (h.each (suc i) (omega arith) (omega (arith, k, h.told))).within in
    let most = all_entries run.told hub.script.sessions h.told begun in
    record {
      journal_fits = omega (arith, most, h.entries);
      kept_fits = omega (arith, most, h.entries, h.fewer, same_count hub.kept _ run.lines h.lines);
      few = h.rules.commands;
    }

-- the same, as it was recorded
pub begun_is : (old : HubState) (core : CoreState) (ps ps' : List Progress) (s n : ℕ) (first : First) (journal : List JournalEntry) (kept : List KeptLine) → HubBegun old core ps s n first →
    journal ≡ (recorded old core s n first).journal → kept ≡ (recorded old core s n first).kept → ps' ≡ moved old ps s n → IsHub (record { script = old.script; core = core; journal = journal; kept = kept }) ps'
begun_is old core ps ps' s n first journal kept h e f g =
    subst (λ (j : List JournalEntry). IsHub (record { script = old.script; core = core; journal = j; kept = kept }) ps') (sym e)
    (subst (λ (k : List KeptLine). IsHub (record { script = old.script; core = core; journal = (recorded old core s n first).journal; kept = k }) ps') (sym f)
    (subst (λ (p : List Progress). IsHub (recorded old core s n first) p) (sym g) h.keeps))

pub begun_made : (old : HubState) (core : CoreState) (ps : List Progress) (s n : ℕ) (first : First) (journal : List JournalEntry) (kept : List KeptLine) (turn : Turn) → HubBegun old core ps s n first →
    journal ≡ (recorded old core s n first).journal → kept ≡ (recorded old core s n first).kept → turn ≡ (if first.goes_on then turns.More else turns.Ended (length old.journal)) → MakesTurn old s (record { script = old.script; core = core; journal = journal; kept = kept }) turn
begun_made old core ps s n first journal kept turn h e f is =
    subst (λ (j : List JournalEntry). MakesTurn old s (record { script = old.script; core = core; journal = j; kept = kept }) turn) (sym e)
    (subst (λ (k : List KeptLine). MakesTurn old s (record { script = old.script; core = core; journal = (recorded old core s n first).journal; kept = k }) turn) (sym f)
    (h.made turn is))

-- the number of the command that begins
pub begun_next : (hub : HubState) (ps : List Progress) (s : ℕ) (x : Progress) → IsHub hub ps → 1 ≤ s → s ≤ length hub.script.sessions → x ≡ get_or ps (s - 1) x → x.begun + 1 ≡ (told_of (run_of hub.script hub.journal) s).begun + 1
begun_next hub ps s x h one within is =
    ap (λ (p : Progress). p.begun + 1) (get_or_read ps (s - 1) x (omega (arith, h.places)) is at_start)
    ∙ ap (λ (b : ℕ). b + 1) (h.each s one within).begun

one_in_sum : (sessions : List (List Command)) (i : ℕ) → length (unwrap_or (slice_get sessions i) []) ≤ sum_by length sessions
one_in_sum [] i = omega arith
one_in_sum (session ∷ sessions) zero = omega (arith, sum_by-cons length session sessions)
one_in_sum (session ∷ sessions) (suc i) = omega (arith, sum_by-cons length session sessions, one_in_sum sessions i)

-- there is room for a first entry and its line
pub record Room (old : HubState) (n : ℕ) : Type 0 where
  pub entry : length old.journal < 2 * command_count old.script
  pub line : length old.kept < 2 * command_count old.script
  pub number : n ≤ 10000
  pub few : command_count old.script ≤ 10000

count_in_sum : (sessions : List (List Command)) (s : ℕ) → length (unwrap_or (nth sessions s) []) ≤ sum_by length sessions
count_in_sum sessions zero = omega arith
count_in_sum sessions (suc i) = one_in_sum sessions i

pub room_left : (old : HubState) (core : CoreState) (ps : List Progress) (s n : ℕ) (first : First) → HubBegun old core ps s n first → 1 ≤ s → s ≤ length old.script.sessions → IsHub old ps → n ≡ (told_of (run_of old.script old.journal) s).begun + 1 → Room old n
room_left old core ps s n first b one within h next =
    let room = fits (recorded old core s n first) (moved old ps s n) b.keeps in
    let own = b.keeps.each s one within in
    let here : (told_of (run_of old.script (recorded old core s n first).journal) s).begun ≡ n = sym own.begun ∙ ap (λ (p : Progress). p.begun) (progress_here ps s _ one (omega (arith, h.places))) in
    record {
      entry = omega (arith, room.journal_fits, length-append old.journal ((record { session = s; number = n; kind = first.kind }) ∷ []));
      line = omega (arith, room.kept_fits, length-append old.kept ((record { session = s; number = n; reply = first.reply }) ∷ []));
      number = omega (arith, own.within, here, count_in_sum old.script.sessions s, room.few);
      few = room.few;
    }

-- a hub's sessions each have a place
pub places_count : (hub : HubState) (ps : List Progress) → IsHub hub ps → length (places_in hub) ≡ length hub.script.sessions
places_count hub ps h = length-places (run_of hub.script hub.journal).told hub.core.seats (h.told ∙ sym h.seats) ∙ h.told
