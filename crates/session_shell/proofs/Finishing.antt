-- How the sessions finish, one after another.
use Rattle.std.proofs.Common.{◌≡◌, ◌≢◌, ◌<◌, ◌≤◌, ◌+◌, ◌-◌, inl, inr, ℕ, zero, suc, Bool, true, false, List, [], ◌∷◌, ◌++◌, Option, length, get_or, slice_get, refl, sym, ap, ◌∙◌, subst, arith, eq-eqb, append_assoc, append-nil, get_or-set_other}
use Rattle.std.specs.Prelude.{MatchBool, ◌==◌, nat_lt, not}
use Rattle.std.specs.List.{list_all, enumerate_from, range_with_len}
use Rattle.std.specs.Option.{unwrap_or}
use Rattle.std.proofs.lemmas.Bool.{cases_eq}
use Rattle.std.proofs.lemmas.Bool.Decides.{nat_tests}
use Rattle.command_set.proofs.Numbered.{nth_is}
use Rattle.command_set.specs.declared.journal.Told.{Told}
use Rattle.command_set.specs.declared.Script.{Script}
use Rattle.command_set.specs.declared.Command.{Command}
use Rattle.command_set.specs.Journals.{has_ended, is_complete, is_under_way, run_of, told_of, untold}
use Rattle.core_state.specs.declared.seat.Job.TheVariants as jobs
use Rattle.core_state.specs.State.{seat_of, is_past_moment}
use Rattle.session_shell.specs.declared.hub.Progress.{Progress}
use Rattle.session_shell.specs.Hubs.{HubState, IsHub, commands_of}
use Rattle.session_shell.specs.Turns.{TurnMade, Place, at_start, place_of, place_after, after_turn, after_turns, Ran, places_in}
use Rattle.session_shell.specs.Follows.{AllMore, AllOf, EachInTurn, Empties, EmptiesSession, EndsBy, EndsFor, EndsSession, IsIdle, IsOver, IsWhole, NoneRests, RunsEmptying, RunsEnding, RunsFinish, RunsWhole}
use Rattle.session_shell.proofs.Runs.{and_intro}
use Rattle.std.proofs.lemmas.Option.{unwrap_or-slice_get}
use Rattle.std.proofs.lemmas.List.{get_or_read}
use Rattle.session_shell.proofs.Made.{place_in_is}
use Rattle.session_shell.proofs.Laters.{number_is}
use Rattle.session_shell.proofs.Turning.{all_of-append, after-append, ran_none, ran_on}
use Rattle.session_shell.proofs.Whole.{none_rests-append}

-- turns of one session leave the others' places
others_place : (s j : ℕ) (places : List Place) (ts : List TurnMade) → 1 ≤ s → 1 ≤ j → j ≢ s → AllOf s ts → place_of (after_turns places ts) j ≡ place_of places j
others_place s j places [] one one' other own = refl
others_place s j places (t ∷ ts) one one' other own =
    others_place s j (after_turn places t) ts one one' other own.1
    ∙ get_or-set_other places (t.session - 1) (j - 1) (place_after (place_of places t.session) t.end) at_start (λ e. other (omega (arith, own.0)))

all_more_own : (s : ℕ) (ts : List TurnMade) → AllMore s ts → AllOf s ts
all_more_own s [] h = tt
all_more_own s (t ∷ ts) h = (h.0, all_more_own s ts h.2)

whole_own : (s : ℕ) (ts : List TurnMade) → IsWhole s ts → AllOf s ts
whole_own s ts h = subst (AllOf s) (sym h.is) (all_of-append s h.front (h.last ∷ []) (all_more_own s h.front h.goes_on) (h.session, tt))

-- nothing was under way
pub ends_idle : (hub : HubState) (ps : List Progress) (s : ℕ) → IsHub hub ps → 1 ≤ s → s ≤ length hub.script.sessions → (seat_of hub.core s).job ≡ jobs.Idle → EndsSession hub s hub
ends_idle hub ps s h one within idle =
    let under : (place_of (places_in hub) s).under_way ≡ false = ap (λ (p : Place). p.under_way) (place_in_is hub.script hub.core hub.journal hub.kept ps (run_of hub.script hub.journal) s h one within) ∙ ap is_past_moment idle in
    record {
      turns = [];
      ran = ran_none hub;
      ends = record { by = subst (λ (b : Bool). EndsBy b s []) (sym under) refl };
      own = tt;
      ended = under;
    }

-- the command under way has ended
pub ends_whole : (old new : HubState) (ps : List Progress) (s : ℕ) → IsHub old ps → 1 ≤ s → s ≤ length old.script.sessions → is_past_moment (seat_of old.core s).job ≡ true → RunsWhole old s new → EndsSession old s new
ends_whole old new ps s h one within past w =
    let under : (place_of (places_in old) s).under_way ≡ true = ap (λ (p : Place). p.under_way) (place_in_is old.script old.core old.journal old.kept ps (run_of old.script old.journal) s h one within) ∙ past in
    record {
      turns = w.turns;
      ran = w.ran;
      ends = record { by = subst (λ (b : Bool). EndsBy b s w.turns) (sym under) w.whole };
      own = whole_own s w.turns w.whole;
      ended = w.ended;
    }

range_more : (a n : ℕ) → range_with_len a (suc n) ≡ range_with_len a n ++ (a + n) ∷ []
range_more a zero = ap (λ (m : ℕ). m ∷ []) (omega arith)
range_more a (suc n) =
    let same : a + 1 + n ≡ a + suc n = omega arith in
    ap (λ (ns : List ℕ). a ∷ ns) (range_more (a + 1) n ∙ ap (λ (m : ℕ). range_with_len (a + 1) n ++ m ∷ []) same)

range_to : (i : ℕ) → range_with_len 1 (i + 1) ≡ range_with_len 1 i ++ (i + 1) ∷ []
range_to i =
    let a : i + 1 ≡ suc i = omega arith in
    let b : 1 + i ≡ i + 1 = omega arith in
    ap (range_with_len 1) a ∙ range_more 1 i ∙ ap (λ (m : ℕ). range_with_len 1 i ++ m ∷ []) b

each-push : (R : List Place → ℕ → List TurnMade → Type 0) (places : List Place) (ss : List ℕ) (s : ℕ) (ts us : List TurnMade) → EachInTurn R places ss ts → R (after_turns places ts) s us → EachInTurn R places (ss ++ s ∷ []) (ts ++ us)
each-push R places [] s ts us h r =
    (us, [], ap (λ (vs : List TurnMade). vs ++ us) h ∙ sym (append-nil us), subst (λ (vs : List TurnMade). R (after_turns places vs) s us) h r, refl)
each-push R places (x ∷ ss) s ts us h r = (
  h.0,
  h.1 ++ us,
  ap (λ (vs : List TurnMade). vs ++ us) h.2 ∙ append_assoc h.0 h.1 us,
  h.3,
  each-push R (after_turns places h.0) ss s h.1 us h.4 (subst (λ (ps : List Place). R ps s us) (ap (after_turns places) h.2 ∙ after-append places h.0 h.1) r),
)

-- the first sessions have ended their commands under way
pub record EndedTo (old now : HubState) (i : ℕ) : Type 0 where
  pub turns : List TurnMade
  pub ran : Ran old now turns
  pub ends : EachInTurn (EndsFor old.script) (places_in old) (range_with_len 1 i) turns
  pub idle : (j : ℕ) → 1 ≤ j → j ≤ i → (place_of (places_in now) j).under_way ≡ false

pub ended_none : (hub : HubState) → EndedTo hub hub 0
ended_none hub = record { turns = []; ran = ran_none hub; ends = refl; idle = λ j one past. absurd (omega (arith, one, past)) }

pub ended_more : (old now next : HubState) (i : ℕ) → EndedTo old now i → EndsSession now (i + 1) next → EndedTo old next (i + 1)
ended_more old now next i h e =
    let s : ℕ = i + 1 in
    let ends : EndsFor old.script (after_turns (places_in old) h.turns) s e.turns = subst (λ (ps : List Place). EndsFor old.script ps s e.turns) h.ran.places (subst (λ (script : Script). EndsFor script (places_in now) s e.turns) h.ran.script e.ends) in
    let range : range_with_len 1 (i + 1) ≡ range_with_len 1 i ++ s ∷ [] = range_to i in
    record {
      turns = h.turns ++ e.turns;
      ran = ran_on old now next h.turns e.turns h.ran e.ran;
      ends = subst (λ (ss : List ℕ). EachInTurn (EndsFor old.script) (places_in old) ss (h.turns ++ e.turns)) (sym range) (each-push (EndsFor old.script) (places_in old) (range_with_len 1 i) s h.turns e.turns h.ends ends);
      idle = λ j one past. elim (cases_eq j s) [
        | inl same ↦ ap (λ (x : ℕ). (place_of (places_in next) x).under_way) same ∙ e.ended
        | inr other ↦ ap (λ (ps : List Place). (place_of ps j).under_way) e.ran.places ∙ ap (λ (p : Place). p.under_way) (others_place s j (places_in now) e.turns (omega arith) one other e.own) ∙ h.idle j one (omega (arith, past, other))
      ];
    }

pub ended_all : (old now : HubState) (i : ℕ) → EndedTo old now i → i ≡ length old.script.sessions → RunsEnding old now
ended_all old now i h all = record { turns = h.turns; ran = h.ran; ends = subst (λ (m : ℕ). EachInTurn (EndsFor old.script) (places_in old) (range_with_len 1 m) h.turns) all h.ends }

pub ended_idle : (old now : HubState) (i : ℕ) → EndedTo old now i → i ≡ length old.script.sessions → IsIdle now
ended_idle old now i h all = record { each = λ s inside. h.idle s inside.from_one (omega (arith, inside.within, ap (λ (script : Script). length script.sessions) h.ran.script, all)) }

-- a session has taken turns, none of which found that nothing was left
pub record EmptiedTo (old now : HubState) (s : ℕ) : Type 0 where
  pub turns : List TurnMade
  pub ran : Ran old now turns
  pub own : AllOf s turns
  pub made : NoneRests turns
  pub idle : (place_of (places_in now) s).under_way ≡ false

pub emptied_none : (hub : HubState) (s : ℕ) → (place_of (places_in hub) s).under_way ≡ false → EmptiedTo hub hub s
emptied_none hub s idle = record { turns = []; ran = ran_none hub; own = tt; made = tt; idle = idle }

pub emptied_more : (old now next : HubState) (s : ℕ) → EmptiedTo old now s → (place_of (places_in now) s).begun < length (commands_of now.script s) → RunsWhole now s next → EmptiedTo old next s
emptied_more old now next s h left w = record {
  turns = h.turns ++ w.turns;
  ran = ran_on old now next h.turns w.turns h.ran w.ran;
  own = all_of-append s h.turns w.turns h.own (whole_own s w.turns w.whole);
  made = none_rests-append h.turns w.turns h.made (w.begun h.idle left).1;
  idle = w.ended;
}

-- the first sessions have no command left
pub record EmptiedAll (old now : HubState) (i : ℕ) : Type 0 where
  pub turns : List TurnMade
  pub ran : Ran old now turns
  pub empties : EachInTurn (Empties old.script) (places_in old) (range_with_len 1 i) turns
  pub over : (j : ℕ) → 1 ≤ j → j ≤ i → IsOver old.script (places_in now) j
  pub idle : IsIdle now

pub emptying_none : (hub : HubState) → IsIdle hub → EmptiedAll hub hub 0
emptying_none hub idle = record { turns = []; ran = ran_none hub; empties = refl; over = λ j one past. absurd (omega (arith, one, past)); idle = idle }

pub emptying_more : (old now next : HubState) (i : ℕ) → EmptiedAll old now i → EmptiesSession now (i + 1) next → EmptiedAll old next (i + 1)
emptying_more old now next i h e =
    let s : ℕ = i + 1 in
    let script = h.ran.script in
    let empties : Empties old.script (after_turns (places_in old) h.turns) s e.turns = subst (λ (ps : List Place). Empties old.script ps s e.turns) h.ran.places (subst (λ (x : Script). Empties x (places_in now) s e.turns) script e.empties) in
    let over : IsOver old.script (places_in next) s = subst (λ (ps : List Place). IsOver old.script ps s) (sym e.ran.places) (subst (λ (x : Script). IsOver x (after_turns (places_in now) e.turns) s) script e.empties.over) in
    record {
      turns = h.turns ++ e.turns;
      ran = ran_on old now next h.turns e.turns h.ran e.ran;
      empties = subst (λ (ss : List ℕ). EachInTurn (Empties old.script) (places_in old) ss (h.turns ++ e.turns)) (sym (range_to i)) (each-push (Empties old.script) (places_in old) (range_with_len 1 i) s h.turns e.turns h.empties empties);
      over = λ j one past. elim (cases_eq j s) [
        | inl same ↦ subst (IsOver old.script (places_in next)) (sym same) over
        | inr other ↦
            let stays : place_of (places_in next) j ≡ place_of (places_in now) j = ap (λ (ps : List Place). place_of ps j) e.ran.places ∙ others_place s j (places_in now) e.turns (omega arith) one other e.empties.own in
            let was = h.over j one (omega (arith, past, other)) in
            record { begun = ap (λ (p : Place). p.begun) stays ∙ was.begun; ended = ap (λ (p : Place). p.under_way) stays ∙ was.ended }
      ];
      idle = record {
        each = λ j inside. elim (cases_eq j s) [
          | inl same ↦ ap (λ (x : ℕ). (place_of (places_in next) x).under_way) same ∙ over.ended
          | inr other ↦
              ap (λ (ps : List Place). (place_of ps j).under_way) e.ran.places
              ∙ ap (λ (p : Place). p.under_way) (others_place s j (places_in now) e.turns (omega arith) inside.from_one other e.empties.own)
              ∙ h.idle.each j (record { from_one = inside.from_one; within = omega (arith, inside.within, ap (λ (x : Script). length x.sessions) e.ran.script) })
        ];
      };
    }

pub emptying_all : (old now : HubState) (i : ℕ) → EmptiedAll old now i → i ≡ length old.script.sessions → RunsEmptying old now
emptying_all old now i h all = record { turns = h.turns; ran = h.ran; empties = subst (λ (m : ℕ). EachInTurn (Empties old.script) (places_in old) (range_with_len 1 m) h.turns) all h.empties }

all_from : (tolds : List Told) (k : ℕ) (sessions : List (List Command)) → ((i : ℕ) → i < length sessions → has_ended (unwrap_or (slice_get tolds (k + i)) untold) (length (unwrap_or (slice_get sessions i) [])) ≡ true) → list_all (λ (n, session). has_ended (unwrap_or (slice_get tolds n) untold) (length session)) (enumerate_from k sessions) ≡ true
all_from tolds k [] each = refl
all_from tolds k (session ∷ sessions) each =
    let zeroth : k + 0 ≡ k = omega arith in
    let first : has_ended (unwrap_or (slice_get tolds k) untold) (length session) ≡ true = subst (λ (n : ℕ). has_ended (unwrap_or (slice_get tolds n) untold) (length session) ≡ true) zeroth (each 0 (omega arith)) in
    and_intro _ _ first (all_from tolds (k + 1) sessions (λ i within.
    let next : k + suc i ≡ k + 1 + i = omega arith in
    subst (λ (n : ℕ). has_ended (unwrap_or (slice_get tolds n) untold) (length (unwrap_or (slice_get sessions i) [])) ≡ true) next (each (suc i) (omega (arith, within)))))

ended_told : (told : Told) (n : ℕ) → told.begun ≡ n → is_under_way told ≡ false → has_ended told n ≡ true
ended_told told n begun quiet = and_intro (told.begun == n) (not (is_under_way told)) (eq-eqb told.begun n begun) (ap not quiet)

-- where no session has a command left, the journal is complete
pub complete : (hub : HubState) (ps : List Progress) → IsHub hub ps → ((j : ℕ) → 1 ≤ j → j ≤ length hub.script.sessions → IsOver hub.script (places_in hub) j) → is_complete hub.script hub.journal ≡ true
complete hub ps h over =
    let run = run_of hub.script hub.journal in
    all_from run.told 0 hub.script.sessions (λ i within.
    let from : 0 + i ≡ i = omega arith in
    let place = place_in_is hub.script hub.core hub.journal hub.kept ps run (suc i) h (omega arith) (omega (arith, within)) in
    let o = over (suc i) (omega arith) (omega (arith, within)) in
    let ended : has_ended (told_of run (suc i)) (length (commands_of hub.script (suc i))) ≡ true = ended_told (told_of run (suc i)) _ (ap (λ (p : Place). p.begun) (sym place) ∙ o.begun) (h.each (suc i) (omega arith) (omega (arith, within))).quiet in
    subst (λ (m : ℕ). has_ended (unwrap_or (slice_get run.told m) untold) (length (unwrap_or (slice_get hub.script.sessions i) [])) ≡ true) (sym from) ended)

pub over_all : (old now : HubState) (i : ℕ) → EmptiedAll old now i → i ≡ length old.script.sessions → (j : ℕ) → 1 ≤ j → j ≤ length now.script.sessions → IsOver now.script (places_in now) j
over_all old now i h all j one within = subst (λ (script : Script). IsOver script (places_in now) j) (sym h.ran.script) (h.over j one (omega (arith, within, all, ap (λ (script : Script). length script.sessions) h.ran.script)))

-- both rounds of a finish
pub finishes : (old mid new : HubState) → RunsEnding old mid → RunsEmptying mid new → RunsFinish old new
finishes old mid new a b = record {
  turns = a.turns ++ b.turns;
  ran = ran_on old mid new a.turns b.turns a.ran b.ran;
  finish = record {
    ending = a.turns;
    emptying = b.turns;
    is = refl;
    ends = a.ends;
    empties = subst (λ (ps : List Place). EachInTurn (Empties old.script) ps (range_with_len 1 (length old.script.sessions)) b.turns) a.ran.places
        (subst (λ (script : Script). EachInTurn (Empties script) (places_in mid) (range_with_len 1 (length script.sessions)) b.turns) a.ran.script b.empties);
  };
}

match_by : (t : Bool) (a b : ℕ) (P Q : Type 0) → nat_lt a b ≡ t → (a < b → P) → (b ≤ a → Q) → MatchBool t P Q
match_by true a b P Q e h k = h (grind (arith, nat_tests))
match_by false a b P Q e h k = k (grind (arith, nat_tests))

pub match_lt : (a b : ℕ) (P Q : Type 0) → (a < b → P) → (b ≤ a → Q) → MatchBool (nat_lt a b) P Q
match_lt a b P Q h k = match_by (nat_lt a b) a b P Q refl h k

-- whether a session has a command left, as it was read
pub left_by : (hub : HubState) (ps : List Progress) (s n : ℕ) (x : Progress) (session : List Command) → IsHub hub ps → 1 ≤ s → s ≤ length hub.script.sessions → x ≡ get_or ps (s - 1) x → session ≡ get_or hub.script.sessions (s - 1) session → n ≡ length session →
    MatchBool (nat_lt x.begun n) ((place_of (places_in hub) s).begun < length (commands_of hub.script s)) ((place_of (places_in hub) s).begun ≡ length (commands_of hub.script s))
left_by hub ps s n x session h one within is session_is n_is =
    let begun : x.begun ≡ (place_of (places_in hub) s).begun = number_is hub ps s x h one within is ∙ sym (ap (λ (p : Place). p.begun) (place_in_is hub.script hub.core hub.journal hub.kept ps (run_of hub.script hub.journal) s h one within)) in
    let told : (place_of (places_in hub) s).begun ≡ (told_of (run_of hub.script hub.journal) s).begun = ap (λ (p : Place). p.begun) (place_in_is hub.script hub.core hub.journal hub.kept ps (run_of hub.script hub.journal) s h one within) in
    let count : n ≡ length (commands_of hub.script s) = n_is ∙ ap length (get_or_read hub.script.sessions (s - 1) session (omega (arith, one, within)) session_is [] ∙ sym (unwrap_or-slice_get hub.script.sessions (s - 1) []) ∙ ap (λ (o : Option (List Command)). unwrap_or o []) (sym (nth_is hub.script.sessions s one))) in
    match_lt x.begun n _ _ (λ less. omega (arith, less, begun, count)) (λ past. omega (arith, past, begun, count, told, (h.each s one within).within))
