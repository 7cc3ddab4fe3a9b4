-- A session's turns up to the first after which no command goes on.
use Rattle.std.proofs.Common.{◌≡◌, ◌≢◌, ◌<◌, ◌≤◌, ◌+◌, ◌-◌, ℕ, zero, suc, Bool, true, false, List, [], ◌∷◌, ◌++◌, Option, Some, length, refl, sym, ap, ◌∙◌, subst, arith, get_or-set_same}
use Rattle.command_set.specs.declared.journal.Run.{Run}
use Rattle.command_set.specs.declared.Script.{Script}
use Rattle.command_set.specs.declared.JournalEntry.{JournalEntry}
use Rattle.command_set.specs.Journals.{run_of}
use Rattle.core_state.specs.State.{seat_of, is_past_moment}
use Rattle.command_set.specs.Plain.{nth}
use Rattle.session_shell.specs.declared.hub.Turn.{Turn}
use Rattle.session_shell.specs.declared.hub.Turn.TheVariants as turns
use Rattle.session_shell.specs.Hubs.{HubState, commands_of}
use Rattle.session_shell.specs.Turns.{TurnMade, Place, End, Nothing, More, Ended, at_start, place_of, place_after, TurnBy, BeginsBy, Ran, MakesTurn, places_in, turn_made, end_of}
use Rattle.session_shell.specs.Follows.{AllMore, NoneRests}
use Rattle.session_shell.proofs.Turning.{length-after, ran_on}

-- how many turns a session still takes for its command
abbrev pub turns_left : Turn → ℕ → ℕ
turns_left turns.More n = suc n
turns_left turns.Nothing n = 0
turns_left (turns.Ended entry) n = 0

-- a place in a list, counted from 1, has an element
record There {X : Type 0} (xs : List X) (n : ℕ) : Type 0 where
  x : X
  is : nth xs n ≡ Some x

there_at : {X : Type 0} (xs : List X) (i : ℕ) → i < length xs → There xs (suc i)
there_at [] i h = absurd (omega (arith, h))
there_at (x ∷ xs) zero h = record { x = x; is = refl }
there_at (x ∷ xs) (suc i) h = let t = there_at xs i (omega (arith, h)) in record { x = t.x; is = t.is }

there_next : (script : Script) (s b : ℕ) → b < length (commands_of script s) → There (commands_of script s) (b + 1)
there_next script s b h = let next : suc b ≡ b + 1 = omega arith in subst (There (commands_of script s)) next (there_at (commands_of script s) b h)

-- what one turn makes of its session's place
pub record Facts (script : Script) (s : ℕ) (old new : Place) (end : End) : Type 0 where
  pub ended : end ≢ More → new.under_way ≡ false
  pub going : end ≡ More → new.under_way ≡ true
  pub stays : old.under_way ≡ true → (new.begun ≡ old.begun) × (end ≢ Nothing)
  pub begins : old.under_way ≡ false → old.begun < length (commands_of script s) → (new.begun ≡ old.begun + 1) × (end ≢ Nothing)

facts_by : (u : Bool) (end : End) (b s : ℕ) (script : Script) (run : Run) (entry : Option JournalEntry) → TurnBy u script run (record { begun = b; under_way = u }) (record { session = s; entry = entry; end = end }) →
    Facts script s (record { begun = b; under_way = u }) (place_after (record { begun = b; under_way = u }) end) end
facts_by true Nothing b s script run entry turn = absurd (turn.made refl)
facts_by true More b s script run entry turn = record { ended = λ no. absurd (no refl); going = λ _. refl; stays = λ _. (refl, turn.made); begins = λ no _. absurd (cc) }
facts_by true Ended b s script run entry turn = record { ended = λ _. refl; going = λ no. absurd (cc); stays = λ _. (refl, turn.made); begins = λ no _. absurd (cc) }
facts_by false Nothing b s script run entry turn = record {
  ended = λ _. refl;
  going = λ no. absurd (cc);
  stays = λ no. absurd (cc);
  begins = λ _ left. let t = there_next script s b left in absurd ((subst (BeginsBy script run (record { begun = b; under_way = false }) (record { session = s; entry = entry; end = Nothing })) t.is turn).made refl);
}
facts_by false More b s script run entry turn = record { ended = λ no. absurd (no refl); going = λ _. refl; stays = λ no. absurd (cc); begins = λ _ _. (refl, λ no. cc) }
facts_by false Ended b s script run entry turn = record { ended = λ _. refl; going = λ no. absurd (cc); stays = λ no. absurd (cc); begins = λ _ _. (refl, λ no. cc) }

pub facts : (old new : HubState) (s : ℕ) (turn : Turn) → MakesTurn old s new turn → 1 ≤ s → s ≤ length (places_in old) → Facts old.script s (place_of (places_in old) s) (place_of (places_in new) s) (end_of turn)
facts old new s turn made one within =
    let p = place_of (places_in old) s in
    let place : place_of (places_in new) s ≡ place_after p (end_of turn) = ap (λ (ps : List Place). place_of ps s) made.ran.places ∙ get_or-set_same (places_in old) (s - 1) (place_after p (end_of turn)) at_start (omega (arith, one, within)) in
    subst (λ (q : Place). Facts old.script s p q (end_of turn)) (sym place) (facts_by p.under_way (end_of turn) p.begun s old.script (run_of old.script old.journal) made.entry made.ran.each.0)

all_more-push : (s : ℕ) (ts : List TurnMade) (t : TurnMade) → AllMore s ts → t.session ≡ s → t.end ≡ More → AllMore s (ts ++ t ∷ [])
all_more-push s [] t h own more = (own, more, tt)
all_more-push s (x ∷ ts) t h own more = (h.0, h.1, all_more-push s ts t h.2 own more)

pub none_rests-append : (ts us : List TurnMade) → NoneRests ts → NoneRests us → NoneRests (ts ++ us)
none_rests-append [] us h k = k
none_rests-append (t ∷ ts) us h k = (h.0, none_rests-append ts us h.1 k)

-- the turns so far, where the last was answered so
pub record SoFar (old : HubState) (s : ℕ) (now : HubState) (turn : Turn) : Type 0 where
  pub front : List TurnMade
  pub entry : Option JournalEntry
  pub ran : Ran old now (front ++ turn_made s entry turn ∷ [])
  pub goes_on : AllMore s front
  pub count : s ≤ length (places_in now)
  pub past : turn ≡ turns.More → is_past_moment (seat_of now.core s).job ≡ true
  pub ended : end_of turn ≢ More → (place_of (places_in now) s).under_way ≡ false
  pub going : end_of turn ≡ More → (place_of (places_in now) s).under_way ≡ true
  pub begun : (place_of (places_in old) s).under_way ≡ false → (place_of (places_in old) s).begun < length (commands_of old.script s) → ((place_of (places_in now) s).begun ≡ (place_of (places_in old) s).begun + 1) × NoneRests (front ++ turn_made s entry turn ∷ [])

pub whole_first : (old now : HubState) (s : ℕ) (turn : Turn) → MakesTurn old s now turn → 1 ≤ s → s ≤ length (places_in old) → (turn ≡ turns.More → is_past_moment (seat_of now.core s).job ≡ true) → SoFar old s now turn
whole_first old now s turn made one within past =
    let f = facts old now s turn made one within in
    record {
      front = [];
      entry = made.entry;
      ran = made.ran;
      goes_on = tt;
      count = omega (arith, within, ap length made.ran.places, length-after (places_in old) (turn_made s made.entry turn ∷ []));
      past = past;
      ended = f.ended;
      going = f.going;
      begun = λ idle left. let b = f.begins idle left in (b.0, (b.1, tt));
    }

pub whole_more : (old now next : HubState) (s : ℕ) (turn turn' : Turn) → SoFar old s now turn → turn ≡ turns.More → MakesTurn now s next turn' → 1 ≤ s → (turn' ≡ turns.More → is_past_moment (seat_of next.core s).job ≡ true) → SoFar old s next turn'
whole_more old now next s turn turn' h more made one past =
    let f = facts now next s turn' made one h.count in
    let t = turn_made s h.entry turn in
    let stays = f.stays (h.going (ap end_of more)) in
    record {
      front = h.front ++ t ∷ [];
      entry = made.entry;
      ran = ran_on old now next (h.front ++ t ∷ []) (turn_made s made.entry turn' ∷ []) h.ran made.ran;
      goes_on = all_more-push s h.front t h.goes_on refl (ap end_of more);
      count = omega (arith, h.count, ap length made.ran.places, length-after (places_in now) (turn_made s made.entry turn' ∷ []));
      past = past;
      ended = f.ended;
      going = f.going;
      begun = λ idle left. let b = h.begun idle left in (stays.0 ∙ b.0, none_rests-append (h.front ++ t ∷ []) (turn_made s made.entry turn' ∷ []) b.1 (stays.1, tt));
    }
