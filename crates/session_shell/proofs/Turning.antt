-- Turns one after another.
use Rattle.std.proofs.Common.{◌≡◌, ◌<◌, ◌+◌, ◌-◌, ℕ, zero, suc, List, [], ◌∷◌, ◌++◌, Some, length, slice_get, take, get_or, add-one, refl, sym, ap, ◌∙◌, subst, length-append, length-set, append-nil, append_assoc}
use Rattle.std.proofs.lemmas.List.{take_more}
use Rattle.std.proofs.lemmas.List.Concat.{flat_map-append}
use Rattle.std.proofs.lemmas.Option.{slice_get_within, get_or_from_slice_get}
use Rattle.command_set.specs.declared.journal.Run.{Run}
use Rattle.command_set.specs.declared.Script.{Script}
use Rattle.command_set.specs.declared.Item.{Item}
use Rattle.command_set.specs.declared.Item.TheVariants as items
use Rattle.command_set.specs.declared.Passage.{Passage}
use Rattle.command_set.specs.declared.JournalEntry.{JournalEntry}
use Rattle.command_set.specs.Journals.{run_of, run_on, first_run}
use Rattle.session_shell.specs.declared.hub.Turn.{Turn}
use Rattle.session_shell.specs.Hubs.{HubState}
use Rattle.session_shell.specs.Turns.{TurnMade, Place, after_turn, after_turns, entries_of, entry_in, AreTurns, Leads, Ran, MakesTurn, HasTurned, first_hub, places_in}
use Rattle.session_shell.specs.Follows.{AllOf, AreOfItems, RunsItem, RunsItems, repeated, items_in, items_of}
use Rattle.command_set.proofs.Moments.{run_on-append}

-- the entries of turns
pub entries-append : (ts us : List TurnMade) → entries_of (ts ++ us) ≡ entries_of ts ++ entries_of us
entries-append [] us = refl
entries-append (t ∷ ts) us = ap (λ (es : List JournalEntry). entry_in t.entry ++ es) (entries-append ts us) ∙ sym (append_assoc (entry_in t.entry) (entries_of ts) (entries_of us))

-- the places after turns
pub after-append : (places : List Place) (ts us : List TurnMade) → after_turns places (ts ++ us) ≡ after_turns (after_turns places ts) us
after-append places [] us = refl
after-append places (t ∷ ts) us = after-append (after_turn places t) ts us

pub length-after : (places : List Place) (ts : List TurnMade) → length (after_turns places ts) ≡ length places
length-after places [] = refl
length-after places (t ∷ ts) = length-after (after_turn places t) ts ∙ length-set places (t.session - 1) _

pub turns-append : (script : Script) (run : Run) (places : List Place) (ts us : List TurnMade) → AreTurns script run places ts → AreTurns script (run_on script run (entries_of ts)) (after_turns places ts) us → AreTurns script run places (ts ++ us)
turns-append script run places [] us h k = k
turns-append script run places (t ∷ ts) us h k = (h.0, turns-append script (run_on script run (entry_in t.entry)) (after_turn places t) ts us h.1 (subst (λ (r : Run). AreTurns script r (after_turns (after_turn places t) ts) us) (run_on-append script run (entry_in t.entry) (entries_of ts)) k))

-- no turn
pub ran_none : (hub : HubState) → Ran hub hub []
ran_none hub = record { chain = refl; script = refl; journal = sym (append-nil hub.journal); each = tt; places = refl }

pub leads_on : (a b c : HubState) (ts us : List TurnMade) → Leads a ts b → Leads b us c → Leads a (ts ++ us) c
leads_on a b c [] us h k = subst (λ (hub : HubState). Leads hub us c) h k
leads_on a b c (t ∷ ts) us h k = (h.0, h.1, leads_on h.0 b c ts us h.2 k)

-- turns after turns
pub ran_on : (a b c : HubState) (ts us : List TurnMade) → Ran a b ts → Ran b c us → Ran a c (ts ++ us)
ran_on a b c ts us h k = record {
  chain = leads_on a b c ts us h.chain k.chain;
  script = k.script ∙ h.script;
  journal = k.journal ∙ ap (λ (es : List JournalEntry). es ++ entries_of us) h.journal ∙ append_assoc a.journal (entries_of ts) (entries_of us) ∙ ap (λ (es : List JournalEntry). a.journal ++ es) (sym (entries-append ts us));
  each = turns-append a.script (run_of a.script a.journal) (places_in a) ts us h.each
      (subst (λ (ps : List Place). AreTurns a.script (run_on a.script (run_of a.script a.journal) (entries_of ts)) ps us) h.places
      (subst (λ (r : Run). AreTurns a.script r (places_in b) us)
      (ap (run_of a.script) h.journal ∙ run_on-append a.script (first_run a.script) a.journal (entries_of ts))
      (subst (λ (s : Script). AreTurns s (run_of s b.journal) (places_in b) us) h.script k.each)));
  places = k.places ∙ ap (λ (ps : List Place). after_turns ps us) h.places ∙ sym (after-append (places_in a) ts us);
}

-- more turns of a hub
pub turned_on : (old new : HubState) (ts : List TurnMade) → HasTurned old → Ran old new ts → HasTurned new
turned_on old new ts h ran = record {
  turns = h.turns ++ ts;
  ran = subst (λ (script : Script). Ran (first_hub script) new (h.turns ++ ts)) (sym ran.script) (ran_on (first_hub old.script) old new h.turns ts h.ran ran);
}

-- a hub that has made no turn
pub turned_none : (hub : HubState) (script : Script) → hub ≡ first_hub script → HasTurned hub
turned_none hub script is = subst HasTurned (sym is) (record { turns = []; ran = ran_none (first_hub script) })

pub all_of-append : (s : ℕ) (ts us : List TurnMade) → AllOf s ts → AllOf s us → AllOf s (ts ++ us)
all_of-append s [] us h k = k
all_of-append s (t ∷ ts) us h k = (h.0, all_of-append s ts us h.1 k)

pub of_items-append : (xs ys : List Item) (ts us : List TurnMade) → AreOfItems xs ts → AreOfItems ys us → AreOfItems (xs ++ ys) (ts ++ us)
of_items-append [] ys ts us h k = subst (λ (vs : List TurnMade). AreOfItems ys (vs ++ us)) (sym h) k
of_items-append (x ∷ xs) ys ts us h k = record {
  front = h.front;
  back = h.back ++ us;
  is = ap (λ (vs : List TurnMade). vs ++ us) h.is ∙ append_assoc h.front h.back us;
  first = h.first;
  rest = of_items-append xs ys h.back us h.rest k;
}

-- no item
pub runs_none : (hub : HubState) → RunsItems hub hub []
runs_none hub = record { turns = []; ran = ran_none hub; each = refl }

-- items after items
pub runs_on : (a b c : HubState) (xs ys : List Item) → RunsItems a b xs → RunsItems b c ys → RunsItems a c (xs ++ ys)
runs_on a b c xs ys h k = record {
  turns = h.turns ++ k.turns;
  ran = ran_on a b c h.turns k.turns h.ran k.ran;
  each = of_items-append xs ys h.turns k.turns h.each k.each;
}

-- one item
pub runs_one : (a b : HubState) (x : Item) → RunsItem a b x → RunsItems a b (x ∷ [])
runs_one a b x h = record { turns = h.turns; ran = h.ran; each = record { front = h.turns; back = []; is = sym (append-nil h.turns); first = h.own; rest = refl } }

-- one item more of a list
pub runs_more : (a b c : HubState) (xs : List Item) (i : ℕ) (x : Item) → RunsItems a b (take i xs) → slice_get xs i ≡ Some x → RunsItem b c x → RunsItems a c (take (i + 1) xs)
runs_more a b c xs i x h is k =
    subst (RunsItems a c)
    (sym (take_more xs i x (slice_get_within xs i x is) ∙ ap (λ (y : Item). take i xs ++ y ∷ []) (get_or_from_slice_get xs i x x is)))
    (runs_on a b c (take i xs) (x ∷ []) h (runs_one b c x k))

repeated_front : {X : Type 0} (n : ℕ) (xs : List X) → repeated n xs ++ xs ≡ xs ++ repeated n xs
repeated_front zero xs = sym (append-nil xs)
repeated_front (suc n) xs = append_assoc xs (repeated n xs) xs ∙ ap (λ ys. xs ++ ys) (repeated_front n xs)

-- once more
pub runs_again : (a b c : HubState) (n : ℕ) (xs : List Item) → RunsItems a b (repeated n xs) → RunsItems b c xs → RunsItems a c (repeated (n + 1) xs)
runs_again a b c n xs h k = subst (RunsItems a c) (repeated_front n xs ∙ ap (λ (m : ℕ). repeated m xs) (sym (add-one n))) (runs_on a b c (repeated n xs) xs h k)

-- one passage more
pub runs_passage : (a b c : HubState) (passages : List Passage) (i : ℕ) (passage : Passage) → i < length passages → RunsItems a b (items_of (take i passages)) → RunsItems b c (items_in (get_or passages i passage)) → RunsItems a c (items_of (take (i + 1) passages))
runs_passage a b c passages i passage within h k =
    subst (RunsItems a c)
    (sym (ap items_of (take_more passages i passage within) ∙ flat_map-append items_in (take i passages) (get_or passages i passage ∷ []) ∙ ap (λ (ys : List Item). items_of (take i passages) ++ ys) (append-nil (items_in (get_or passages i passage)))))
    (runs_on a b c (items_of (take i passages)) (items_in (get_or passages i passage)) h k)

-- so many turns of a session
pub record RunsTimes (old new : HubState) (s count : ℕ) : Type 0 where
  pub turns : List TurnMade
  pub ran : Ran old new turns
  pub count_is : length turns ≡ count
  pub own : AllOf s turns

pub times_none : (hub : HubState) (s : ℕ) → RunsTimes hub hub s 0
times_none hub s = record { turns = []; ran = ran_none hub; count_is = refl; own = tt }

pub times_more : (a b c : HubState) (s n : ℕ) (turn : Turn) → RunsTimes a b s n → MakesTurn b s c turn → RunsTimes a c s (n + 1)
times_more a b c s n turn h k = record {
  turns = h.turns ++ _ ∷ [];
  ran = ran_on a b c h.turns _ h.ran k.ran;
  count_is = length-append h.turns _ ∙ ap (λ (m : ℕ). m + 1) h.count_is;
  own = all_of-append s h.turns _ h.own (refl, tt);
}

pub times_made : (a b : HubState) (s count : ℕ) → RunsTimes a b s count → RunsItem a b (items.Times s count)
times_made a b s count h = record { turns = h.turns; ran = h.ran; own = (h.count_is, h.own) }
