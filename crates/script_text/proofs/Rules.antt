-- Scripts that are read keep the rules, line by line.
use Rattle.std.proofs.Common.{◌≡◌, ◌<◌, ◌≤◌, ◌-◌, inl, inr, ℕ, zero, suc, Bool, true, false, List, [], ◌∷◌, ◌++◌, Option, Some, None, Result, Ok, Err, length, take, drop, refl, sym, ap, ◌∙◌, subst, arith}
use Rattle.std.specs.Prelude.{Contains, ◌&&◌, codes, nat_le, slice_get, if◌then◌else◌}
use Rattle.std.specs.List.{after_first, before_first, list_any}
use Rattle.std.specs.Option.{ok_or, unwrap_or}
use Rattle.std.specs.Str.{bytes_eq}
use Rattle.std.proofs.lemmas.List.Elements.{Contains-push_cases}
use Rattle.std.proofs.lemmas.Option.{same_Some}
use Rattle.list_facts.proofs.Changed.{after_push}
use Rattle.tuple_layout.specs.Schemas.{HasColumns, TableSchema}
use Rattle.command_set.specs.Plain.{nth}
use Rattle.command_set.specs.declared.Command.{Command}
use Rattle.command_set.specs.declared.Item.{Item}
use Rattle.command_set.specs.declared.Item.TheVariants.{Once, Times, Whole}
use Rattle.command_set.specs.declared.Passage.{Passage}
use Rattle.command_set.specs.declared.Script.{Script}
use Rattle.script_words.specs.Items.{is_star, item_in}
use Rattle.script_words.specs.Lines.{content, lines, words}
use Rattle.script_words.specs.Names.{ordinal_in, storage_in}
use Rattle.script_words.specs.Numbers.{number_in}
use Rattle.script_words.specs.Reading.{◌>>=◌, each_of}
use Rattle.script_words.specs.Words.{counted, first_of, word_at}
use Rattle.script_words.specs.declared.fault.LineFault.{LineFault}
use Rattle.script_words.specs.declared.fault.LineFault.TheVariants.{BadName, BadNumber, WordCount}
use Rattle.script_text.specs.Commands.{command_in}
use Rattle.script_text.specs.Forms.{form_in, go_line, ids_line, loop_line, table_line}
use Rattle.script_text.specs.Laws.{KeepsRules, Suits, session_of_item}
use Rattle.script_text.specs.Scripts.{Read, after_lines, goes_on, is_placed, is_within, limited, line_in, next_number, nothing_read, part_of, place_of, read_by, script_in, with_command, with_known, with_line, with_words}
use Rattle.script_text.specs.declared.fault.ScriptFault.{ScriptFault}
use Rattle.script_text.specs.declared.forms.Form.{Form}
use Rattle.script_text.specs.declared.forms.Form.TheVariants as forms
use Rattle.script_text.specs.declared.forms.Line.{Line}
use Rattle.script_text.specs.declared.forms.Line.TheVariants as line
use Rattle.script_words.proofs.Spelled.{InRange, at_most, bound, each_is, each_length, if_ok, number_is, ok_or_is, ordinal_is, same_ok}
use Rattle.script_text.proofs.Suited.{command_is}

-- a range of value ids
record IsRange (low high : ℕ) : Type 0 where
  from : 16384 ≤ low
  to : low ≤ high
  highest : high ≤ 4294967295

ids_is : (ws : List (List ℕ)) (range : ℕ × ℕ) → ids_line ws ≡ Ok range → IsRange range.0 range.1
unfolding ids_line
ids_is ws range e =
    let found = bound (counted 2 ws) _ range e in
    let low = bound (ok_or (number_in 16384 4294967295 (word_at found.x 0)) BadNumber) _ range found.rest in
    let high = bound (ok_or (number_in low.x 4294967295 (word_at found.x 1)) BadNumber) _ range low.rest in
    let least = number_is 16384 4294967295 _ low.x (ok_or_is _ _ low.x low.is) in
    let greatest = number_is low.x 4294967295 _ high.x (ok_or_is _ _ high.x high.is) in
    subst (λ (r : ℕ × ℕ). IsRange r.0 r.1) (same_ok (low.x, high.x) range high.rest) (record { from = least.from; to = greatest.from; highest = greatest.within })

both_true : (a b : Bool) → (a && b) ≡ true → (a ≡ true) × (b ≡ true)
both_true true b e = (refl, e)
both_true false b e = absurd (cc)

table_is : (ws : List (List ℕ)) (schema : TableSchema) → table_line ws ≡ Ok schema → HasColumns (length schema.storages)
unfolding table_line
table_is ws schema e =
    let few = if_ok (nat_le 1 (length ws) && nat_le (length ws) 8) _ WordCount schema e in
    let both = both_true (nat_le 1 (length ws)) (nat_le (length ws) 8) few.0 in
    let storages = bound (each_of storage_in ws) _ schema few.1 in
    let same : length storages.x ≡ length ws = each_length storage_in ws storages.x storages.is in
    subst (λ (s : TableSchema). HasColumns (length s.storages)) (same_ok (record { storages = storages.x }) schema storages.rest) (omega (arith, same, at_most 1 (length ws) both.0), omega (arith, same, at_most (length ws) 8 both.1))

-- the sessions of items are there
abbrev Inside : ℕ → Item → Type 0
Inside sessions item = InRange 1 sessions (session_of_item item)

item_by : (a b : Bool) (whole times once : Result Item LineFault) (item : Item) (P : Item → Type 0) → (whole ≡ Ok item → P item) → (times ≡ Ok item → P item) → (once ≡ Ok item → P item) → (if a then whole else if b then times else once) ≡ Ok item → P item
item_by true b whole times once item P h k l e = h e
item_by false true whole times once item P h k l e = k e
item_by false false whole times once item P h k l e = l e

whole_word : (sessions : ℕ) (word : List ℕ) (item : Item) → (ordinal_in sessions word >>= λ s. Ok (Whole s)) ≡ Ok item → Inside sessions item
whole_word sessions word item e = let s = bound (ordinal_in sessions word) (λ s. Ok (Whole s)) item e in subst (Inside sessions) (same_ok (Whole s.x) item s.rest) (ordinal_is sessions word s.x s.is)

times_word : (sessions : ℕ) (front back : List ℕ) (item : Item) → (ordinal_in sessions front >>= λ s. ok_or (number_in 1 100000 back) BadName >>= λ count. Ok (Times s count)) ≡ Ok item → Inside sessions item
times_word sessions front back item e =
    let s = bound (ordinal_in sessions front) (λ s. ok_or (number_in 1 100000 back) BadName >>= λ count. Ok (Times s count)) item e in
    let count = bound (ok_or (number_in 1 100000 back) BadName) (λ count. Ok (Times s.x count)) item s.rest in
    subst (Inside sessions) (same_ok (Times s.x count.x) item count.rest) (ordinal_is sessions front s.x s.is)

once_word : (sessions : ℕ) (word : List ℕ) (item : Item) → (ordinal_in sessions word >>= λ s. Ok (Once s)) ≡ Ok item → Inside sessions item
once_word sessions word item e = let s = bound (ordinal_in sessions word) (λ s. Ok (Once s)) item e in subst (Inside sessions) (same_ok (Once s.x) item s.rest) (ordinal_is sessions word s.x s.is)

item_is : (sessions : ℕ) (word : List ℕ) (item : Item) → item_in sessions word ≡ Ok item → Inside sessions item
unfolding item_in
item_is sessions word item e =
    item_by (bytes_eq (drop (length word - 1) word) (codes "!")) (list_any is_star word)
    (ordinal_in sessions (take (length word - 1) word) >>= λ s. Ok (Whole s))
    (ordinal_in sessions (before_first is_star word) >>= λ s. ok_or (number_in 1 100000 (after_first is_star word)) BadName >>= λ count. Ok (Times s count))
    (ordinal_in sessions word >>= λ s. Ok (Once s))
    item (Inside sessions)
    (whole_word sessions (take (length word - 1) word) item)
    (times_word sessions (before_first is_star word) (after_first is_star word) item)
    (once_word sessions word item)
    e

abbrev AllInside : ℕ → List Item → Type 0
AllInside sessions items = (item : Item) → Contains items item → Inside sessions item

items_are : (sessions : ℕ) (ws : List (List ℕ)) (items : List Item) → each_of (item_in sessions) ws ≡ Ok items → AllInside sessions items
items_are sessions ws items e = each_is (item_in sessions) (Inside sessions) ws items (λ w x is. item_is sessions w x is) e

go_is : (sessions : ℕ) (ws : List (List ℕ)) (passage : Passage) → go_line sessions ws ≡ Ok passage → AllInside sessions passage.items
unfolding go_line
go_is sessions ws passage e =
    let first = bound (first_of ws) _ passage e in
    let items = bound (each_of (item_in sessions) ws) _ passage first.rest in
    subst (λ (p : Passage). AllInside sessions p.items) (same_ok (record { count = 1; items = items.x }) passage items.rest) (items_are sessions ws items.x items.is)

loop_is : (sessions : ℕ) (ws : List (List ℕ)) (passage : Passage) → loop_line sessions ws ≡ Ok passage → AllInside sessions passage.items
unfolding loop_line
loop_is sessions ws passage e =
    let word = bound (first_of ws) _ passage e in
    let more = bound (first_of word.x.1) _ passage word.rest in
    let count = bound (ok_or (number_in 1 100000 word.x.0) BadNumber) _ passage more.rest in
    let items = bound (each_of (item_in sessions) word.x.1) _ passage count.rest in
    subst (λ (p : Passage). AllInside sessions p.items) (same_ok (record { count = count.x; items = items.x }) passage items.rest) (items_are sessions word.x.1 items.x items.is)

-- each command of some sessions suits the tables
abbrev AllSuit : List TableSchema → List (List Command) → Type 0
AllSuit schemas sessions = (i j : ℕ) (session : List Command) (command : Command) → slice_get sessions i ≡ Some session → slice_get session j ≡ Some command → Suits schemas command

-- what is true of a script after each line
record Good (script : Script) : Type 0 where
  range : IsRange script.low script.high
  columns : (schema : TableSchema) → Contains script.schemas schema → HasColumns (length schema.storages)
  suits : AllSuit script.schemas script.sessions
  items : (i : ℕ) (passage : Passage) → slice_get script.schedule i ≡ Some passage → AllInside (length script.sessions) passage.items

-- what is true of what was read after each line: what belongs to later parts is not there yet
record GoodRead (read : Read) : Type 0 where
  good : Good read.script
  limits : is_within read.script ≡ true
  sessions : place_of read.part < 2 → read.script.sessions ≡ []
  schedule : place_of read.part < 3 → read.script.schedule ≡ []

-- what is true of a script at the end
record Finished (script : Script) : Type 0 where
  good : Good script
  limits : is_within script ≡ true

no_commands : (schemas : List TableSchema) (sessions : List (List Command)) → sessions ≡ [] → AllSuit schemas sessions
no_commands schemas sessions empty i j session command there at = absurd (let none : slice_get [] i ≡ Some session = ap (λ (s : List (List Command)). slice_get s i) (sym empty) ∙ there in cc)

no_items : (schedule : List Passage) (sessions i : ℕ) (passage : Passage) → schedule ≡ [] → slice_get schedule i ≡ Some passage → AllInside sessions passage.items
no_items schedule sessions i passage empty there = absurd (let none : slice_get [] i ≡ Some passage = ap (λ (s : List Passage). slice_get s i) (sym empty) ∙ there in cc)

columns_push : (schemas : List TableSchema) (schema : TableSchema) → ((s : TableSchema) → Contains schemas s → HasColumns (length s.storages)) → HasColumns (length schema.storages) → (s : TableSchema) → Contains (schemas ++ schema ∷ []) s → HasColumns (length s.storages)
columns_push schemas schema h new s there = elim (Contains-push_cases schemas schema s there) [
  | inl old ↦ h s old
  | inr is ↦ subst (λ (x : TableSchema). HasColumns (length x.storages)) is new
]

session_push : (schemas : List TableSchema) (sessions : List (List Command)) → AllSuit schemas sessions → AllSuit schemas (sessions ++ [] ∷ [])
session_push schemas sessions h i j session command there at = elim (after_push sessions [] i session there) [
  | inl new ↦ absurd (let none : slice_get [] j ≡ Some command = ap (λ (s : List Command). slice_get s j) (sym new.1) ∙ at in cc)
  | inr old ↦ h i j session command old at
]

command_push : (schemas : List TableSchema) (c : Command) (sessions : List (List Command)) → Suits schemas c → AllSuit schemas sessions → AllSuit schemas (with_command c sessions)
command_push schemas c [] h all i j session command there at = absurd (cc)
command_push schemas c (s ∷ []) h all zero j session command there at =
    elim (after_push s c j command (ap (λ (x : List Command). slice_get x j) (same_Some (s ++ c ∷ []) session there) ∙ at)) [
      | inl new ↦ subst (Suits schemas) (sym new.1) h
      | inr old ↦ all 0 j s command refl old
    ]
command_push schemas c (s ∷ []) h all (suc i) j session command there at = absurd (cc)
command_push schemas c (s ∷ next ∷ sessions) h all zero j session command there at = all 0 j session command there at
command_push schemas c (s ∷ next ∷ sessions) h all (suc i) j session command there at = command_push schemas c (next ∷ sessions) h (λ k m x y p q. all (suc k) m x y p q) i j session command there at

-- the part of a line that is placed does not come before that of the last one
placed_after : (read : Read) (form : Form) → is_placed read form ≡ true → place_of read.part ≤ place_of (part_of form)
placed_after read form placed = at_most _ _ (both_true _ _ placed).0

-- what was read with a line of a form, whose script is within the limits
abbrev GoesOn : Read → Form → Line → Type 0
GoesOn read form l = is_within (with_line read.script l) ≡ true → GoodRead (read_by read form (with_line read.script l))

passage_good : (read : Read) (form : Form) (passage : Passage) → GoodRead read → place_of (part_of form) ≡ 3 → AllInside (length read.script.sessions) passage.items → GoesOn read form (line.Passage passage)
passage_good read form passage h last inside limits = record {
  good = record {
    range = h.good.range;
    columns = h.good.columns;
    suits = h.good.suits;
    items = λ i p there. elim (after_push read.script.schedule passage i p there) [
      | inl new ↦ subst (λ (x : Passage). AllInside (length read.script.sessions) x.items) (sym new.1) inside
      | inr old ↦ h.good.items i p old
    ];
  };
  limits = limits;
  sessions = λ early. absurd (omega (arith, early, last));
  schedule = λ early. absurd (omega (arith, early, last));
}

line_good : (read : Read) (form : Form) (ws : List (List ℕ)) (l : Line) → GoodRead read → is_placed read form ≡ true → line_in read.script form ws ≡ Ok l → GoesOn read form l
unfolding line_in
line_good read forms.Ids ws l h placed e =
    let range = bound (ids_line ws) _ l e in
    let first = placed_after read forms.Ids placed in
    subst (GoesOn read forms.Ids) (same_ok (line.Ids range.x.0 range.x.1) l range.rest) (λ limits. record {
      good = record { range = ids_is ws range.x range.is; columns = h.good.columns; suits = h.good.suits; items = h.good.items };
      limits = limits;
      sessions = λ early. h.sessions (omega (arith, first));
      schedule = λ early. h.schedule (omega (arith, first));
    })
line_good read forms.Table ws l h placed e =
    let schema = bound (table_line ws) _ l e in
    let first = placed_after read forms.Table placed in
    let none : read.script.sessions ≡ [] = h.sessions (omega (arith, first)) in
    subst (GoesOn read forms.Table) (same_ok (line.Table schema.x) l schema.rest) (λ limits. record {
      good = record {
        range = h.good.range;
        columns = columns_push read.script.schemas schema.x h.good.columns (table_is ws schema.x schema.is);
        suits = no_commands (read.script.schemas ++ schema.x ∷ []) read.script.sessions none;
        items = h.good.items;
      };
      limits = limits;
      sessions = λ early. none;
      schedule = λ early. h.schedule (omega (arith, first));
    })
line_good read forms.Session ws l h placed e =
    let word = bound (counted 0 ws) _ l e in
    let first = placed_after read forms.Session placed in
    let none : read.script.schedule ≡ [] = h.schedule (omega (arith, first)) in
    subst (GoesOn read forms.Session) (same_ok line.Session l word.rest) (λ limits. record {
      good = record {
        range = h.good.range;
        columns = h.good.columns;
        suits = session_push read.script.schemas read.script.sessions h.good.suits;
        items = λ i passage there. no_items read.script.schedule _ i passage none there;
      };
      limits = limits;
      sessions = λ early. absurd (omega (arith, early));
      schedule = λ early. none;
    })
line_good read (forms.Command form) ws l h placed e =
    let command = bound (command_in read.script.schemas form ws) _ l e in
    let first = placed_after read (forms.Command form) placed in
    let none : read.script.schedule ≡ [] = h.schedule (omega (arith, first)) in
    subst (GoesOn read (forms.Command form)) (same_ok (line.Command command.x) l command.rest) (λ limits. record {
      good = record {
        range = h.good.range;
        columns = h.good.columns;
        suits = command_push read.script.schemas command.x read.script.sessions (command_is read.script.schemas form ws command.x command.is) h.good.suits;
        items = λ i passage there. no_items read.script.schedule _ i passage none there;
      };
      limits = limits;
      sessions = λ early. absurd (omega (arith, early));
      schedule = λ early. none;
    })
line_good read forms.Go ws l h placed e =
    let passage = bound (go_line (length read.script.sessions) ws) _ l e in
    subst (GoesOn read forms.Go) (same_ok (line.Passage passage.x) l passage.rest) (passage_good read forms.Go passage.x h refl (go_is (length read.script.sessions) ws passage.x passage.is))
line_good read forms.Loop ws l h placed e =
    let passage = bound (loop_line (length read.script.sessions) ws) _ l e in
    subst (GoesOn read forms.Loop) (same_ok (line.Passage passage.x) l passage.rest) (passage_good read forms.Loop passage.x h refl (loop_is (length read.script.sessions) ws passage.x passage.is))

known_good : (read : Read) (form : Option Form) (ws : List (List ℕ)) (next : Read) → GoodRead read → with_known read form ws ≡ Ok next → GoodRead next
known_good read None ws next h e = absurd (cc)
known_good read (Some form) ws next h e =
    let placed = if_ok (is_placed read form) (line_in read.script form ws >>= λ line. limited (with_line read.script line) >>= λ script. Ok (read_by read form script)) _ next e in
    let l = bound (line_in read.script form ws) _ next placed.1 in
    let made = bound (limited (with_line read.script l.x)) _ next l.rest in
    let within = if_ok (is_within (with_line read.script l.x)) (Ok (with_line read.script l.x)) _ made.x made.is in
    let good = line_good read form ws l.x h placed.0 l.is within.0 in
    subst GoodRead (same_ok (read_by read form made.x) next made.rest) (subst (λ (script : Script). GoodRead (read_by read form script)) (same_ok (with_line read.script l.x) made.x within.1) good)

words_good : (read : Read) (ws : List (List ℕ)) (next : Read) → GoodRead read → with_words read ws ≡ Ok next → GoodRead next
unfolding with_words
words_good read [] next h e = subst GoodRead (same_ok read next e) h
words_good read (first ∷ ws) next h e = known_good read (form_in first) ws next h e

go_good : (n : ℕ) (read : Read) (final : Script) (ws : List (List ℕ)) (r : Result Read LineFault) (more : Read → Result Script ScriptFault) → GoodRead read → with_words read ws ≡ r → ((next : Read) → GoodRead next → more next ≡ Ok final → Finished final) → goes_on n r more ≡ Ok final → Finished final
go_good n read final ws (Ok next) more h is goes e = goes next (words_good read ws next h is) e
go_good n read final ws (Err fault) more h is goes e = absurd (cc)

lines_good : (n : ℕ) (read : Read) (ls : List (List ℕ)) (final : Script) → GoodRead read → after_lines n read ls ≡ Ok final → Finished final
unfolding after_lines
lines_good n read [] final h e = subst Finished (same_ok read.script final e) (record { good = h.good; limits = h.limits })
lines_good n read (l ∷ ls) final h e = go_good n read final (words (content l)) (with_words read (words (content l))) (λ next. after_lines (next_number n) next ls) h refl (λ next good more. lines_good (next_number n) next ls final good more) e

start_good : GoodRead nothing_read
start_good = record {
  good = record {
    range = record { from = omega arith; to = omega arith; highest = omega arith };
    columns = λ schema there. absurd (omega (arith, there.1));
    suits = λ i j session command there at. absurd (cc);
    items = λ i passage there. absurd (cc);
  };
  limits = refl;
  sessions = λ early. refl;
  schedule = λ early. refl;
}

command_there : (schemas : List TableSchema) (sessions : List (List Command)) (i j : ℕ) (o : Option (List Command)) (command : Command) → slice_get sessions i ≡ o → AllSuit schemas sessions → slice_get (unwrap_or o []) j ≡ Some command → Suits schemas command
command_there schemas sessions i j None command is all there = absurd (cc)
command_there schemas sessions i j (Some session) command is all there = all i j session command is there

-- the same of places counted from 1
command_suits : (schemas : List TableSchema) (sessions : List (List Command)) (s n : ℕ) (command : Command) → AllSuit schemas sessions → nth (unwrap_or (nth sessions s) []) n ≡ Some command → Suits schemas command
command_suits schemas sessions zero zero command all there = absurd (cc)
command_suits schemas sessions zero (suc j) command all there = absurd (cc)
command_suits schemas sessions (suc i) zero command all there = absurd (cc)
command_suits schemas sessions (suc i) (suc j) command all there = command_there schemas sessions i j (slice_get sessions i) command refl all there

-- an item at a place is contained
item_there : (items : List Item) (j : ℕ) (item : Item) → slice_get items j ≡ Some item → Contains items item
item_there [] j item there = absurd (cc)
item_there (x ∷ items) zero item there = (0, omega arith, same_Some x item there)
item_there (x ∷ items) (suc j) item there = let more = item_there items j item there in (suc more.0, omega (arith, more.1), more.2)

-- the script that bytes spell keeps the rules
pub script_keeps : (bytes : List ℕ) (script : Script) → script_in bytes ≡ Ok script → KeepsRules script
unfolding script_in
script_keeps bytes script e =
    let h = lines_good 1 nothing_read (lines bytes) script start_good e in
    let turns = both_true _ _ h.limits in
    let values = both_true _ _ turns.0 in
    let commands = both_true _ _ values.0 in
    let sessions = both_true _ _ commands.0 in
    record {
      low = h.good.range.from;
      high = h.good.range.to;
      highest = h.good.range.highest;
      tables = at_most _ _ sessions.0;
      columns = h.good.columns;
      sessions = at_most _ _ sessions.1;
      commands = at_most _ _ commands.1;
      suits = λ s n command there. command_suits script.schemas script.sessions s n command h.good.suits there;
      items = λ i j passage item there at. let r = h.good.items i passage there item (item_there passage.items j item at) in record { from_one = r.from; within = r.within };
    }
