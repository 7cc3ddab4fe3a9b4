-- What one more command does to a script's counts, and when a script is within its limits.
use Rattle.std.proofs.Common.{◌≡◌, ◌≢◌, ◌<◌, ◌≤◌, ◌+◌, ◌-◌, ℕ, Bool, true, false, ◌&&◌, List, [], ◌∷◌, ◌++◌, Some, None, Result, Ok, Err, length, get_or, set, refl, ap, arith, cond, leb, sum_by, length-append, zero, suc}
use Rattle.std.specs.Prelude.{OnOk}
use Rattle.std.proofs.lemmas.List.Sums.{sum_by-cons, sum_by_push}
use Rattle.std.proofs.lemmas.Bool.Decides.{nat_tests}
use Rattle.command_set.specs.declared.Command.{Command}
use Rattle.command_set.specs.declared.Script.{Script}
use Rattle.script_text.specs.Scripts.{with_command, with_line, is_within, limited, command_count, byte_count, turn_count, command_bytes}
use Rattle.script_words.specs.declared.fault.LineFault.TheVariants.{TooMany}
use Rattle.script_text.specs.declared.forms.Line.TheVariants as line

-- a count that each session has by its commands
pub sum_with : (f : List Command → ℕ) (k : ℕ) (c : Command) → ((s : List Command) → f (s ++ c ∷ []) ≡ f s + k) → (ss : List (List Command)) → 0 < length ss → sum_by f (with_command c ss) ≡ sum_by f ss + k
sum_with f k c step [] h = absurd (omega (arith, h))
sum_with f k c step (s ∷ []) h = omega (arith, step s, sum_by-cons f s [], sum_by-cons f (s ++ c ∷ []) [])
sum_with f k c step (s ∷ t ∷ ss) h =
    let some : 0 < length (t ∷ ss) = omega arith in
    let rest = sum_with f k c step (t ∷ ss) some in
    let made = sum_by-cons f s (with_command c (t ∷ ss)) in
    let old = sum_by-cons f s (t ∷ ss) in
    omega arith

pub length-with_command : (c : Command) (ss : List (List Command)) → length (with_command c ss) ≡ length ss
length-with_command c [] = refl
length-with_command c (s ∷ []) = refl
length-with_command c (s ∷ t ∷ ss) = ap (λ n. suc n) (length-with_command c (t ∷ ss))

-- a command put at the end of the last session
pub set_last : (c : Command) (ss : List (List Command)) (n : ℕ) (s : List Command) → n + 1 ≡ length ss → s ≡ get_or ss n s → set ss n (s ++ c ∷ []) ≡ with_command c ss
set_last c [] n s e is = absurd (omega (arith, e))
set_last c (t ∷ []) zero s e is = ap (λ x. (x ++ c ∷ []) ∷ []) is
set_last c (t ∷ []) (suc n) s e is = absurd (omega (arith, e))
set_last c (t ∷ u ∷ ss) zero s e is = absurd (omega (arith, e))
set_last c (t ∷ u ∷ ss) (suc n) s e is = ap (λ rest. t ∷ rest) (set_last c (u ∷ ss) n s (omega (arith, e)) is)

-- what holds on `Ok` may be restated there
pub on_ok : {A E : Type 0} {P Q : Type 0} (r : Result A E) → (P → Q) → OnOk r P → OnOk r Q
on_ok (Ok x) f p = f p
on_ok (Err e) f p = tt

pub more_commands : (c : Command) (ss : List (List Command)) → 0 < length ss → sum_by length (with_command c ss) ≡ sum_by length ss + 1
more_commands c ss h = sum_with length 1 c (λ s. length-append s (c ∷ [])) ss h

pub more_bytes : (c : Command) (ss : List (List Command)) → 0 < length ss → sum_by (λ session. sum_by command_bytes session) (with_command c ss) ≡ sum_by (λ session. sum_by command_bytes session) ss + command_bytes c
more_bytes c ss h = sum_with (λ session. sum_by command_bytes session) (command_bytes c) c (λ s. sum_by_push command_bytes s c) ss h

-- numbers within the limits
abbrev within : ℕ → ℕ → ℕ → ℕ → ℕ → Bool
within a b c d e = leb a 16 && leb b 64 && leb c 10000 && leb d 67108864 && leb e 10000000

record Parts (a b c d e : ℕ) : Type 0 where
  tables : a ≤ 16
  sessions : b ≤ 64
  commands : c ≤ 10000
  bytes : d ≤ 67108864
  turns : e ≤ 10000000

parts : (a b c d e : ℕ) → within a b c d e ≡ true → Parts a b c d e
parts a b c d e h = record {
  tables = grind (arith, nat_tests);
  sessions = grind (arith, nat_tests);
  commands = grind (arith, nat_tests);
  bytes = grind (arith, nat_tests);
  turns = grind (arith, nat_tests);
}

all_within : (a b c d e : ℕ) → a ≤ 16 → b ≤ 64 → c ≤ 10000 → d ≤ 67108864 → e ≤ 10000000 → within a b c d e ≡ true
all_within a b c d e ha hb hc hd he = grind (arith, nat_tests)

many : (a b c d e : ℕ) → 10000 < c → within a b c d e ≡ false
many a b c d e h = grind (arith, nat_tests)

heavy : (a b c d e : ℕ) → 67108864 < d → within a b c d e ≡ false
heavy a b c d e h = grind (arith, nat_tests)

none_says : (v most : ℕ) → None ≡ cond (leb v most) (Some v) None → most < v
none_says v most h = grind (arith, nat_tests)

some_says : (v most n : ℕ) → Some n ≡ cond (leb v most) (Some v) None → (n ≡ v) × (v ≤ most)
some_says v most n h = (grind (arith, nat_tests), grind (arith, nat_tests))

-- one command too many
pub command_many : (script : Script) (c : Command) (commands : ℕ) → is_within script ≡ true → 0 < length script.sessions → commands ≡ command_count script → commands ≡ 10000 → limited (with_line script (line.Command c)) ≡ Err TooMany
command_many script c commands h some is full =
    let made = with_line script (line.Command c) in
    let more : command_count made ≡ command_count script + 1 = more_commands c script.sessions some in
    let over : is_within made ≡ false = many (length made.schemas) (length made.sessions) (command_count made) (byte_count made) (turn_count made) (omega arith) in
    ap (λ b. cond b (Ok made) (Err TooMany)) over

-- a command whose values have too many bytes
pub command_heavy : (script : Script) (c : Command) (bytes : ℕ) → is_within script ≡ true → 0 < length script.sessions → bytes ≡ byte_count script → None ≡ cond (leb (command_bytes c) (67108864 - bytes)) (Some (command_bytes c)) None → limited (with_line script (line.Command c)) ≡ Err TooMany
command_heavy script c bytes h some is none =
    let made = with_line script (line.Command c) in
    let more : byte_count made ≡ byte_count script + command_bytes c = more_bytes c script.sessions some in
    let past : 67108864 - bytes < command_bytes c = none_says (command_bytes c) (67108864 - bytes) none in
    let over : is_within made ≡ false = heavy (length made.schemas) (length made.sessions) (command_count made) (byte_count made) (turn_count made) (omega arith) in
    ap (λ b. cond b (Ok made) (Err TooMany)) over

-- a command that fits, and the counts after it
pub record Fits (script made : Script) (commands bytes n : ℕ) : Type 0 where
  pub within : is_within made ≡ true
  pub commands_are : commands + 1 ≡ command_count made
  pub bytes_are : bytes + n ≡ byte_count made

pub command_fits : (script : Script) (c : Command) (commands bytes n : ℕ) → is_within script ≡ true → 0 < length script.sessions → commands ≡ command_count script → bytes ≡ byte_count script → commands ≢ 10000 → Some n ≡ cond (leb (command_bytes c) (67108864 - bytes)) (Some (command_bytes c)) None → Fits script (with_line script (line.Command c)) commands bytes n
command_fits script c commands bytes n h some are bytes_are few room =
    let made = with_line script (line.Command c) in
    let p = parts (length script.schemas) (length script.sessions) (command_count script) (byte_count script) (turn_count script) h in
    let more : command_count made ≡ command_count script + 1 = more_commands c script.sessions some in
    let heavier : byte_count made ≡ byte_count script + command_bytes c = more_bytes c script.sessions some in
    let same : length made.sessions ≡ length script.sessions = length-with_command c script.sessions in
    let says = some_says (command_bytes c) (67108864 - bytes) n room in
    let small : command_bytes c ≤ 67108864 - bytes = says.1 in
    let is : n ≡ command_bytes c = says.0 in
    let below : bytes ≤ 67108864 = omega (arith, p.bytes) in
    record {
      within = all_within (length made.schemas) (length made.sessions) (command_count made) (byte_count made) (turn_count made) p.tables (omega (arith, p.sessions)) (omega (arith, p.commands)) (omega arith) p.turns;
      commands_are = omega arith;
      bytes_are = omega arith;
    }

pub keeps : (made : Script) → is_within made ≡ true → limited made ≡ Ok made
keeps made h = ap (λ b. cond b (Ok made) (Err TooMany)) h
