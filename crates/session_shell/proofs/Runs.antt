-- What a journal with one entry more tells.
use Rattle.std.proofs.Common.{◌≡◌, ◌+◌, ℕ, Bool, true, false, List, [], ◌∷◌, ◌++◌, Option, Some, None, refl, ap, ◌∙◌, subst, eq-eqb}
use Rattle.std.specs.Prelude.{◌&&◌, ◌||◌, ◌==◌, not, is_some, if◌then◌else◌}
use Rattle.std.specs.Option.{option_map, option_map_or}
use Rattle.std.specs.List.{list_any}
use Rattle.command_set.specs.declared.state.Plain.{Plain}
use Rattle.command_set.specs.declared.state.Running.{Running}
use Rattle.command_set.specs.declared.journal.Run.{Run}
use Rattle.command_set.specs.declared.Script.{Script}
use Rattle.command_set.specs.declared.JournalEntry.{JournalEntry}
use Rattle.command_set.specs.declared.Kind.{Kind}
use Rattle.command_set.specs.declared.Kind.TheVariants as kinds
use Rattle.command_set.specs.declared.Command.{Command}
use Rattle.command_set.specs.declared.Reply.{Reply}
use Rattle.command_set.specs.declared.Reply.TheVariants as replies
use Rattle.command_set.specs.declared.state.Answered.{Answered}
use Rattle.command_set.specs.Answers.{answer, with_failure}
use Rattle.command_set.specs.Replies.{is_granted}
use Rattle.command_set.specs.Journals.{Moment, moment_at, moment_of, came_of, command_at, told_of, told_more, line_of, with_reply, reply_before, cut_short, without_upkeep, after_moment, after_entry, first_run, run_on, run_of, is_legal, is_cut, is_run, is_data, is_rewrite_command, is_started, is_under_way, may_come, may_come_first, may_come_second, may_follow, may_follow_on, writes_values}
use Rattle.command_set.proofs.Moments.{run_of-push, run_on-cons}
use Rattle.core_state.specs.declared.seat.Job.{Job}
use Rattle.session_shell.specs.Hubs.{is_saving}
use Rattle.session_shell.specs.Steps.{MayEnd, kind_of, said_of}
use Rattle.session_shell.specs.declared.steps.Cut.{Cut}
use Rattle.session_shell.specs.declared.steps.Cut.TheVariants as cuts

pub and_intro : (a b : Bool) → a ≡ true → b ≡ true → (a && b) ≡ true
and_intro true b e h = h
and_intro false b e h = e

pub and_left : (a b : Bool) → (a && b) ≡ true → a ≡ true
and_left true b e = refl
and_left false b e = e

pub and_right : (a b : Bool) → (a && b) ≡ true → b ≡ true
and_right true b e = e
and_right false b e = absurd (cc)

pub and_none : (a b : Bool) → b ≡ false → (a && b) ≡ false
and_none true b e = e
and_none false b e = refl

or_left : (a b : Bool) → a ≡ true → (a || b) ≡ true
or_left true b e = refl
or_left false b e = absurd (cc)

or_right : (a b : Bool) → b ≡ true → (a || b) ≡ true
or_right true b e = refl
or_right false b e = e

not_false : (b : Bool) → b ≡ false → not b ≡ true
not_false true e = absurd (cc)
not_false false e = refl

-- one entry more
pub run_push : (script : Script) (journal : List JournalEntry) (e : JournalEntry) → run_of script (journal ++ e ∷ []) ≡ after_entry script (run_of script journal) e
run_push script journal e = run_of-push script journal e

follow_push : (script : Script) (run : Run) (journal : List JournalEntry) (e : JournalEntry) → may_follow_on script run journal ≡ true → may_follow script (run_on script run journal) e ≡ true → may_follow_on script run (journal ++ e ∷ []) ≡ true
follow_push script run [] e legal may = and_intro (may_follow script run e) true may refl
follow_push script run (x ∷ xs) e legal may =
    and_intro (may_follow script run x) (may_follow_on script (after_entry script run x) (xs ++ e ∷ []))
    (and_left (may_follow script run x) (may_follow_on script (after_entry script run x) xs) legal)
    (follow_push script (after_entry script run x) xs e (and_right (may_follow script run x) (may_follow_on script (after_entry script run x) xs) legal) (subst (λ (r : Run). may_follow script r e ≡ true) (run_on-cons script run x xs) may))

-- a legal journal with one entry more that may follow is legal
pub legal_push : (script : Script) (journal : List JournalEntry) (e : JournalEntry) → is_legal script journal ≡ true → may_follow script (run_of script journal) e ≡ true → is_legal script (journal ++ e ∷ []) ≡ true
legal_push script journal e legal may = follow_push script (first_run script) journal e legal may

-- the moment of an entry that names a command
named : (script : Script) (run : Run) (s n : ℕ) (kind : Kind) (command : Command) → command_at script s n ≡ Some command →
    let e : JournalEntry = record { session = s; number = n; kind = kind } in
    moment_of script run.plain e ≡ Some (moment_at run.plain e command (came_of script run.plain s command kind))
named script run s n kind command there =
    let e : JournalEntry = record { session = s; number = n; kind = kind } in
    ap (option_map (λ (c : Command). moment_at run.plain e c (came_of script run.plain s c kind))) there

-- the first entry of a command may follow
pub may_first : (script : Script) (run : Run) (s n : ℕ) (kind : Kind) (command : Command) → n ≡ (told_of run s).begun + 1 → is_under_way (told_of run s) ≡ false → command_at script s n ≡ Some command → may_come_first command kind ≡ true → may_follow script run (record { session = s; number = n; kind = kind }) ≡ true
may_first script run s n kind command next quiet there may =
    let told = told_of run s in
    ap (λ (o : Option Moment). option_map_or (may_come told) o false) (named script run s n kind command there)
    ∙ or_left _ _ (and_intro _ _ (eq-eqb n (told.begun + 1) next) (and_intro _ _ (not_false (is_under_way told) quiet) may))

-- a second entry of a command may follow its moment
pub may_second : (script : Script) (run : Run) (s n : ℕ) (kind : Kind) (command : Command) (reply : Reply) → n ≡ (told_of run s).begun → (told_of run s).last ≡ Some kinds.Run → (told_of run s).reply ≡ Some reply → command_at script s n ≡ Some command → may_come_second command reply kind ≡ true → may_follow script run (record { session = s; number = n; kind = kind }) ≡ true
may_second script run s n kind command reply same last answered there may =
    let told = told_of run s in
    ap (λ (o : Option Moment). option_map_or (may_come told) o false) (named script run s n kind command there)
    ∙ or_right _ _ (and_intro _ _ (eq-eqb n told.begun same) (and_intro _ _ (ap (λ (o : Option Kind). option_map_or is_run o false) last)
    (ap (λ (o : Option Reply). option_map_or (λ (r : Reply). may_come_second command r kind) o false) answered ∙ may)))

-- what is told after an entry that names a command
told_named : (script : Script) (run : Run) (s n : ℕ) (kind : Kind) (command : Command) → command_at script s n ≡ Some command →
    let e : JournalEntry = record { session = s; number = n; kind = kind } in
    after_entry script run e ≡ after_moment run (moment_at run.plain e command (came_of script run.plain s command kind))
told_named script run s n kind command there = ap (λ (o : Option Moment). option_map_or (after_moment run) o run) (named script run s n kind command there)

-- the moment of a command
pub run_moment : (script : Script) (run : Run) (s n : ℕ) (command : Command) → command_at script s n ≡ Some command →
    let e : JournalEntry = record { session = s; number = n; kind = kinds.Run } in
    let answered = answer script.schemas run.plain s command in
    after_entry script run e ≡ told_more run e (Some answered.reply) answered.after (run.lines ++ (record { session = s; number = n; reply = answered.reply }) ∷ [])
run_moment script run s n command there = told_named script run s n kinds.Run command there

cut_is : (m : Plain) (s : ℕ) → m.upkeep ≡ [] → cut_short m s ≡ with_failure m s
cut_is m s none = ap (λ (upkeep : List Running). if list_any (λ running. running.session == s) upkeep then without_upkeep m s else with_failure m s) none

-- want of memory before a command's moment
pub run_want : (script : Script) (run : Run) (s n : ℕ) (command : Command) → run.plain.upkeep ≡ [] → ((told_of run s).begun == n) ≡ false → command_at script s n ≡ Some command →
    after_entry script run (record { session = s; number = n; kind = kinds.Memory }) ≡ told_more run (record { session = s; number = n; kind = kinds.Memory }) None (with_failure run.plain s) (run.lines ++ (record { session = s; number = n; reply = replies.Memory }) ∷ [])
run_want script run s n command none other there =
    let e : JournalEntry = record { session = s; number = n; kind = kinds.Memory } in
    let before : reply_before run e ≡ None = ap (λ (b : Bool). if b then (told_of run s).reply else None) other in
    told_named script run s n kinds.Memory command there
    ∙ ap (λ (m : Plain). told_more run e (reply_before run e) m (if is_some (reply_before run e) && is_data command then with_reply run.lines e replies.Memory else run.lines ++ line_of e replies.Memory ∷ [])) (cut_is run.plain s none)
    ∙ ap (λ (o : Option Reply). told_more run e o (with_failure run.plain s) (if is_some o && is_data command then with_reply run.lines e replies.Memory else run.lines ++ line_of e replies.Memory ∷ [])) before

-- an entry that ends a command early
pub came_short : (script : Script) (m : Plain) (s : ℕ) (command : Command) (cut : Cut) → came_of script m s command (kind_of cut) ≡ record { reply = said_of cut; after = cut_short m s }
came_short script m s command cuts.NoValueId = refl
came_short script m s command cuts.Memory = refl

pub short_is_cut : (cut : Cut) → is_cut (kind_of cut) ≡ true
short_is_cut cuts.NoValueId = refl
short_is_cut cuts.Memory = refl

pub short_no_run : (cut : Cut) → is_run (kind_of cut) ≡ false
short_no_run cuts.NoValueId = refl
short_no_run cuts.Memory = refl

-- what is told after an entry of this kind, by what came of its command
abbrev told_by : Run → JournalEntry → Answered → Bool → Bool → Option Reply → Bool → Run
told_by run e came runs cuts before rows =
    told_more run e (if runs then Some came.reply else before) came.after (if cuts && (is_some before && rows) then with_reply run.lines e came.reply else run.lines ++ line_of e came.reply ∷ [])

-- a data command ends early after its moment
pub run_short : (script : Script) (run : Run) (s n : ℕ) (cut : Cut) (command : Command) (reply : Reply) → run.plain.upkeep ≡ [] → ((told_of run s).begun == n) ≡ true → (told_of run s).reply ≡ Some reply → command_at script s n ≡ Some command → is_data command ≡ true →
    after_entry script run (record { session = s; number = n; kind = kind_of cut }) ≡ told_more run (record { session = s; number = n; kind = kind_of cut }) (Some reply) (with_failure run.plain s) (with_reply run.lines (record { session = s; number = n; kind = kind_of cut }) (said_of cut))
run_short script run s n cut command reply none same answered there rows =
    let e : JournalEntry = record { session = s; number = n; kind = kind_of cut } in
    let before : reply_before run e ≡ Some reply = ap (λ (b : Bool). if b then (told_of run s).reply else None) same ∙ answered in
    told_named script run s n (kind_of cut) command there
    ∙ ap (λ (came : Answered). told_by run e came (is_run (kind_of cut)) (is_cut (kind_of cut)) (reply_before run e) (is_data command)) (came_short script run.plain s command cut ∙ ap (λ (m : Plain). record { reply = said_of cut; after = m }) (cut_is run.plain s none))
    ∙ ap (λ (b : Bool). told_by run e (record { reply = said_of cut; after = with_failure run.plain s }) b (is_cut (kind_of cut)) (reply_before run e) (is_data command)) (short_no_run cut)
    ∙ ap (λ (b : Bool). told_by run e (record { reply = said_of cut; after = with_failure run.plain s }) false b (reply_before run e) (is_data command)) (short_is_cut cut)
    ∙ ap (λ (o : Option Reply). told_by run e (record { reply = said_of cut; after = with_failure run.plain s }) false true o (is_data command)) before
    ∙ ap (λ (b : Bool). told_by run e (record { reply = said_of cut; after = with_failure run.plain s }) false true (Some reply) b) rows

or_true : (a b : Bool) → b ≡ true → (a || b) ≡ true
or_true true b e = refl
or_true false b e = e

-- such an entry may come second
pub may_short : (cut : Cut) (command : Command) (reply : Reply) (job : Job) → MayEnd cut job → is_granted reply ≡ true → is_data command ≡ true → (is_saving job ≡ true → writes_values command ≡ true) → may_come_second command reply (kind_of cut) ≡ true
may_short cuts.NoValueId command reply job may granted rows values = or_true (is_started reply && is_rewrite_command command) (is_granted reply && writes_values command) (and_intro (is_granted reply) (writes_values command) granted (values may))
may_short cuts.Memory command reply job may granted rows values = or_true (is_started reply) (is_granted reply && is_data command) (and_intro (is_granted reply) (is_data command) granted rows)
