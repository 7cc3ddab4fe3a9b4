-- When a session has gone through its commands.
use Rattle.std.proofs.Common.{◌≡◌, ◌≢◌, ◌≤◌, ◌<◌, ◌+◌, ◌-◌, ℕ, zero, suc, Bool, true, false, List, [], ◌∷◌, ◌++◌, Option, Some, None, length, refl, sym, ap, ◌∙◌, subst, inl, inr, arith, eq-eqb}
use Rattle.std.specs.Prelude.{◌&&◌, ◌||◌, ◌==◌, ◌⊎◌, not, if◌then◌else◌, slice_get, slice_set, replicate}
use Rattle.std.specs.List.{list_all, enumerate_from}
use Rattle.std.specs.Option.{option_map, option_map_or, unwrap_or}
use Rattle.std.proofs.lemmas.Bool.Decides.{nat_tests}
use Rattle.std.proofs.lemmas.List.{length-set, length-replicate}
use Rattle.command_set.specs.declared.Command.{Command}
use Rattle.command_set.specs.declared.JournalEntry.{JournalEntry}
use Rattle.command_set.specs.declared.Kind.{Kind}
use Rattle.command_set.specs.declared.Kind.TheVariants as kinds
use Rattle.command_set.specs.declared.Reply.{Reply}
use Rattle.command_set.specs.declared.Script.{Script}
use Rattle.command_set.specs.declared.journal.Run.{Run}
use Rattle.command_set.specs.declared.journal.Told.{Told}
use Rattle.command_set.specs.Plain.{nth}
use Rattle.command_set.specs.Journals.{Moment, after_entry, after_moment, came_of, command_at, first_run, has_ended, is_complete, is_legal, is_run, is_started, is_under_way, may_come, may_come_first, may_come_second, may_follow, may_follow_on, moment_at, moment_of, reply_after, reply_before, run_of, run_on, told_of, untold}
use Rattle.command_set.proofs.Moments.{run_on-append, run_on-cons}
use Rattle.command_set.proofs.Numbered.{nth_is, nth_set_other, nth_set_same, nth_within}
use Rattle.core_state.specs.Commands.{IsFitting}
use Rattle.session_shell.specs.Hubs.{IsScript, commands_of}
use Rattle.session_shell.proofs.Answered.{not_started}
use Rattle.session_shell.proofs.Runs.{and_intro}

and_left : (a b : Bool) → (a && b) ≡ true → a ≡ true
and_left true b e = refl
and_left false b e = e

and_right : (a b : Bool) → (a && b) ≡ true → b ≡ true
and_right true b e = e
and_right false b e = absurd (cc)

or_cases : (a b : Bool) → (a || b) ≡ true → (a ≡ true) ⊎ (b ≡ true)
or_cases true b e = inl refl
or_cases false b e = inr e

is_number : (n m : ℕ) → (n == m) ≡ true → n ≡ m
is_number n m e = grind (arith, nat_tests)

not_number : (n m : ℕ) → (n == m) ≡ false → n ≢ m
not_number n m e = grind (arith, nat_tests)

-- ---- one entry more

-- what is told of a session after an entry that names a command: of its own session what the entry says, of any other what was told before
abbrev Tells : Script → Run → JournalEntry → Command → ℕ → Type 0
Tells script run e command s =
    let x = moment_at run.plain e command (came_of script run.plain e.session command e.kind) in
    ((e.session ≡ s) × (told_of (after_moment run x) s ≡ record { begun = e.number; last = Some e.kind; reply = reply_after run x })) ⊎ (told_of (after_moment run x) s ≡ told_of run s)

session_within : (script : Script) (s n : ℕ) (command : Command) (o : Option (List Command)) → nth script.sessions s ≡ o → nth (unwrap_or o []) n ≡ Some command → (1 ≤ s) × (s ≤ length script.sessions)
session_within script s n command None is there = absurd (none_there n there)
  where
    none_there : (n : ℕ) → nth {A = Command} [] n ≡ Some command → ⊥
    none_there zero e = cc
    none_there (suc i) e = cc
session_within script s n command (Some commands) is there = nth_within script.sessions s commands is

tells : (script : Script) (run : Run) (e : JournalEntry) (command : Command) (s : ℕ) → length run.told ≡ length script.sessions → command_at script e.session e.number ≡ Some command → Tells script run e command s
tells script run e command s count is = by (e.session == s) refl
  where
    x : Moment
    x = moment_at run.plain e command (came_of script run.plain e.session command e.kind)

    t : Told
    t = record { begun = e.number; last = Some e.kind; reply = reply_after run x }

    inside : (1 ≤ e.session) × (e.session ≤ length script.sessions)
    inside = session_within script e.session e.number command (nth script.sessions e.session) refl is

    by : (b : Bool) → (e.session == s) ≡ b → Tells script run e command s
    by true same =
        let session : e.session ≡ s = is_number e.session s same in
        inl (
          session,
          ap (λ k. unwrap_or (nth (slice_set run.told (e.session - 1) t) k) untold) (sym session)
              ∙ ap (λ o. unwrap_or o untold) (nth_set_same run.told e.session t inside.0 (omega (arith, inside.1, count))),
        )
    by false other =
        let apart : s ≢ e.session = λ same. absurd (not_number e.session s other (sym same)) in
        inr (ap (λ o. unwrap_or o untold) (nth_set_other run.told e.session s t inside.0 apart))

count_after : (script : Script) (run : Run) (e : JournalEntry) → length (after_entry script run e).told ≡ length run.told
count_after script run e = by (moment_of script run.plain e)
  where
    by : (o : Option Moment) → length (option_map_or (after_moment run) o run).told ≡ length run.told
    by None = refl
    by (Some x) = length-set run.told (x.entry.session - 1) _

-- what holds of what is told after an entry, by whether it names a command
step : (P : Run → Type 0) (script : Script) (run : Run) (e : JournalEntry) → (command_at script e.session e.number ≡ None → P run)
    → ((command : Command) → command_at script e.session e.number ≡ Some command → P (after_moment run (moment_at run.plain e command (came_of script run.plain e.session command e.kind))))
    → P (after_entry script run e)
step P script run e none some = by (command_at script e.session e.number) refl
  where
    f : Command → Moment
    f command = moment_at run.plain e command (came_of script run.plain e.session command e.kind)

    by : (o : Option Command) → command_at script e.session e.number ≡ o → P (option_map_or (after_moment run) (option_map f (command_at script e.session e.number)) run)
    by None is = subst (λ o. P (option_map_or (after_moment run) (option_map f o) run)) (sym is) (none is)
    by (Some command) is = subst (λ o. P (option_map_or (after_moment run) (option_map f o) run)) (sym is) (some command is)

-- ---- in any journal of a script without upkeep

-- a session has begun no more commands than it has, and runs no upkeep
pub record Fine (script : Script) (s : ℕ) (told : Told) : Type 0 where
  pub within : told.begun ≤ length (commands_of script s)
  pub quiet : is_under_way told ≡ false

quiet_kind : (script : Script) (run : Run) (s : ℕ) (command : Command) (before : Option Reply) (kind : Kind) → IsFitting script.schemas command → (is_run kind && option_map_or is_started (if is_run kind then Some (came_of script run.plain s command kind).reply else before) false) ≡ false
quiet_kind script run s command before kinds.Run fits = not_started script.schemas run.plain s command fits
quiet_kind script run s command before kinds.End fits = refl
quiet_kind script run s command before kinds.NoValueId fits = refl
quiet_kind script run s command before kinds.Memory fits = refl

fine_step : (script : Script) (run : Run) (e : JournalEntry) (s : ℕ) → IsScript script → length run.told ≡ length script.sessions → Fine script s (told_of run s) → Fine script s (told_of (after_entry script run e) s)
fine_step script run e s rules count h = step (λ r. Fine script s (told_of r s)) script run e (λ is. h) some
  where
    some : (command : Command) → command_at script e.session e.number ≡ Some command → Fine script s (told_of (after_moment run (moment_at run.plain e command (came_of script run.plain e.session command e.kind))) s)
    some command is = elim (tells script run e command s count is) [
      | inl own ↦ subst (Fine script s) (sym own.1) (record {
        within = subst (λ k. e.number ≤ length (commands_of script k)) own.0 (nth_within (commands_of script e.session) e.number command is).1;
        quiet = quiet_kind script run e.session command (reply_before run e) e.kind (rules.fits e.session e.number command is);
      })
      | inr other ↦ subst (Fine script s) (sym other) h
    ]

fine_on : (script : Script) (run : Run) (journal : List JournalEntry) (s : ℕ) → IsScript script → length run.told ≡ length script.sessions → Fine script s (told_of run s) → Fine script s (told_of (run_on script run journal) s)
fine_on script run [] s rules count h = h
fine_on script run (e ∷ es) s rules count h =
    subst (λ r. Fine script s (told_of r s)) (sym (run_on-cons script run e es))
    (fine_on script (after_entry script run e) es s rules (count_after script run e ∙ count) (fine_step script run e s rules count h))

-- nothing has been told of a session before the first entry
untold_at : (n s : ℕ) → unwrap_or (nth (replicate n untold) s) untold ≡ untold
untold_at n zero = refl
untold_at n (suc i) = at n i
  where
    at : (n i : ℕ) → unwrap_or (slice_get (replicate n untold) i) untold ≡ untold
    at zero i = refl
    at (suc n) zero = refl
    at (suc n) (suc i) = at n i

pub fine : (script : Script) (journal : List JournalEntry) (s : ℕ) → IsScript script → Fine script s (told_of (run_of script journal) s)
fine script journal s rules =
    fine_on script (first_run script) journal s rules (length-replicate (length script.sessions) untold)
    (subst (Fine script s) (sym (untold_at (length script.sessions) s)) (record { within = omega arith; quiet = refl }))

none_past : (xs : List Command) (i : ℕ) → slice_get xs i ≡ None → length xs ≤ i
none_past [] i e = omega arith
none_past (x ∷ xs) zero e = absurd (cc)
none_past (x ∷ xs) (suc i) e = let h = none_past xs i e in omega arith

-- a session that has no next command has gone through its commands
pub ended_where_none : (script : Script) (journal : List JournalEntry) (s : ℕ) → IsScript script → command_at script s ((told_of (run_of script journal) s).begun + 1) ≡ None → has_ended (told_of (run_of script journal) s) (length (commands_of script s)) ≡ true
ended_where_none script journal s rules none =
    let told = told_of (run_of script journal) s in
    let h = fine script journal s rules in
    let past = none_past (commands_of script s) (told.begun + 1 - 1) (sym (nth_is (commands_of script s) (told.begun + 1) (omega arith)) ∙ none) in
    let all : told.begun ≡ length (commands_of script s) = omega (arith, past, h.within) in
    and_intro (told.begun == length (commands_of script s)) (not (is_under_way told)) (eq-eqb told.begun (length (commands_of script s)) all) (ap not h.quiet)

-- ---- in a longer legal journal

not_run : (command : Command) (reply : Reply) (kind : Kind) → may_come_second command reply kind ≡ true → is_run kind ≡ false
not_run command reply kinds.Run may = absurd (cc)
not_run command reply kinds.End may = refl
not_run command reply kinds.NoValueId may = refl
not_run command reply kinds.Memory may = refl

not_run_by : (command : Command) (o : Option Reply) (kind : Kind) → option_map_or (λ reply. may_come_second command reply kind) o false ≡ true → is_run kind ≡ false
not_run_by command None kind may = absurd (cc)
not_run_by command (Some reply) kind may = not_run command reply kind may

-- an entry of a session that has gone through its commands tells of its last one once more
last_again : (told : Told) (x : Moment) (n : ℕ) (reply : Option Reply) → has_ended told n ≡ true → may_come told x ≡ true → x.entry.number ≤ n → has_ended (record { begun = x.entry.number; last = Some x.entry.kind; reply = reply }) n ≡ true
last_again told x n reply ended may low =
    let begun : told.begun ≡ n = is_number told.begun n (and_left (told.begun == n) (not (is_under_way told)) ended) in
    let ran = option_map_or is_run told.last false in
    let closes = option_map_or (λ reply. may_come_second x.command reply x.entry.kind) told.reply false in
    let opens = not (is_under_way told) && may_come_first x.command x.entry.kind in
    elim (or_cases ((x.entry.number == told.begun + 1) && opens) ((x.entry.number == told.begun) && (ran && closes)) may) [
      | inl h ↦
          let next : x.entry.number ≡ told.begun + 1 = is_number x.entry.number (told.begun + 1) (and_left (x.entry.number == told.begun + 1) opens h) in
          absurd (omega (arith, next, begun, low))
      | inr h ↦
          let same : x.entry.number ≡ told.begun = is_number x.entry.number told.begun (and_left (x.entry.number == told.begun) (ran && closes) h) in
          let second = and_right ran closes (and_right (x.entry.number == told.begun) (ran && closes) h) in
          and_intro (x.entry.number == n) (not (is_run x.entry.kind && option_map_or is_started reply false)) (eq-eqb x.entry.number n (same ∙ begun))
          (ap (λ b. not (b && option_map_or is_started reply false)) (not_run_by x.command told.reply x.entry.kind second))
    ]

ended_step : (script : Script) (run : Run) (e : JournalEntry) (s : ℕ) → length run.told ≡ length script.sessions → may_follow script run e ≡ true → has_ended (told_of run s) (length (commands_of script s)) ≡ true → has_ended (told_of (after_entry script run e) s) (length (commands_of script s)) ≡ true
ended_step script run e s count may ended = step (λ r. has_ended (told_of r s) (length (commands_of script s)) ≡ true) script run e (λ is. ended) some
  where
    f : Command → Moment
    f command = moment_at run.plain e command (came_of script run.plain e.session command e.kind)

    some : (command : Command) → command_at script e.session e.number ≡ Some command → has_ended (told_of (after_moment run (f command)) s) (length (commands_of script s)) ≡ true
    some command is =
        let comes : may_come (told_of run e.session) (f command) ≡ true = subst (λ o. option_map_or (may_come (told_of run e.session)) (option_map f o) false ≡ true) is may in
        elim (tells script run e command s count is) [
          | inl own ↦
              subst (λ told. has_ended told (length (commands_of script s)) ≡ true) (sym own.1)
              (last_again (told_of run s) (f command) (length (commands_of script s)) (reply_after run (f command)) ended
              (subst (λ k. may_come (told_of run k) (f command) ≡ true) own.0 comes)
              (subst (λ k. e.number ≤ length (commands_of script k)) own.0 (nth_within (commands_of script e.session) e.number command is).1))
          | inr other ↦ subst (λ told. has_ended told (length (commands_of script s)) ≡ true) (sym other) ended
        ]

ended_on : (script : Script) (run : Run) (journal : List JournalEntry) (s : ℕ) → length run.told ≡ length script.sessions → may_follow_on script run journal ≡ true → has_ended (told_of run s) (length (commands_of script s)) ≡ true → has_ended (told_of (run_on script run journal) s) (length (commands_of script s)) ≡ true
ended_on script run [] s count legal ended = ended
ended_on script run (e ∷ es) s count legal ended =
    let one = and_left (may_follow script run e) (may_follow_on script (after_entry script run e) es) legal in
    let rest = and_right (may_follow script run e) (may_follow_on script (after_entry script run e) es) legal in
    subst (λ r. has_ended (told_of r s) (length (commands_of script s)) ≡ true) (sym (run_on-cons script run e es))
    (ended_on script (after_entry script run e) es s (count_after script run e ∙ count) rest (ended_step script run e s count one ended))

follows_behind : (script : Script) (run : Run) (es more : List JournalEntry) → may_follow_on script run (es ++ more) ≡ true → may_follow_on script (run_on script run es) more ≡ true
follows_behind script run [] more legal = legal
follows_behind script run (e ∷ es) more legal =
    subst (λ r. may_follow_on script r more ≡ true) (sym (run_on-cons script run e es))
    (follows_behind script (after_entry script run e) es more (and_right (may_follow script run e) (may_follow_on script (after_entry script run e) (es ++ more)) legal))

count_on : (script : Script) (run : Run) (journal : List JournalEntry) → length (run_on script run journal).told ≡ length run.told
count_on script run [] = refl
count_on script run (e ∷ es) = ap (λ (r : Run). length r.told) (run_on-cons script run e es) ∙ count_on script (after_entry script run e) es ∙ count_after script run e

-- a session that has gone through its commands has so in each legal journal that begins with this one
pub ended_stays : (script : Script) (es more : List JournalEntry) (s : ℕ) → is_legal script (es ++ more) ≡ true → has_ended (told_of (run_of script es) s) (length (commands_of script s)) ≡ true → has_ended (told_of (run_of script (es ++ more)) s) (length (commands_of script s)) ≡ true
ended_stays script es more s legal ended =
    subst (λ r. has_ended (told_of r s) (length (commands_of script s)) ≡ true) (sym (run_on-append script (first_run script) es more))
    (ended_on script (run_of script es) more s (count_on script (first_run script) es ∙ length-replicate (length script.sessions) untold) (follows_behind script (first_run script) es more legal) ended)

-- ---- all sessions

all_from : (tolds : List Told) (k : ℕ) (sessions : List (List Command)) → ((i : ℕ) → i < length sessions → has_ended (unwrap_or (slice_get tolds (k + i)) untold) (length (unwrap_or (slice_get sessions i) [])) ≡ true) → list_all (λ (n, session). has_ended (unwrap_or (slice_get tolds n) untold) (length session)) (enumerate_from k sessions) ≡ true
all_from tolds k [] each = refl
all_from tolds k (session ∷ sessions) each =
    let zeroth : k + 0 ≡ k = omega arith in
    let first : has_ended (unwrap_or (slice_get tolds k) untold) (length session) ≡ true = subst (λ (n : ℕ). has_ended (unwrap_or (slice_get tolds n) untold) (length session) ≡ true) zeroth (each 0 (omega arith)) in
    and_intro _ _ first (all_from tolds (k + 1) sessions (λ i within.
    let next : k + suc i ≡ k + 1 + i = omega arith in
    subst (λ (n : ℕ). has_ended (unwrap_or (slice_get tolds n) untold) (length (unwrap_or (slice_get sessions i) [])) ≡ true) next (each (suc i) (omega (arith, within)))))

each_from : (tolds : List Told) (k : ℕ) (sessions : List (List Command)) (i : ℕ) → list_all (λ (n, session). has_ended (unwrap_or (slice_get tolds n) untold) (length session)) (enumerate_from k sessions) ≡ true → i < length sessions → has_ended (unwrap_or (slice_get tolds (k + i)) untold) (length (unwrap_or (slice_get sessions i) [])) ≡ true
each_from tolds k [] i all within = absurd (omega arith)
each_from tolds k (session ∷ sessions) zero all within =
    let zeroth : k ≡ k + 0 = omega arith in
    subst (λ (n : ℕ). has_ended (unwrap_or (slice_get tolds n) untold) (length session) ≡ true) zeroth (and_left _ _ all)
each_from tolds k (session ∷ sessions) (suc i) all within =
    let next : k + 1 + i ≡ k + suc i = omega arith in
    subst (λ (n : ℕ). has_ended (unwrap_or (slice_get tolds n) untold) (length (unwrap_or (slice_get sessions i) [])) ≡ true) next (each_from tolds (k + 1) sessions i (and_right _ _ all) (omega (arith, within)))

-- a journal in which each session has gone through its commands is complete
pub complete_where_each : (script : Script) (journal : List JournalEntry) → ((s : ℕ) → 1 ≤ s → s ≤ length script.sessions → has_ended (told_of (run_of script journal) s) (length (commands_of script s)) ≡ true) → is_complete script journal ≡ true
complete_where_each script journal each = all_from (run_of script journal).told 0 script.sessions (λ i within.
    let from : i ≡ 0 + i = omega arith in
    subst (λ (m : ℕ). has_ended (unwrap_or (slice_get (run_of script journal).told m) untold) (length (unwrap_or (slice_get script.sessions i) [])) ≡ true) from (each (suc i) (omega arith) (omega (arith, within))))

-- and the other way round
pub each_where_complete : (script : Script) (journal : List JournalEntry) (s : ℕ) → is_complete script journal ≡ true → 1 ≤ s → s ≤ length script.sessions → has_ended (told_of (run_of script journal) s) (length (commands_of script s)) ≡ true
each_where_complete script journal zero complete one within = absurd (omega arith)
each_where_complete script journal (suc i) complete one within =
    let from : 0 + i ≡ i = omega arith in
    subst (λ (m : ℕ). has_ended (unwrap_or (slice_get (run_of script journal).told m) untold) (length (unwrap_or (slice_get script.sessions i) [])) ≡ true) from (each_from (run_of script journal).told 0 script.sessions i complete (omega (arith, within)))
