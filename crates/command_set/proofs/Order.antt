-- The moments of a legal journal go through each session's commands in order.
use Rattle.std.proofs.Common.{◌≡◌, ◌≢◌, ◌≤◌, ◌+◌, ◌-◌, ℕ, zero, suc, Bool, true, false, cond, List, [], ◌∷◌, ◌++◌, Option, Some, None, length, refl, sym, ap, ◌∙◌, subst, arith}
use Rattle.std.specs.Prelude.{◌&&◌, ◌||◌, ◌==◌, ◌⊎◌, not, if◌then◌else◌, slice_get, slice_set, replicate}
use Rattle.std.specs.Option.{option_map, option_map_or, option_to_list, unwrap_or}
use Rattle.std.proofs.Common.{inl, inr}
use Rattle.std.proofs.lemmas.Bool.Decides.{nat_tests}
use Rattle.std.proofs.lemmas.List.{length-set, length-replicate}
use Rattle.command_set.specs.declared.Command.{Command}
use Rattle.command_set.specs.declared.JournalEntry.{JournalEntry}
use Rattle.command_set.specs.declared.Kind.{Kind}
use Rattle.command_set.specs.declared.Kind.TheVariants as kinds
use Rattle.command_set.specs.declared.Reply.{Reply}
use Rattle.command_set.specs.declared.Script.{Script}
use Rattle.command_set.specs.declared.journal.Run.{Run}
use Rattle.command_set.specs.declared.journal.Told.{Told}
use Rattle.command_set.specs.Plain.{nth}
use Rattle.command_set.specs.Journals.{Moment, after_entry, after_moment, came_of, command_at, first_run, is_legal, is_run, is_started, is_under_way, may_come, may_come_first, may_come_second, may_follow, may_follow_on, moment_at, moment_of, moments, moments_on, reply_after, reply_before, state_after, takes_no_memory, told_of, untold}
use Rattle.command_set.specs.Orders.{GoThrough, IsOf, of_session, over, wanted, answered, under_way, ended}
use Rattle.command_set.proofs.Numbered.{nth_set_other, nth_set_same, nth_within}

-- what may be ahead of a session, by what is told of it: the first of its next command's moments, nothing, or a second one of its last command
data Ahead (script : Script) (s : ℕ) (told : Told) (xs : List Moment) : Type 0 where
  next : is_under_way told ≡ false → GoThrough script s (told.begun + 1) xs → Ahead script s told xs
  nothing : xs ≡ [] → Ahead script s told xs
  second : (reply : Reply) (y : Moment) (ys : List Moment) → xs ≡ y ∷ ys → option_map_or is_run told.last false ≡ true → told.reply ≡ Some reply → IsOf script s told.begun y → may_come_second y.command reply y.entry.kind ≡ true → GoThrough script s (told.begun + 1) ys → Ahead script s told xs

-- after an entry that is no command's moment, the next command's come
after_other : (script : Script) (s n : ℕ) (told : Told) (xs : List Moment) → told.begun ≡ n → option_map_or is_run told.last false ≡ false → Ahead script s told xs → GoThrough script s (n + 1) xs
after_other script s n told xs is other (next quiet go) = subst (λ k. GoThrough script s (k + 1) xs) is go
after_other script s n told xs is other (nothing none) = subst (GoThrough script s (n + 1)) (sym none) (over (n + 1))
after_other script s n told xs is other (second reply y ys split ran said of may go) = absurd (cc)

-- a moment that is its command's only one so far
alone : (script : Script) (s n : ℕ) (x : Moment) (b : Bool) → is_started x.reply ≡ b → IsOf script s n x → x.entry.kind ≡ kinds.Run → GoThrough script s n (x ∷ [])
alone script s n x true is of run = under_way n x of run is
alone script s n x false is of run = answered n x [] of run is (over (n + 1))

-- after a command's moment
after_run : (script : Script) (s n : ℕ) (x : Moment) (told : Told) (xs : List Moment) → told.begun ≡ n → option_map_or is_run told.last false ≡ true → told.reply ≡ Some x.reply → IsOf script s n x → x.entry.kind ≡ kinds.Run → Ahead script s told xs → GoThrough script s n (x ∷ xs)
after_run script s n x told xs is ran said of run (next quiet go) =
    answered n x xs of run (sym (ap (λ b. b && option_map_or is_started told.reply false) ran ∙ ap (λ o. option_map_or is_started o false) said) ∙ quiet) (subst (λ k. GoThrough script s (k + 1) xs) is go)
after_run script s n x told xs is ran said of run (nothing none) =
    subst (λ ys. GoThrough script s n (x ∷ ys)) (sym none) (alone script s n x (is_started x.reply) refl of run)
after_run script s n x told xs is ran said of run (second reply y ys split _ said' of' may go) =
    let same : reply ≡ x.reply = cc in
    subst (λ zs. GoThrough script s n (x ∷ zs)) (sym split)
    (ended n x y ys of run (subst (λ k. IsOf script s k y) is of') (let first : y.command ≡ x.command = cc in subst (λ r. may_come_second x.command r y.entry.kind ≡ true) same (subst (λ c. may_come_second c reply y.entry.kind ≡ true) first may)) (subst (λ k. GoThrough script s (k + 1) ys) is go))

and_left : (a b : Bool) → (a && b) ≡ true → a ≡ true
and_left true b e = refl
and_left false b e = e

and_right : (a b : Bool) → (a && b) ≡ true → b ≡ true
and_right true b e = e
and_right false b e = absurd (cc)

or_cases : (a b : Bool) → (a || b) ≡ true → (a ≡ true) ⊎ (b ≡ true)
or_cases true b e = inl refl
or_cases false b e = inr e

not_true : (b : Bool) → not b ≡ true → b ≡ false
not_true true e = absurd (cc)
not_true false e = refl

is_number : (n m : ℕ) → (n == m) ≡ true → n ≡ m
is_number n m e = grind (arith, nat_tests)

not_number : (n m : ℕ) → (n == m) ≡ false → n ≢ m
not_number n m e = grind (arith, nat_tests)

-- a command's first entry, of any kind that may come first
first : (script : Script) (s n : ℕ) (x : Moment) (told : Told) (xs : List Moment) (kind : Kind) → x.entry.kind ≡ kind → told.begun ≡ n → told.last ≡ Some kind → (kind ≡ kinds.Run → told.reply ≡ Some x.reply) → IsOf script s n x → may_come_first x.command kind ≡ true → Ahead script s told xs → GoThrough script s n (x ∷ xs)
first script s n x told xs kinds.Run is begun last said of may ahead = after_run script s n x told xs begun (ap (λ o. option_map_or is_run o false) last) (said refl) of is ahead
first script s n x told xs kinds.Memory is begun last said of may ahead =
    wanted n x xs of is (not_true (takes_no_memory x.command) may) (after_other script s n told xs begun (ap (λ o. option_map_or is_run o false) last) ahead)
first script s n x told xs kinds.End is begun last said of may ahead = absurd (cc)
first script s n x told xs kinds.NoValueId is begun last said of may ahead = absurd (cc)

-- a second entry is none of a command's moment
not_run : (command : Command) (reply : Reply) (kind : Kind) → may_come_second command reply kind ≡ true → is_run kind ≡ false
not_run command reply kinds.Run may = absurd (cc)
not_run command reply kinds.End may = refl
not_run command reply kinds.NoValueId may = refl
not_run command reply kinds.Memory may = refl

-- a moment that may come, by what is told before and after it
comes : (script : Script) (s : ℕ) (x : Moment) (told told' : Told) (xs : List Moment) → IsOf script s x.entry.number x → told'.begun ≡ x.entry.number → told'.last ≡ Some x.entry.kind → (x.entry.kind ≡ kinds.Run → told'.reply ≡ Some x.reply) → may_come told x ≡ true → Ahead script s told' xs → Ahead script s told (x ∷ xs)
comes script s x told told' xs of begun last said may ahead =
    let quiet = not (is_under_way told) in
    let opens = may_come_first x.command x.entry.kind in
    let new = x.entry.number == told.begun + 1 in
    let ran = option_map_or is_run told.last false in
    let closes = λ (r : Option Reply). option_map_or (λ reply. may_come_second x.command reply x.entry.kind) r false in
    elim (or_cases (new && (quiet && opens)) ((x.entry.number == told.begun) && (ran && closes told.reply)) may) [
      | inl h ↦
          let rest = and_right new (quiet && opens) h in
          let n : x.entry.number ≡ told.begun + 1 = is_number x.entry.number (told.begun + 1) (and_left new (quiet && opens) h) in
          next (not_true (is_under_way told) (and_left quiet opens rest))
          (subst (λ k. GoThrough script s k (x ∷ xs)) n (first script s x.entry.number x told' xs x.entry.kind refl begun last said of (and_right quiet opens rest) ahead))
      | inr h ↦
          let rest = and_right (x.entry.number == told.begun) (ran && closes told.reply) h in
          let n : x.entry.number ≡ told.begun = is_number x.entry.number told.begun (and_left (x.entry.number == told.begun) (ran && closes told.reply) h) in
          by told.reply refl n (and_left ran (closes told.reply) rest) (and_right ran (closes told.reply) rest)
    ]
  where
    by : (r : Option Reply) → told.reply ≡ r → x.entry.number ≡ told.begun → option_map_or is_run told.last false ≡ true → option_map_or (λ reply. may_come_second x.command reply x.entry.kind) r false ≡ true → Ahead script s told (x ∷ xs)
    by None is n ran may = absurd (cc)
    by (Some reply) is n ran may =
        second reply x xs refl ran is (subst (λ k. IsOf script s k x) n of) may
        (subst (λ k. GoThrough script s (k + 1) xs) n
        (after_other script s x.entry.number told' xs begun (ap (λ o. option_map_or is_run o false) last ∙ not_run x.command reply x.entry.kind may) ahead))

-- the place of a session in what is told
within : (script : Script) (s n : ℕ) (command : Command) (o : Option (List Command)) → nth script.sessions s ≡ o → nth (unwrap_or o []) n ≡ Some command → (1 ≤ s) × (s ≤ length script.sessions)
within script s n command None is there = absurd (none_there n there)
  where
    none_there : (n : ℕ) → nth {A = Command} [] n ≡ Some command → ⊥
    none_there zero e = cc
    none_there (suc i) e = cc
within script s n command (Some commands) is there = nth_within script.sessions s commands is

-- the same after an entry that names a command, by what the others leave ahead
ahead_of : (script : Script) (run : Run) (e : JournalEntry) (command : Command) (xs : List Moment) (s : ℕ) →
    let x = moment_at run.plain e command (came_of script run.plain e.session command e.kind) in
    length run.told ≡ length script.sessions → command_at script e.session e.number ≡ Some command → may_come (told_of run e.session) x ≡ true
    → Ahead script s (told_of (after_moment run x) s) (of_session s xs) → Ahead script s (told_of run s) (of_session s (x ∷ xs))
ahead_of script run e command xs s count is may left = by (e.session == s) refl
  where
    x : Moment
    x = moment_at run.plain e command (came_of script run.plain e.session command e.kind)

    t : Told
    t = record { begun = e.number; last = Some e.kind; reply = reply_after run x }

    inside : (1 ≤ e.session) × (e.session ≤ length script.sessions)
    inside = within script e.session e.number command (nth script.sessions e.session) refl is

    by : (b : Bool) → (e.session == s) ≡ b → Ahead script s (told_of run s) (cond b (x ∷ of_session s xs) (of_session s xs))
    by true same =
        let session : e.session ≡ s = is_number e.session s same in
        let here : told_of (after_moment run x) s ≡ t =
        ap (λ k. unwrap_or (nth (slice_set run.told (e.session - 1) t) k) untold) (sym session)
        ∙ ap (λ o. unwrap_or o untold) (nth_set_same run.told e.session t inside.0 (omega (arith, inside.1, count))) in
        comes script s x (told_of run s) t (of_session s xs)
        (record { session = session; number = refl; command = subst (λ k. command_at script k e.number ≡ Some command) session is })
        refl refl (λ ran. ap (λ kind. if is_run kind then Some x.reply else reply_before run e) ran)
        (subst (λ k. may_come (told_of run k) x ≡ true) session may)
        (subst (λ told. Ahead script s told (of_session s xs)) here left)
    by false other =
        let apart : s ≢ e.session = λ same. absurd (not_number e.session s other (sym same)) in
        subst (λ told. Ahead script s told (of_session s xs)) (ap (λ o. unwrap_or o untold) (nth_set_other run.told e.session s t inside.0 apart)) left

-- what is ahead of a session in what may follow what is told
ahead : (script : Script) (run : Run) (journal : List JournalEntry) (s : ℕ) → length run.told ≡ length script.sessions → may_follow_on script run journal ≡ true → Ahead script s (told_of run s) (of_session s (moments_on script run.plain journal))
ahead script run [] s count legal = nothing refl
ahead script run (e ∷ es) s count legal = by (command_at script e.session e.number) refl (λ run' count' legal'. ahead script run' es s count' legal')
  where
    by : (o : Option Command) → command_at script e.session e.number ≡ o → ((run' : Run) → length run'.told ≡ length script.sessions → may_follow_on script run' es ≡ true → Ahead script s (told_of run' s) (of_session s (moments_on script run'.plain es))) → Ahead script s (told_of run s) (of_session s (moments_on script run.plain (e ∷ es)))
    by None is others =
        let none : moment_of script run.plain e ≡ None = ap (option_map (λ command. moment_at run.plain e command (came_of script run.plain e.session command e.kind))) is in
        let no : option_map_or (may_come (told_of run e.session)) (moment_of script run.plain e) false ≡ false = ap (λ o. option_map_or (may_come (told_of run e.session)) o false) none in
        let yes = and_left (may_follow script run e) (may_follow_on script (after_entry script run e) es) legal in
        absurd (cc)
    by (Some command) is others =
        let x = moment_at run.plain e command (came_of script run.plain e.session command e.kind) in
        let some : moment_of script run.plain e ≡ Some x = ap (option_map (λ command. moment_at run.plain e command (came_of script run.plain e.session command e.kind))) is in
        let follows : (may_come (told_of run e.session) x && may_follow_on script (after_moment run x) es) ≡ true =
        subst (λ o. (option_map_or (may_come (told_of run e.session)) o false && may_follow_on script (option_map_or (after_moment run) o run) es) ≡ true) some legal in
        let may = and_left (may_come (told_of run e.session) x) (may_follow_on script (after_moment run x) es) follows in
        let rest = and_right (may_come (told_of run e.session) x) (may_follow_on script (after_moment run x) es) follows in
        subst (λ o. Ahead script s (told_of run s) (of_session s (option_to_list o ++ moments_on script (state_after run.plain o) es))) (sym some)
        (ahead_of script run e command (moments_on script x.after es) s count is may
        (others (after_moment run x) (length-set run.told (e.session - 1) (record { begun = e.number; last = Some e.kind; reply = reply_after run x }) ∙ count) rest))

-- nothing has been told of a session before the first entry
untold_at : (n s : ℕ) → unwrap_or (nth (replicate n untold) s) untold ≡ untold
untold_at n zero = refl
untold_at n (suc i) = at n i
  where
    at : (n i : ℕ) → unwrap_or (slice_get (replicate n untold) i) untold ≡ untold
    at zero i = refl
    at (suc n) zero = refl
    at (suc n) (suc i) = at n i

-- the moments of a legal journal go, for each session, through its commands in order from the first on
pub legal_in_order : (script : Script) (journal : List JournalEntry) (s : ℕ) → is_legal script journal ≡ true → GoThrough script s 1 (of_session s (moments script journal))
legal_in_order script journal s legal =
    let told = untold_at (length script.sessions) s in
    after_other script s 0 (told_of (first_run script) s) (of_session s (moments script journal))
    (ap (λ (t : Told). t.begun) told) (ap (λ (t : Told). option_map_or is_run t.last false) told)
    (ahead script (first_run script) journal s (length-replicate (length script.sessions) untold) legal)
