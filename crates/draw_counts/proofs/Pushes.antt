-- One entry more of a journal: its moment, the stream and the draw count after it.
use Rattle.std.proofs.Common.{ap, arith, inl, inr, refl, sym, ◌∙◌}
use Rattle.std.proofs.lemmas.List.{append-nil}
use Rattle.std.specs.Option.{option_map_or}
use Rattle.std.specs.Prelude.{List, None, Option, Some, [], length, option_map, option_to_list, slice_get, suc, take, zero, ℕ, ◌++◌, ◌+◌, ◌∷◌, ◌≡◌, ◌⊎◌}
use Rattle.command_set.proofs.Moments.{run_of-push, run_on-cons}
use Rattle.command_set.specs.Journals.{Moment, after_entry, after_moment, came_of, command_at, first_run, moment_at, moment_of, moments, moments_on, run_of, run_on, state_after}
use Rattle.command_set.specs.declared.Command.{Command}
use Rattle.command_set.specs.declared.JournalEntry.{JournalEntry}
use Rattle.command_set.specs.declared.Script.{Script}
use Rattle.command_set.specs.declared.journal.Run.{Run}
use Rattle.change_stream.specs.Streams.{Stream, first_stream, stream_after, stream_through}
use Rattle.core_outs.specs.Counts.{draw_count, pushed_at, pushed_through}
use Rattle.draw_counts.specs.Drawn.{stream_at}

-- ---- moments

plain_after : (run : Run) (o : Option Moment) → (option_map_or (after_moment run) o run).plain ≡ state_after run.plain o
plain_after run None = refl
plain_after run (Some x) = refl

append_over : {A : Type 0} (xs ys zs : List A) → xs ++ (ys ++ zs) ≡ (xs ++ ys) ++ zs
append_over [] ys zs = refl
append_over (x ∷ xs) ys zs = ap (λ rest. x ∷ rest) (append_over xs ys zs)

moments_push : (script : Script) (run : Run) (es : List JournalEntry) (e : JournalEntry) → moments_on script run.plain (es ++ e ∷ []) ≡ moments_on script run.plain es ++ option_to_list (moment_of script (run_on script run es).plain e)
moments_push script run [] e = append-nil (option_to_list (moment_of script run.plain e))
moments_push script run (y ∷ es) e =
    let next = option_to_list (moment_of script run.plain y) in
    ap (λ m. next ++ moments_on script m (es ++ e ∷ [])) (sym (plain_after run (moment_of script run.plain y)))
    ∙ ap (λ rest. next ++ rest) (moments_push script (after_entry script run y) es e)
    ∙ append_over next (moments_on script (after_entry script run y).plain es) (option_to_list (moment_of script (run_on script (after_entry script run y) es).plain e))
    ∙ ap (λ m. (next ++ moments_on script m es) ++ option_to_list (moment_of script (run_on script (after_entry script run y) es).plain e)) (plain_after run (moment_of script run.plain y))
    ∙ ap (λ (r : Run). (next ++ moments_on script (state_after run.plain (moment_of script run.plain y)) es) ++ option_to_list (moment_of script r.plain e)) (sym (run_on-cons script run y es))

-- the moment of an entry behind a journal
abbrev pub next_moment : Script → List JournalEntry → JournalEntry → Command → Moment
next_moment script journal e command = moment_at (run_of script journal).plain e command (came_of script (run_of script journal).plain e.session command e.kind)

pub moments_more : (script : Script) (journal : List JournalEntry) (e : JournalEntry) (command : Command) → command_at script e.session e.number ≡ Some command → moments script (journal ++ e ∷ []) ≡ moments script journal ++ next_moment script journal e command ∷ []
moments_more script journal e command is =
    moments_push script (first_run script) journal e
    ∙ ap (λ (o : Option Command). moments script journal ++ option_to_list (option_map (λ its. moment_at (run_of script journal).plain e its (came_of script (run_of script journal).plain e.session its e.kind)) o)) is

-- what the journal tells then
pub run_more : (script : Script) (journal : List JournalEntry) (e : JournalEntry) (command : Command) → command_at script e.session e.number ≡ Some command → run_of script (journal ++ e ∷ []) ≡ after_moment (run_of script journal) (next_moment script journal e command)
run_more script journal e command is =
    let run = run_of script journal in
    run_of-push script journal e ∙ ap (λ (o : Option Command). option_map_or (after_moment run) (option_map (λ its. moment_at run.plain e its (came_of script run.plain e.session its e.kind)) o) run) is

-- ---- the stream, and the draw count

through_push : (script : Script) (st : Stream) (xs : List Moment) (x : Moment) → stream_through script st (xs ++ x ∷ []) ≡ stream_after script (stream_through script st xs) x
through_push script st [] x = refl
through_push script st (y ∷ xs) x = through_push script (stream_after script st y) xs x

pushed_push : (script : Script) (st : Stream) (xs : List Moment) (x : Moment) (t : ℕ) → pushed_through script st (xs ++ x ∷ []) t ≡ pushed_through script st xs t + pushed_at script (stream_through script st xs) x t
pushed_push script st [] x t = omega arith
pushed_push script st (y ∷ xs) x t =
    let rest = pushed_push script (stream_after script st y) xs x t in
    omega (arith, rest)

pub stream_more : (script : Script) (journal : List JournalEntry) (e : JournalEntry) (command : Command) → command_at script e.session e.number ≡ Some command → stream_at script (journal ++ e ∷ []) ≡ stream_after script (stream_at script journal) (next_moment script journal e command)
stream_more script journal e command is =
    ap (stream_through script (first_stream (length script.sessions))) (moments_more script journal e command is)
    ∙ through_push script (first_stream (length script.sessions)) (moments script journal) (next_moment script journal e command)

pub count_more : (script : Script) (journal : List JournalEntry) (e : JournalEntry) (command : Command) (t : ℕ) → command_at script e.session e.number ≡ Some command
    → draw_count script (journal ++ e ∷ []) t ≡ draw_count script journal t + pushed_at script (stream_at script journal) (next_moment script journal e command) t
count_more script journal e command t is =
    ap (λ (xs : List Moment). pushed_through script (first_stream (length script.sessions)) xs t) (moments_more script journal e command is)
    ∙ pushed_push script (first_stream (length script.sessions)) (moments script journal) (next_moment script journal e command) t

-- ---- an entry of a journal with one entry more

pub entry_more : (journal : List JournalEntry) (e : JournalEntry) (i : ℕ) (one : JournalEntry) → slice_get (journal ++ e ∷ []) i ≡ Some one
    → ((slice_get journal i ≡ Some one) × (take i (journal ++ e ∷ []) ≡ take i journal)) ⊎ ((e ≡ one) × (take i (journal ++ e ∷ []) ≡ journal))
entry_more [] e zero one is = inr (same is, refl)
  where
    same : Some e ≡ Some one → e ≡ one
    same h = cc
entry_more [] e (suc i) one is = absurd (none i is)
  where
    empty : List JournalEntry
    empty = []

    none : (i : ℕ) → slice_get empty i ≡ Some one → ⊥
    none i h = cc
entry_more (y ∷ journal) e zero one is = inl (is, refl)
entry_more (y ∷ journal) e (suc i) one is = elim (entry_more journal e i one is) [
  | inl h ↦ inl (h.0, ap (λ rest. y ∷ rest) h.1)
  | inr h ↦ inr (h.0, ap (λ rest. y ∷ rest) h.1)
]
