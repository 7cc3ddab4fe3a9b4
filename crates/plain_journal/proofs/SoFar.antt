-- What a journal tells so far, and what is left of it.
use Rattle.std.proofs.Common.{◌≡◌, ℕ, ◌+◌, ◌<◌, ◌^◌, List, Bool, true, false, length, get_or, drop, refl, sym, ap, ◌∙◌, subst}
use Rattle.std.specs.Prelude.{◌||◌, ◌&&◌}
use Rattle.std.proofs.lemmas.List.{length-replicate}
use Rattle.command_set.proofs.Steps.{drop_step}
use Rattle.command_set.proofs.Moments.{run_on-cons}
use Rattle.command_set.specs.declared.JournalEntry.{JournalEntry}
use Rattle.command_set.specs.declared.Script.{Script}
use Rattle.command_set.specs.declared.journal.Run.{Run}
use Rattle.command_set.specs.declared.state.Session.TheVariants.{Outside}
use Rattle.command_set.specs.Journals.{after_entry, first_run, is_legal, may_follow, may_follow_on, run_of, run_on}
use Rattle.plain_journal.specs.Beyond.{answers_beyond, is_beyond_at, is_beyond_on}
use Rattle.plain_journal.proofs.Seats.{entry_seats}

-- after so many entries of a journal a run tells what they tell, and the rest gives what the whole gives
pub record IsSoFar (script : Script) (journal : List JournalEntry) (i : ℕ) (run : Run) : Type 0 where
  pub told : run_on script run (drop i journal) ≡ run_of script journal
  pub beyond : is_beyond_on script run (drop i journal) ≡ true → answers_beyond script journal ≡ true
  pub few : length run.plain.sessions < 2 ^ 16

or_left : (a b : Bool) → a ≡ true → (a || b) ≡ true
or_left true b e = refl
or_left false b e = absurd (cc)

or_right : (a b : Bool) → b ≡ true → (a || b) ≡ true
or_right true b e = refl
or_right false b e = e

-- before the first entry
pub begins : (script : Script) (journal : List JournalEntry) (run : Run) → length script.sessions < 2 ^ 16 → run ≡ first_run script → IsSoFar script journal 0 run
begins script journal run few is = subst (IsSoFar script journal 0) (sym is) (record {
  told = refl;
  beyond = λ b. b;
  few = subst (λ n. n < 2 ^ 16) (sym (length-replicate (length script.sessions) Outside)) few;
})

-- after one entry more
pub goes_on : (script : Script) (journal : List JournalEntry) (i : ℕ) (run next : Run) (e : JournalEntry) → i < length journal → e ≡ get_or journal i e → next ≡ after_entry script run e → IsSoFar script journal i run → IsSoFar script journal (i + 1) next
goes_on script journal i run next e h at is so = subst (IsSoFar script journal (i + 1)) (sym is) (record {
  told = sym (ap (run_on script run) (drop_step journal i e h at) ∙ run_on-cons script run e (drop (i + 1) journal)) ∙ so.told;
  beyond = λ b. so.beyond (ap (is_beyond_on script run) (drop_step journal i e h at) ∙ or_right (is_beyond_at script run e) (is_beyond_on script (after_entry script run e) (drop (i + 1) journal)) b);
  few = subst (λ n. n < 2 ^ 16) (sym (entry_seats script run e)) so.few;
})

-- an entry that answers beyond its type
pub stops : (script : Script) (journal : List JournalEntry) (i : ℕ) (run : Run) (e : JournalEntry) → i < length journal → e ≡ get_or journal i e → IsSoFar script journal i run → is_beyond_at script run e ≡ true → answers_beyond script journal ≡ true
stops script journal i run e h at so b = so.beyond (ap (is_beyond_on script run) (drop_step journal i e h at) ∙ or_left (is_beyond_at script run e) (is_beyond_on script (after_entry script run e) (drop (i + 1) journal)) b)

and_true : (a b : Bool) → a ≡ true → (a && b) ≡ b
and_true true b e = refl
and_true false b e = absurd (cc)

and_false : (a b : Bool) → a ≡ false → false ≡ (a && b)
and_false true b e = absurd (cc)
and_false false b e = refl

-- what is left of a journal is legal where the whole is, after an entry that may follow
pub legal_next : (script : Script) (journal : List JournalEntry) (i : ℕ) (run next : Run) (e : JournalEntry) → i < length journal → e ≡ get_or journal i e → next ≡ after_entry script run e → may_follow script run e ≡ true → may_follow_on script run (drop i journal) ≡ is_legal script journal → may_follow_on script next (drop (i + 1) journal) ≡ is_legal script journal
legal_next script journal i run next e h at is may so_far =
    ap (λ r. may_follow_on script r (drop (i + 1) journal)) is
    ∙ sym (and_true (may_follow script run e) (may_follow_on script (after_entry script run e) (drop (i + 1) journal)) may)
    ∙ sym (ap (may_follow_on script run) (drop_step journal i e h at)) ∙ so_far
