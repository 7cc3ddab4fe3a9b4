-- What a log with one entry more decodes to.
use Rattle.std.proofs.Common.{◌≡◌, ℕ, ◌+◌, Bool, cond, List, [], ◌∷◌, ◌++◌, Option, Some, None, Ok, Err, length, filter_map, is_none, refl, sym, ap, subst, ◌∙◌}
use Rattle.std.specs.List.{cons_option, take_while}
use Rattle.std.proofs.lemmas.List.{append-nil, length-append}
use Rattle.std.proofs.lemmas.List.Elements.{filter_map-append}
use Rattle.std.proofs.lemmas.List.Sums.{take_while-cons}
use Rattle.stream_wire.specs.declared.message.Message.{Message}
use Rattle.change_log.specs.declared.entry.LogEntry.{LogEntry}
use Rattle.decode_stream.specs.declared.fault.DecodeFault.{DecodeFault}
use Rattle.decode_stream.specs.declared.fault.DecodeFault.TheVariants.{ChunkOrder, SizeOf, Memory}
use Rattle.decode_stream.specs.Decoding.{first, with_fronts, behind_last, open_entries, fault_at, commit_at, first_fault, commits}
use Rattle.decode_stream.specs.States.{DecoderState, Decodes, OpenList, IsOpenAt, open_at, AreOpen, Feeds, next_of}
use Rattle.decode_stream.specs.Steps.{Tells, given_after, lasting}
use Rattle.decode_stream.proofs.Lists.{with_fronts-push}

module _ {X Y : Type 0} (f : X → Option Y) where
  abbrev passes : X → Bool
  passes x = is_none (f x)

  -- the first of a list with one item more
  pub first_next : (o : Option Y) (told : List Y) → first told ≡ None → first (told ++ cons_option o []) ≡ o
  first_next None [] e = refl
  first_next (Some y) [] e = refl
  first_next o (y ∷ ys) e = absurd (cc)

  pub first_stays : (y : Y) (o : Option Y) (told : List Y) → first told ≡ Some y → first (told ++ cons_option o []) ≡ Some y
  first_stays y o [] e = absurd (cc)
  first_stays y o (z ∷ zs) e = e

  -- all pass, or one before the last fails
  all_pass : (xs : List X) (y : X) → first (filter_map f xs) ≡ None → take_while (λ x. is_none (f x)) (xs ++ y ∷ []) ≡ xs ++ take_while (λ x. is_none (f x)) (y ∷ [])
  all_pass [] y e = refl
  all_pass (x ∷ xs) y e = take_while-cons (λ x. is_none (f x)) x (xs ++ y ∷ []) ∙ by (f x) e (all_pass xs y)
    where
      by : (o : Option Y) → first (cons_option o (filter_map f xs)) ≡ None → (first (filter_map f xs) ≡ None → take_while (λ x. is_none (f x)) (xs ++ y ∷ []) ≡ xs ++ take_while (λ x. is_none (f x)) (y ∷ []))
          → cond (is_none o) (x ∷ take_while (λ x. is_none (f x)) (xs ++ y ∷ [])) [] ≡ (x ∷ xs) ++ take_while (λ x. is_none (f x)) (y ∷ [])
      by None h rest = ap (λ (l : List X). x ∷ l) (rest h)
      by (Some z) h rest = absurd (cc)

  one_fails : (xs : List X) (y : X) (z : Y) → first (filter_map f xs) ≡ Some z → take_while (λ x. is_none (f x)) (xs ++ y ∷ []) ≡ take_while (λ x. is_none (f x)) xs
  one_fails [] y z e = absurd (cc)
  one_fails (x ∷ xs) y z e = take_while-cons (λ x. is_none (f x)) x (xs ++ y ∷ []) ∙ by (f x) e (one_fails xs y z) ∙ sym (take_while-cons (λ x. is_none (f x)) x xs)
    where
      by : (o : Option Y) → first (cons_option o (filter_map f xs)) ≡ Some z → (first (filter_map f xs) ≡ Some z → take_while (λ x. is_none (f x)) (xs ++ y ∷ []) ≡ take_while (λ x. is_none (f x)) xs)
          → cond (is_none o) (x ∷ take_while (λ x. is_none (f x)) (xs ++ y ∷ [])) [] ≡ cond (is_none o) (x ∷ take_while (λ x. is_none (f x)) xs) []
      by None h rest = ap (λ (l : List X). x ∷ l) (rest h)
      by (Some w) h rest = refl

  none_fails : (xs : List X) → first (filter_map f xs) ≡ None → take_while (λ x. is_none (f x)) xs ≡ xs
  none_fails [] e = refl
  none_fails (x ∷ xs) e = take_while-cons (λ x. is_none (f x)) x xs ∙ by (f x) e (none_fails xs)
    where
      by : (o : Option Y) → first (cons_option o (filter_map f xs)) ≡ None → (first (filter_map f xs) ≡ None → take_while (λ x. is_none (f x)) xs ≡ xs) → cond (is_none o) (x ∷ take_while (λ x. is_none (f x)) xs) [] ≡ x ∷ xs
      by None h rest = ap (λ (l : List X). x ∷ l) (rest h)
      by (Some w) h rest = absurd (cc)

  module _ {Z : Type 0} (c : X → Option Z) (xs : List X) (y : X) where
    pub told_more : first (filter_map f xs) ≡ None → f y ≡ None → filter_map c (take_while (λ x. is_none (f x)) (xs ++ y ∷ [])) ≡ filter_map c (take_while (λ x. is_none (f x)) xs) ++ cons_option (c y) []
    told_more none here =
        ap (filter_map c) (all_pass xs y none ∙ ap (λ (l : List X). xs ++ l) (take_while-cons (λ x. is_none (f x)) y [] ∙ ap (λ (o : Option Y). cond (is_none o) (y ∷ []) []) here))
        ∙ filter_map-append c xs (y ∷ [])
        ∙ ap (λ (l : List X). filter_map c l ++ cons_option (c y) []) (sym (none_fails xs none))

    pub told_stays : (z : Y) → first (filter_map f xs) ≡ None → f y ≡ Some z → filter_map c (take_while (λ x. is_none (f x)) (xs ++ y ∷ [])) ≡ filter_map c (take_while (λ x. is_none (f x)) xs)
    told_stays z none here =
        ap (filter_map c)
        (all_pass xs y none ∙ ap (λ (l : List X). xs ++ l) (take_while-cons (λ x. is_none (f x)) y [] ∙ ap (λ (o : Option Y). cond (is_none o) (y ∷ []) []) here) ∙ append-nil xs ∙ sym (none_fails xs none))

    pub told_after : (z : Y) → first (filter_map f xs) ≡ Some z → filter_map c (take_while (λ x. is_none (f x)) (xs ++ y ∷ [])) ≡ filter_map c (take_while (λ x. is_none (f x)) xs)
    told_after z some = ap (filter_map c) (one_fails xs y z some)

module _ (log : List LogEntry) (e : LogEntry) where
  -- the first fault of a log with an entry more
  pub fault_next : first_fault log ≡ None → first_fault (log ++ e ∷ []) ≡ fault_at (log, e)
  unfolding first_fault
  fault_next none =
      ap (λ (fronts : List (List LogEntry × LogEntry)). first (filter_map fault_at fronts)) (with_fronts-push log e)
      ∙ ap first (filter_map-append fault_at (with_fronts log) ((log, e) ∷ []))
      ∙ first_next fault_at (fault_at (log, e)) (filter_map fault_at (with_fronts log)) none

  pub fault_stays : (f : DecodeFault) → first_fault log ≡ Some f → first_fault (log ++ e ∷ []) ≡ Some f
  unfolding first_fault
  fault_stays f some =
      ap (λ (fronts : List (List LogEntry × LogEntry)). first (filter_map fault_at fronts)) (with_fronts-push log e)
      ∙ ap first (filter_map-append fault_at (with_fronts log) ((log, e) ∷ []))
      ∙ first_stays fault_at f (fault_at (log, e)) (filter_map fault_at (with_fronts log)) some

  -- the transactions of a log with an entry more
  pub commits_more : first_fault log ≡ None → fault_at (log, e) ≡ None → commits (log ++ e ∷ []) ≡ commits log ++ cons_option (commit_at (log, e)) []
  unfolding first_fault commits
  commits_more none here =
      ap (λ (fronts : List (List LogEntry × LogEntry)). filter_map commit_at (take_while (λ p. is_none (fault_at p)) fronts)) (with_fronts-push log e)
      ∙ told_more fault_at commit_at (with_fronts log) (log, e) none here

  pub commits_stay : (f : DecodeFault) → first_fault log ≡ None → fault_at (log, e) ≡ Some f → commits (log ++ e ∷ []) ≡ commits log
  unfolding first_fault commits
  commits_stay f none here =
      ap (λ (fronts : List (List LogEntry × LogEntry)). filter_map commit_at (take_while (λ p. is_none (fault_at p)) fronts)) (with_fronts-push log e)
      ∙ told_stays fault_at commit_at (with_fronts log) (log, e) f none here

  pub commits_after : (f : DecodeFault) → first_fault log ≡ Some f → commits (log ++ e ∷ []) ≡ commits log
  unfolding first_fault commits
  commits_after f some =
      ap (λ (fronts : List (List LogEntry × LogEntry)). filter_map commit_at (take_while (λ p. is_none (fault_at p)) fronts)) (with_fronts-push log e)
      ∙ told_after fault_at commit_at (with_fronts log) (log, e) f some

  -- the number of transactions after an entry without a fault
  count_more : (o : Option (List Message)) (given : ℕ) (before : List (List Message)) → given ≡ length before → given_after given o ≡ length (before ++ cons_option o [])
  count_more None given before h = h ∙ ap length (sym (append-nil before))
  count_more (Some changes) given before h = ap (λ (n : ℕ). n + 1) h ∙ sym (length-append before (changes ∷ []))

  -- an entry without a fault
  pub fed : (old new : DecoderState) (answer : Option _) → Decodes old log → old.fault ≡ None → fault_at (log, e) ≡ None → new.fault ≡ None → new.given ≡ given_after old.given (commit_at (log, e)) → AreOpen new.table (log ++ e ∷ [])
      → answer ≡ next_of old.given (commit_at (log, e)) → Feeds log e new (Ok answer)
  fed old new answer is none here kept given are same =
      let before : first_fault log ≡ None = sym is.fault ∙ none in
      let now : first_fault (log ++ e ∷ []) ≡ None = fault_next before ∙ here in (
        now,
        same ∙ ap (λ (n : ℕ). next_of n (commit_at (log, e))) is.given,
        record {
          fault = kept ∙ sym now;
          given = given ∙ count_more (commit_at (log, e)) old.given (commits log) is.given ∙ ap length (sym (commits_more before here));
          table = λ h. are;
        },
      )

  -- an entry with the first fault
  refused : (old new : DecoderState) (f : DecodeFault) → Decodes old log → old.fault ≡ None → fault_at (log, e) ≡ Some f → new.fault ≡ Some f → new.given ≡ old.given → (first_fault (log ++ e ∷ []) ≡ Some f) × Decodes new (log ++ e ∷ [])
  refused old new f is none here kept given =
      let before : first_fault log ≡ None = sym is.fault ∙ none in
      let now : first_fault (log ++ e ∷ []) ≡ Some f = fault_next before ∙ here in (
        now,
        record {
          fault = kept ∙ sym now;
          given = given ∙ is.given ∙ ap length (sym (commits_stay f before here));
          table = λ h. absurd (some_none f (sym now ∙ h));
        },
      )
    where
      some_none : (f : DecodeFault) → Some f ≡ None → ⊥
      some_none f h = cc

  -- an entry after the first fault
  again : (old : DecoderState) (f : DecodeFault) → Decodes old log → old.fault ≡ Some f → (first_fault (log ++ e ∷ []) ≡ Some f) × Decodes old (log ++ e ∷ [])
  again old f is some =
      let before : first_fault log ≡ Some f = sym is.fault ∙ some in
      let now : first_fault (log ++ e ∷ []) ≡ Some f = fault_stays f before in (
        now,
        record {
          fault = some ∙ sym now;
          given = is.given ∙ ap length (sym (commits_after f before));
          table = λ h. absurd (some_none f (sym now ∙ h));
        },
      )
    where
      some_none : (f : DecodeFault) → Some f ≡ None → ⊥
      some_none f h = cc

  pub feeds_again : (old : DecoderState) (f : DecodeFault) → old.fault ≡ Some f → Decodes old log → Feeds log e old (Err f)
  feeds_again old (ChunkOrder got wanted) some is = again old (ChunkOrder got wanted) is some
  feeds_again old (SizeOf got wanted) some is = again old (SizeOf got wanted) is some
  feeds_again old Memory some is = tt

  pub feeds_refused : (X : Type 0) (old new : DecoderState) (f : DecodeFault) → Decodes old log → old.fault ≡ None → Tells {X = X} (fault_at (log, e)) (Err f) → new.fault ≡ lasting f → new.given ≡ old.given → Feeds log e new (Err f)
  feeds_refused X old new (ChunkOrder got wanted) is none here kept given = refused old new (ChunkOrder got wanted) is none here kept given
  feeds_refused X old new (SizeOf got wanted) is none here kept given = refused old new (SizeOf got wanted) is none here kept given
  feeds_refused X old new Memory is none here kept given = tt

-- nothing is open in a log of no entries
pub nothing_open : (table : OpenList) → table ≡ [] → AreOpen table []
unfolding open_entries behind_last
nothing_open table none = λ xid. subst (λ (t : OpenList). IsOpenAt (open_at t xid) (open_entries xid [])) (sym none) refl

-- a decoder that was fed nothing
pub fed_nothing : (state : DecoderState) → state.table ≡ [] → state.given ≡ 0 → state.fault ≡ None → Decodes state []
unfolding first_fault commits with_fronts
fed_nothing state table given fault = record {
  fault = fault;
  given = given;
  table = λ h. nothing_open state.table table;
}
