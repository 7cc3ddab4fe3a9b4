-- What is told of sessions, their seats and their progress, once one of them has changed.
use Rattle.std.proofs.Common.{◌≡◌, ◌≢◌, ◌<◌, ◌≤◌, ◌+◌, ◌-◌, ◌*◌, ℕ, zero, suc, inl, inr, false, List, [], ◌∷◌, Option, Some, None, length, get_or, slice_get, slice_set, refl, sym, ap, ◌∙◌, subst, arith, get_or-set_same, get_or-set_other}
use Rattle.std.specs.Prelude.{slice_index_or}
use Rattle.std.specs.Option.{unwrap_or}
use Rattle.std.specs.List.{sum_by}
use Rattle.std.proofs.lemmas.Option.{unwrap_or-slice_get, slice_get-get_or}
use Rattle.std.proofs.lemmas.Bool.{cases_eq}
use Rattle.std.proofs.lemmas.List.Sums.{sum_by-cons, sum_by-set}
use Rattle.list_facts.proofs.Changed.{get_set_same, get_set_other}
use Rattle.command_set.specs.Plain.{nth}
use Rattle.command_set.proofs.Numbered.{nth_is, nth_set_other, nth_set_same}
use Rattle.command_set.specs.declared.journal.Told.{Told}
use Rattle.command_set.specs.declared.Command.{Command}
use Rattle.command_set.specs.declared.Kind.{Kind}
use Rattle.command_set.specs.declared.Kind.TheVariants as kinds
use Rattle.command_set.specs.Journals.{untold}
use Rattle.core_state.specs.declared.seat.Seat.{Seat}
use Rattle.core_state.specs.Moves.{OthersStay}
use Rattle.core_state.specs.State.{CoreState, seat_of, nobody, is_past_moment}
use Rattle.session_shell.specs.declared.hub.Progress.{Progress}
use Rattle.session_shell.specs.declared.steps.Cut.{Cut}
use Rattle.session_shell.specs.declared.steps.Cut.TheVariants as cuts
use Rattle.session_shell.specs.Hubs.{progress_of, at_start, most_entries, most_entries_by}
use Rattle.session_shell.specs.Steps.{kind_of}
use Rattle.session_shell.specs.Turns.{Place, places_by}

-- two lists with the same at each place are one
pub same_by_get : {X : Type 0} (xs ys : List X) → ((k : ℕ) → slice_get xs k ≡ slice_get ys k) → xs ≡ ys
same_by_get [] [] h = refl
same_by_get [] (y ∷ ys) h = absurd (let e = h 0 in cc)
same_by_get (x ∷ xs) [] h = absurd (let e = h 0 in cc)
same_by_get (x ∷ xs) (y ∷ ys) h =
    let e : Some x ≡ Some y = h 0 in
    let here : x ≡ y = cc in
    ap (λ (first : _). first ∷ xs) here ∙ ap (λ (rest : _). y ∷ rest) (same_by_get xs ys (λ k. h (suc k)))

places_apart : (s t : ℕ) → 1 ≤ s → 1 ≤ t → t ≢ s → t - 1 ≢ s - 1
places_apart s t one one' apart e = apart (omega arith)

-- what is told of a session
pub told_here : (tolds : List Told) (s : ℕ) (told : Told) → 1 ≤ s → s ≤ length tolds → unwrap_or (nth (slice_set tolds (s - 1) told) s) untold ≡ told
told_here tolds s told one within = ap (λ (o : Option Told). unwrap_or o untold) (nth_set_same tolds s told one within)

pub told_there : (tolds : List Told) (s t : ℕ) (told : Told) → 1 ≤ s → 1 ≤ t → t ≢ s → unwrap_or (nth (slice_set tolds (s - 1) told) t) untold ≡ unwrap_or (nth tolds t) untold
told_there tolds s t told one one' apart = ap (λ (o : Option Told). unwrap_or o untold) (nth_set_other tolds s t told one apart)

-- what is told of a session stands at its place
pub told_at : (tolds : List Told) (s : ℕ) → 1 ≤ s → get_or tolds (s - 1) untold ≡ unwrap_or (nth tolds s) untold
told_at tolds s one = sym (unwrap_or-slice_get tolds (s - 1) untold) ∙ ap (λ (o : Option Told). unwrap_or o untold) (sym (nth_is tolds s one))

-- another session's seat
pub seat_there : (old new : CoreState) (s t : ℕ) → 1 ≤ s → 1 ≤ t → t ≢ s → OthersStay old s new → seat_of new t ≡ seat_of old t
seat_there old new s t one one' apart others =
    sym (unwrap_or-slice_get new.seats (t - 1) nobody)
    ∙ ap (λ (o : Option Seat). unwrap_or o nobody) (others.each (t - 1) (places_apart s t one one' apart))
    ∙ unwrap_or-slice_get old.seats (t - 1) nobody

seats_at : (old new : CoreState) (s k : ℕ) → 1 ≤ s → s ≤ length old.seats → OthersStay old s new → slice_get new.seats k ≡ slice_get (slice_set old.seats (s - 1) (seat_of new s)) k
seats_at old new s k one within others = elim (cases_eq k (s - 1)) [
  | inl same ↦
      ap (slice_get new.seats) same
      ∙ slice_get-get_or new.seats (s - 1) nobody (omega (arith, others.count))
      ∙ sym (get_set_same old.seats (s - 1) (seat_of new s) (omega arith))
      ∙ ap (slice_get (slice_set old.seats (s - 1) (seat_of new s))) (sym same)
  | inr other ↦ others.each k other ∙ sym (get_set_other old.seats (s - 1) k (seat_of new s) other)
]

-- the seats with one session's new one
pub seats_set : (old new : CoreState) (s : ℕ) → 1 ≤ s → s ≤ length old.seats → OthersStay old s new → new.seats ≡ slice_set old.seats (s - 1) (seat_of new s)
seats_set old new s one within others = same_by_get new.seats (slice_set old.seats (s - 1) (seat_of new s)) (λ k. seats_at old new s k one within others)

-- how far a session is
pub progress_here : (ps : List Progress) (s : ℕ) (p : Progress) → 1 ≤ s → s ≤ length ps → progress_of (slice_set ps (s - 1) p) s ≡ p
progress_here ps s p one within = get_or-set_same ps (s - 1) p at_start (omega arith)

pub progress_there : (ps : List Progress) (s t : ℕ) (p : Progress) → 1 ≤ s → 1 ≤ t → t ≢ s → progress_of (slice_set ps (s - 1) p) t ≡ progress_of ps t
progress_there ps s t p one one' apart = get_or-set_other ps (s - 1) (t - 1) p at_start (places_apart s t one one' apart)

-- where a session is
pub place_is : (tolds : List Told) (seats : List Seat) (i : ℕ) → i < length tolds → i < length seats → slice_index_or (places_by tolds seats) i (record { begun = 0; under_way = false }) ≡ record { begun = (unwrap_or (slice_get tolds i) untold).begun; under_way = is_past_moment (slice_index_or seats i nobody).job }
place_is [] seats i h k = absurd (omega arith)
place_is (told ∷ tolds) [] i h k = absurd (omega arith)
place_is (told ∷ tolds) (seat ∷ seats) zero h k = refl
place_is (told ∷ tolds) (seat ∷ seats) (suc i) h k = place_is tolds seats i (omega (arith, h)) (omega (arith, k))

-- the places with one session's new one
pub places_set : (tolds : List Told) (seats : List Seat) (i : ℕ) (told : Told) (seat : Seat) → places_by (slice_set tolds i told) (slice_set seats i seat) ≡ slice_set (places_by tolds seats) i (record { begun = told.begun; under_way = is_past_moment seat.job })
places_set [] seats i told seat = refl
places_set (t ∷ tolds) [] zero told seat = refl
places_set (t ∷ tolds) [] (suc i) told seat = refl
places_set (t ∷ tolds) (x ∷ seats) zero told seat = refl
places_set (t ∷ tolds) (x ∷ seats) (suc i) told seat = ap (λ (rest : List Place). (record { begun = t.begun; under_way = is_past_moment x.job }) ∷ rest) (places_set tolds seats i told seat)

-- how many entries a command has
most_by : (begun : ℕ) (kind : Option Kind) → most_entries_by begun kind ≤ 2 * begun
most_by begun None = omega arith
most_by begun (Some kinds.Run) = omega arith
most_by begun (Some kinds.End) = omega arith
most_by begun (Some kinds.NoValueId) = omega arith
most_by begun (Some kinds.Memory) = omega arith

least_by : (begun : ℕ) (kind : Kind) → 2 * begun - 1 ≤ most_entries_by begun (Some kind)
least_by begun kinds.Run = omega arith
least_by begun kinds.End = omega arith
least_by begun kinds.NoValueId = omega arith
least_by begun kinds.Memory = omega arith

most_short : (begun : ℕ) (cut : Cut) → most_entries_by begun (Some (kind_of cut)) ≡ 2 * begun
most_short begun cuts.NoValueId = refl
most_short begun cuts.Memory = refl

-- a first entry is one of those that the next command may have
pub one_first : (tolds : List Told) (s n : ℕ) (told : Told) (kind : Kind) → 1 ≤ s → s ≤ length tolds → n ≡ (unwrap_or (nth tolds s) untold).begun + 1 → told.begun ≡ n → told.last ≡ Some kind → sum_by most_entries tolds + 1 ≤ sum_by most_entries (slice_set tolds (s - 1) told)
one_first tolds s n told kind one within next begun last =
    let set = sum_by-set most_entries tolds (s - 1) told untold (omega arith) in
    let here : get_or tolds (s - 1) untold ≡ unwrap_or (nth tolds s) untold = told_at tolds s one in
    let old : most_entries (get_or tolds (s - 1) untold) ≤ 2 * (get_or tolds (s - 1) untold).begun = most_by (get_or tolds (s - 1) untold).begun (get_or tolds (s - 1) untold).last in
    let same : (get_or tolds (s - 1) untold).begun ≡ (unwrap_or (nth tolds s) untold).begun = ap (λ (t : Told). t.begun) here in
    let new : 2 * told.begun - 1 ≤ most_entries told = subst (λ (k : Option Kind). 2 * told.begun - 1 ≤ most_entries_by told.begun k) (sym last) (least_by told.begun kind) in
    omega (arith, set, old, same, new, next, begun)

-- a second entry is one of those that the command may have
pub one_second : (tolds : List Told) (s : ℕ) (told : Told) (cut : Cut) → 1 ≤ s → s ≤ length tolds → told.begun ≡ (unwrap_or (nth tolds s) untold).begun → 1 ≤ told.begun → (unwrap_or (nth tolds s) untold).last ≡ Some kinds.Run → told.last ≡ Some (kind_of cut) → sum_by most_entries tolds + 1 ≤ sum_by most_entries (slice_set tolds (s - 1) told)
one_second tolds s told cut one within begun positive was last =
    let set = sum_by-set most_entries tolds (s - 1) told untold (omega arith) in
    let here : get_or tolds (s - 1) untold ≡ unwrap_or (nth tolds s) untold = told_at tolds s one in
    let old : most_entries (get_or tolds (s - 1) untold) ≡ 2 * told.begun - 1 =
    ap most_entries here ∙ ap (λ (k : Option Kind). most_entries_by (unwrap_or (nth tolds s) untold).begun k) was ∙ ap (λ (b : ℕ). 2 * b - 1) (sym begun) in
    let new : most_entries told ≡ 2 * told.begun = ap (λ (k : Option Kind). most_entries_by told.begun k) last ∙ most_short told.begun cut in
    omega (arith, set, old, new, positive)

-- sessions have at most two entries for each of their commands
pub all_entries : (tolds : List Told) (sessions : List (List Command)) → length tolds ≡ length sessions → ((i : ℕ) → i < length tolds → (unwrap_or (slice_get tolds i) untold).begun ≤ length (unwrap_or (slice_get sessions i) [])) → sum_by most_entries tolds ≤ 2 * sum_by length sessions
all_entries [] [] e each = omega arith
all_entries [] (session ∷ sessions) e each = absurd (omega arith)
all_entries (told ∷ tolds) [] e each = absurd (omega arith)
all_entries (told ∷ tolds) (session ∷ sessions) e each =
    let rest = all_entries tolds sessions (omega arith) (λ i h. each (suc i) (omega arith)) in
    let here : told.begun ≤ length session = each 0 (omega arith) in
    let most = most_by told.begun told.last in
    let a = sum_by-cons most_entries told tolds in
    let b = sum_by-cons length session sessions in
    omega (arith, rest, here, most, a, b)

-- as many places as sessions
pub length-places : (tolds : List Told) (seats : List Seat) → length tolds ≡ length seats → length (places_by tolds seats) ≡ length tolds
length-places [] seats e = refl
length-places (told ∷ tolds) [] e = absurd (omega arith)
length-places (told ∷ tolds) (seat ∷ seats) e = ap (λ n. suc n) (length-places tolds seats (omega arith))
