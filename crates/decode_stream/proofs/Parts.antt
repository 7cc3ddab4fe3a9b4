-- What a worker knows of the whole log, and what the parts of all workers tell of it.
use Rattle.std.proofs.Common.{◌≡◌, ◌≤◌, ◌<◌, ◌%◌, inl, inr, ℕ, ◌+◌, Bool, true, false, cond, eqb, nat_eq, nat_lt, List, [], ◌∷◌, ◌++◌, Option, Some, None, Result, Ok, Err, IfSome, IfOk, OnOk, MatchBool, ◌^◌, IsSome, length, take, drop, filter, slice_get, slice_index_or, refl, sym, ap, subst, ◌∙◌, eq-eqb, true≢false, arith, zero, suc}
use Rattle.std.specs.List.{cons_option}
use Rattle.std.proofs.lemmas.Bool.{eqb-true, ne_eqb, ltb-true, ltb-false}
use Rattle.std.proofs.lemmas.Option.{slice_get_within}
use Rattle.std.proofs.lemmas.Bool.Decides.{eqb_tells}
use Rattle.std.proofs.lemmas.List.{append-nil}
use Rattle.std.proofs.lemmas.List.Elements.{filter-append}
use Rattle.stream_wire.specs.declared.message.Message.{Message}
use Rattle.change_log.specs.declared.entry.LogEntry.{LogEntry}
use Rattle.decode_stream.specs.declared.fault.DecodeFault.{DecodeFault}
use Rattle.decode_stream.specs.declared.fault.DecodeFault.TheVariants.{ChunkOrder, SizeOf, Memory}
use Rattle.decode_stream.specs.Decoding.{TransactionState, Found, with_fronts, xid_of, is_end, behind_last, open_entries, gathered, fault_of, committed, fault_at, commit_at, first_fault, commits, numbered}
use Rattle.decode_stream.specs.States.{OpenList, AreOpen, Fits, IsDecodable, found_of, open_at, next_of}
use Rattle.decode_stream.specs.Steps.{Tells}
use Rattle.decode_stream.proofs.Opens.{found_is}
use Rattle.decode_stream.specs.Parts.{Told, ToldList, IsTold, IsPart, ArePartsFrom, AreGiven, Works, told_at, worker_at, is_own}
use Rattle.decode_stream.proofs.Lists.{take_found}
use Rattle.decode_stream.proofs.Firsts.{fault_next, commits_more, nothing_open}
use Rattle.decode_stream.proofs.Wholes.{count_within, fault_lasts, none_before, numbered_more, some_none}

-- a filter that passes all that another does, before it
filtered_twice : {X : Type 0} (p q : X → Bool) → ((x : X) → q x ≡ true → p x ≡ true) → (xs : List X) → filter q (filter p xs) ≡ filter q xs
filtered_twice p q h [] = refl
filtered_twice {X} p q h (x ∷ xs) = by (p x) (q x) refl refl (filtered_twice p q h xs)
  where
    by : (a b : Bool) → p x ≡ a → q x ≡ b → filter q (filter p xs) ≡ filter q xs → filter q (cond a (x ∷ filter p xs) (filter p xs)) ≡ cond (q x) (x ∷ filter q xs) (filter q xs)
    by true b e f rest = λ i. cond (q x) (x ∷ rest i) (rest i)
    by false true e f rest = absurd (true≢false (sym (h x f) ∙ e))
    by false false e f rest = rest ∙ ap (λ (b : Bool). cond b (x ∷ filter q xs) (filter q xs)) (sym f)

module _ (workers worker : ℕ) where
  -- entries of one xid have one worker
  one_worker : (e y : LogEntry) → is_own workers worker e ≡ true → eqb (xid_of y) (xid_of e) ≡ true → is_own workers worker y ≡ true
  one_worker e y own same = ap (λ (x : ℕ). eqb (x % workers) worker) (eqb-true (xid_of y) (xid_of e) same) ∙ own

  module _ (log : List LogEntry) (e : LogEntry) (own : is_own workers worker e ≡ true) where
    own_entries : open_entries (xid_of e) (filter (is_own workers worker) log) ≡ open_entries (xid_of e) log
    unfolding open_entries
    own_entries = ap (behind_last is_end) (filtered_twice (is_own workers worker) (λ entry. eqb (xid_of entry) (xid_of e)) (λ y same. one_worker e y own same) log)

    -- what the worker's entries tell is what the log's do
    pub own_fault : fault_at (filter (is_own workers worker) log, e) ≡ fault_at (log, e)
    own_fault = ap (λ (l : List LogEntry). fault_of (gathered l) e) own_entries

    own_commit : commit_at (filter (is_own workers worker) log, e) ≡ commit_at (log, e)
    own_commit = ap (λ (l : List LogEntry). committed l e) own_entries

    pub own_gathered : (t v : ℕ) → gathered (open_entries (xid_of e) (filter (is_own workers worker) log)) t v ≡ gathered (open_entries (xid_of e) log) t v
    own_gathered t v = ap (λ (l : List LogEntry). gathered l t v) own_entries

    told_own : (told : Option Told) → IsTold told (filter (is_own workers worker) log, e) → IsTold told (log, e)
    told_own None h = (sym own_fault ∙ h.0, sym own_commit ∙ h.1)
    told_own (Some (Ok changes)) h = (sym own_fault ∙ h.0, sym own_commit ∙ h.1, h.2)
    told_own (Some (Err fault)) h = sym own_fault ∙ h

-- the part up to a place begins the part up to a later one
shorter : {X : Type 0} (k m : ℕ) (xs : List X) → k ≤ m → take k xs ++ drop k (take m xs) ≡ take m xs
shorter zero m xs low = refl
shorter (suc k) zero xs low = absurd (omega (arith, low))
shorter (suc k) (suc m) [] low = refl
shorter {X} (suc k) (suc m) (x ∷ xs) low = ap (λ (rest : List X). x ∷ rest) (shorter k m xs (omega (arith, low)))

module _ (log : List LogEntry) where
  -- what has no fault has none in its parts
  none_within : (k m : ℕ) → k ≤ m → first_fault (take m log) ≡ None → first_fault (take k log) ≡ None
  none_within k m low none = by (first_fault (take k log)) refl
    where
      by : (o : Option DecodeFault) → first_fault (take k log) ≡ o → o ≡ None
      by None e = refl
      by (Some f) e = absurd (some_none f (sym (fault_lasts (take k log) (drop k (take m log)) f e) ∙ ap first_fault (shorter k m log low) ∙ none))

  -- behind a fault there is none without
  no_more : (n m : ℕ) (e : LogEntry) → slice_get log n ≡ Some e → IsSome (fault_at (take n log, e)) → n < m → first_fault (take m log) ≡ None → ⊥
  no_more n m e at some low none =
      let here : first_fault (take n log ++ e ∷ []) ≡ None = ap first_fault (sym (take_found log n e (sym at))) ∙ none_within (n + 1) m (omega (arith, low)) none in
      let told : fault_at (take n log, e) ≡ None = sym (fault_next (take n log) e (none_before (take n log) e here)) ∙ here in
      clash (fault_at (take n log, e)) some told
    where
      clash : (o : Option DecodeFault) → IsSome o → o ≡ None → ⊥
      clash None s h = cc
      clash (Some f) s h = cc

-- two look-ups at one place find one item
same_found : {X : Type 0} (xs : List X) (n : ℕ) (x y : X) → slice_get xs n ≡ Some x → slice_get xs n ≡ Some y → x ≡ y
same_found xs n x y e f = cc

module _ (workers worker : ℕ) (log : List LogEntry) (n : ℕ) (e : LogEntry) (at : slice_get log n ≡ Some e) where
  -- an entry of another worker
  pub works_past : (table : OpenList) (told : ToldList) → is_own workers worker e ≡ false → Works log workers worker n table told → Works log workers worker (n + 1) table told
  works_past table told other works = record {
    open_ones = subst (AreOpen table) (sym taken) works.open_ones;
    so_far = λ m x low here none own. elim (eqb_tells n m) [
      | inl h ↦ absurd (true≢false (sym own ∙ ap (is_own workers worker) (same_found log m x e here (subst (λ (k : ℕ). slice_get log k ≡ Some e) h.1 at)) ∙ other))
      | inr h ↦ works.so_far m x (omega (arith, low, h.1)) here none own
    ];
    free = λ m low. works.free m (omega (arith, low));
  }
    where
      taken : filter (is_own workers worker) (take (n + 1) log) ≡ filter (is_own workers worker) (take n log)
      taken =
          ap (filter (is_own workers worker)) (take_found log n e (sym at))
          ∙ filter-append (is_own workers worker) (take n log) (e ∷ [])
          ∙ ap (λ (b : Bool). filter (is_own workers worker) (take n log) ++ cond b (e ∷ []) []) other
          ∙ append-nil (filter (is_own workers worker) (take n log))

  module _ (old : OpenList) (before after : ToldList) (own : is_own workers worker e ≡ true) (works : Works log workers worker n old before)
      (others : (q : ℕ) → nat_eq n q ≡ false → told_at after q ≡ told_at before q)
      (here : IsTold (told_at after n) (filter (is_own workers worker) (take n log), e)) where
    -- what is told up to the entry
    told_up_to : (m : ℕ) (x : LogEntry) → m < n + 1 → slice_get log m ≡ Some x → first_fault (take m log) ≡ None → is_own workers worker x ≡ true → IsTold (told_at after m) (take m log, x)
    told_up_to m x low found none mine = elim (eqb_tells n m) [
      | inl h ↦ subst (λ (k : ℕ). IsTold (told_at after k) (take k log, x)) h.1
          (subst (λ (y : LogEntry). IsTold (told_at after n) (take n log, y)) (same_found log n e x at (subst (λ (k : ℕ). slice_get log k ≡ Some x) (sym h.1) found))
          (told_own workers worker (take n log) e own (told_at after n) here))
      | inr h ↦ subst (λ (t : Option Told). IsTold t (take m log, x)) (sym (others m h.0)) (works.so_far m x (omega (arith, low, h.1)) found none mine)
    ]

    -- an entry of the worker without a fault
    pub works_own : (table : OpenList) → AreOpen table (filter (is_own workers worker) (take n log) ++ e ∷ []) → Works log workers worker (n + 1) table after
    works_own table are = record {
      open_ones = subst (AreOpen table) (sym taken) are;
      so_far = told_up_to;
      free = λ m low. others m (ne_eqb n m (λ h. omega (arith, low, h))) ∙ works.free m (omega (arith, low));
    }
      where
        taken : filter (is_own workers worker) (take (n + 1) log) ≡ filter (is_own workers worker) (take n log) ++ e ∷ []
        taken =
            ap (filter (is_own workers worker)) (take_found log n e (sym at))
            ∙ filter-append (is_own workers worker) (take n log) (e ∷ [])
            ∙ ap (λ (b : Bool). filter (is_own workers worker) (take n log) ++ cond b (e ∷ []) []) own

    -- an entry of the worker with a fault: there is no entry behind it that counts
    pub works_stop : IsSome (fault_at (filter (is_own workers worker) (take n log), e)) → IsPart log workers worker after
    works_stop faulty m x low found none mine = by (nat_lt m (n + 1)) refl
      where
        by : (b : Bool) → nat_lt m (n + 1) ≡ b → IsTold (told_at after m) (take m log, x)
        by true h = told_up_to m x (ltb-true m (n + 1) h) found none mine
        by false h = absurd (no_more log n m e at (subst IsSome (own_fault workers worker (take n log) e own) faulty) (omega (arith, ltb-false m (n + 1) h)) none)

-- what a visit of an own entry comes to
pub visit_told : {E : Type 0} (r : Result Bool E) (workers worker n : ℕ) (e : LogEntry) (old new : OpenList) (before after : ToldList) → is_own workers worker e ≡ true
    → OnOk r ((log : List LogEntry) → AreOpen old log → IsTold (told_at after n) (log, e))
    → OnOk r ((q : ℕ) → nat_eq n q ≡ false → told_at after q ≡ told_at before q)
    → IfOk r (λ goes. goes ≡ true → (log : List LogEntry) → AreOpen old log → AreOpen new (log ++ e ∷ []))
    → IfOk r (λ goes. goes ≡ false → (log : List LogEntry) → AreOpen old log → IsSome (fault_at (log, e)))
    → IfOk r (λ goes. (log : List LogEntry) → slice_get log n ≡ Some e → Works log workers worker n old before → MatchBool goes (Works log workers worker (n + 1) new after) (IsPart log workers worker after))
visit_told (Ok true) workers worker n e old new before after own told others goes stops = λ log at works. works_own workers worker log n e at old before after own works others (told _ works.open_ones) new (goes refl _ works.open_ones)
visit_told (Ok false) workers worker n e old new before after own told others goes stops = λ log at works. works_stop workers worker log n e at old before after own works others (told _ works.open_ones) (stops refl _ works.open_ones)
visit_told (Err f) workers worker n e old new before after own told others goes stops = tt

-- an own entry that can be decoded after the log's part can be decoded by the worker
pub fits_own : (workers worker : ℕ) (log part rest : List LogEntry) (e : LogEntry) (table : OpenList) → IsDecodable log → log ≡ part ++ e ∷ rest → is_own workers worker e ≡ true → AreOpen table (filter (is_own workers worker) part) → Fits (found_of (open_at table (xid_of e))) e
fits_own workers worker log part rest e table can is own are =
    subst (λ (found : Found). Fits found e)
    (λ i t v. sym (found_is (filter (is_own workers worker) part) e table are t v ∙ own_gathered workers worker part e own t v) i)
    (can.fits part e rest is)

-- a worker that has come to the end, and one that begins
pub works_done : (workers worker n : ℕ) (log : List LogEntry) (table : OpenList) (told : ToldList) → length log ≤ n → Works log workers worker n table told → IsPart log workers worker told
works_done workers worker n log table told end works m e low at none own = works.so_far m e (omega (arith, end, slice_get_within log m e at)) at none own

pub works_start : (workers worker : ℕ) (log : List LogEntry) (table : OpenList) (told : ToldList) → table ≡ [] → told ≡ [] → Works log workers worker 0 table told
works_start workers worker log table told none empty = record {
  open_ones = nothing_open table none;
  so_far = λ m e low at sound own. absurd (omega (arith, low));
  free = λ m low. ap (λ (t : ToldList). told_at t m) empty;
}

-- the parts from the next place on
pub parts_next : (n workers : ℕ) (log : List LogEntry) (old new : List ToldList) → ((w : ℕ) (d : ToldList) (q : ℕ) → nat_eq n q ≡ false → told_at (slice_index_or new w d) q ≡ told_at (slice_index_or old w d) q) → ArePartsFrom n log workers old → ArePartsFrom (n + 1) log workers new
parts_next n workers log old new others parts w d low m e later at none own =
    subst (λ (t : Option Told). IsTold t (take m log, e)) (sym (others w d m (ne_eqb n m (λ h. omega (arith, later, h))))) (parts w d low m e (omega (arith, later)) at none own)

-- what the parts tell of the entry at a place
pub told_here : (n workers : ℕ) (log : List LogEntry) (parts : List ToldList) (e : LogEntry) (told : Option Told) → worker_at workers e < workers → ((d : ToldList) → told ≡ told_at (slice_index_or parts (worker_at workers e) d) n) → ArePartsFrom n log workers parts → slice_get log n ≡ Some e
    → first_fault (take n log) ≡ None → IsTold told (take n log, e)
told_here n workers log parts e told low is all at none = subst (λ (t : Option Told). IsTold t (take n log, e)) (sym (is [])) (all (worker_at workers e) [] low n e (omega arith) at none (eq-eqb (worker_at workers e) (worker_at workers e) refl))

-- changes that are told can be sent
pub told_given : (told : Option Told) (p : List LogEntry × LogEntry) → IsTold told p → IfSome told (λ t. IfOk t AreGiven)
told_given None p h = tt
told_given (Some (Ok changes)) p h = h.2
told_given (Some (Err fault)) p h = tt

length-numbered : (n : ℕ) (all : List (List Message)) → length (numbered n all) ≡ length all
length-numbered n [] = refl
length-numbered n (changes ∷ all) = ap (λ (k : ℕ). suc k) (length-numbered (n + 1) all)

-- the transactions of a log with an entry more that has no fault
pub sent_more : (log : List LogEntry) (e : LogEntry) (o : Option (List Message)) (before after : List TransactionState) → first_fault log ≡ None → fault_at (log, e) ≡ None → commit_at (log, e) ≡ o → before ≡ numbered 1 (commits log)
    → after ≡ before ++ cons_option (next_of (length before) o) [] → after ≡ numbered 1 (commits (log ++ e ∷ []))
sent_more log e o before after none here commit is more =
    more
    ∙ ap (λ (p : Option (List Message)). before ++ cons_option (next_of (length before) p) []) (sym commit)
    ∙ (λ i. is i ++ cons_option (next_of (length (is i)) (commit_at (log, e))) [])
    ∙ ap (λ (k : ℕ). numbered 1 (commits log) ++ cons_option (next_of k (commit_at (log, e))) []) (length-numbered 1 (commits log))
    ∙ sym (numbered_more (commits log) (commit_at (log, e)))
    ∙ ap (numbered 1) (sym (commits_more log e none here))

pub sound_more : (log : List LogEntry) (e : LogEntry) → first_fault log ≡ None → fault_at (log, e) ≡ None → first_fault (log ++ e ∷ []) ≡ None
sound_more log e none here = fault_next log e none ∙ here

pub nothing_told : (first_fault [] ≡ None) × ([] ≡ numbered 1 (commits []))
unfolding first_fault commits with_fronts
nothing_told = (refl, refl)

pub tells_some : (X : Type 0) (f : DecodeFault) (o : Option DecodeFault) → o ≡ Some f → Tells {X = X} o (Err f)
tells_some X (ChunkOrder got wanted) o e = e
tells_some X (SizeOf got wanted) o e = e
tells_some X Memory o e = tt

-- there is a number for the next transaction
pub room_next : (log part rest : List LogEntry) (sent : List TransactionState) → IsDecodable log → log ≡ part ++ rest → sent ≡ numbered 1 (commits part) → length sent + 1 < 2 ^ 32
room_next log part rest sent can is same = omega (arith, can.count, count_within part rest, ap (λ (l : List LogEntry). length (commits l)) is, ap length same, length-numbered 1 (commits part))

-- the parts of results are those that the workers decode
pub parts_whole : {E : Type 0} (log : List LogEntry) (workers : ℕ) (results : List (Result ToldList E)) (all : List ToldList)
    → ((w : ℕ) (d : Result ToldList E) → w < workers → IfOk (slice_index_or results w d) (λ part. IsPart log workers w part))
    → ((w : ℕ) (d : Result ToldList E) (f : ToldList) → w < workers → slice_index_or results w d ≡ Ok (slice_index_or all w f))
    → ArePartsFrom 0 log workers all
parts_whole {E} log workers results all each same w d low = subst (λ (r : Result ToldList E). IfOk r (λ part. IsPart log workers w part)) (same w (Ok []) d low) (each w (Ok []) low)
