-- What one entry more makes of what is known of a log.
use Rattle.std.proofs.Common.{append_assoc, ◌≡◌, ◌≤◌, ◌<◌, ◌^◌, ◌⊎◌, inl, inr, ℕ, ◌+◌, Bool, true, false, cond, ◌==◌, List, [], ◌∷◌, ◌++◌, Option, Some, None, length, filter_map, is_none, refl, sym, ap, subst, ◌∙◌, arith}
use Rattle.std.specs.List.{All, cons_option}
use Rattle.std.specs.Option.{option_or}
use Rattle.std.proofs.lemmas.Bool.{eqb-true}
use Rattle.std.proofs.lemmas.List.{append-nil, length-append}
use Rattle.std.proofs.lemmas.List.Elements.{All-cons, All-head, All-nil, All-tail}
use Rattle.tuple_layout.specs.declared.cell.Cell.{Cell}
use Rattle.change_log.specs.declared.entry.LogEntry.{LogEntry}
use Rattle.change_log.specs.declared.entry.LogEntry.TheVariants.{Chunk, Insert, Update, Delete, Commit, Abort}
use Rattle.stream_wire.specs.declared.message.Message.{Message}
use Rattle.stream_wire.specs.declared.message.Message.TheVariants as messages
use Rattle.decode_stream.specs.declared.fault.DecodeFault.{DecodeFault}
use Rattle.decode_stream.specs.Decoding.{Found, xid_of, is_end, is_change, behind_last, open_entries, gathered, change_of, changes_of, cell_fault, first, fault_at, commit_at, first_fault, commits, with_fronts}
use Rattle.decode_stream.specs.States.{DecoderState, Fits, IsDecodable, found_of, open_at}
use Rattle.decode_stream.specs.Growing.{BeginsWith, FitsAfter, FitsFed, none_found, no_progress, own_entries, progress_after, progress_of, row_fault, update_of, with_change, with_chunk, with_fault}
use Rattle.decode_stream.specs.Laws.{DecodableGrows, FaultIsOfACell, FrontsStay, GrowsByEntries, OpenEntries}
use Rattle.decode_stream.proofs.Columns.{none_first, none_later}
use Rattle.decode_stream.proofs.Firsts.{commits_after, commits_more, commits_stay, fault_next, fault_stays}
use Rattle.decode_stream.proofs.Lists.{behind_last-push}
use Rattle.decode_stream.proofs.Opens.{changes_of-push, found_is, gathered-change, gathered-chunk, open_entries-push, open_none}
use Rattle.decode_stream.proofs.Wholes.{count_within, fault_lasts}

-- what is told of the open entries of each xid
module _ {X : Type 0} (tell : List LogEntry → X) (log : List LogEntry) (e : LogEntry) (q : ℕ) where
  -- one xid has an entry more
  own_more : is_end e ≡ false → tell (open_entries q (log ++ e ∷ [])) ≡ cond (xid_of e == q) (tell (open_entries (xid_of e) log ++ e ∷ [])) (tell (open_entries q log))
  own_more inside = ap tell (open_entries-push q log e) ∙ by (xid_of e == q) refl
    where
      by : (b : Bool) → (xid_of e == q) ≡ b → tell (cond b (cond (is_end e) [] (open_entries q log ++ e ∷ [])) (open_entries q log)) ≡ cond b (tell (open_entries (xid_of e) log ++ e ∷ [])) (tell (open_entries q log))
      by true h = ap (λ (t : Bool). tell (cond t [] (open_entries q log ++ e ∷ []))) inside ∙ ap (λ (x : ℕ). tell (open_entries x log ++ e ∷ [])) (sym (eqb-true (xid_of e) q h))
      by false h = refl

  -- which changes nothing of what is told
  own_same : is_end e ≡ false → ((own : List LogEntry) → tell (own ++ e ∷ []) ≡ tell own) → tell (open_entries q (log ++ e ∷ [])) ≡ tell (open_entries q log)
  own_same inside same = ap tell (open_entries-push q log e) ∙ by (xid_of e == q)
    where
      by : (b : Bool) → tell (cond b (cond (is_end e) [] (open_entries q log ++ e ∷ [])) (open_entries q log)) ≡ tell (open_entries q log)
      by true = ap (λ (t : Bool). tell (cond t [] (open_entries q log ++ e ∷ []))) inside ∙ same (open_entries q log)
      by false = refl

  -- or has ended
  own_end : is_end e ≡ true → tell (open_entries q (log ++ e ∷ [])) ≡ cond (xid_of e == q) (tell []) (tell (open_entries q log))
  own_end end = ap tell (open_entries-push q log e) ∙ by (xid_of e == q)
    where
      by : (b : Bool) → tell (cond b (cond (is_end e) [] (open_entries q log ++ e ∷ [])) (open_entries q log)) ≡ cond b (tell []) (tell (open_entries q log))
      by true = ap (λ (t : Bool). tell (cond t [] (open_entries q log ++ e ∷ []))) end
      by false = refl

-- no fault more
or_none : (o : Option DecodeFault) → option_or o None ≡ o
or_none None = refl
or_none (Some f) = refl

module _ (log : List LogEntry) (e : LogEntry) where
  fault_more : first_fault (log ++ e ∷ []) ≡ option_or (first_fault log) (fault_at (log, e))
  fault_more = by (first_fault log) refl
    where
      by : (o : Option DecodeFault) → first_fault log ≡ o → first_fault (log ++ e ∷ []) ≡ option_or o (fault_at (log, e))
      by None is = fault_next log e is
      by (Some f) is = fault_stays log e f is

  sent_same : commit_at (log, e) ≡ None → commits (log ++ e ∷ []) ≡ commits log
  sent_same none = by (first_fault log) (fault_at (log, e)) refl refl
    where
      by : (o p : Option DecodeFault) → first_fault log ≡ o → fault_at (log, e) ≡ p → commits (log ++ e ∷ []) ≡ commits log
      by (Some f) p is here = commits_after log e f is
      by None (Some f) is here = commits_stay log e f is here
      by None None is here = commits_more log e is here ∙ ap (λ (o : Option (List Message)). commits log ++ cons_option o []) none ∙ append-nil (commits log)

  sent_more : fault_at (log, e) ≡ None → commits (log ++ e ∷ []) ≡ cond (is_none (first_fault log)) (commits log ++ cons_option (commit_at (log, e)) []) (commits log)
  sent_more here = by (first_fault log) refl
    where
      by : (o : Option DecodeFault) → first_fault log ≡ o → commits (log ++ e ∷ []) ≡ cond (is_none o) (commits log ++ cons_option (commit_at (log, e)) []) (commits log)
      by None is = commits_more log e is here
      by (Some f) is = commits_after log e f is

  -- a change of a row
  changed : (m : Message) → is_end e ≡ false → is_change e ≡ true → commit_at (log, e) ≡ None → change_of (gathered (open_entries (xid_of e) log)) e ≡ Some m
      → progress_of (log ++ e ∷ []) ≡ with_fault (fault_at (log, e)) (with_change (xid_of e) m (progress_of log))
  changed m inside change none is = λ i. record {
    changes = λ q. changes q i;
    values = λ q. values q i;
    sent = sent_same none i;
    fault = fault_more i;
  }
    where
      changes : (q : ℕ) → changes_of (open_entries q (log ++ e ∷ [])) ≡ cond (xid_of e == q) (changes_of (open_entries (xid_of e) log) ++ m ∷ []) (changes_of (open_entries q log))
      changes q =
          own_more changes_of log e q inside
          ∙ ap (λ (x : List Message). cond (xid_of e == q) x (changes_of (open_entries q log)))
          (changes_of-push (open_entries (xid_of e) log) e ∙ ap (λ (o : Option Message). changes_of (open_entries (xid_of e) log) ++ cons_option o []) is)

      values : (q : ℕ) → gathered (open_entries q (log ++ e ∷ [])) ≡ cond (xid_of e == q) none_found (gathered (open_entries q log))
      values q =
          own_more gathered log e q inside
          ∙ ap (λ (x : Found). cond (xid_of e == q) x (gathered (open_entries q log))) (λ i table value_id. gathered-change (open_entries (xid_of e) log) e change table value_id i)

  -- an end
  changes_end : is_end e ≡ true → (q : ℕ) → changes_of (open_entries q (log ++ e ∷ [])) ≡ cond (xid_of e == q) [] (changes_of (open_entries q log))
  changes_end end q = own_end changes_of log e q end ∙ ap (λ (x : List Message). cond (xid_of e == q) x (changes_of (open_entries q log))) (sym open_none.changes)

  values_end : is_end e ≡ true → (q : ℕ) → gathered (open_entries q (log ++ e ∷ [])) ≡ cond (xid_of e == q) none_found (gathered (open_entries q log))
  values_end end q = own_end gathered log e q end ∙ ap (λ (x : Found). cond (xid_of e == q) x (gathered (open_entries q log))) (λ i table value_id. sym (open_none.values table value_id) i)

  -- what has no fault to add
  fault_same : fault_at (log, e) ≡ None → first_fault (log ++ e ∷ []) ≡ first_fault log
  fault_same none = fault_more ∙ ap (λ (o : Option DecodeFault). option_or (first_fault log) o) none ∙ or_none (first_fault log)

-- a chunk
module _ (log : List LogEntry) (xid table value_id seq : ℕ) (bytes : List ℕ) where
  chunk_changes : (q : ℕ) → changes_of (open_entries q (log ++ Chunk xid table value_id seq bytes ∷ [])) ≡ changes_of (open_entries q log)
  chunk_changes q = own_same changes_of log (Chunk xid table value_id seq bytes) q refl (λ own. changes_of-push own (Chunk xid table value_id seq bytes) ∙ append-nil (changes_of own))

  chunk_values : (q : ℕ) → gathered (open_entries q (log ++ Chunk xid table value_id seq bytes ∷ [])) ≡ cond (xid == q) (with_chunk table value_id bytes (gathered (open_entries xid log))) (gathered (open_entries q log))
  chunk_values q =
      own_more gathered log (Chunk xid table value_id seq bytes) q refl
      ∙ ap (λ (x : Found). cond (xid == q) x (gathered (open_entries q log))) (λ i t v. gathered-chunk (open_entries xid log) xid table value_id seq bytes t v i)

progress-push : (log : List LogEntry) (e : LogEntry) → progress_of (log ++ e ∷ []) ≡ progress_after (progress_of log) e
progress-push log (Chunk xid table value_id seq bytes) = λ i. record {
  changes = λ q. chunk_changes log xid table value_id seq bytes q i;
  values = λ q. chunk_values log xid table value_id seq bytes q i;
  sent = sent_same log (Chunk xid table value_id seq bytes) refl i;
  fault = fault_more log (Chunk xid table value_id seq bytes) i;
}
progress-push log (Insert xid table key row) = changed log (Insert xid table key row) _ refl refl refl refl
progress-push log (Update xid table from to row) = changed log (Update xid table from to row) (update_of (gathered (open_entries xid log)) table from to row) refl refl refl refl
progress-push log (Delete xid table key) =
    changed log (Delete xid table key) (messages.Delete table key) refl refl refl refl
    ∙ (λ i. record (with_change xid (messages.Delete table key) (progress_of log)) { fault = or_none (first_fault log) i })
progress-push log (Commit xid) = λ i. record {
  changes = λ q. changes_end log (Commit xid) refl q i;
  values = λ q. values_end log (Commit xid) refl q i;
  sent = sent_more log (Commit xid) refl i;
  fault = fault_same log (Commit xid) refl i;
}
progress-push log (Abort xid) = λ i. record {
  changes = λ q. changes_end log (Abort xid) refl q i;
  values = λ q. values_end log (Abort xid) refl q i;
  sent = sent_same log (Abort xid) refl i;
  fault = fault_same log (Abort xid) refl i;
}

nothing_known : progress_of [] ≡ no_progress
unfolding open_entries behind_last first_fault commits with_fronts
nothing_known = λ i. record { changes = λ q. sym open_none.changes i; values = λ q table value_id. sym (open_none.values table value_id) i; sent = []; fault = None }

pub grows_by_entries : GrowsByEntries
grows_by_entries = record { none = nothing_known; more = progress-push }

-- ---- fronts

sent_grows : (log : List LogEntry) (e : LogEntry) → BeginsWith (commits (log ++ e ∷ [])) (commits log)
sent_grows log e = by (first_fault log) (fault_at (log, e)) refl refl
  where
    by : (o p : Option DecodeFault) → first_fault log ≡ o → fault_at (log, e) ≡ p → BeginsWith (commits (log ++ e ∷ [])) (commits log)
    by (Some f) p is here = ([], commits_after log e f is ∙ sym (append-nil (commits log)))
    by None (Some f) is here = ([], commits_stay log e f is here ∙ sym (append-nil (commits log)))
    by None None is here = (cons_option (commit_at (log, e)) [], commits_more log e is here)

begins_on : {X : Type 0} (xs ys zs : List X) → BeginsWith ys xs → BeginsWith zs ys → BeginsWith zs xs
begins_on {X} xs ys zs h g = (h.0 ++ g.0, g.1 ∙ ap (λ (l : List X). l ++ g.0) h.1 ∙ append_assoc xs h.0 g.0)

sent_begins : (log rest : List LogEntry) → BeginsWith (commits (log ++ rest)) (commits log)
sent_begins log [] = ([], ap commits (append-nil log) ∙ sym (append-nil (commits log)))
sent_begins log (e ∷ rest) =
    subst (λ (l : List LogEntry). BeginsWith (commits l) (commits log)) (append_assoc log (e ∷ []) rest)
    (begins_on (commits log) (commits (log ++ e ∷ [])) (commits ((log ++ e ∷ []) ++ rest)) (sent_grows log e) (sent_begins (log ++ e ∷ []) rest))

nothing_after : (log rest : List LogEntry) (f : DecodeFault) → first_fault log ≡ Some f → commits (log ++ rest) ≡ commits log
nothing_after log [] f is = ap commits (append-nil log)
nothing_after log (e ∷ rest) f is = ap commits (sym (append_assoc log (e ∷ []) rest)) ∙ nothing_after (log ++ e ∷ []) rest f (fault_stays log e f is) ∙ commits_after log e f is

pub fronts_stay : FrontsStay
fronts_stay = record { sent = sent_begins; fault = fault_lasts; after = nothing_after }

-- ---- logs that can be decoded

-- an item of a list with one more is the last, or stands before it
split_push : {X : Type 0} (xs : List X) (x : X) (before : List X) (y : X) (rest : List X) → xs ++ x ∷ [] ≡ before ++ y ∷ rest → ((before ≡ xs) × (y ≡ x)) ⊎ ((more : List X) × (xs ≡ before ++ y ∷ more))
split_push [] x [] y rest e = inl (refl, cc)
split_push [] x (b ∷ []) y rest e = absurd (cc)
split_push [] x (b ∷ c ∷ bs) y rest e = absurd (cc)
split_push {X} (z ∷ xs) x [] y rest e = let same : z ≡ y = cc in inr (xs, ap (λ (w : X). w ∷ xs) same)
split_push {X} (z ∷ xs) x (b ∷ bs) y rest e = by (split_push xs x bs y rest (cc))
  where
    same : z ≡ b
    same = cc

    by : ((bs ≡ xs) × (y ≡ x)) ⊎ ((more : List X) × (xs ≡ bs ++ y ∷ more)) → ((b ∷ bs ≡ z ∷ xs) × (y ≡ x)) ⊎ ((more : List X) × (z ∷ xs ≡ b ∷ bs ++ y ∷ more))
    by (inl h) = inl ((λ i. sym same i ∷ h.0 i), h.1)
    by (inr h) = inr (h.0, λ i. same i ∷ h.1 i)

decodable_more : (log : List LogEntry) (e : LogEntry) → IsDecodable log → FitsAfter log e → length (commits (log ++ e ∷ [])) + 1 < 2 ^ 32 → IsDecodable (log ++ e ∷ [])
decodable_more log e can fits count = record {
  count = count;
  fits = λ before y rest is. by before y (split_push log e before y rest is);
}
  where
    by : (before : List LogEntry) (y : LogEntry) → ((before ≡ log) × (y ≡ e)) ⊎ ((more : List LogEntry) × (log ≡ before ++ y ∷ more)) → FitsAfter before y
    by before y (inl h) = subst (λ (l : List LogEntry). FitsAfter l y) (sym h.0) (subst (λ (z : LogEntry). FitsAfter log z) (sym h.1) fits)
    by before y (inr h) = can.fits before y h.0 h.1

decodable_less : (log : List LogEntry) (e : LogEntry) → IsDecodable (log ++ e ∷ []) → IsDecodable log
decodable_less log e can = record {
  count = omega (arith, can.count, count_within log (e ∷ []));
  fits = λ before y rest is. can.fits before y (rest ++ e ∷ []) (ap (λ (l : List LogEntry). l ++ e ∷ []) is ∙ append_assoc before (y ∷ rest) (e ∷ []));
}

short_option : {X : Type 0} (o : Option X) → length (cons_option o []) ≤ 1
short_option None = omega arith
short_option (Some x) = omega arith

one_more_sent : (log : List LogEntry) (e : LogEntry) → length (commits (log ++ e ∷ [])) ≤ length (commits log) + 1
one_more_sent log e = by (first_fault log) (fault_at (log, e)) refl refl
  where
    by : (o p : Option DecodeFault) → first_fault log ≡ o → fault_at (log, e) ≡ p → length (commits (log ++ e ∷ [])) ≤ length (commits log) + 1
    by (Some f) p is here = omega (arith, ap length (commits_after log e f is))
    by None (Some f) is here = omega (arith, ap length (commits_stay log e f is here))
    by None None is here = omega (arith, ap length (commits_more log e is here), length-append (commits log) (cons_option (commit_at (log, e)) []), short_option (commit_at (log, e)))

not_push : {X : Type 0} (before : List X) (y : X) (rest : List X) → [] ≡ before ++ y ∷ rest → ⊥
not_push [] y rest e = cc
not_push (b ∷ bs) y rest e = cc

decodable_none : IsDecodable []
unfolding commits with_fronts
decodable_none = record { count = omega arith; fits = λ before y rest is. absurd (not_push before y rest is) }

pub decodable_grows : DecodableGrows
decodable_grows = record {
  none = decodable_none;
  more = decodable_more;
  less = decodable_less;
  last = λ log e can. can.fits log e [] refl;
  count = one_more_sent;
}

-- ---- the entries of an xid

-- items that fail stand behind the last that passes
behind_more : {X : Type 0} (test : X → Bool) (xs ys : List X) → All (λ y. test y ≡ false) ys → behind_last test (xs ++ ys) ≡ behind_last test xs ++ ys
behind_more test xs [] h = ap (behind_last test) (append-nil xs) ∙ sym (append-nil (behind_last test xs))
behind_more {X} test xs (y ∷ ys) h =
    ap (behind_last test) (sym (append_assoc xs (y ∷ []) ys))
    ∙ behind_more test (xs ++ y ∷ []) ys (All-tail (λ z. test z ≡ false) y ys h)
    ∙ ap (λ (l : List X). l ++ ys) (behind_last-push test xs y ∙ ap (λ (b : Bool). cond b [] (behind_last test xs ++ y ∷ [])) (All-head (λ z. test z ≡ false) y ys h))
    ∙ append_assoc (behind_last test xs) (y ∷ []) ys

behind_none : {X : Type 0} (test : X → Bool) → behind_last test [] ≡ []
unfolding behind_last
behind_none test = refl

entries_running : (xid : ℕ) (log : List LogEntry) → All (λ entry. is_end entry ≡ false) (own_entries xid log) → open_entries xid log ≡ own_entries xid log
unfolding open_entries
entries_running xid log h = behind_more is_end [] (own_entries xid log) h ∙ ap (λ (l : List LogEntry). l ++ own_entries xid log) (behind_none is_end)

entries_ended : (xid : ℕ) (log own : List LogEntry) (e : LogEntry) → own_entries xid log ≡ own ++ e ∷ [] → is_end e ≡ true → open_entries xid log ≡ []
unfolding open_entries
entries_ended xid log own e is end = ap (behind_last is_end) is ∙ behind_last-push is_end own e ∙ ap (λ (b : Bool). cond b [] (behind_last is_end own ++ e ∷ [])) end

pub open_entries_are : OpenEntries
open_entries_are = record { running = entries_running; ended = entries_ended }

-- ---- the fault of a row

module _ (found : Found) (table : ℕ) where
  sound_row : (row : List Cell) → All (λ cell. cell_fault found table cell ≡ None) row → row_fault found table row ≡ None
  sound_row [] h = refl
  sound_row (cell ∷ row) h =
      ap (λ (o : Option DecodeFault). first (cons_option o (filter_map (cell_fault found table) row))) (All-head (λ cell. cell_fault found table cell ≡ None) cell row h)
      ∙ sound_row row (All-tail (λ cell. cell_fault found table cell ≡ None) cell row h)

  sound_cells : (row : List Cell) → row_fault found table row ≡ None → All (λ cell. cell_fault found table cell ≡ None) row
  sound_cells [] h = All-nil (λ cell. cell_fault found table cell ≡ None)
  sound_cells (cell ∷ row) h =
      All-cons (λ cell. cell_fault found table cell ≡ None) cell row
      (none_first (cell_fault found table cell) (filter_map (cell_fault found table) row) h)
      (sound_cells row (none_later (cell_fault found table cell) (filter_map (cell_fault found table) row) h))

pub fault_is_of_a_cell : FaultIsOfACell
fault_is_of_a_cell found table row = (sound_cells found table row, sound_row found table row)

-- ---- what a decoder may be fed

pub fits_fed : (state : DecoderState) (e : LogEntry) → state.fault ≡ None → FitsFed state e → Fits (found_of (open_at state.table (xid_of e))) e
fits_fed state e none fed =
    subst (λ (found : Found). Fits found e) (λ i table value_id. sym (found_is fed.0 e state.table (fed.1.table (sym fed.1.fault ∙ none)) table value_id) i) fed.2
