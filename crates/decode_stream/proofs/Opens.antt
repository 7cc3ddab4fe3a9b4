-- What one entry more makes of a transaction, and of all that are open.
use Rattle.std.proofs.Common.{arith, append_assoc, suc, ◌≡◌, ℕ, ◌+◌, Bool, true, false, cond, ◌==◌, ◌&&◌, nat_eq, List, [], ◌∷◌, ◌++◌, Option, Some, None, length, filter, filter_map, flat_map, refl, sym, ap, subst, ◌∙◌}
use Rattle.std.specs.List.{cons_option}
use Rattle.std.specs.Map.{lookup}
use Rattle.std.proofs.lemmas.Bool.{eqb-true}
use Rattle.std.proofs.lemmas.List.{append-nil, length-append}
use Rattle.std.proofs.lemmas.List.Elements.{filter_map-append, filter-append}
use Rattle.std.proofs.lemmas.Grind.{flat_map-append}
use Rattle.stream_wire.specs.declared.message.Message.{Message}
use Rattle.change_log.specs.declared.entry.LogEntry.{LogEntry}
use Rattle.change_log.specs.declared.entry.LogEntry.TheVariants.{Chunk, Insert, Update, Delete, Commit, Abort}
use Rattle.decode_stream.specs.declared.gathered.ValueName.{ValueName}
use Rattle.decode_stream.specs.Decoding.{GatheredValue, Found, xid_of, is_end, is_change, is_chunk_of, chunk_bytes, behind_last, with_fronts, open_entries, value_of, gathered, change_of, changes_of, unless_none, fault_of, fault_at, committed}
use Rattle.decode_stream.specs.States.{Values, OpenState, OpenList, IsOpen, IsOpenAt, AreOpen, open_at, found_in, found_of, same_name, value_name}
use Rattle.decode_stream.specs.Steps.{Starts, more_of, ended}
use Rattle.decode_stream.proofs.Lists.{with_fronts-push, behind_last-push}

-- the entries of an open transaction with one more
pub open_entries-push : (xid : ℕ) (log : List LogEntry) (e : LogEntry) → open_entries xid (log ++ e ∷ []) ≡ cond (xid_of e == xid) (cond (is_end e) [] (open_entries xid log ++ e ∷ [])) (open_entries xid log)
unfolding open_entries
open_entries-push xid log e = ap (behind_last is_end) (filter-append own log (e ∷ [])) ∙ by (xid_of e == xid)
  where
    own : LogEntry → Bool
    own entry = xid_of entry == xid

    by : (b : Bool) → behind_last is_end (filter (λ entry. xid_of entry == xid) log ++ cond b (e ∷ []) []) ≡ cond b (cond (is_end e) [] (behind_last is_end (filter (λ entry. xid_of entry == xid) log) ++ e ∷ [])) (behind_last is_end (filter (λ entry. xid_of entry == xid) log))
    by true = behind_last-push is_end (filter (λ entry. xid_of entry == xid) log) e
    by false = ap (behind_last is_end) (append-nil (filter (λ entry. xid_of entry == xid) log))

pub changes_of-push : (own : List LogEntry) (e : LogEntry) → changes_of (own ++ e ∷ []) ≡ changes_of own ++ cons_option (change_of (gathered own) e) []
unfolding changes_of
changes_of-push own e = ap (λ fronts. filter_map (λ (p : List LogEntry × LogEntry). change_of (gathered p.0) p.1) fronts) (with_fronts-push own e) ∙ filter_map-append _ (with_fronts own) ((own, e) ∷ [])

-- a value with one chunk more
value_more : (chunks : List LogEntry) (e : LogEntry) → value_of (chunks ++ e ∷ []) ≡ Some (more_of (value_of chunks) (chunk_bytes e))
value_more [] e = ap (λ (bytes : List ℕ). Some (made 1 bytes)) (append-nil (chunk_bytes e))
  where
    made : ℕ → List ℕ → GatheredValue
    made chunks bytes = record { chunks = chunks; bytes = bytes }
value_more (c ∷ cs) e = λ i. Some (record { chunks = count i; bytes = joined i })
  where
    count : suc (length (cs ++ e ∷ [])) ≡ suc (length cs) + 1
    count = omega (arith, length-append cs (e ∷ []))

    joined : chunk_bytes c ++ flat_map chunk_bytes (cs ++ e ∷ []) ≡ (chunk_bytes c ++ flat_map chunk_bytes cs) ++ chunk_bytes e
    joined = ap (λ (bytes : List ℕ). chunk_bytes c ++ bytes) (flat_map-append chunk_bytes cs (e ∷ []) ∙ ap (λ (bytes : List ℕ). flat_map chunk_bytes cs ++ bytes) (append-nil (chunk_bytes e))) ∙ sym (append_assoc (chunk_bytes c) (flat_map chunk_bytes cs) (chunk_bytes e))

-- nothing is gathered behind a change
pub gathered-change : (own : List LogEntry) (e : LogEntry) → is_change e ≡ true → (table value_id : ℕ) → gathered (own ++ e ∷ []) table value_id ≡ None
unfolding gathered
gathered-change own e change table value_id =
    ap (λ (l : List LogEntry). value_of (filter (is_chunk_of table value_id) l)) (behind_last-push is_change own e ∙ ap (λ (b : Bool). cond b [] (behind_last is_change own ++ e ∷ [])) change)

pub gathered-chunk : (own : List LogEntry) (xid t v seq : ℕ) (bytes : List ℕ) (table value_id : ℕ) → gathered (own ++ Chunk xid t v seq bytes ∷ []) table value_id ≡ cond ((t == table) && (v == value_id)) (Some (more_of (gathered own table value_id) bytes)) (gathered own table value_id)
unfolding gathered
gathered-chunk own xid t v seq bytes table value_id =
    ap (λ (l : List LogEntry). value_of (filter (is_chunk_of table value_id) l)) (behind_last-push is_change own (Chunk xid t v seq bytes))
    ∙ ap value_of (filter-append (is_chunk_of table value_id) (behind_last is_change own) (Chunk xid t v seq bytes ∷ []))
    ∙ by ((t == table) && (v == value_id)) (filter (is_chunk_of table value_id) (behind_last is_change own))
  where
    by : (b : Bool) (chunks : List LogEntry) → value_of (chunks ++ cond b (Chunk xid t v seq bytes ∷ []) []) ≡ cond b (Some (more_of (value_of chunks) bytes)) (value_of chunks)
    by true chunks = value_more chunks (Chunk xid t v seq bytes)
    by false chunks = ap value_of (append-nil chunks)

-- a transaction without entries
pub open_none : IsOpen (record { changes = []; values = [] }) []
unfolding changes_of gathered with_fronts behind_last
open_none = record { changes = refl; values = λ table value_id. refl }

both : (a b : Bool) → (a && b) ≡ true → (a ≡ true) × (b ≡ true)
both true true e = (refl, refl)
both true false e = absurd (cc)
both false b e = absurd (cc)

cond_same : {X : Type 0} (b : Bool) (x y z : X) → (b ≡ true → x ≡ y) → cond b x z ≡ cond b y z
cond_same true x y z h = h refl
cond_same false x y z h = refl

-- one name names one value
same_value : (found : Found) (t v table value_id : ℕ) → ((t == table) && (v == value_id)) ≡ true → found t v ≡ found table value_id
same_value found t v table value_id e =
    let h = both (t == table) (v == value_id) e in
    λ i. found (eqb-true t table h.0 i) (eqb-true v value_id h.1 i)

-- a transaction that has gathered a chunk more
pub open_chunk : (old new : OpenState) (xid t v seq : ℕ) (bytes : List ℕ) → new.changes ≡ old.changes
    → ((q : ValueName) → lookup (same_name q) new.values ≡ cond (same_name (value_name t v) q) (Some (more_of (found_in old.values t v) bytes)) (lookup (same_name q) old.values))
    → (own : List LogEntry) → IsOpen old own → IsOpen new (own ++ Chunk xid t v seq bytes ∷ [])
open_chunk old new xid t v seq bytes same more own is = record {
  changes = same ∙ is.changes ∙ sym (append-nil (changes_of own)) ∙ sym (changes_of-push own (Chunk xid t v seq bytes));
  values = λ table value_id.
      more (value_name table value_id)
      ∙ ap (λ (o : Option GatheredValue). cond ((t == table) && (v == value_id)) (Some (more_of (found_in old.values t v) bytes)) o) (is.values table value_id)
      ∙ cond_same ((t == table) && (v == value_id)) _ _ _ (λ h. ap (λ (o : Option GatheredValue). Some (more_of o bytes)) (is.values t v ∙ same_value (gathered own) t v table value_id h))
      ∙ sym (gathered-chunk own xid t v seq bytes table value_id);
}

-- a transaction that has made a change more
pub open_change : (old new : OpenState) (e : LogEntry) (m : Message) → is_change e ≡ true → change_of (found_in old.values) e ≡ Some m → new.changes ≡ old.changes ++ m ∷ [] → new.values ≡ []
    → (own : List LogEntry) → IsOpen old own → IsOpen new (own ++ e ∷ [])
open_change old new e m change made more none own is = record {
  changes =
      more ∙ ap (λ (before : List Message). before ++ m ∷ []) is.changes
      ∙ ap (λ (o : Option Message). changes_of own ++ cons_option o []) (sym made ∙ (λ i. change_of (λ table value_id. is.values table value_id i) e))
      ∙ sym (changes_of-push own e);
  values = λ table value_id. ap (λ (values : Values). found_in values table value_id) none ∙ sym (gathered-change own e change table value_id);
}

module _ (log : List LogEntry) (e : LogEntry) where
  -- the values gathered for a transaction are those of its entries
  found_at : (o : Option OpenState) (own : List LogEntry) → IsOpenAt o own → (table value_id : ℕ) → found_of o table value_id ≡ gathered own table value_id
  found_at None own none table value_id = open_none.values table value_id ∙ ap (λ (l : List LogEntry). gathered l table value_id) (sym none)
  found_at (Some state) own is table value_id = is.values table value_id

  pub found_is : (table : OpenList) → AreOpen table log → (t v : ℕ) → found_of (open_at table (xid_of e)) t v ≡ gathered (open_entries (xid_of e) log) t v
  found_is table are = found_at (open_at table (xid_of e)) (open_entries (xid_of e) log) (are (xid_of e))

  -- so an entry's fault after the log is its fault after these
  pub fault_is : (table : OpenList) → AreOpen table log → fault_of (found_of (open_at table (xid_of e))) e ≡ fault_at (log, e)
  fault_is table are = λ i. fault_of (λ t v. found_is table are t v i) e

  -- ending a transaction gives the changes of its entries
  pub ended_is : (o : Option OpenState) (own : List LogEntry) → IsOpenAt o own → ended o ≡ unless_none (changes_of own)
  ended_is None own none = ap unless_none open_none.changes ∙ ap (λ (l : List LogEntry). unless_none (changes_of l)) (sym none)
  ended_is (Some state) own is = ap unless_none is.changes

  moved : (o p : Option OpenState) (own more : List LogEntry) → o ≡ p → own ≡ more → IsOpenAt p more → IsOpenAt o own
  moved o p own more e f h = subst (λ (l : List LogEntry). IsOpenAt o l) (sym f) (subst (λ (q : Option OpenState). IsOpenAt q more) (sym e) h)

  -- all that are open, where one has an entry more
  pub are_open-push : (old new : OpenList) (state : OpenState) → is_end e ≡ false
      → ((q : ℕ) → open_at new q ≡ cond (nat_eq (xid_of e) q) (Some state) (open_at old q))
      → IsOpen state (open_entries (xid_of e) log ++ e ∷ []) → AreOpen old log → AreOpen new (log ++ e ∷ [])
  are_open-push old new state inside more is are q = moved _ _ _ _ (more q) (open_entries-push q log e) (by (xid_of e == q) refl)
    where
      by : (b : Bool) → (xid_of e == q) ≡ b → IsOpenAt (cond b (Some state) (open_at old q)) (cond b (cond (is_end e) [] (open_entries q log ++ e ∷ [])) (open_entries q log))
      by true h =
          subst (λ (l : List LogEntry). IsOpen state l) (sym (ap (λ (b : Bool). cond b [] (open_entries q log ++ e ∷ [])) inside))
          (subst (λ (x : ℕ). IsOpen state (open_entries x log ++ e ∷ [])) (eqb-true (xid_of e) q h) is)
      by false h = are q

  -- all that are open, where one has ended
  pub are_open-end : (old new : OpenList) → is_end e ≡ true → ((q : ℕ) → open_at new q ≡ cond (nat_eq (xid_of e) q) None (open_at old q)) → AreOpen old log → AreOpen new (log ++ e ∷ [])
  are_open-end old new end gone are q = moved _ _ _ _ (gone q) (open_entries-push q log e) (by (xid_of e == q))
    where
      by : (b : Bool) → IsOpenAt (cond b None (open_at old q)) (cond b (cond (is_end e) [] (open_entries q log ++ e ∷ [])) (open_entries q log))
      by true = ap (λ (b : Bool). cond b [] (open_entries q log ++ e ∷ [])) end
      by false = are q

-- what stands at an xid of a table, and what a table has after one write, where both are known by other names
pub at_xid : (table es : OpenList) (x y : ℕ) (o : Option OpenState) → o ≡ open_at es x → es ≡ table → x ≡ y → open_at table y ≡ o
at_xid table es x y o e same xid = sym (e ∙ (λ i. open_at (same i) (xid i)))

pub updated : (table es new : OpenList) (x y : ℕ) (o : Option OpenState) → es ≡ table → x ≡ y → ((q : ℕ) → open_at new q ≡ cond (nat_eq x q) o (open_at es q)) → (q : ℕ) → open_at new q ≡ cond (nat_eq y q) o (open_at table q)
updated table es new x y o same xid h q = h q ∙ (λ i. cond (nat_eq (xid i) q) o (open_at (same i) q))

-- a table's open transaction takes an entry in
pub one_more : (log : List LogEntry) (e : LogEntry) (old new : OpenList) (was state : OpenState) → is_end e ≡ false → open_at old (xid_of e) ≡ Some was
    → ((q : ℕ) → open_at new q ≡ cond (nat_eq (xid_of e) q) (Some state) (open_at old q))
    → ((own : List LogEntry) → IsOpen was own → IsOpen state (own ++ e ∷ [])) → AreOpen old log → AreOpen new (log ++ e ∷ [])
one_more log e old new was state inside at more step are =
    are_open-push log e old new state inside more
    (step (open_entries (xid_of e) log) (subst (λ (o : Option OpenState). IsOpenAt o (open_entries (xid_of e) log)) at (are (xid_of e))))
    are

-- a table's new transaction has an entry
pub one_first : (log : List LogEntry) (e : LogEntry) (old new : OpenList) → is_end e ≡ false → open_at old (xid_of e) ≡ None → Starts old new (xid_of e) e → AreOpen old log → AreOpen new (log ++ e ∷ [])
one_first log e old new inside at made are =
    are_open-push log e old new made.0 inside made.2
    (subst (λ (own : List LogEntry). IsOpen made.0 (own ++ e ∷ [])) (sym (subst (λ (o : Option OpenState). IsOpenAt o (open_entries (xid_of e) log)) at (are (xid_of e)))) made.1)
    are

-- only a commit commits
pub no_commit : (own : List LogEntry) (e : LogEntry) → ((xid : ℕ) → e ≡ Commit xid → ⊥) → None ≡ committed own e
no_commit own (Chunk xid table value_id seq bytes) h = refl
no_commit own (Insert xid table key cells) h = refl
no_commit own (Update xid table from to cells) h = refl
no_commit own (Delete xid table key) h = refl
no_commit own (Commit xid) h = absurd (h xid refl)
no_commit own (Abort xid) h = refl
