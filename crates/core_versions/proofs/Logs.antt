-- What the log tells, and what transactions have touched, through a version step and its entry.
use Rattle.std.proofs.Common.{ap, inl, inr, subst, sym, ◌∙◌}
use Rattle.std.specs.Prelude.{Contains, List, None, Some, [], true, ℕ, ℤ, ◌++◌, ◌∷◌, ◌≡◌, ◌⊎◌}
use Rattle.tuple_layout.specs.declared.Place.{Place}
use Rattle.tuple_layout.specs.declared.cell.Cell.{Cell}
use Rattle.slot_page.specs.Pages.{item_in}
use Rattle.slot_page.specs.declared.line.Tid.{Tid}
use Rattle.xact_status.proofs.Places.{assigned_from_running}
use Rattle.xact_status.specs.Xacts.{IsAssigned, Xacts, session_at}
use Rattle.snapshot_registry.specs.Snapshots.{Snaps}
use Rattle.row_versions.specs.Relations.{Pages}
use Rattle.row_versions.specs.declared.keys.KeyEntry.{KeyEntry}
use Rattle.row_versions.specs.declared.version.Version.{Version}
use Rattle.value_ids.specs.Ids.{Pool}
use Rattle.change_log.specs.declared.entry.LogEntry.{LogEntry}
use Rattle.lock_table.specs.Held.{holds_row}
use Rattle.lock_table.specs.Locks.{held_by}
use Rattle.lock_table.specs.declared.held.SessionLocks.{SessionLocks}
use Rattle.table_rows.specs.Steps.{ended_by}
use Rattle.table_rows.specs.Views.{IsOwnAt}
use Rattle.table_state.specs.Events.{with_rows}
use Rattle.table_state.specs.declared.table.Table.{Table}
use Rattle.core_state.proofs.Lists.{in_append, only_one}
use Rattle.core_state.specs.Coming.{xid_logged}
use Rattle.core_state.specs.Facts.{AreTouched, HasPut, HasVersion, IsChanged, LogIsSound, Uses, places_logged}
use Rattle.core_state.specs.State.{table_at}
use Rattle.core_versions.proofs.Others.{Acts, running_from}
use Rattle.core_versions.proofs.Steps.{Closed, Closes, IsStep, Put, Stands, Stood}
use Rattle.core_versions.proofs.Tables.{at_table}
use Rattle.change_log.specs.declared.entry.LogEntry.TheVariants as entries

-- what the session has locked for its step
pub record Claims (locks : List SessionLocks) (s t : ℕ) (keys : List ℤ) : Type 0 where
  pub used : Uses (held_by locks s) t
  pub rows : (key : ℤ) → Contains keys key → holds_row (held_by locks s).rows (record { table = t; key = key }) ≡ true

-- what the step's entry of its transaction tells is so then
pub record Tells (xacts : Xacts) (locks : List SessionLocks) (later : List Table) (s x : ℕ) (entry : LogEntry) : Type 0 where
  pub by : xid_logged entry ≡ x
  pub put : HasVersion later entry
  pub changed : (p : Place) → Contains (places_logged entry) p → IsChanged xacts locks later s x p

same_session : (a b : ℕ) → Some a ≡ Some b → a ≡ b
same_session a b e = cc

-- ---- what has been touched

touched_by : (xacts : Xacts) (locks : List SessionLocks) (tables : List Table) (s t x : ℕ) (keys : List ℤ) (P : ℕ → ℤ → Type 0) (number : ℕ) (snaps : Snaps) (pages : Pages) (names : List KeyEntry) (cells : List Cell) (xid : ℕ) (tid : Tid) (version : Version)
    → IsStep number xacts snaps x (table_at tables t) pages names keys cells → ((key : ℤ) → Contains keys key → P x key)
    → ((was : Version) → item_in (table_at tables t).rows.pages tid ≡ Some was → (was.inserter ≡ xid) ⊎ (was.ender ≡ Some xid) → P xid was.key)
    → item_in pages tid ≡ Some version → (version.inserter ≡ xid) ⊎ (version.ender ≡ Some xid) → P xid version.key
touched_by xacts locks tables s t x keys P number snaps pages names cells xid tid version step mine old at by = elim (step.came tid version at) [
  | Stood was ↦ old version was by
  | Put new ↦ elim by [
    | inl inserted ↦ subst (λ (n : ℕ). P n version.key) (sym new.inserter ∙ inserted) (mine version.key new.claimed)
    | inr ended ↦
        let none = new.unended in
        absurd (none_some xid (sym none ∙ ended))
  ]
  | Closed closed ↦
      subst (λ (v : Version). P xid v.key) (sym closed.is)
      (elim (subst (λ (v : Version). (v.inserter ≡ xid) ⊎ (v.ender ≡ Some xid)) closed.is by) [
        | inl inserted ↦ old closed.was closed.there (inl inserted)
        | inr ended ↦ subst (λ (n : ℕ). P n closed.was.key) (same_session x xid ended) (mine closed.was.key closed.claimed)
      ])
]
  where
    none_some : (n : ℕ) → None ≡ Some n → ⊥
    none_some n e = absurd (cc)

pub touched_stepped : (xacts : Xacts) (snaps : Snaps) (ids : Pool) (locks : List SessionLocks) (tables later : List Table) (s t x : ℕ) (pages : Pages) (names : List KeyEntry) (keys : List ℤ) (cells : List Cell)
    → Acts xacts snaps ids tables later s t x pages names keys cells → Claims locks s t keys → AreTouched xacts locks tables → AreTouched xacts locks later
touched_stepped xacts snaps ids locks tables later s t x pages names keys cells acts claims old = record {
  used = λ xid owner k tid version runs.
      at_table tables later t k pages names (λ (table : Table). item_in table.rows.pages tid ≡ Some version → (version.inserter ≡ xid) ⊎ (version.ender ≡ Some xid) → Uses (held_by locks owner) k) acts.steps
      (λ is at by. touched_by xacts locks tables s t x keys (λ (n : ℕ) (key : ℤ). session_at xacts n ≡ Some owner → Uses (held_by locks owner) k) t snaps pages names cells xid tid version acts.step
      (λ key claimed its. subst (λ (n : ℕ). Uses (held_by locks n) k) (same_session s owner (sym acts.runs ∙ its)) (subst (λ (n : ℕ). Uses (held_by locks s) n) (sym is) claims.used))
      (λ was there by its. old.used xid owner k tid was its (ap (λ (n : ℕ). item_in (table_at tables n).rows.pages tid) is ∙ there) by) at by runs)
      (λ differ at by. old.used xid owner k tid version runs at by);
  claimed = λ xid owner k tid version runs.
      at_table tables later t k pages names (λ (table : Table). item_in table.rows.pages tid ≡ Some version → (version.inserter ≡ xid) ⊎ (version.ender ≡ Some xid) → holds_row (held_by locks owner).rows (record { table = k; key = version.key }) ≡ true) acts.steps
      (λ is at by. touched_by xacts locks tables s t x keys (λ (n : ℕ) (key : ℤ). session_at xacts n ≡ Some owner → holds_row (held_by locks owner).rows (record { table = k; key = key }) ≡ true) t snaps pages names cells xid tid version acts.step
      (λ key claimed its. subst (λ (n : ℕ). holds_row (held_by locks n).rows (record { table = k; key = key }) ≡ true) (same_session s owner (sym acts.runs ∙ its))
      (subst (λ (n : ℕ). holds_row (held_by locks s).rows (record { table = n; key = key }) ≡ true) (sym is) (claims.rows key claimed)))
      (λ was there by its. old.claimed xid owner k tid was its (ap (λ (n : ℕ). item_in (table_at tables n).rows.pages tid) is ∙ there) by) at by runs)
      (λ differ at by. old.claimed xid owner k tid version runs at by);
}

-- ---- the log

has_put_stepped : (number : ℕ) (xacts : Xacts) (snaps : Snaps) (x : ℕ) (table : Table) (pages : Pages) (names : List KeyEntry) (keys : List ℤ) (cells : List Cell) (xid : ℕ) (key : ℤ) (row : List Cell) → IsStep number xacts snaps x table pages names keys cells
    → HasPut table xid key row → HasPut (with_rows table pages names) xid key row
has_put_stepped number xacts snaps x table pages names keys cells xid key row step old = elim (step.goes old.tid old.version old.there) [
  | Stands at ↦ record { tid = old.tid; version = old.version; there = at; inserter = old.inserter; of_key = old.of_key; is = old.is }
  | Closes at opened claimed ↦ record { tid = old.tid; version = ended_by x old.version; there = at; inserter = old.inserter; of_key = old.of_key; is = old.is }
]

put_at : (xacts : Xacts) (snaps : Snaps) (ids : Pool) (tables later : List Table) (s t x : ℕ) (pages : Pages) (names : List KeyEntry) (keys : List ℤ) (cells : List Cell) (k xid : ℕ) (key : ℤ) (row : List Cell)
    → Acts xacts snaps ids tables later s t x pages names keys cells → HasPut (table_at tables k) xid key row → HasPut (table_at later k) xid key row
put_at xacts snaps ids tables later s t x pages names keys cells k xid key row acts old =
    at_table tables later t k pages names (λ (table : Table). HasPut table xid key row) acts.steps
    (λ is. has_put_stepped t xacts snaps x (table_at tables t) pages names keys cells xid key row acts.step (subst (λ (n : ℕ). HasPut (table_at tables n) xid key row) is old))
    (λ differ. old)

version_stepped : (xacts : Xacts) (snaps : Snaps) (ids : Pool) (tables later : List Table) (s t x : ℕ) (pages : Pages) (names : List KeyEntry) (keys : List ℤ) (cells : List Cell) (entry : LogEntry)
    → Acts xacts snaps ids tables later s t x pages names keys cells → HasVersion tables entry → HasVersion later entry
version_stepped xacts snaps ids tables later s t x pages names keys cells (entries.Chunk xid k value_id seq bytes) acts old = tt
version_stepped xacts snaps ids tables later s t x pages names keys cells (entries.Insert xid k key row) acts old = put_at xacts snaps ids tables later s t x pages names keys cells k xid key row acts old
version_stepped xacts snaps ids tables later s t x pages names keys cells (entries.Update xid k from to row) acts old = put_at xacts snaps ids tables later s t x pages names keys cells k xid to row acts old
version_stepped xacts snaps ids tables later s t x pages names keys cells (entries.Delete xid k key) acts old = tt
version_stepped xacts snaps ids tables later s t x pages names keys cells (entries.Commit xid) acts old = absurd old
version_stepped xacts snaps ids tables later s t x pages names keys cells (entries.Abort xid) acts old = absurd old

pub log_stepped : (xacts : Xacts) (snaps : Snaps) (ids : Pool) (locks : List SessionLocks) (tables later : List Table) (s t x : ℕ) (pages : Pages) (names : List KeyEntry) (keys : List ℤ) (cells : List Cell) (log : List LogEntry) (entry : LogEntry)
    → Acts xacts snaps ids tables later s t x pages names keys cells → Tells xacts locks later s x entry → LogIsSound xacts locks log tables → LogIsSound xacts locks (log ++ entry ∷ []) later
log_stepped xacts snaps ids locks tables later s t x pages names keys cells log entry acts tells old = record {
  given = λ its e. elim (in_append log (entry ∷ []) its e) [
    | inl h ↦ old.given its h
    | inr h ↦ subst (λ (n : ℕ). IsAssigned xacts n) (sym tells.by ∙ ap xid_logged (only_one entry its h)) (assigned_from_running xacts x (running_from xacts x s acts.runs))
  ];
  put = λ its e running. elim (in_append log (entry ∷ []) its e) [
    | inl h ↦ version_stepped xacts snaps ids tables later s t x pages names keys cells its acts (old.put its h running)
    | inr h ↦ subst (λ (one : LogEntry). HasVersion later one) (only_one entry its h) tells.put
  ];
  changed = λ its owner p e runs names. elim (in_append log (entry ∷ []) its e) [
    | inl h ↦ changed_stepped (xid_logged its) owner p runs (old.changed its owner p h runs names)
    | inr h ↦
        let is = only_one entry its h in
        let by : x ≡ xid_logged its = sym tells.by ∙ ap xid_logged is in
        let mine : s ≡ owner = same_session s owner (sym acts.runs ∙ ap (session_at xacts) by ∙ runs) in
        let new = tells.changed p (subst (λ (one : LogEntry). Contains (places_logged one) p) (sym is) names) in
        subst (λ (n : ℕ). IsChanged xacts locks later n (xid_logged its) p) mine (subst (λ (n : ℕ). IsChanged xacts locks later s n p) by new)
  ];
}
  where
    changed_stepped : (xid owner : ℕ) (p : Place) → session_at xacts xid ≡ Some owner → IsChanged xacts locks tables owner xid p → IsChanged xacts locks later owner xid p
    changed_stepped xid owner p runs was = record {
      claimed = was.claimed;
      own =
          at_table tables later t p.table pages names (λ (table : Table). IsOwnAt xacts xid table.rows.pages p.key) acts.steps
          (λ is. acts.step.own_at xid p.key (running_from xacts xid owner runs) (subst (λ (n : ℕ). IsOwnAt xacts xid (table_at tables n).rows.pages p.key) is was.own))
          (λ differ. was.own);
    }
