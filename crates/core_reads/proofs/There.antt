-- The values of a version that a reader sees are kept for it, and are whole.
use Rattle.std.proofs.Common.{ap, arith, inl, inr, refl, ◌∙◌}
use Rattle.std.specs.Option.{option_map_or}
use Rattle.std.specs.Prelude.{Bool, Contains, List, None, Option, Some, false, not, true, ℕ, ◌&&◌, ◌==◌, ◌||◌, ◌≡◌, ◌⊎◌}
use Rattle.std.proofs.lemmas.Bool.Decides.{nat_tests}
use Rattle.list_facts.proofs.Members.{from_map}
use Rattle.external_pointer.specs.declared.external.Pointer.{Pointer}
use Rattle.tuple_layout.specs.declared.cell.Cell.{Cell}
use Rattle.slot_page.specs.Pages.{item_in}
use Rattle.slot_page.specs.declared.line.Tid.{Tid}
use Rattle.xact_status.specs.Versions.{is_there}
use Rattle.xact_status.specs.Xacts.{Xacts}
use Rattle.snapshot_registry.specs.Snapshots.{Snaps, committed_in, held_at, sees, sees_at, takes_effect}
use Rattle.snapshot_registry.specs.declared.Held.{Held}
use Rattle.row_versions.specs.declared.version.Version.{Version}
use Rattle.value_holders.specs.Stamps.{Runs}
use Rattle.table_state.proofs.Ids.{id_from}
use Rattle.table_state.proofs.Tells.{tables_tell}
use Rattle.table_state.specs.Rows.{pointers_in}
use Rattle.table_state.specs.Tables.{IsTable, cells_of}
use Rattle.table_state.specs.declared.table.Table.{Table}
use Rattle.core_state.specs.Facts.{IsThereFor, KeepsId, ids_in}
use Rattle.core_reads.proofs.Replies.{AreWhole}

-- what is there by a reader's own changes or by those that are shown has its own inserter, or is shown
mine_or_shown : (mine shown : ℕ → Bool) (inserter : ℕ) (ender : Option ℕ) → is_there (λ xid. mine xid || shown xid) inserter ender ≡ true → (mine inserter ≡ true) ⊎ (is_there shown inserter ender ≡ true)
mine_or_shown mine shown inserter ender e = by (mine inserter) (shown inserter) ender refl refl e
  where
    ended : (a b : Bool) → not (a || b) ≡ true → not b ≡ true
    ended true b e = absurd (cc)
    ended false b e = e

    open_end : (o : Option ℕ) → not (option_map_or (λ xid. mine xid || shown xid) o false) ≡ true → not (option_map_or shown o false) ≡ true
    open_end None e = refl
    open_end (Some xid) e = ended (mine xid) (shown xid) e

    by : (a b : Bool) (o : Option ℕ) → mine inserter ≡ a → shown inserter ≡ b → ((a || b) && not (option_map_or (λ xid. mine xid || shown xid) o false)) ≡ true → (mine inserter ≡ true) ⊎ ((shown inserter && not (option_map_or shown o false)) ≡ true)
    by true b o own seen e = inl own
    by false true o own seen e = inr (ap (λ (x : Bool). x && not (option_map_or shown o false)) seen ∙ open_end o e)
    by false false o own seen e = absurd (cc)

-- a version that a reader sees by a registered snapshot which its session uses is there for the session
pub there_seen : (xacts : Xacts) (snaps : Snaps) (uses : List ℕ) (own : Option ℕ) (id : ℕ) (held : Held) (version : Version) → Contains uses id → held_at snaps id ≡ Some held
    → is_there (takes_effect xacts held.snapshot own) version.inserter version.ender ≡ true → IsThereFor xacts snaps uses own version
there_seen xacts snaps uses own id held version used at seen = by own seen
  where
    by : (o : Option ℕ) → is_there (takes_effect xacts held.snapshot o) version.inserter version.ender ≡ true → (o ≡ Some version.inserter) ⊎ ((k : ℕ) × Contains uses k × (sees_at xacts snaps k version.inserter version.ender None ≡ true))
    by None e = inr (id, used, ap (λ (o : Option Held). option_map_or (λ (its : Held). sees xacts its.snapshot version.inserter version.ender None) o false) at ∙ e)
    by (Some x) e = elim (mine_or_shown (λ xid. x == xid) (committed_in xacts held.snapshot) version.inserter version.ender e) [
      | inl own ↦
          let is : x ≡ version.inserter = grind (arith, nat_tests, own) in
          inl (ap Some is)
      | inr seen ↦ inr (id, used, ap (λ (o : Option Held). option_map_or (λ (its : Held). sees xacts its.snapshot version.inserter version.ender None) o false) at ∙ seen)
    ]

-- so each value of cells that it has is kept for the session
pub keeps_ids : (xacts : Xacts) (snaps : Snaps) (table : Table) (uses : List ℕ) (own : Option ℕ) (tid : Tid) (version : Version) (cells : List Cell) → item_in table.rows.pages tid ≡ Some version
    → ((pointer : Pointer) → Contains (pointers_in cells) pointer → Contains (pointers_in (cells_of table version)) pointer)
    → IsThereFor xacts snaps uses own version → (value_id : ℕ) → Contains (ids_in cells) value_id → KeepsId xacts snaps table uses own value_id
keeps_ids xacts snaps table uses own tid version cells there among seen value_id e =
    let its = from_map (λ (pointer : Pointer). pointer.value_id) (pointers_in cells) value_id e in
    record {
      tid = tid;
      version = version;
      there = there;
      holds = id_from value_id (cells_of table version) its.0 its.2 (among its.0 its.1);
      seen = seen;
    }

-- and is whole
pub whole_seen : (number : ℕ) (xacts : Xacts) (snaps : Snaps) (table : Table) (own : Option ℕ) (id : ℕ) (held : Held) (tid : Tid) (version : Version) (cells : List Cell) → IsTable number xacts snaps table → Runs xacts own
    → item_in table.rows.pages tid ≡ Some version → ((pointer : Pointer) → Contains (pointers_in cells) pointer → Contains (pointers_in (cells_of table version)) pointer)
    → held_at snaps id ≡ Some held → is_there (takes_effect xacts held.snapshot own) version.inserter version.ender ≡ true → AreWhole table.toast cells
whole_seen number xacts snaps table own id held tid version cells is runs there among at seen pointer e =
    tables_tell.seen_whole number xacts snaps table id own tid version pointer is runs there
    (ap (λ (o : Option Held). option_map_or (λ (its : Held). sees xacts its.snapshot version.inserter version.ender own) o false) at ∙ seen) (among pointer e)
