-- Giving up uses of snapshots, one after another: what is left of each, and what it shows.
use Rattle.std.proofs.Common.{ap, arith, cond, inl, inr, refl, sym, ◌∙◌}
use Rattle.std.proofs.lemmas.Bool.Decides.{nat_tests}
use Rattle.std.specs.Option.{option_map_or}
use Rattle.std.specs.Prelude.{Bool, List, None, Option, Some, [], count_by, false, is_some, nat_le, option_and_then, suc, true, zero, ℕ, ◌+◌, ◌-◌, ◌<◌, ◌==◌, ◌∷◌, ◌≡◌, ◌≢◌, ◌≤◌, ◌⊎◌}
use Rattle.slot_page.specs.declared.line.Tid.{Tid}
use Rattle.xact_status.specs.Xacts.{Xacts}
use Rattle.snapshot_registry.proofs.Entries.{held_after_release, held_at_release}
use Rattle.snapshot_registry.proofs.Moments.{registry_release}
use Rattle.snapshot_registry.proofs.Unprotected.{unprotected_stays}
use Rattle.snapshot_registry.specs.Laws.{IsRegistryOf, IsUnprotected}
use Rattle.snapshot_registry.specs.Snapshots.{Snaps, after_release, held_at, holders_at, is_registered, one_less, sees, sees_at}
use Rattle.snapshot_registry.specs.declared.Held.{Held}
use Rattle.snapshot_registry.specs.declared.Snapshot.{Snapshot}
use Rattle.value_holders.proofs.Events.{are_ended_stay}
use Rattle.value_holders.specs.Holders.{AreEnded, AreSound, Holders}
use Rattle.table_state.specs.Laws.{MomentsKeep}
use Rattle.table_state.specs.Tables.{IsTable}
use Rattle.table_state.specs.declared.table.Table.{Table}
use Rattle.core_state.proofs.Lists.{count_more, one_if}
use Rattle.core_state.specs.Lines.{once_released}

-- how often an id is among some
abbrev pub times : ℕ → List ℕ → ℕ
times id ids = count_by (λ other. other == id) ids

times_more : (id x : ℕ) (ids : List ℕ) → times id (x ∷ ids) ≡ one_if (x == id) + times id ids
times_more id x ids = count_more (λ (other : ℕ). other == id) x ids

held_holders : (o : Option Held) → option_map_or (λ (held : Held). held.holders) (option_and_then one_less o) 0 + 1 ≡ option_map_or (λ (held : Held). held.holders) o 0 ⊎ (option_map_or (λ (held : Held). held.holders) o 0 ≡ 0)
held_holders None = inr refl
held_holders (Some held) = by (nat_le held.holders 1) refl
  where
    by : (b : Bool) → nat_le held.holders 1 ≡ b → (option_map_or (λ (h : Held). h.holders) (cond b None (Some (record held { holders = held.holders - 1 }))) 0 + 1 ≡ held.holders) ⊎ (held.holders ≡ 0)
    by true e = low (held.holders) (grind (arith, nat_tests, e))
      where
        low : (n : ℕ) → n ≤ 1 → (0 + 1 ≡ n) ⊎ (n ≡ 0)
        low zero h = inr refl
        low (suc zero) h = inl refl
        low (suc (suc n)) h = absurd (omega (arith, h))
    by false e =
        let more : 1 < held.holders = grind (arith, nat_tests, e) in
        inl (omega (arith, more))

pub some_holders : (snaps : Snaps) (id : ℕ) → 1 ≤ holders_at snaps id → is_registered snaps id ≡ true
some_holders snaps id h = by (held_at snaps id) h
  where
    by : (o : Option Held) → 1 ≤ option_map_or (λ (held : Held). held.holders) o 0 → is_some o ≡ true
    by None h = absurd (omega (arith, h))
    by (Some held) h = refl

holders_released : (snaps : Snaps) (x id : ℕ) → 1 ≤ holders_at snaps x → holders_at (after_release snaps x) id + one_if (x == id) ≡ holders_at snaps id
holders_released snaps x id some = by (id == x) refl (ap (λ (o : Option Held). option_map_or (λ (held : Held). held.holders) o 0) (held_at_release snaps x id (some_holders snaps x some)))
  where
    by : (b : Bool) → (id == x) ≡ b → holders_at (after_release snaps x) id ≡ option_map_or (λ (held : Held). held.holders) (cond b (option_and_then one_less (held_at snaps x)) (held_at snaps id)) 0 → holders_at (after_release snaps x) id + one_if (x == id) ≡ holders_at snaps id
    by true same e =
        let is : id ≡ x = grind (arith, nat_tests, same) in
        let back : (x == id) ≡ true = grind (arith, nat_tests, is) in
        let here : holders_at snaps id ≡ holders_at snaps x = ap (holders_at snaps) is in
        elim (held_holders (held_at snaps x)) [
          | inl h ↦ rw back (omega (arith, e, h, here))
          | inr h ↦ absurd (omega (arith, some, h))
        ]
    by false differ e =
        let apart : id ≢ x = grind (arith, nat_tests, differ) in
        let back : (x == id) ≡ false = grind (arith, nat_tests, apart) in
        rw back (omega (arith, e))

-- what giving up some uses leaves
pub record Released (xacts : Xacts) (snaps later : Snaps) (ids : List ℕ) : Type 0 where
  pub registry : IsRegistryOf xacts snaps → IsRegistryOf xacts later
  pub holders : (id : ℕ) → holders_at later id + times id ids ≡ holders_at snaps id
  pub back : (id : ℕ) (held : Held) → held_at later id ≡ Some held → (before : Held) × (held_at snaps id ≡ Some before) × (held.snapshot ≡ before.snapshot)
  pub table : MomentsKeep → (number : ℕ) (table : Table) → IsTable number xacts snaps table → IsTable number xacts later table
  pub unprotected : (inserter : ℕ) (ender : Option ℕ) → IsUnprotected xacts snaps inserter ender → IsUnprotected xacts later inserter ender
  pub ended : (xid : ℕ) (holders : Holders Tid) → AreSound xacts holders → AreEnded xacts snaps holders xid → AreEnded xacts later holders xid

pub released_all : (xacts : Xacts) (snaps : Snaps) (ids : List ℕ) → ((id : ℕ) → times id ids ≤ holders_at snaps id) → Released xacts snaps (once_released snaps ids) ids
released_all xacts snaps [] most = record {
  registry = λ registry. registry;
  holders = λ id. omega arith;
  back = λ id held e. (held, e, refl);
  table = λ keeps number table is. is;
  unprotected = λ inserter ender e. e;
  ended = λ xid holders sound e. e;
}
released_all xacts snaps (x ∷ ids) most =
    let here = times_more x x ids in
    let there = most x in
    let same : (x == x) ≡ true = grind (arith, nat_tests) in
    let one : one_if (x == x) ≡ 1 = ap one_if same in
    let some : 1 ≤ holders_at snaps x = omega (arith, here, there, one) in
    let rest = released_all xacts (after_release snaps x) ids (λ id.
    let left = holders_released snaps x id some in
    let more = times_more id x ids in
    let high = most id in
    omega (arith, left, more, high)) in
    record {
      registry = λ registry. rest.registry (registry_release xacts snaps x registry);
      holders = λ id.
          let left = holders_released snaps x id some in
          let more = times_more id x ids in
          let after = rest.holders id in
          omega (arith, left, more, after);
      back = λ id held e.
          let later = rest.back id held e in
          let before = held_after_release snaps x id later.0 later.1 in
          (before.0, before.1, later.2 ∙ before.2);
      table = λ keeps number table is. rest.table keeps number table (keeps.released number xacts snaps x table is);
      unprotected = λ inserter ender e. rest.unprotected inserter ender (unprotected_stays.released xacts snaps x inserter ender e);
      ended = λ xid holders sound e. rest.ended xid holders sound (are_ended_stay.released xacts snaps x xid holders sound e);
    }

-- what a snapshot that is registered still sees is what it saw
pub seen_back : (xacts : Xacts) (snaps later : Snaps) (id inserter : ℕ) (ender : Option ℕ) → is_registered later id ≡ true
    → ((held : Held) → held_at later id ≡ Some held → (before : Held) × (held_at snaps id ≡ Some before) × (held.snapshot ≡ before.snapshot)) → sees_at xacts later id inserter ender None ≡ sees_at xacts snaps id inserter ender None
seen_back xacts snaps later id inserter ender registered back = by (held_at later id) refl registered
  where
    by : (o : Option Held) → held_at later id ≡ o → is_some o ≡ true → option_map_or (λ (held : Held). sees xacts held.snapshot inserter ender None) o false ≡ sees_at xacts snaps id inserter ender None
    by None e f = absurd (cc)
    by (Some held) e f =
        let before = back held e in
        ap (λ (snapshot : Snapshot). sees xacts snapshot inserter ender None) before.2 ∙ sym (ap (λ (p : Option Held). option_map_or (λ (h : Held). sees xacts h.snapshot inserter ender None) p false) before.1)
