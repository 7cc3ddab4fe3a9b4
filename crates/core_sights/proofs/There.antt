-- Whether the version at a tid is the row that is there now.
use Rattle.std.proofs.Common.{ap, arith, refl, subst, ◌∙◌}
use Rattle.std.proofs.lemmas.Bool.Decides.{nat_tests}
use Rattle.std.specs.Prelude.{Bool, Option, false, true, ℕ, ℤ, ◌&&◌, ◌==◌, ◌≡◌}
use Rattle.slot_page.specs.declared.line.Tid.{Tid}
use Rattle.xact_status.specs.Versions.{counts_for}
use Rattle.row_versions.specs.Relations.{is_current_row}
use Rattle.table_rows.specs.Views.{is_found}
use Rattle.table_state.specs.declared.table.Table.{Table}
use Rattle.core_state.specs.State.{CoreState, seat_of, table_at, xid_of}
use Rattle.core_state.specs.Views.{in_sight}
use Rattle.core_looks.proofs.Sights.{one_now}
use Rattle.core_sights.specs.Ready.{CanLook}
use Rattle.core_sights.proofs.Looks.{same_tid}
use Rattle.core_sights.specs.Now.{is_there_now}

-- the test of two tids
same_place : (t u : Tid) → (t.page == u.page && t.slot == u.slot) ≡ true → t ≡ u
same_place t u e = by (t.page == u.page) (t.slot == u.slot) refl refl e
  where
    place : ℕ → ℕ → Tid
    place page slot = record { page = page; slot = slot }

    by : (a b : Bool) → (t.page == u.page) ≡ a → (t.slot == u.slot) ≡ b → (a && b) ≡ true → t ≡ u
    by true true page slot e =
        let one : t.page ≡ u.page = grind (arith, nat_tests, page) in
        let other : t.slot ≡ u.slot = grind (arith, nat_tests, slot) in
        ap (λ (page : ℕ). place page t.slot) one ∙ ap (place u.page) other
    by true false page slot e = absurd (cc)
    by false b page slot e = absurd (cc)

at_place : (t : Tid) → (t.page == t.page && t.slot == t.slot) ≡ true
at_place t =
    let page : (t.page == t.page) ≡ true = grind (arith, nat_tests) in
    let slot : (t.slot == t.slot) ≡ true = grind (arith, nat_tests) in
    rw (page, slot) refl

pub is_there : (c : CoreState) (s t : ℕ) (key : ℤ) (row tid : Tid) → CanLook c s t → is_found (in_sight c.xacts (seat_of c s).state) (table_at c.tables t).rows.pages key row ≡ true
    → (row.page == tid.page && row.slot == tid.slot) ≡ is_there_now c s t key tid
is_there c s t key row tid look found = by (is_found counts (table_at c.tables t).rows.pages key tid) (row.page == tid.page && row.slot == tid.slot) refl refl
  where
    counts : ℕ → Bool
    counts = in_sight c.xacts (seat_of c s).state

    by : (there same : Bool) → is_found counts (table_at c.tables t).rows.pages key tid ≡ there → (row.page == tid.page && row.slot == tid.slot) ≡ same → same ≡ there
    by true true e f = refl
    by true false e f =
        let is = same_tid counts (table_at c.tables t) key row tid (one_now c s t key look.there look.of_table look.sound) found e in
        let yes : (row.page == tid.page && row.slot == tid.slot) ≡ true = subst (λ (u : Tid). (row.page == u.page && row.slot == u.slot) ≡ true) is (at_place row) in
        absurd (cc)
    by false true e f =
        let is = same_place row tid f in
        let there : is_found counts (table_at c.tables t).rows.pages key tid ≡ true = subst (λ (u : Tid). is_found counts (table_at c.tables t).rows.pages key u ≡ true) is found in
        absurd (cc)
    by false false e f = refl

pub there_by : (c view : CoreState) (s t : ℕ) (table : Table) (own : Option ℕ) (key given : ℤ) (row tid : Tid) → view ≡ c → CanLook c s t → table ≡ table_at c.tables t → own ≡ xid_of (seat_of c s).state → given ≡ key → is_current_row view.xacts own table.rows given row ≡ true
    → (row.page == tid.page && row.slot == tid.slot) ≡ is_there_now c s t key tid
there_by c view s t table own key given row tid same look table_is own_is key_is found =
    let of_core = subst (λ (v : CoreState). is_found (counts_for v.xacts own) table.rows.pages given row ≡ true) same found in
    let of_own = subst (λ (x : Option ℕ). is_found (counts_for c.xacts x) table.rows.pages given row ≡ true) own_is of_core in
    let of_table = subst (λ (x : Table). is_found (counts_for c.xacts (xid_of (seat_of c s).state)) x.rows.pages given row ≡ true) table_is of_own in
    is_there c s t key row tid look (subst (λ (k : ℤ). is_found (counts_for c.xacts (xid_of (seat_of c s).state)) (table_at c.tables t).rows.pages k row ≡ true) key_is of_table)
