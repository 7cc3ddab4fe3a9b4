-- The holders of a value in the pages of a table, through each change of the versions.
use Rattle.std.proofs.Common.{ℕ, ◌≡◌, ◌≢◌, ◌⊎◌, inl, inr, Bool, true, false, List, Option, Some, None, cond, refl, sym, ap, ◌∙◌}
use Rattle.std.specs.Option.{option_and_then}
use Rattle.std.proofs.lemmas.Option.{none-some, same_Some}
use Rattle.slot_page.specs.declared.line.Tid.{Tid}
use Rattle.slot_page.specs.Pages.{item_in}
use Rattle.slot_page.proofs.Tids.{cases_tid}
use Rattle.row_versions.specs.declared.version.Version.{Version}
use Rattle.row_versions.specs.Relations.{Pages}
use Rattle.xact_status.specs.declared.Stamp.{Stamp}
use Rattle.value_holders.specs.Stamps.{fresh, ended_by}
use Rattle.value_holders.specs.Holders.{Holders, IsEndedAt, Joins, IsPartOf}
use Rattle.table_rows.specs.Steps.{stamp_of, IsPut, IsEnded, IsReplaced}
use Rattle.table_rows.proofs.Sessions.{From, Stays, New, Ended, from_replaced, from_put, from_ended}
use Rattle.table_state.specs.Holders.{stamp_if, holders_by}

-- a holder is a version whose tuple passes
pub record IsHolderAt (holds : List ℕ → Bool) (pages : Pages) (tid : Tid) (stamp : Stamp) (version : Version) : Type 0 where
  pub there : item_in pages tid ≡ Some version
  pub holds_it : holds version.tuple ≡ true
  pub stamp_is : stamp ≡ stamp_of version

pub holder_is : (holds : List ℕ → Bool) (pages : Pages) (tid : Tid) (stamp : Stamp) → holders_by holds pages tid ≡ Some stamp → (version : Version) × IsHolderAt holds pages tid stamp version
holder_is holds pages tid stamp is = by_item (item_in pages tid) refl is
  where
    by_test : (version : Version) → item_in pages tid ≡ Some version → (b : Bool) → holds version.tuple ≡ b → cond b (Some (stamp_of version)) None ≡ Some stamp → (version : Version) × IsHolderAt holds pages tid stamp version
    by_test version at true passes e = (version, record { there = at; holds_it = passes; stamp_is = sym (same_Some _ _ e) })
    by_test version at false fails e = absurd (none-some stamp e)

    by_item : (o : Option Version) → item_in pages tid ≡ o → option_and_then (stamp_if holds) o ≡ Some stamp → (version : Version) × IsHolderAt holds pages tid stamp version
    by_item None at e = absurd (none-some stamp e)
    by_item (Some version) at e = by_test version at (holds version.tuple) refl e

pub holder_from : (holds : List ℕ → Bool) (pages : Pages) (tid : Tid) (version : Version) → item_in pages tid ≡ Some version → holds version.tuple ≡ true → holders_by holds pages tid ≡ Some (stamp_of version)
holder_from holds pages tid version at passes = ap (λ o. option_and_then (stamp_if holds) o) at ∙ ap (λ b. cond b (Some (stamp_of version)) None) passes

-- a test that tells both ways
pub clash : (b : Bool) → b ≡ true → b ≡ false → ⊥
clash true e f = cc
clash false e f = cc

-- a holder that was there
stays : (holds : List ℕ → Bool) (pages : Pages) (tid : Tid) (stamp : Stamp) (version : Version) → item_in pages tid ≡ Some version → holds version.tuple ≡ true → stamp ≡ stamp_of version → holders_by holds pages tid ≡ Some stamp
stays holds pages tid stamp version at passes is = holder_from holds pages tid version at passes ∙ ap Some (sym is)

-- ---- put

pub put_joins : (holds : List ℕ → Bool) (pages later : Pages) (new : Tid) (version : Version) (xid : ℕ) → IsPut pages later new version → stamp_of version ≡ fresh xid → Joins (holders_by holds pages) (holders_by holds later) xid new
put_joins holds pages later new version xid put is = record {
  each = λ t stamp h. let v = holder_is holds later t stamp h in elim (cases_tid t new) [
    | inl here ↦ inl (here, v.1.stamp_is ∙ ap stamp_of (same_Some _ _ (sym v.1.there ∙ ap (item_in later) here ∙ put.put)) ∙ is)
    | inr other ↦ inr (stays holds pages t stamp v.0 (sym (put.elsewhere t other) ∙ v.1.there) v.1.holds_it v.1.stamp_is)
  ];
}

pub put_apart : (holds : List ℕ → Bool) (pages later : Pages) (new : Tid) (version : Version) → IsPut pages later new version → holds version.tuple ≡ false → IsPartOf (holders_by holds pages) (holders_by holds later)
put_apart holds pages later new version put not_held = record {
  each = λ t stamp h. let v = holder_is holds later t stamp h in elim (from_put pages later new version put t v.0 v.1.there) [
    | inl stayed ↦ stays holds pages t stamp v.0 stayed v.1.holds_it v.1.stamp_is
    | inr is_new ↦ absurd (clash (holds version.tuple) (ap (λ (w : Version). holds w.tuple) (sym is_new) ∙ v.1.holds_it) not_held)
  ];
}

-- ---- end

pub ended_at : (holds : List ℕ → Bool) (xid : ℕ) (pages later : Pages) (tid : Tid) (old : Version) → IsEnded xid pages later tid old → holds old.tuple ≡ true → IsEndedAt (holders_by holds pages) (holders_by holds later) xid tid (stamp_of old)
ended_at holds xid pages later tid old ended held = record {
  there = holder_from holds pages tid old ended.there held;
  each = λ t stamp h. let v = holder_is holds later t stamp h in elim (cases_tid t tid) [
    | inl here ↦ inl (here, v.1.stamp_is ∙ ap stamp_of (same_Some _ _ (sym v.1.there ∙ ap (item_in later) here ∙ ended.ended)))
    | inr other ↦ inr (other, stays holds pages t stamp v.0 (sym (ended.elsewhere t other) ∙ v.1.there) v.1.holds_it v.1.stamp_is)
  ];
}

pub ended_apart : (holds : List ℕ → Bool) (xid : ℕ) (pages later : Pages) (tid : Tid) (old : Version) → IsEnded xid pages later tid old → holds old.tuple ≡ false → IsPartOf (holders_by holds pages) (holders_by holds later)
ended_apart holds xid pages later tid old ended not_held = record {
  each = λ t stamp h. let v = holder_is holds later t stamp h in elim (from_ended xid pages later tid old ended t v.0 v.1.there) [
    | inl stayed ↦ stays holds pages t stamp v.0 stayed v.1.holds_it v.1.stamp_is
    | inr was ↦ absurd (clash (holds old.tuple) (ap (λ (w : Version). holds w.tuple) (sym was.1) ∙ v.1.holds_it) not_held)
  ];
}

-- ---- both

-- neither holds it
pub replaced_apart : (holds : List ℕ → Bool) (xid : ℕ) (pages later : Pages) (tid new : Tid) (old version : Version) → IsReplaced xid pages later tid new old version → holds old.tuple ≡ false → holds version.tuple ≡ false → IsPartOf (holders_by holds pages) (holders_by holds later)
replaced_apart holds xid pages later tid new old version replaced not_old not_new = record { each = λ t stamp h. let v = holder_is holds later t stamp h in by_from t stamp v.0 v.1 (from_replaced xid pages later tid new old version replaced t v.0 v.1.there) }
  where
    by_from : (t : Tid) (stamp : Stamp) (w : Version) → IsHolderAt holds later t stamp w → From xid pages old version t w → holders_by holds pages t ≡ Some stamp
    by_from t stamp w h (Stays is) = stays holds pages t stamp w is h.holds_it h.stamp_is
    by_from t stamp w h (New is) = absurd (clash (holds version.tuple) (ap (λ (v : Version). holds v.tuple) (sym is) ∙ h.holds_it) not_new)
    by_from t stamp w h (Ended was is) = absurd (clash (holds old.tuple) (ap (λ (v : Version). holds v.tuple) (sym is) ∙ h.holds_it) not_old)

-- the new one does
pub replaced_joins : (holds : List ℕ → Bool) (xid : ℕ) (pages later : Pages) (tid new : Tid) (old version : Version) → IsReplaced xid pages later tid new old version → stamp_of version ≡ fresh xid → holds old.tuple ≡ false → Joins (holders_by holds pages) (holders_by holds later) xid new
replaced_joins holds xid pages later tid new old version replaced fresh_is not_old = record {
  each = λ t stamp h. let v = holder_is holds later t stamp h in elim (cases_tid t new) [
    | inl here ↦ inl (here, v.1.stamp_is ∙ ap stamp_of (same_Some _ _ (sym v.1.there ∙ ap (item_in later) here ∙ replaced.put)) ∙ fresh_is)
    | inr other ↦ elim (cases_tid t tid) [
      | inl there ↦ absurd (clash (holds old.tuple) (ap (λ (w : Version). holds w.tuple) (same_Some _ _ (sym replaced.ended ∙ ap (item_in later) (sym there) ∙ v.1.there)) ∙ v.1.holds_it) not_old)
      | inr neither ↦ inr (stays holds pages t stamp v.0 (sym (replaced.elsewhere t other neither) ∙ v.1.there) v.1.holds_it v.1.stamp_is)
    ]
  ];
}

-- the old one does
pub replaced_ends : (holds : List ℕ → Bool) (xid : ℕ) (pages later : Pages) (tid new : Tid) (old version : Version) → IsReplaced xid pages later tid new old version → holds old.tuple ≡ true → holds version.tuple ≡ false → IsEndedAt (holders_by holds pages) (holders_by holds later) xid tid (stamp_of old)
replaced_ends holds xid pages later tid new old version replaced held not_new = record {
  there = holder_from holds pages tid old replaced.there held;
  each = λ t stamp h. let v = holder_is holds later t stamp h in elim (cases_tid t tid) [
    | inl here ↦ inl (here, v.1.stamp_is ∙ ap stamp_of (same_Some _ _ (sym v.1.there ∙ ap (item_in later) here ∙ replaced.ended)))
    | inr other ↦ inr (
      other,
      elim (cases_tid t new) [
        | inl at_new ↦ absurd (clash (holds version.tuple) (ap (λ (w : Version). holds w.tuple) (same_Some _ _ (sym replaced.put ∙ ap (item_in later) (sym at_new) ∙ v.1.there)) ∙ v.1.holds_it) not_new)
        | inr neither ↦ stays holds pages t stamp v.0 (sym (replaced.elsewhere t neither other) ∙ v.1.there) v.1.holds_it v.1.stamp_is
      ],
    )
  ];
}

-- both do: between the end of the old one and the new one stand the others
pick : {A B : Type 0} → A ⊎ B → Option Stamp → Option Stamp
pick (inl a) o = None
pick (inr b) o = o

pub but_at : (holds : List ℕ → Bool) (later : Pages) (new : Tid) → Holders Tid
but_at holds later new t = pick (cases_tid t new) (holders_by holds later t)

pub replaced_middle : (holds : List ℕ → Bool) (xid : ℕ) (pages later : Pages) (tid new : Tid) (old version : Version) → IsReplaced xid pages later tid new old version → holds old.tuple ≡ true → IsEndedAt (holders_by holds pages) (but_at holds later new) xid tid (stamp_of old)
unfolding but_at pick
replaced_middle holds xid pages later tid new old version replaced held = record {
  there = holder_from holds pages tid old replaced.there held;
  each = λ t stamp h. by_place t stamp (cases_tid t new) h;
}
  where
    by_place : (t : Tid) (stamp : Stamp) (d : (t ≡ new) ⊎ (t ≢ new)) → pick d (holders_by holds later t) ≡ Some stamp → ((t ≡ tid) × (stamp ≡ ended_by xid (stamp_of old))) ⊎ ((t ≢ tid) × (holders_by holds pages t ≡ Some stamp))
    by_place t stamp (inl here) h = absurd (none-some stamp h)
    by_place t stamp (inr other) h = let v = holder_is holds later t stamp h in elim (cases_tid t tid) [
      | inl there ↦ inl (there, v.1.stamp_is ∙ ap stamp_of (same_Some _ _ (sym v.1.there ∙ ap (item_in later) there ∙ replaced.ended)))
      | inr neither ↦ inr (neither, stays holds pages t stamp v.0 (sym (replaced.elsewhere t other neither) ∙ v.1.there) v.1.holds_it v.1.stamp_is)
    ]

pub middle_joins : (holds : List ℕ → Bool) (xid : ℕ) (pages later : Pages) (tid new : Tid) (old version : Version) → IsReplaced xid pages later tid new old version → stamp_of version ≡ fresh xid → Joins (but_at holds later new) (holders_by holds later) xid new
unfolding but_at pick
middle_joins holds xid pages later tid new old version replaced fresh_is = record { each = λ t stamp h. by_place t stamp (cases_tid t new) h }
  where
    by_place : (t : Tid) (stamp : Stamp) (d : (t ≡ new) ⊎ (t ≢ new)) → holders_by holds later t ≡ Some stamp → ((t ≡ new) × (stamp ≡ fresh xid)) ⊎ (pick d (holders_by holds later t) ≡ Some stamp)
    by_place t stamp (inl here) h = let v = holder_is holds later t stamp h in inl (here, v.1.stamp_is ∙ ap stamp_of (same_Some _ _ (sym v.1.there ∙ ap (item_in later) here ∙ replaced.put)) ∙ fresh_is)
    by_place t stamp (inr other) h = inr h

-- ---- fewer

pub fewer_part : (holds : List ℕ → Bool) (pages later : Pages) → ((tid : Tid) (version : Version) → item_in later tid ≡ Some version → item_in pages tid ≡ Some version) → IsPartOf (holders_by holds pages) (holders_by holds later)
fewer_part holds pages later was = record { each = λ t stamp h. let v = holder_is holds later t stamp h in stays holds pages t stamp v.0 (was t v.0 v.1.there) v.1.holds_it v.1.stamp_is }
