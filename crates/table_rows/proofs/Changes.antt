-- What each change of the versions does to a world at a key.
use Rattle.std.proofs.Common.{ℕ, ℤ, ◌≡◌, ◌≢◌, inl, inr, Bool, true, false, not, ◌&&◌, cond, List, Option, Some, None, refl, sym, ap, ◌∙◌}
use Rattle.std.specs.Option.{option_map_or}
use Rattle.std.specs.Ordering.{int_cmp, is_eq}
use Rattle.std.proofs.lemmas.Option.{none-some}
use Rattle.slot_page.specs.declared.line.Tid.{Tid}
use Rattle.slot_page.specs.Pages.{item_in}
use Rattle.slot_page.proofs.Tids.{cases_tid}
use Rattle.xact_status.specs.Xacts.{Xacts}
use Rattle.xact_status.specs.Versions.{is_dead, is_there}
use Rattle.row_versions.specs.declared.version.Version.{Version}
use Rattle.row_versions.specs.Relations.{Pages}
use Rattle.table_rows.specs.Worlds.{tuple_of, tuple_at, tuple_in, IsOne}
use Rattle.table_rows.specs.Steps.{ended_by, IsPut, IsEnded, IsReplaced, TakesDead, SameVersions}
use Rattle.table_rows.proofs.Worlds.{world_gives_none, world_none, world_has, at_version, at_nothing, at_same, of_absent}

-- ---- an end

-- a version that is ended is in no world that counts its ender
pub ended_absent : (counts : ℕ → Bool) (xid : ℕ) (version : Version) → counts xid ≡ true → is_there counts (ended_by xid version).inserter (ended_by xid version).ender ≡ false
ended_absent counts xid version on = shut (counts version.inserter) (counts xid) on
  where
    shut : (a b : Bool) → b ≡ true → (a && not b) ≡ false
    shut true true e = refl
    shut true false e = absurd (cc)
    shut false b e = refl

-- and in one that counts neither it nor the ender before as it was
pub ended_as_before : (counts : ℕ → Bool) (xid : ℕ) (key : ℤ) (version : Version) → counts xid ≡ false → option_map_or counts version.ender false ≡ false → tuple_of counts key version ≡ tuple_of counts key (ended_by xid version)
ended_as_before counts xid key version off before = ap (λ b. cond (is_eq (int_cmp version.key key) && (counts version.inserter && not b)) (Some version.tuple) None) (before ∙ sym off)

-- ---- a version is put

-- not in the world, or of another key: nothing changes
pub at_put_out : (counts : ℕ → Bool) (pages later : Pages) (new : Tid) (version : Version) (key : ℤ) → IsPut pages later new version → tuple_of counts key version ≡ None → (t : Tid) → tuple_at counts pages key t ≡ tuple_at counts later key t
at_put_out counts pages later new version key put out t = elim (cases_tid t new) [
  | inl here ↦ at_nothing counts pages key t (ap (item_in pages) here ∙ put.free) ∙ sym (at_version counts later key t version (ap (item_in later) here ∙ put.put) ∙ out)
  | inr other ↦ at_same counts pages later key t (put.elsewhere t other)
]

-- in it, where the world had none at the key: it is the one
put_only : (counts : ℕ → Bool) (pages later : Pages) (new : Tid) (version : Version) (key : ℤ) → IsPut pages later new version → tuple_in counts pages key ≡ None → (t : Tid) (a : List ℕ) → tuple_at counts later key t ≡ Some a → t ≡ new
put_only counts pages later new version key put none t a at = elim (cases_tid t new) [
  | inl here ↦ here
  | inr other ↦ absurd (none-some a (sym (world_gives_none counts pages key none t) ∙ at_same counts pages later key t (put.elsewhere t other) ∙ at))
]

pub one_put : (counts : ℕ → Bool) (pages later : Pages) (new : Tid) (version : Version) (key : ℤ) → IsPut pages later new version → tuple_in counts pages key ≡ None → IsOne counts later key
one_put counts pages later new version key put none = record { same = λ t u a b at also. put_only counts pages later new version key put none t a at ∙ sym (put_only counts pages later new version key put none u b also) }

pub world_put : (counts : ℕ → Bool) (pages later : Pages) (new : Tid) (version : Version) (key : ℤ) → IsPut pages later new version → tuple_in counts pages key ≡ None → tuple_of counts key version ≡ Some version.tuple → tuple_in counts later key ≡ Some version.tuple
world_put counts pages later new version key put none shown = world_has counts later key new version.tuple (one_put counts pages later new version key put none) (at_version counts later key new version put.put ∙ shown)

-- ---- a version is ended

-- what the end leaves of a world at the tid decides
pub at_ended_out : (counts : ℕ → Bool) (xid : ℕ) (pages later : Pages) (tid : Tid) (old : Version) (key : ℤ) → IsEnded xid pages later tid old → tuple_of counts key old ≡ tuple_of counts key (ended_by xid old) → (t : Tid) → tuple_at counts pages key t ≡ tuple_at counts later key t
at_ended_out counts xid pages later tid old key ended same t = elim (cases_tid t tid) [
  | inl here ↦ at_version counts pages key t old (ap (item_in pages) here ∙ ended.there) ∙ same ∙ sym (at_version counts later key t (ended_by xid old) (ap (item_in later) here ∙ ended.ended))
  | inr other ↦ at_same counts pages later key t (ended.elsewhere t other)
]

-- the one of its key, in a world that counts the ender: the world has none any more
pub others_none : (counts : ℕ → Bool) (pages : Pages) (key : ℤ) (tid : Tid) (a : List ℕ) → IsOne counts pages key → tuple_at counts pages key tid ≡ Some a → (t : Tid) → t ≢ tid → tuple_at counts pages key t ≡ None
others_none counts pages key tid a one at t other = by_answer (tuple_at counts pages key t) refl
  where
    by_answer : (o : Option (List ℕ)) → tuple_at counts pages key t ≡ o → tuple_at counts pages key t ≡ None
    by_answer None is = is
    by_answer (Some b) is = absurd (other (one.same t tid b a is at))

pub at_ended_in : (counts : ℕ → Bool) (xid : ℕ) (pages later : Pages) (tid : Tid) (old : Version) (key : ℤ) → IsEnded xid pages later tid old → counts xid ≡ true → ((t : Tid) → t ≢ tid → tuple_at counts pages key t ≡ None) → (t : Tid) → tuple_at counts later key t ≡ None
at_ended_in counts xid pages later tid old key ended on none t = elim (cases_tid t tid) [
  | inl here ↦ at_version counts later key t (ended_by xid old) (ap (item_in later) here ∙ ended.ended) ∙ of_absent counts key (ended_by xid old) (ended_absent counts xid old on)
  | inr other ↦ sym (at_same counts pages later key t (ended.elsewhere t other)) ∙ none t other
]

-- ---- both

-- a world that counts neither stays
pub at_replaced_out : (counts : ℕ → Bool) (xid : ℕ) (pages later : Pages) (tid new : Tid) (old version : Version) (key : ℤ) → IsReplaced xid pages later tid new old version → tuple_of counts key version ≡ None → tuple_of counts key old ≡ tuple_of counts key (ended_by xid old) → (t : Tid) → tuple_at counts pages key t ≡ tuple_at counts later key t
at_replaced_out counts xid pages later tid new old version key replaced out same t = elim (cases_tid t new) [
  | inl here ↦ at_nothing counts pages key t (ap (item_in pages) here ∙ replaced.free) ∙ sym (at_version counts later key t version (ap (item_in later) here ∙ replaced.put) ∙ out)
  | inr other ↦ elim (cases_tid t tid) [
    | inl there ↦ at_version counts pages key t old (ap (item_in pages) there ∙ replaced.there) ∙ same ∙ sym (at_version counts later key t (ended_by xid old) (ap (item_in later) there ∙ replaced.ended))
    | inr neither ↦ at_same counts pages later key t (replaced.elsewhere t other neither)
  ]
]

-- one that counts the ender has at a key what it had but at the old tid, and the new version at its own
pub at_replaced_in : (counts : ℕ → Bool) (xid : ℕ) (pages later : Pages) (tid new : Tid) (old version : Version) (key : ℤ) → IsReplaced xid pages later tid new old version → counts xid ≡ true → ((t : Tid) → t ≢ tid → tuple_at counts pages key t ≡ None) → (t : Tid) → t ≢ new → tuple_at counts later key t ≡ None
at_replaced_in counts xid pages later tid new old version key replaced on none t other = elim (cases_tid t tid) [
  | inl there ↦ at_version counts later key t (ended_by xid old) (ap (item_in later) there ∙ replaced.ended) ∙ of_absent counts key (ended_by xid old) (ended_absent counts xid old on)
  | inr neither ↦ sym (at_same counts pages later key t (replaced.elsewhere t other neither)) ∙ none t neither
]

pub one_replaced : (counts : ℕ → Bool) (xid : ℕ) (pages later : Pages) (tid new : Tid) (old version : Version) (key : ℤ) → IsReplaced xid pages later tid new old version → counts xid ≡ true → ((t : Tid) → t ≢ tid → tuple_at counts pages key t ≡ None) → IsOne counts later key
one_replaced counts xid pages later tid new old version key replaced on none = record { same = λ t u a b at also. only t a at ∙ sym (only u b also) }
  where
    only : (t : Tid) (a : List ℕ) → tuple_at counts later key t ≡ Some a → t ≡ new
    only t a at = elim (cases_tid t new) [
      | inl here ↦ here
      | inr other ↦ absurd (none-some a (sym (at_replaced_in counts xid pages later tid new old version key replaced on none t other) ∙ at))
    ]

-- what the new version is to a world that had none but at the old tid
pub world_replaced : (counts : ℕ → Bool) (xid : ℕ) (pages later : Pages) (tid new : Tid) (old version : Version) (key : ℤ) → IsReplaced xid pages later tid new old version → counts xid ≡ true → ((t : Tid) → t ≢ tid → tuple_at counts pages key t ≡ None) → tuple_in counts later key ≡ tuple_of counts key version
world_replaced counts xid pages later tid new old version key replaced on none = by_new (tuple_of counts key version) refl
  where
    here : tuple_at counts later key new ≡ tuple_of counts key version
    here = at_version counts later key new version replaced.put

    by_new : (o : Option (List ℕ)) → tuple_of counts key version ≡ o → tuple_in counts later key ≡ tuple_of counts key version
    by_new None is = world_none counts later key (λ t. elim (cases_tid t new) [
      | inl at ↦ ap (tuple_at counts later key) at ∙ here ∙ is
      | inr other ↦ at_replaced_in counts xid pages later tid new old version key replaced on none t other
    ]) ∙ sym is
    by_new (Some a) is = world_has counts later key new a (one_replaced counts xid pages later tid new old version key replaced on none) (here ∙ is) ∙ sym is

-- ---- vacuum

-- what is taken away is in no world of the kind: nothing changes
pub at_taken : (xacts : Xacts) (bound : ℕ) (counts : ℕ → Bool) (pages later : Pages) (key : ℤ) → TakesDead xacts bound pages later → ((version : Version) → is_dead xacts bound version.inserter version.ender ≡ true → is_there counts version.inserter version.ender ≡ false) → (t : Tid) → tuple_at counts pages key t ≡ tuple_at counts later key t
at_taken xacts bound counts pages later key takes out t = by_item (item_in pages t) refl
  where
    by_after : (o : Option Version) → item_in later t ≡ o → item_in pages t ≡ None → item_in later t ≡ item_in pages t
    by_after None is none = is ∙ sym none
    by_after (Some version) is none = absurd (none-some version (sym none ∙ takes.left t version is))

    gone_by : (version : Version) → item_in pages t ≡ Some version → is_dead xacts bound version.inserter version.ender ≡ true → (o : Option Version) → item_in later t ≡ o → tuple_at counts pages key t ≡ tuple_at counts later key t
    gone_by version is dead None after = at_version counts pages key t version is ∙ of_absent counts key version (out version dead) ∙ sym (at_nothing counts later key t after)
    gone_by version is dead (Some other) after = at_same counts pages later key t (after ∙ sym (takes.left t other after))

    by_item : (o : Option Version) → item_in pages t ≡ o → tuple_at counts pages key t ≡ tuple_at counts later key t
    by_item None is = at_same counts pages later key t (by_after (item_in later t) refl is)
    by_item (Some version) is = elim (takes.gone t version is) [
      | inl stays ↦ at_same counts pages later key t (stays ∙ sym is)
      | inr dead ↦ gone_by version is dead (item_in later t) refl
    ]

pub at_unchanged : (counts : ℕ → Bool) (pages later : Pages) (key : ℤ) → SameVersions pages later → (t : Tid) → tuple_at counts pages key t ≡ tuple_at counts later key t
at_unchanged counts pages later key same t = at_same counts pages later key t (same.each t)
