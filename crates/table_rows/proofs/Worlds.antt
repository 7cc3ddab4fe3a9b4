-- What a world has at a key, by what it has at each tid.
use Rattle.std.proofs.Common.{ℕ, ℤ, ◌≡◌, Bool, true, false, not, ◌&&◌, List, [], Option, Some, None, refl, sym, ap, ◌∙◌, cond}
use Rattle.std.specs.Option.{option_and_then}
use Rattle.std.specs.Ordering.{int_cmp, is_eq}
use Rattle.std.specs.declared.cmp.Ordering.{Ordering}
use Rattle.std.specs.declared.cmp.Ordering.TheVariants.{Less, Equal, Greater}
use Rattle.std.proofs.lemmas.Cmp.{int_cmp_total, tied_itself}
use Rattle.std.proofs.lemmas.Map.Lookups.{exact_signed}
use Rattle.std.proofs.lemmas.Option.{none-some, same_Some}
use Rattle.slot_page.specs.declared.line.Tid.{Tid}
use Rattle.slot_page.specs.declared.line.LinePointer.TheVariants.{Unused}
use Rattle.slot_page.specs.Pages.{page_at, item_in}
use Rattle.row_versions.specs.declared.version.Version.{Version}
use Rattle.row_versions.specs.Relations.{Pages}
use Rattle.xact_status.specs.Versions.{is_there}
use Rattle.table_rows.specs.Worlds.{tuple_of, tuple_at, tuple_by, tuple_in, first_some, IsOne, IsVersionAt, Agree}
use Rattle.table_rows.proofs.Fronts.{first_none, first_same, first_is, first_gives_none}

-- ---- the world and its tids

-- the same at each tid, the same at the key
pub world_same : (counts counts' : ℕ → Bool) (pages later : Pages) (key : ℤ) → ((t : Tid) → tuple_at counts pages key t ≡ tuple_at counts' later key t) → tuple_in counts pages key ≡ tuple_in counts' later key
world_same counts counts' pages later key same =
    first_same (first_some (tuple_by counts key)) (first_some (tuple_by counts' key)) [] pages later refl refl (λ page.
    first_same (tuple_by counts key) (tuple_by counts' key) Unused (page_at pages page) (page_at later page) refl refl (λ slot. same (record { page = page; slot = slot })))

pub one_same : (counts counts' : ℕ → Bool) (pages later : Pages) (key : ℤ) → ((t : Tid) → tuple_at counts pages key t ≡ tuple_at counts' later key t) → IsOne counts pages key → IsOne counts' later key
one_same counts counts' pages later key same one = record { same = λ t u a b at also. one.same t u a b (same t ∙ at) (same u ∙ also) }

-- what it has at the key it has at some tid
pub world_is : (counts : ℕ → Bool) (pages : Pages) (key : ℤ) (a : List ℕ) → tuple_in counts pages key ≡ Some a → (t : Tid) × (tuple_at counts pages key t ≡ Some a)
world_is counts pages key a e =
    let page = first_is (first_some (tuple_by counts key)) [] pages a e in
    let slot = first_is (tuple_by counts key) Unused (page_at pages page.0) a page.1 in
    (record { page = page.0; slot = slot.0 }, slot.1)

-- nothing at the key, nothing at any tid
pub world_gives_none : (counts : ℕ → Bool) (pages : Pages) (key : ℤ) → tuple_in counts pages key ≡ None → (t : Tid) → tuple_at counts pages key t ≡ None
world_gives_none counts pages key e t = first_gives_none (tuple_by counts key) Unused (page_at pages t.page) t.slot refl (first_gives_none (first_some (tuple_by counts key)) [] pages t.page refl e)

pub world_none : (counts : ℕ → Bool) (pages : Pages) (key : ℤ) → ((t : Tid) → tuple_at counts pages key t ≡ None) → tuple_in counts pages key ≡ None
world_none counts pages key none = first_none (first_some (tuple_by counts key)) [] pages (λ page. first_none (tuple_by counts key) Unused (page_at pages page) (λ slot. none (record { page = page; slot = slot })))

-- what it has at a tid it has at the key
pub world_has : (counts : ℕ → Bool) (pages : Pages) (key : ℤ) (t : Tid) (a : List ℕ) → IsOne counts pages key → tuple_at counts pages key t ≡ Some a → tuple_in counts pages key ≡ Some a
world_has counts pages key t a one at = by_answer (tuple_in counts pages key) refl
  where
    by_answer : (o : Option (List ℕ)) → tuple_in counts pages key ≡ o → tuple_in counts pages key ≡ Some a
    by_answer None is = absurd (none-some a (sym (world_gives_none counts pages key is t) ∙ at))
    by_answer (Some b) is =
        let found = world_is counts pages key b is in
        is ∙ (sym found.1 ∙ ap (tuple_at counts pages key) (one.same found.0 t b a found.1 at) ∙ at)

-- at most one where there is none
pub one_none : (counts : ℕ → Bool) (pages : Pages) (key : ℤ) → ((t : Tid) → tuple_at counts pages key t ≡ None) → IsOne counts pages key
one_none counts pages key none = record { same = λ t u a b at also. absurd (none-some a (sym (none t) ∙ at)) }

-- ---- the world and its versions

-- a tid whose version is known
pub at_version : (counts : ℕ → Bool) (pages : Pages) (key : ℤ) (t : Tid) (version : Version) → item_in pages t ≡ Some version → tuple_at counts pages key t ≡ tuple_of counts key version
at_version counts pages key t version is = ap (λ o. option_and_then (tuple_of counts key) o) is

pub at_nothing : (counts : ℕ → Bool) (pages : Pages) (key : ℤ) (t : Tid) → item_in pages t ≡ None → tuple_at counts pages key t ≡ None
at_nothing counts pages key t is = ap (λ o. option_and_then (tuple_of counts key) o) is

-- the same version, the same tuple
pub at_same : (counts : ℕ → Bool) (pages later : Pages) (key : ℤ) (t : Tid) → item_in later t ≡ item_in pages t → tuple_at counts pages key t ≡ tuple_at counts later key t
at_same counts pages later key t is = sym (ap (λ o. option_and_then (tuple_of counts key) o) is)

-- of another key, or not in the world: nothing
pub of_other_key : (counts : ℕ → Bool) (key : ℤ) (version : Version) → is_eq (int_cmp version.key key) ≡ false → tuple_of counts key version ≡ None
of_other_key counts key version other = shut (is_eq (int_cmp version.key key)) (is_there counts version.inserter version.ender) other
  where
    shut : (b c : Bool) → b ≡ false → cond (b && c) (Some version.tuple) None ≡ None
    shut true c e = absurd (cc)
    shut false c e = refl

pub of_absent : (counts : ℕ → Bool) (key : ℤ) (version : Version) → is_there counts version.inserter version.ender ≡ false → tuple_of counts key version ≡ None
of_absent counts key version absent = shut (is_eq (int_cmp version.key key)) (is_there counts version.inserter version.ender) absent
  where
    shut : (b c : Bool) → c ≡ false → cond (b && c) (Some version.tuple) None ≡ None
    shut true true e = absurd (cc)
    shut true false e = refl
    shut false c e = refl

-- of the key and in the world: its tuple
pub of_present : (counts : ℕ → Bool) (key : ℤ) (version : Version) → is_eq (int_cmp version.key key) ≡ true → is_there counts version.inserter version.ender ≡ true → tuple_of counts key version ≡ Some version.tuple
of_present counts key version of_key there = shown (is_eq (int_cmp version.key key)) (is_there counts version.inserter version.ender) of_key there
  where
    shown : (b c : Bool) → b ≡ true → c ≡ true → cond (b && c) (Some version.tuple) None ≡ Some version.tuple
    shown true true e f = refl
    shown true false e f = absurd (cc)
    shown false c e f = absurd (cc)

-- a tuple at a tid is that of a version there
pub record IsShownAt (counts : ℕ → Bool) (pages : Pages) (key : ℤ) (t : Tid) (a : List ℕ) (version : Version) : Type 0 where
  pub at : IsVersionAt pages key t version
  pub present : is_there counts version.inserter version.ender ≡ true
  pub tuple : version.tuple ≡ a

pub version_shown : (counts : ℕ → Bool) (pages : Pages) (key : ℤ) (t : Tid) (a : List ℕ) → tuple_at counts pages key t ≡ Some a → (version : Version) × IsShownAt counts pages key t a version
version_shown counts pages key t a at = by_item (item_in pages t) refl
  where
    parts : (version : Version) (b c : Bool) → cond (b && c) (Some version.tuple) None ≡ Some a → (b ≡ true) × (c ≡ true) × (version.tuple ≡ a)
    parts version true true e = (refl, refl, same_Some _ _ e)
    parts version true false e = absurd (none-some a e)
    parts version false c e = absurd (none-some a e)

    by_item : (o : Option Version) → item_in pages t ≡ o → (version : Version) × IsShownAt counts pages key t a version
    by_item None is = absurd (none-some a (sym (at_nothing counts pages key t is) ∙ at))
    by_item (Some version) is =
        let found = parts version (is_eq (int_cmp version.key key)) (is_there counts version.inserter version.ender) (sym (at_version counts pages key t version is) ∙ at) in
        (version, record { at = record { there = is; of_key = found.0 }; present = found.1; tuple = found.2 })

-- ---- two worlds of the same pages

-- a tid has the same where the worlds agree on its version
pub at_agreed : (counts counts' : ℕ → Bool) (pages : Pages) (key : ℤ) → Agree counts counts' pages key → (t : Tid) → tuple_at counts pages key t ≡ tuple_at counts' pages key t
at_agreed counts counts' pages key agree t = by_item (item_in pages t) refl
  where
    by_key : (version : Version) → item_in pages t ≡ Some version → (b : Bool) → is_eq (int_cmp version.key key) ≡ b → tuple_of counts key version ≡ tuple_of counts' key version
    by_key version is true of_key = ap (λ c. cond (is_eq (int_cmp version.key key) && c) (Some version.tuple) None) (agree.on t version (record { there = is; of_key = of_key }))
    by_key version is false other = of_other_key counts key version other ∙ sym (of_other_key counts' key version other)

    by_item : (o : Option Version) → item_in pages t ≡ o → tuple_at counts pages key t ≡ tuple_at counts' pages key t
    by_item None is = at_nothing counts pages key t is ∙ sym (at_nothing counts' pages key t is)
    by_item (Some version) is = at_version counts pages key t version is ∙ by_key version is (is_eq (int_cmp version.key key)) refl ∙ sym (at_version counts' pages key t version is)

-- tests that tell the same of each xid agree
pub there_same : (counts counts' : ℕ → Bool) (inserter : ℕ) (ender : Option ℕ) → ((z : ℕ) → counts z ≡ counts' z) → is_there counts inserter ender ≡ is_there counts' inserter ender
there_same counts counts' inserter None same = ap (λ b. b && true) (same inserter)
there_same counts counts' inserter (Some e) same = ap (λ b. b && not (counts e)) (same inserter) ∙ ap (λ b. counts' inserter && not b) (same e)

pub agree_same : (counts counts' : ℕ → Bool) (pages : Pages) (key : ℤ) → ((z : ℕ) → counts z ≡ counts' z) → Agree counts counts' pages key
agree_same counts counts' pages key same = record { on = λ t version is. there_same counts counts' version.inserter version.ender same }

-- ---- keys

equal_is : (r : Ordering) → is_eq r ≡ true → r ≡ Equal
equal_is Less e = absurd (cc)
equal_is Equal e = refl
equal_is Greater e = absurd (cc)

pub key_is : (k l : ℤ) → is_eq (int_cmp k l) ≡ true → k ≡ l
key_is k l e = exact_signed k l (equal_is (int_cmp k l) e)

pub same_key : (k : ℤ) → is_eq (int_cmp k k) ≡ true
same_key k = ap is_eq (tied_itself int_cmp_total k)
