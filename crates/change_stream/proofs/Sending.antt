-- When a change can be sent on rows, and what its message does to them.
use Rattle.std.proofs.Common.{◌≡◌, ℕ, Bool, true, false, List, [], ◌∷◌, ◌++◌, Option, Some, None, Result, Ok, Err, length, refl, sym, ap, ◌∙◌}
use Rattle.std.specs.Prelude.{◌||◌, map as mapped, if◌then◌else◌}
use Rattle.std.proofs.Common.{eq-eqb}
use Rattle.std.specs.List.{position}
use Rattle.std.specs.Option.{unwrap_or}
use Rattle.std.specs.Cmp.{eq_by_cmp_equiv}
use Rattle.std.specs.FinMap as map
use Rattle.tuple_layout.specs.declared.Place.{Place}
use Rattle.tuple_layout.specs.Places.{Row, Rows, place_total, same_place}
use Rattle.command_set.specs.declared.state.Change.{Change}
use Rattle.command_set.specs.declared.state.Change.TheVariants.{Insert, Update, Move, Remove}
use Rattle.command_set.specs.Changes.{fold_changes, is_named, keys_of, made, place, places_of, said}
use Rattle.command_set.proofs.Named.{named_append}
use Rattle.command_set.proofs.Outcomes.{get_made}
use Rattle.replica_map.specs.declared.fault.ApplyFault.{ApplyFault}
use Rattle.replica_map.specs.declared.fault.ApplyFault.TheVariants.{WrongColumns}
use Rattle.replica_map.specs.Applies.{and_then, apply_all, apply_message, deleted, inserted, is_unchanged, moved, row_with as received, updated}
use Rattle.change_stream.specs.declared.written.Written.{Written}
use Rattle.change_stream.specs.Streams.{message_by, message_of, sent_row}
use Rattle.change_stream.proofs.Columns.{new_is_told, new_received}

-- a row is there
pub record IsThere (o : Option Row) : Type 0 where
  pub old : Row
  pub is : o ≡ Some old

-- a row is there over which these columns are received as this row
pub record Receives (o : Option Row) (kept : List ℕ) (row : Row) : Type 0 where
  pub old : Row
  pub is : o ≡ Some old
  pub count : length (sent_row kept row) ≡ length old
  pub same : received old (sent_row kept row) ≡ row

-- a change that keeps these columns can be sent on rows
abbrev pub SendsBy : Rows → Change → List ℕ → Type 0
SendsBy rows (Insert t k row) kept = (map.get rows (place t k) ≡ None) × (kept ≡ [])
SendsBy rows (Update t k row) kept = Receives (map.get rows (place t k)) kept row
SendsBy rows (Move t from to row) kept = Receives (map.get rows (place t from)) kept row × (map.get rows (place t to) ≡ None)
SendsBy rows (Remove t k) kept = IsThere (map.get rows (place t k))

-- changes can be sent on rows one after another
abbrev pub AreSent : Rows → List Written → Type 0
AreSent rows [] = Unit {0}
AreSent rows (w ∷ ws) = SendsBy rows w.change w.kept × AreSent (made w.change rows) ws

-- the changes of such a list
abbrev pub changes_in : List Written → List Change
changes_in ws = mapped (λ w. w.change) ws

-- what is told once a row is put
abbrev put_at : Rows → Place → Row → Result Rows ApplyFault
put_at rows p row = Ok (map.insert rows p row)

insert_applies : (rows : Rows) (p : Place) (row : Row) (kept : List ℕ) → map.get rows p ≡ None → kept ≡ [] →
    inserted rows p (sent_row kept row) (map.get rows p) (position is_unchanged (sent_row kept row)) ≡ Ok (map.insert rows p row)
insert_applies rows p row kept none whole =
    ap (λ (o : Option Row). inserted rows p (sent_row kept row) o (position is_unchanged (sent_row kept row))) none
    ∙ ap (λ (k : List ℕ). inserted rows p (sent_row k row) None (position is_unchanged (sent_row k row))) whole
    ∙ ap (λ (o : Option ℕ). inserted rows p (sent_row [] row) None o) (new_is_told row)
    ∙ ap (put_at rows p) (new_received row)

update_applies : (rows : Rows) (p : Place) (row : Row) (kept : List ℕ) → Receives (map.get rows p) kept row →
    updated rows p (sent_row kept row) (map.get rows p) ≡ Ok (map.insert rows p row)
update_applies rows p row kept its =
    ap (updated rows p (sent_row kept row)) its.is
    ∙ ap (λ (b : Bool). if b then Ok (map.insert rows p (received its.old (sent_row kept row))) else Err (WrongColumns (length (sent_row kept row)) (length its.old))) (eq-eqb (length (sent_row kept row)) (length its.old) its.count)
    ∙ ap (put_at rows p) its.same

move_applies : (rows : Rows) (p q : Place) (row : Row) (kept : List ℕ) → Receives (map.get rows p) kept row → map.get rows q ≡ None →
    moved rows p q (sent_row kept row) (map.get rows p) (map.get rows q) ≡ Ok (map.insert (map.remove rows p) q row)
move_applies rows p q row kept its free =
    ap (λ (o : Option Row). moved rows p q (sent_row kept row) o (map.get rows q)) its.is
    ∙ ap (λ (o : Option Row). moved rows p q (sent_row kept row) (Some its.old) o) free
    ∙ ap (λ (b : Bool). if b then Ok (map.insert (map.remove rows p) q (received its.old (sent_row kept row))) else Err (WrongColumns (length (sent_row kept row)) (length its.old))) (eq-eqb (length (sent_row kept row)) (length its.old) its.count)
    ∙ ap (put_at (map.remove rows p) q) its.same

-- the message of a change that can be sent makes the change
pub message_applies : (rows : Rows) (change : Change) (kept : List ℕ) → SendsBy rows change kept → apply_message rows (message_by change kept) ≡ Ok (made change rows)
message_applies rows (Insert t k row) kept its = insert_applies rows (place t k) row kept its.0 its.1
message_applies rows (Update t k row) kept its = update_applies rows (place t k) row kept its
message_applies rows (Move t from to row) kept its = move_applies rows (place t from) (place t to) row kept its.0 its.1
message_applies rows (Remove t k) kept its = ap (deleted rows (place t k)) its.is

-- the messages of changes that can be sent make the changes
pub messages_apply : (rows : Rows) (ws : List Written) → AreSent rows ws → apply_all rows (mapped message_of ws) ≡ Ok (fold_changes (changes_in ws) rows)
messages_apply rows [] its = refl
messages_apply rows (w ∷ ws) its =
    ap (and_then (λ after. apply_all after (mapped message_of ws))) (message_applies rows w.change w.kept its.0)
    ∙ messages_apply (made w.change rows) ws its.1

-- one change more
pub sent_push : (rows : Rows) (ws : List Written) (w : Written) → AreSent rows ws → SendsBy (fold_changes (changes_in ws) rows) w.change w.kept → AreSent rows (ws ++ w ∷ [])
sent_push rows [] w its more = (more, tt)
sent_push rows (first ∷ ws) w its more = (its.0, sent_push (made first.change rows) ws w its.1 more)

-- two maps have the same rows at these places
pub record Alike (places : List Place) (rows others : Rows) : Type 0 where
  pub at : (p : Place) → is_named places p ≡ true → map.get rows p ≡ map.get others p

is_itself : (p : Place) → same_place p p ≡ true
is_itself p = (eq_by_cmp_equiv place_total).refl p

first_named : (p : Place) (ps : List Place) → is_named (p ∷ ps) p ≡ true
first_named p ps = ap (λ b. b || is_named ps p) (is_itself p)

later_named : (q : Place) (ps : List Place) (p : Place) → is_named ps p ≡ true → is_named (q ∷ ps) p ≡ true
later_named q ps p e = either (same_place p q) e
  where
    either : (b : Bool) → is_named ps p ≡ true → (b || is_named ps p) ≡ true
    either true _ = refl
    either false e = e

received_alike : {o other : Option Row} {kept : List ℕ} {row : Row} → other ≡ o → Receives o kept row → Receives other kept row
received_alike e its = record { old = its.old; is = e ∙ its.is; count = its.count; same = its.same }

-- what a change needs is at the places that it names
pub sends_alike : (rows others : Rows) (change : Change) (kept : List ℕ) → Alike (places_of change) rows others → SendsBy rows change kept → SendsBy others change kept
sends_alike rows others (Insert t k row) kept same its = (sym (same.at (place t k) (first_named (place t k) [])) ∙ its.0, its.1)
sends_alike rows others (Update t k row) kept same its = received_alike (sym (same.at (place t k) (first_named (place t k) []))) its
sends_alike rows others (Move t from to row) kept same its = (
  received_alike (sym (same.at (place t from) (first_named (place t from) (place t to ∷ [])))) its.0,
  sym (same.at (place t to) (later_named (place t from) (place t to ∷ []) (place t to) (first_named (place t to) []))) ∙ its.1,
)
sends_alike rows others (Remove t k) kept same its = record { old = its.old; is = sym (same.at (place t k) (first_named (place t k) [])) ∙ its.is }

or_left : (a b : Bool) → a ≡ true → (a || b) ≡ true
or_left true b e = refl
or_left false b e = absurd (cc)

or_right : (a b : Bool) → b ≡ true → (a || b) ≡ true
or_right true b e = refl
or_right false b e = e

-- the same of a list of changes
pub sent_alike : (rows others : Rows) (ws : List Written) → Alike (keys_of (changes_in ws)) rows others → AreSent rows ws → AreSent others ws
sent_alike rows others [] same its = tt
sent_alike rows others (w ∷ ws) same its =
    let here = places_of w.change in
    let later = keys_of (changes_in ws) in (
      sends_alike rows others w.change w.kept (record { at = λ p named. same.at p (named_append here later p ∙ or_left (is_named here p) (is_named later p) named) }) its.0,
      sent_alike (made w.change rows) (made w.change others) ws
          (record {
            at = λ p named.
                get_made w.change rows p
                ∙ ap (unwrap_or (said w.change p)) (same.at p (named_append here later p ∙ or_right (is_named here p) (is_named later p) named))
                ∙ sym (get_made w.change others p);
          })
          its.1,
    )
