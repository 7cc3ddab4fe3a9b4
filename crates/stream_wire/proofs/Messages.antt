-- A message that is read is the message that was written, and what was written is read again.
use Rattle.std.proofs.Common.{◌≡◌, ℕ, ℤ, ◌-◌, ◌^◌, ◌<◌, ◌≤◌, true, eqb, List, [], ◌∷◌, ◌++◌, Some, None, refl, ap, subst, ◌∙◌, append_assoc, arith, inl, inr}
use Rattle.std.specs.Int.{w16, w32, w64, to_be_bytes}
use Rattle.std.specs.Int.RustNames.{FitsSigned}
use Rattle.std.proofs.lemmas.Bool.{eqb-true}
use Rattle.stream_wire.specs.declared.message.Sent.{Sent}
use Rattle.stream_wire.specs.declared.message.Message.{Message}
use Rattle.stream_wire.specs.declared.message.Message.TheVariants.{Begin, Insert, Update, Move, Delete, Commit}
use Rattle.stream_wire.specs.Spelling.{key_bytes, columns_bytes, spelling, IsTable, AreColumns, HasSpelling}
use Rattle.stream_wire.specs.Reading.{◌>>=◌, ranged_at, key_at, row_at, numbered_at, change_at, move_at, delete_at, message_at}
use Rattle.stream_wire.proofs.Fields.{IsBytes, IsBytes-rest, some_is, bind_some, if_some, Takes, Takes-then, Takes-letter, wide16, wide32, ranged_takes, ranged_again, key_takes, key_again}
use Rattle.stream_wire.proofs.Columns.{row_takes, row_again}

-- a message was taken
abbrev pub TakesMessage : List ℕ → Message × List ℕ → Type 0
TakesMessage bytes x = Takes bytes (spelling x.0) x.1 × HasSpelling x.0

-- ---- what stands behind the letters

abbrev change_bytes : ℕ → ℤ → List Sent → List ℕ
change_bytes table key columns = to_be_bytes w16 table ++ (key_bytes key ++ columns_bytes columns)

record TakesNumber (make : ℕ → Message) (bytes : List ℕ) (x : Message × List ℕ) : Type 0 where
  pub number : ℕ
  pub is : make number ≡ x.0
  pub takes : Takes bytes (to_be_bytes w32 number) x.1
  pub low : 1 ≤ number
  pub below : number < 2 ^ 32

numbered_takes : (make : ℕ → Message) (bytes : List ℕ) (x : Message × List ℕ) → IsBytes bytes → numbered_at make bytes ≡ Some x → TakesNumber make bytes x
unfolding numbered_at
numbered_takes make bytes x fits e =
    let a = bind_some (ranged_at w32 1 (2 ^ 32 - 1) bytes) (λ number. Some (make number.0, number.1)) x e in
    let t = ranged_takes w32 (2 ^ 32) wide32 1 (2 ^ 32 - 1) bytes a.0 fits a.1 in
    subst (λ (p : Message × List ℕ). TakesNumber make bytes p) (some_is (make a.0.0, a.0.1) x a.2) (record { number = a.0.0; is = refl; takes = t.0; low = t.1; below = t.3 })

numbered_again : (make : ℕ → Message) (number : ℕ) (rest : List ℕ) → 1 ≤ number → number < 2 ^ 32 → numbered_at make (to_be_bytes w32 number ++ rest) ≡ Some (make number, rest)
unfolding numbered_at
numbered_again make number rest low lt =
    let high : number ≤ 2 ^ 32 - 1 = omega arith in
    rw (ranged_again w32 (2 ^ 32) wide32 1 (2 ^ 32 - 1) number rest low high lt) refl

record TakesChange (make : ℕ → ℤ → List Sent → Message) (bytes : List ℕ) (x : Message × List ℕ) : Type 0 where
  pub table : ℕ
  pub key : ℤ
  pub columns : List Sent
  pub is : make table key columns ≡ x.0
  pub takes : Takes bytes (change_bytes table key columns) x.1
  pub of_table : IsTable table
  pub of_key : FitsSigned w64 key
  pub of_columns : AreColumns columns

change_takes : (make : ℕ → ℤ → List Sent → Message) (bytes : List ℕ) (x : Message × List ℕ) → IsBytes bytes → change_at make bytes ≡ Some x → TakesChange make bytes x
unfolding change_at
change_takes make bytes x fits e =
    let a = bind_some (ranged_at w16 1 16 bytes) (λ table. key_at table.1 >>= λ key. row_at key.1 >>= λ columns. Some (make table.0 key.0 columns.0, columns.1)) x e in
    let b = bind_some (key_at a.0.1) (λ key. row_at key.1 >>= λ columns. Some (make a.0.0 key.0 columns.0, columns.1)) x a.2 in
    let d = bind_some (row_at b.0.1) (λ columns. Some (make a.0.0 b.0.0 columns.0, columns.1)) x b.2 in
    let t0 = ranged_takes w16 (2 ^ 16) wide16 1 16 bytes a.0 fits a.1 in
    let t1 = key_takes a.0.1 b.0 t0.0.rest_fits b.1 in
    let t2 = row_takes b.0.1 d.0 t1.0.rest_fits d.1 in
    let e12 = Takes-then a.0.1 (key_bytes b.0.0) b.0.1 (columns_bytes d.0.0) d.0.1 t1.0 t2.0 in
    let e02 = Takes-then bytes (to_be_bytes w16 a.0.0) a.0.1 (key_bytes b.0.0 ++ columns_bytes d.0.0) d.0.1 t0.0 e12 in
    subst (λ (p : Message × List ℕ). TakesChange make bytes p) (some_is (make a.0.0 b.0.0 d.0.0, d.0.1) x d.2)
    (record { table = a.0.0; key = b.0.0; columns = d.0.0; is = refl; takes = e02; of_table = (t0.1, t0.2); of_key = t1.1; of_columns = t2.1 })

change_again : (make : ℕ → ℤ → List Sent → Message) (table : ℕ) (key : ℤ) (columns : List Sent) (rest : List ℕ) → IsTable table → FitsSigned w64 key → AreColumns columns → change_at make (change_bytes table key columns ++ rest) ≡ Some (make table key columns, rest)
unfolding change_at
change_again make table key columns rest of_table of_key of_columns =
    let lt : table < 2 ^ 16 = omega (arith, of_table.1) in
    let grouped : change_bytes table key columns ++ rest ≡ to_be_bytes w16 table ++ (key_bytes key ++ (columns_bytes columns ++ rest)) =
    append_assoc (to_be_bytes w16 table) (key_bytes key ++ columns_bytes columns) rest ∙ ap (λ (x : List ℕ). to_be_bytes w16 table ++ x) (append_assoc (key_bytes key) (columns_bytes columns) rest) in
    ap (change_at make) grouped
    ∙ rw (ranged_again w16 (2 ^ 16) wide16 1 16 table (key_bytes key ++ (columns_bytes columns ++ rest)) of_table.0 of_table.1 lt, key_again key (columns_bytes columns ++ rest) of_key, row_again columns rest of_columns) refl

abbrev move_bytes : ℕ → ℤ → ℤ → List Sent → List ℕ
move_bytes table from to columns = to_be_bytes w16 table ++ (key_bytes from ++ (key_bytes to ++ columns_bytes columns))

record TakesMove (bytes : List ℕ) (x : Message × List ℕ) : Type 0 where
  pub table : ℕ
  pub from : ℤ
  pub to : ℤ
  pub columns : List Sent
  pub is : Move table from to columns ≡ x.0
  pub takes : Takes bytes (move_bytes table from to columns) x.1
  pub of_table : IsTable table
  pub of_from : FitsSigned w64 from
  pub of_to : FitsSigned w64 to
  pub of_columns : AreColumns columns

move_takes : (bytes : List ℕ) (x : Message × List ℕ) → IsBytes bytes → move_at bytes ≡ Some x → TakesMove bytes x
unfolding move_at
move_takes bytes x fits e =
    let a = bind_some (ranged_at w16 1 16 bytes) (λ table. key_at table.1 >>= λ from. key_at from.1 >>= λ to. row_at to.1 >>= λ columns. Some (Move table.0 from.0 to.0 columns.0, columns.1)) x e in
    let b = bind_some (key_at a.0.1) (λ from. key_at from.1 >>= λ to. row_at to.1 >>= λ columns. Some (Move a.0.0 from.0 to.0 columns.0, columns.1)) x a.2 in
    let d = bind_some (key_at b.0.1) (λ to. row_at to.1 >>= λ columns. Some (Move a.0.0 b.0.0 to.0 columns.0, columns.1)) x b.2 in
    let g = bind_some (row_at d.0.1) (λ columns. Some (Move a.0.0 b.0.0 d.0.0 columns.0, columns.1)) x d.2 in
    let t0 = ranged_takes w16 (2 ^ 16) wide16 1 16 bytes a.0 fits a.1 in
    let t1 = key_takes a.0.1 b.0 t0.0.rest_fits b.1 in
    let t2 = key_takes b.0.1 d.0 t1.0.rest_fits d.1 in
    let t3 = row_takes d.0.1 g.0 t2.0.rest_fits g.1 in
    let e23 = Takes-then b.0.1 (key_bytes d.0.0) d.0.1 (columns_bytes g.0.0) g.0.1 t2.0 t3.0 in
    let e13 = Takes-then a.0.1 (key_bytes b.0.0) b.0.1 (key_bytes d.0.0 ++ columns_bytes g.0.0) g.0.1 t1.0 e23 in
    let e03 = Takes-then bytes (to_be_bytes w16 a.0.0) a.0.1 (key_bytes b.0.0 ++ (key_bytes d.0.0 ++ columns_bytes g.0.0)) g.0.1 t0.0 e13 in
    subst (λ (p : Message × List ℕ). TakesMove bytes p) (some_is (Move a.0.0 b.0.0 d.0.0 g.0.0, g.0.1) x g.2)
    (record { table = a.0.0; from = b.0.0; to = d.0.0; columns = g.0.0; is = refl; takes = e03; of_table = (t0.1, t0.2); of_from = t1.1; of_to = t2.1; of_columns = t3.1 })

move_again : (table : ℕ) (from to : ℤ) (columns : List Sent) (rest : List ℕ) → IsTable table → FitsSigned w64 from → FitsSigned w64 to → AreColumns columns → move_at (move_bytes table from to columns ++ rest) ≡ Some (Move table from to columns, rest)
unfolding move_at
move_again table from to columns rest of_table of_from of_to of_columns =
    let lt : table < 2 ^ 16 = omega (arith, of_table.1) in
    let tail = columns_bytes columns ++ rest in
    let grouped : move_bytes table from to columns ++ rest ≡ to_be_bytes w16 table ++ (key_bytes from ++ (key_bytes to ++ tail)) =
    append_assoc (to_be_bytes w16 table) (key_bytes from ++ (key_bytes to ++ columns_bytes columns)) rest
    ∙ ap (λ (x : List ℕ). to_be_bytes w16 table ++ x) (append_assoc (key_bytes from) (key_bytes to ++ columns_bytes columns) rest)
    ∙ ap (λ (x : List ℕ). to_be_bytes w16 table ++ (key_bytes from ++ x)) (append_assoc (key_bytes to) (columns_bytes columns) rest) in
    ap move_at grouped
    ∙ rw (ranged_again w16 (2 ^ 16) wide16 1 16 table (key_bytes from ++ (key_bytes to ++ tail)) of_table.0 of_table.1 lt, key_again from (key_bytes to ++ tail) of_from, key_again to tail of_to, row_again columns rest of_columns) refl

record TakesDelete (bytes : List ℕ) (x : Message × List ℕ) : Type 0 where
  pub table : ℕ
  pub key : ℤ
  pub is : Delete table key ≡ x.0
  pub takes : Takes bytes (to_be_bytes w16 table ++ key_bytes key) x.1
  pub of_table : IsTable table
  pub of_key : FitsSigned w64 key

delete_takes : (bytes : List ℕ) (x : Message × List ℕ) → IsBytes bytes → delete_at bytes ≡ Some x → TakesDelete bytes x
unfolding delete_at
delete_takes bytes x fits e =
    let a = bind_some (ranged_at w16 1 16 bytes) (λ table. key_at table.1 >>= λ key. Some (Delete table.0 key.0, key.1)) x e in
    let b = bind_some (key_at a.0.1) (λ key. Some (Delete a.0.0 key.0, key.1)) x a.2 in
    let t0 = ranged_takes w16 (2 ^ 16) wide16 1 16 bytes a.0 fits a.1 in
    let t1 = key_takes a.0.1 b.0 t0.0.rest_fits b.1 in
    let e01 = Takes-then bytes (to_be_bytes w16 a.0.0) a.0.1 (key_bytes b.0.0) b.0.1 t0.0 t1.0 in
    subst (λ (p : Message × List ℕ). TakesDelete bytes p) (some_is (Delete a.0.0 b.0.0, b.0.1) x b.2)
    (record { table = a.0.0; key = b.0.0; is = refl; takes = e01; of_table = (t0.1, t0.2); of_key = t1.1 })

delete_again : (table : ℕ) (key : ℤ) (rest : List ℕ) → IsTable table → FitsSigned w64 key → delete_at ((to_be_bytes w16 table ++ key_bytes key) ++ rest) ≡ Some (Delete table key, rest)
unfolding delete_at
delete_again table key rest of_table of_key =
    let lt : table < 2 ^ 16 = omega (arith, of_table.1) in
    ap delete_at (append_assoc (to_be_bytes w16 table) (key_bytes key) rest)
    ∙ rw (ranged_again w16 (2 ^ 16) wide16 1 16 table (key_bytes key ++ rest) of_table.0 of_table.1 lt, key_again key rest of_key) refl

-- ---- whole messages

begin_taken : (b : ℕ) (bytes : List ℕ) (x : Message × List ℕ) → IsBytes bytes → eqb b 66 ≡ true → numbered_at Begin bytes ≡ Some x → TakesMessage (b ∷ bytes) x
unfolding spelling
begin_taken b bytes x fits is e =
    let t = numbered_takes Begin bytes x fits e in
    subst (λ (m : Message). Takes (b ∷ bytes) (spelling m) x.1 × HasSpelling m) t.is (Takes-letter b 66 bytes _ x.1 (eqb-true b 66 is) t.takes, (t.low, t.below))

commit_taken : (b : ℕ) (bytes : List ℕ) (x : Message × List ℕ) → IsBytes bytes → eqb b 67 ≡ true → numbered_at Commit bytes ≡ Some x → TakesMessage (b ∷ bytes) x
unfolding spelling
commit_taken b bytes x fits is e =
    let t = numbered_takes Commit bytes x fits e in
    subst (λ (m : Message). Takes (b ∷ bytes) (spelling m) x.1 × HasSpelling m) t.is (Takes-letter b 67 bytes _ x.1 (eqb-true b 67 is) t.takes, (t.low, t.below))

insert_taken : (b : ℕ) (bytes : List ℕ) (x : Message × List ℕ) → IsBytes bytes → eqb b 73 ≡ true → change_at Insert bytes ≡ Some x → TakesMessage (b ∷ bytes) x
unfolding spelling
insert_taken b bytes x fits is e =
    let t = change_takes Insert bytes x fits e in
    subst (λ (m : Message). Takes (b ∷ bytes) (spelling m) x.1 × HasSpelling m) t.is (Takes-letter b 73 bytes _ x.1 (eqb-true b 73 is) t.takes, ((t.of_table, t.of_columns), t.of_key))

update_taken : (b : ℕ) (bytes : List ℕ) (x : Message × List ℕ) → IsBytes bytes → eqb b 85 ≡ true → change_at Update bytes ≡ Some x → TakesMessage (b ∷ bytes) x
unfolding spelling
update_taken b bytes x fits is e =
    let t = change_takes Update bytes x fits e in
    subst (λ (m : Message). Takes (b ∷ bytes) (spelling m) x.1 × HasSpelling m) t.is (Takes-letter b 85 bytes _ x.1 (eqb-true b 85 is) t.takes, ((t.of_table, t.of_columns), t.of_key))

move_taken : (b : ℕ) (bytes : List ℕ) (x : Message × List ℕ) → IsBytes bytes → eqb b 75 ≡ true → move_at bytes ≡ Some x → TakesMessage (b ∷ bytes) x
unfolding spelling
move_taken b bytes x fits is e =
    let t = move_takes bytes x fits e in
    subst (λ (m : Message). Takes (b ∷ bytes) (spelling m) x.1 × HasSpelling m) t.is (Takes-letter b 75 bytes _ x.1 (eqb-true b 75 is) t.takes, ((t.of_table, t.of_columns), (t.of_from, t.of_to)))

delete_taken : (b : ℕ) (bytes : List ℕ) (x : Message × List ℕ) → IsBytes bytes → eqb b 68 ≡ true → delete_at bytes ≡ Some x → TakesMessage (b ∷ bytes) x
unfolding spelling
delete_taken b bytes x fits is e =
    let t = delete_takes bytes x fits e in
    subst (λ (m : Message). Takes (b ∷ bytes) (spelling m) x.1 × HasSpelling m) t.is (Takes-letter b 68 bytes _ x.1 (eqb-true b 68 is) t.takes, (t.of_table, t.of_key))

nothing_taken : (bytes : List ℕ) (x : Message × List ℕ) → None ≡ Some x → TakesMessage bytes x
nothing_taken bytes x e = absurd cc

-- what is read stands at the front
pub message_takes : (bytes : List ℕ) (x : Message × List ℕ) → IsBytes bytes → message_at bytes ≡ Some x → TakesMessage bytes x
unfolding message_at
message_takes [] x fits e = nothing_taken [] x e
message_takes (b ∷ bytes) x fits e =
    let inner = IsBytes-rest b bytes fits in
    elim (if_some (eqb b 66) _ _ x e) [
      | inl h ↦ begin_taken b bytes x inner h.0 h.1
      | inr e2 ↦ elim (if_some (eqb b 73) _ _ x e2) [
        | inl h ↦ insert_taken b bytes x inner h.0 h.1
        | inr e3 ↦ elim (if_some (eqb b 85) _ _ x e3) [
          | inl h ↦ update_taken b bytes x inner h.0 h.1
          | inr e4 ↦ elim (if_some (eqb b 75) _ _ x e4) [
            | inl h ↦ move_taken b bytes x inner h.0 h.1
            | inr e5 ↦ elim (if_some (eqb b 68) _ _ x e5) [
              | inl h ↦ delete_taken b bytes x inner h.0 h.1
              | inr e6 ↦ elim (if_some (eqb b 67) _ _ x e6) [
                | inl h ↦ commit_taken b bytes x inner h.0 h.1
                | inr e7 ↦ nothing_taken (b ∷ bytes) x e7
              ]
            ]
          ]
        ]
      ]
    ]

-- what is spelled is read, whatever follows it
pub message_again : (m : Message) (rest : List ℕ) → HasSpelling m → message_at (spelling m ++ rest) ≡ Some (m, rest)
unfolding message_at spelling
message_again (Begin number) rest fits = numbered_again Begin number rest fits.0 fits.1
message_again (Insert table key columns) rest fits = change_again Insert table key columns rest fits.0.0 fits.1 fits.0.1
message_again (Update table key columns) rest fits = change_again Update table key columns rest fits.0.0 fits.1 fits.0.1
message_again (Move table from to columns) rest fits = move_again table from to columns rest fits.0.0 fits.1.0 fits.1.1 fits.0.1
message_again (Delete table key) rest fits = delete_again table key rest fits.0 fits.1
message_again (Commit number) rest fits = numbered_again Commit number rest fits.0 fits.1
