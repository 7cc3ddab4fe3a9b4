-- A row and what is sent of its columns, column by column.
use Rattle.std.proofs.Common.{◌≡◌, ℕ, ◌+◌, ◌<◌, suc, zero, Option, List, [], ◌∷◌, ◌++◌, length, take, slice_index_or, refl, sym, ap, arith, add-one}
use Rattle.stream_wire.specs.declared.message.Sent.{Sent}
use Rattle.replica_map.specs.Applies.{sent_value, row_with}

-- a row so far with one column more
row_more_suc : (olds : List (Option (List ℕ))) (columns : List Sent) (i : ℕ) (old : Option (List ℕ)) (column : Sent) → i < length olds → i < length columns → old ≡ slice_index_or olds i old → column ≡ slice_index_or columns i column
    → row_with (take (suc i) olds) (take (suc i) columns) ≡ row_with (take i olds) (take i columns) ++ sent_value old column ∷ []
row_more_suc [] columns i old column low short o e = absurd (omega (arith, low))
row_more_suc (x ∷ xs) [] i old column low short o e = absurd (omega (arith, short))
row_more_suc (x ∷ xs) (y ∷ ys) zero old column low short o e = λ i. sent_value (sym o i) (sym e i) ∷ []
row_more_suc (x ∷ xs) (y ∷ ys) (suc i) old column low short o e = ap (λ rest. sent_value x y ∷ rest) (row_more_suc xs ys i old column (omega (arith, low)) (omega (arith, short)) o e)

pub row_more : (olds : List (Option (List ℕ))) (columns : List Sent) (i : ℕ) (old : Option (List ℕ)) (column : Sent) → i < length olds → i < length columns → old ≡ slice_index_or olds i old → column ≡ slice_index_or columns i column
    → row_with (take (i + 1) olds) (take (i + 1) columns) ≡ row_with (take i olds) (take i columns) ++ sent_value old column ∷ []
row_more olds columns i old column low short o e = rw add-one (row_more_suc olds columns i old column low short o e)

-- a row keeps its number of columns
pub length-row_with : (olds : List (Option (List ℕ))) (columns : List Sent) → length (row_with olds columns) ≡ length olds
length-row_with [] columns = refl
length-row_with (x ∷ xs) [] = refl
length-row_with (x ∷ xs) (y ∷ ys) = ap (λ n. suc n) (length-row_with xs ys)
