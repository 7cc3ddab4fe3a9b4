-- The texts of one key and of one session more.
use Rattle.std.proofs.Common.{◌≡◌, ℕ, ◌+◌, ◌%◌, ◌==◌, zero, suc, Bool, true, false, cond, List, [], ◌∷◌, ◌++◌, codes, refl, ap, sym, ◌∙◌, arith, append_assoc, append-nil}
use Rattle.std.specs.List.{filter, flat_map, range_with_len}
use Rattle.std.proofs.lemmas.Grind.{flat_map-append}
use Rattle.std.proofs.lemmas.List.Elements.{filter-append}
use Rattle.made_script.specs.Made.{key_text, keys_text, sessions_text}

range_more : (a n : ℕ) → range_with_len a (suc n) ≡ range_with_len a n ++ (a + n) ∷ []
range_more a zero = ap (λ (m : ℕ). m ∷ []) (omega arith)
range_more a (suc n) =
    let same : (a + 1) + n ≡ a + suc n = omega arith in
    ap (λ (ns : List ℕ). a ∷ ns) (range_more (a + 1) n ∙ ap (λ (m : ℕ). range_with_len (a + 1) n ++ m ∷ []) same)

range_to : (i : ℕ) → range_with_len 1 (i + 1) ≡ range_with_len 1 i ++ (i + 1) ∷ []
range_to i =
    let a : i + 1 ≡ suc i = omega arith in
    let b : 1 + i ≡ i + 1 = omega arith in
    ap (range_with_len 1) a ∙ range_more 1 i ∙ ap (λ (m : ℕ). range_with_len 1 i ++ m ∷ []) b

pub no_sessions : (n : ℕ) → sessions_text n 0 ≡ []
unfolding sessions_text
no_sessions n = refl

pub one_session_more : (n k : ℕ) → sessions_text n (k + 1) ≡ sessions_text n k ++ (codes "session\n" ++ keys_text (k + 1) n)
unfolding sessions_text
one_session_more n k =
    let f : ℕ → List ℕ = λ session. codes "session\n" ++ keys_text session n in
    ap (flat_map f) (range_to k) ∙ flat_map-append f (range_with_len 1 k) ((k + 1) ∷ []) ∙ ap (λ (xs : List ℕ). flat_map f (range_with_len 1 k) ++ xs) (append-nil (f (k + 1)))

pub no_keys : (session : ℕ) → keys_text session 0 ≡ []
unfolding keys_text
no_keys session = refl

keys_by : (session k : ℕ) (b : Bool) → ((k + 1) % 8 == session % 8) ≡ b → keys_text session (k + 1) ≡ keys_text session k ++ flat_map key_text (cond b ((k + 1) ∷ []) [])
unfolding keys_text
keys_by session k b is =
    let p : ℕ → Bool = λ key. key % 8 == session % 8 in
    let range : filter p (range_with_len 1 (k + 1)) ≡ filter p (range_with_len 1 k) ++ cond b ((k + 1) ∷ []) [] =
    ap (filter p) (range_to k) ∙ filter-append p (range_with_len 1 k) ((k + 1) ∷ []) ∙ ap (λ (t : Bool). filter p (range_with_len 1 k) ++ cond t ((k + 1) ∷ []) []) is in
    ap (flat_map key_text) range ∙ flat_map-append key_text (filter p (range_with_len 1 k)) (cond b ((k + 1) ∷ []) [])

pub one_key_more : (session k : ℕ) → ((k + 1) % 8 == session % 8) ≡ true → keys_text session (k + 1) ≡ keys_text session k ++ key_text (k + 1)
one_key_more session k is = keys_by session k true is ∙ ap (λ (xs : List ℕ). keys_text session k ++ xs) (append-nil (key_text (k + 1)))

pub same_keys : (session k : ℕ) → ((k + 1) % 8 == session % 8) ≡ false → keys_text session (k + 1) ≡ keys_text session k
same_keys session k is = keys_by session k false is ∙ append-nil (keys_text session k)

-- a session that writes, added behind the ones before it
pub session_added : (n k : ℕ) (start before mid after : List ℕ) → before ≡ start ++ sessions_text n k → mid ≡ before ++ codes "session\n" → after ≡ mid ++ keys_text (k + 1) n → after ≡ start ++ sessions_text n (k + 1)
session_added n k start before mid after a b c =
    let head : List ℕ = codes "session\n" in
    let keys = keys_text (k + 1) n in
    let mid_is : mid ≡ (start ++ sessions_text n k) ++ head = b ∙ ap (λ (o : List ℕ). o ++ head) a in
    c ∙ ap (λ (o : List ℕ). o ++ keys) mid_is ∙ append_assoc (start ++ sessions_text n k) head keys ∙ append_assoc start (sessions_text n k) (head ++ keys)
    ∙ ap (λ (o : List ℕ). start ++ o) (sym (one_session_more n k))

-- the commands of a key, added behind the ones before it
pub key_added : (session k : ℕ) (start before after : List ℕ) → ((k + 1) % 8 == session % 8) ≡ true → before ≡ start ++ keys_text session k → after ≡ before ++ key_text (k + 1) → after ≡ start ++ keys_text session (k + 1)
key_added session k start before after is a b =
    let text = key_text (k + 1) in
    b ∙ ap (λ (o : List ℕ). o ++ text) a ∙ append_assoc start (keys_text session k) text ∙ ap (λ (o : List ℕ). start ++ o) (sym (one_key_more session k is))

-- nothing is added for a key of another session
pub key_passed : (session k : ℕ) (start before : List ℕ) → ((k + 1) % 8 == session % 8) ≡ false → before ≡ start ++ keys_text session k → before ≡ start ++ keys_text session (k + 1)
key_passed session k start before is a = a ∙ ap (λ (o : List ℕ). start ++ o) (sym (same_keys session k is))

-- parts added one after the other
pub added_two : (o o1 o2 a b : List ℕ) → o1 ≡ o ++ a → o2 ≡ o1 ++ b → o2 ≡ o ++ (a ++ b)
added_two o o1 o2 a b e f = f ∙ ap (λ (x : List ℕ). x ++ b) e ∙ append_assoc o a b

pub added_three : (o o1 o2 o3 a b c : List ℕ) → o1 ≡ o ++ a → o2 ≡ o1 ++ b → o3 ≡ o2 ++ c → o3 ≡ o ++ (a ++ b ++ c)
added_three o o1 o2 o3 a b c e f g = added_two o o2 o3 (a ++ b) c (added_two o o1 o2 a b e f) g

pub added_four : (o o1 o2 o3 o4 a b c d : List ℕ) → o1 ≡ o ++ a → o2 ≡ o1 ++ b → o3 ≡ o2 ++ c → o4 ≡ o3 ++ d → o4 ≡ o ++ (a ++ b ++ c ++ d)
added_four o o1 o2 o3 o4 a b c d e f g h = added_two o o3 o4 (a ++ b ++ c) d (added_three o o1 o2 o3 a b c e f g) h
