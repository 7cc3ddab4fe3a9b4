-- What stands at the front of the bytes is what the reader finds: no bytes begin with two datums, nor
-- with a datum and a fault, nor have two faults.
use Rattle.std.proofs.Common.{◌≡◌, ℕ, ◌+◌, ◌*◌, ◌<◌, ◌≤◌, ◌/◌, ◌%◌, List, ◌++◌, length, get_or, take, drop, Result, Ok, Err, sym, ap, subst, ◌∙◌, arith}
use Rattle.std.specs.Prelude.{IfOk, IfErr, IsOkAnd, nat_lt, ◌==◌, if◌then◌else◌}
use Rattle.std.specs.Int.{w32, from_le_bytes}
use Rattle.std.proofs.lemmas.List.{get_or-take}
use Rattle.std.proofs.Math.Seq.{drop-append_seam}
use Rattle.std.proofs.lemmas.Bool.Decides.{nat_tests}
use Rattle.varlena_form.specs.declared.datum.Form.{Form}
use Rattle.varlena_form.specs.declared.fault.FormFault.{FormFault}
use Rattle.varlena_form.specs.declared.fault.FormFault.TheVariants.{Truncated, BadTag, BadLength}
use Rattle.varlena_form.specs.Spelling.{Datum, short, plain, compressed, external, short_form, plain_form, compressed_form, spelling, datum, HasSpelling, BeginsWith}
use Rattle.varlena_form.specs.Fault.{needed, IsFault}
use Rattle.varlena_form.proofs.Bytes.{from_le_bytes-to}
use Rattle.varlena_form.proofs.Front.{begins_split, begins_within, spelling_begins}

-- the reading of the bytes, as a function of them
abbrev reading : List ℕ → Result (Datum × ℕ) FormFault
reading bytes =
    if nat_lt (length bytes) (needed bytes) then Err (Truncated (needed bytes) (length bytes))
    else if get_or bytes 0 0 == 1 then (if get_or bytes 1 0 == 18 then Ok (external (take 18 bytes), 18) else Err (BadTag (get_or bytes 1 0)))
    else if get_or bytes 0 0 % 2 == 1 then Ok (short (drop 1 (take (get_or bytes 0 0 / 2) bytes)), get_or bytes 0 0 / 2)
    else if nat_lt (from_le_bytes w32 bytes / 4) 4 then Err (BadLength (from_le_bytes w32 bytes / 4))
    else if from_le_bytes w32 bytes % 4 == 0 then Ok (plain (drop 4 (take (from_le_bytes w32 bytes / 4) bytes)), from_le_bytes w32 bytes / 4)
    else Ok (compressed (drop 4 (take (from_le_bytes w32 bytes / 4) bytes)), from_le_bytes w32 bytes / 4)

abbrev ok : Datum → ℕ → Result (Datum × ℕ) FormFault
ok d n = Ok (d, n)

abbrev err : FormFault → Result (Datum × ℕ) FormFault
err f = Err f

same_pair : (x y : Datum × ℕ) → ok x.0 x.1 ≡ ok y.0 y.1 → x ≡ y
same_pair x y h = cc

same_ok : (d e : Datum) (m n : ℕ) → ok d m ≡ ok e n → (d ≡ e) × (m ≡ n)
same_ok d e m n h =
    let both = same_pair (d, m) (e, n) h in
    (ap (λ (x : Datum × ℕ). x.0) both, ap (λ (x : Datum × ℕ). x.1) both)

same_fault : (f g : FormFault) → err f ≡ err g → f ≡ g
same_fault f g h = cc

ok_or_fault : (d : Datum) (n : ℕ) (f : FormFault) → ok d n ≡ err f → ⊥
ok_or_fault d n f h = cc

-- the readings, from what the bytes tell

short_known : (bytes payload : List ℕ) (n : ℕ) → n ≤ length bytes → get_or bytes 0 0 ≡ 2 * (length payload + 1) + 1 → n ≡ length payload + 1
    → drop 1 (take n bytes) ≡ payload → reading bytes ≡ Ok (short payload, n)
short_known bytes payload n within first len is = grind (arith, nat_tests)

long_known : (bytes : List ℕ) (n mark : ℕ) → 4 ≤ n → n ≤ length bytes → get_or bytes 0 0 % 2 ≡ 0 → from_le_bytes w32 bytes ≡ 4 * n + mark → mark < 4
    → reading bytes ≡ (if mark == 0 then Ok (plain (drop 4 (take n bytes)), n) else Ok (compressed (drop 4 (take n bytes)), n))
long_known bytes n mark low within even header small = grind (arith, nat_tests)

external_known : (bytes all : List ℕ) → 18 ≤ length bytes → get_or bytes 0 0 ≡ 1 → get_or bytes 1 0 ≡ 18 → take 18 bytes ≡ all → reading bytes ≡ Ok (external all, 18)
external_known bytes all within first tag is = grind (arith, nat_tests)

reads_plain : (bytes payload : List ℕ) (n : ℕ) → BeginsWith bytes (plain payload) n → reading bytes ≡ Ok (plain payload, n)
unfolding plain_form
reads_plain bytes payload n h =
    let split = begins_split bytes (plain payload) n h in
    let within = begins_within bytes (plain payload) n h in
    let first : get_or bytes 0 0 ≡ 4 * (length payload + 4) % 256 = ap (λ (x : List ℕ). get_or x 0 0) split in
    let header : from_le_bytes w32 bytes ≡ 4 * (length payload + 4) = ap (from_le_bytes w32) split ∙ from_le_bytes-to _ (payload ++ drop n bytes) (omega (arith, h.fits)) in
    let is : drop 4 (take n bytes) ≡ payload = ap (drop 4) h.front in
    long_known bytes n 0 (omega (arith, h.len)) within (omega arith) (omega (arith, h.len)) (omega arith) ∙ ap (λ (p : List ℕ). ok (plain p) n) is

reads_compressed : (bytes payload : List ℕ) (n : ℕ) → BeginsWith bytes (compressed payload) n → reading bytes ≡ Ok (compressed payload, n)
unfolding compressed_form
reads_compressed bytes payload n h =
    let split = begins_split bytes (compressed payload) n h in
    let within = begins_within bytes (compressed payload) n h in
    let first : get_or bytes 0 0 ≡ (4 * (length payload + 4) + 2) % 256 = ap (λ (x : List ℕ). get_or x 0 0) split in
    let header : from_le_bytes w32 bytes ≡ 4 * (length payload + 4) + 2 = ap (from_le_bytes w32) split ∙ from_le_bytes-to _ (payload ++ drop n bytes) (omega (arith, h.fits)) in
    let is : drop 4 (take n bytes) ≡ payload = ap (drop 4) h.front in
    long_known bytes n 2 (omega (arith, h.len)) within (omega arith) (omega (arith, h.len)) (omega arith) ∙ ap (λ (p : List ℕ). ok (compressed p) n) is

reads_external : (bytes all : List ℕ) (n : ℕ) → BeginsWith bytes (external all) n → reading bytes ≡ Ok (external all, n)
reads_external bytes all n h =
    let within = begins_within bytes (external all) n h in
    let n-is : n ≡ 18 = omega (arith, h.len, h.fits) in
    let is : take 18 bytes ≡ all = ap (λ (k : ℕ). take k bytes) (sym n-is) ∙ h.front in
    let first : get_or bytes 0 0 ≡ 1 = sym (get_or-take 18 bytes 0 0 (omega arith)) ∙ ap (λ (x : List ℕ). get_or x 0 0) is ∙ h.fits.1 in
    let tag : get_or bytes 1 0 ≡ 18 = sym (get_or-take 18 bytes 1 0 (omega arith)) ∙ ap (λ (x : List ℕ). get_or x 1 0) is ∙ h.fits.2 in
    external_known bytes all (omega arith) first tag is ∙ ap (λ (k : ℕ). ok (external all) k) (sym n-is)

reads_short : (bytes payload : List ℕ) (n : ℕ) → BeginsWith bytes (short payload) n → reading bytes ≡ Ok (short payload, n)
unfolding short_form
reads_short bytes payload n h =
    let split = begins_split bytes (short payload) n h in
    let within = begins_within bytes (short payload) n h in
    let first : get_or bytes 0 0 ≡ 2 * (length payload + 1) + 1 = ap (λ (x : List ℕ). get_or x 0 0) split in
    let is : drop 1 (take n bytes) ≡ payload = ap (drop 1) h.front in
    short_known bytes payload n within first (omega (arith, h.len)) is

fault_reads : (bytes : List ℕ) (f : FormFault) → IsFault bytes f → reading bytes ≡ Err f
fault_reads bytes (Truncated need have) h = grind (arith, nat_tests)
fault_reads bytes (BadTag tag) h = grind (arith, nat_tests)
fault_reads bytes (BadLength len) h = grind (arith, nat_tests)

datum_reads : (bytes : List ℕ) (d : Datum) (n : ℕ) → BeginsWith bytes d n → reading bytes ≡ Ok (d, n)
datum_reads bytes (short payload) n h = reads_short bytes payload n h
datum_reads bytes (plain payload) n h = reads_plain bytes payload n h
datum_reads bytes (compressed payload) n h = reads_compressed bytes payload n h
datum_reads bytes (external all) n h = reads_external bytes all n h

-- the bytes determine the datum at their front
pub one_datum : (bytes : List ℕ) (d e : Datum) (m n : ℕ) → BeginsWith bytes d m → BeginsWith bytes e n → (d ≡ e) × (m ≡ n)
one_datum bytes d e m n h g = same_ok d e m n (sym (datum_reads bytes d m h) ∙ datum_reads bytes e n g)

-- bytes that begin with a datum have no fault
pub no_fault : (bytes : List ℕ) (d : Datum) (n : ℕ) (f : FormFault) → BeginsWith bytes d n → IsFault bytes f → ⊥
no_fault bytes d n f h g = ok_or_fault d n f (sym (datum_reads bytes d n h) ∙ fault_reads bytes f g)

-- the bytes determine the fault
pub one_fault : (bytes : List ℕ) (f g : FormFault) → IsFault bytes f → IsFault bytes g → f ≡ g
one_fault bytes f g h k = same_fault f g (sym (fault_reads bytes f h) ∙ fault_reads bytes g k)

-- no spelling begins another
pub one_spelling : (d e : Datum) (x y : List ℕ) → HasSpelling d → HasSpelling e → spelling d ++ x ≡ spelling e ++ y → (d ≡ e) × (x ≡ y)
one_spelling d e x y fits_d fits_e same =
    let second = subst (λ (bytes : List ℕ). BeginsWith bytes e (length (spelling e))) (sym same) (spelling_begins e y fits_e) in
    let one = one_datum (spelling d ++ x) d e (length (spelling d)) (length (spelling e)) (spelling_begins d x fits_d) second in
    let rests : drop (length (spelling d)) (spelling d ++ x) ≡ drop (length (spelling e)) (spelling e ++ y) =
    ap (λ (n : ℕ). drop n (spelling d ++ x)) one.1 ∙ ap (drop (length (spelling e))) same in
    (one.0, sym (drop-append_seam (spelling d) x) ∙ rests ∙ drop-append_seam (spelling e) y)

-- a result that is right where it is Ok and right where it is an error is the only one
pub only_datum : (bytes : List ℕ) (r : Result (Form × ℕ) FormFault) → IfOk r (λ found. BeginsWith bytes (datum found.0) found.1) → IfErr r (IsFault bytes)
    → (d : Datum) (n : ℕ) → BeginsWith bytes d n → IsOkAnd r (λ found. (datum found.0 ≡ d) × (found.1 ≡ n))
only_datum bytes (Ok x) found fault d n h = one_datum bytes (datum x.0) d x.1 n found h
only_datum bytes (Err f) found fault d n h = absurd (no_fault bytes d n f h fault)

pub only_fault : (bytes : List ℕ) (r : Result (Form × ℕ) FormFault) → IfOk r (λ found. BeginsWith bytes (datum found.0) found.1) → IfErr r (IsFault bytes)
    → (f : FormFault) → IsFault bytes f → r ≡ Err f
only_fault bytes (Ok x) found fault f h = absurd (no_fault bytes (datum x.0) x.1 f found h)
only_fault bytes (Err g) found fault f h = ap (λ (x : FormFault). Err x) (one_fault bytes g f fault h)

pub reads_again : (bytes : List ℕ) (r : Result (Form × ℕ) FormFault) → IfOk r (λ found. BeginsWith bytes (datum found.0) found.1) → IfErr r (IsFault bytes)
    → (d : Datum) (rest : List ℕ) → HasSpelling d → bytes ≡ spelling d ++ rest → IsOkAnd r (λ found. (datum found.0 ≡ d) × (found.1 ≡ length (spelling d)))
reads_again bytes r found fault d rest fits is =
    only_datum bytes r found fault d (length (spelling d)) (subst (λ (x : List ℕ). BeginsWith x d (length (spelling d))) (sym is) (spelling_begins d rest fits))
