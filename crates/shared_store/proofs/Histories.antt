-- Histories and the journals that they are of.
use Rattle.std.proofs.Common.{◌≡◌, ◌+◌, ℕ, zero, suc, List, [], ◌∷◌, ◌++◌, Option, Some, None, length, refl, sym, ap, ◌∙◌, inl, inr, arith, append-nil, length-append, if◌then◌else◌, nat_le, false, true}
use Rattle.std.proofs.lemmas.Bool.Decides.{nat_tests}
use mathlib.Core.List.{IsPrefix}
use Rattle.command_set.specs.declared.JournalEntry.{JournalEntry}
use Rattle.command_set.specs.declared.Kind.{Kind}
use Rattle.command_set.specs.declared.Kind.TheVariants as kinds
use Rattle.turn_hall.specs.Passes.{Entry, Extends, mine_after}
use Rattle.session_shell.specs.History.{history_of, kind_place, numbers_of}
use Rattle.session_shell.specs.Turns.{entry_in}
use Rattle.shared_store.specs.Shares.{positions_of}

abbrev kind_at : ℕ → Kind
kind_at zero = kinds.Run
kind_at (suc zero) = kinds.End
kind_at (suc (suc zero)) = kinds.NoValueId
kind_at (suc (suc (suc n))) = kinds.Memory

kind_back : (kind : Kind) → kind_at (kind_place kind) ≡ kind
kind_back kinds.Run = refl
kind_back kinds.End = refl
kind_back kinds.NoValueId = refl
kind_back kinds.Memory = refl

-- its numbers tell an entry
same_entry : (e f : JournalEntry) → numbers_of e ≡ numbers_of f → e ≡ f
same_entry e f is =
    let session : e.session ≡ f.session = ap (λ (t : Entry). t.0) is in
    let number : e.number ≡ f.number = ap (λ (t : Entry). t.1) is in
    let kind : e.kind ≡ f.kind = sym (kind_back e.kind) ∙ ap (λ (t : Entry). kind_at t.2) is ∙ kind_back f.kind in
    λ i. record { session = session i; number = number i; kind = kind i }

-- a journal whose history begins that of another begins it
pub begins_journal : (es fs : List JournalEntry) → IsPrefix (history_of es) (history_of fs) → (more : List JournalEntry) × (fs ≡ es ++ more)
begins_journal [] fs p = (fs, refl)
begins_journal (e ∷ es) [] p = let q = p.1 in absurd (cc)
begins_journal (e ∷ es) (f ∷ fs) p =
    let q = p.1 in
    let first : numbers_of e ≡ numbers_of f = cc in
    let left : history_of es ++ p.0 ≡ history_of fs = cc in
    let rest = begins_journal es fs (p.0, left) in
    let same = same_entry e f first in
    (rest.0, λ i. sym same i ∷ rest.1 i)

pub history-append : (es fs : List JournalEntry) → history_of (es ++ fs) ≡ history_of es ++ history_of fs
history-append [] fs = refl
history-append (e ∷ es) fs = ap (λ (l : List Entry). numbers_of e ∷ l) (history-append es fs)

pub history-length : (es : List JournalEntry) → length (history_of es) ≡ length es
history-length [] = refl
history-length (e ∷ es) = ap suc (history-length es)

-- a turn adds at most one entry
pub grows : (es fs : List JournalEntry) (o : Option JournalEntry) → fs ≡ es ++ (entry_in o ++ []) → Extends (history_of es) (history_of fs)
grows es fs None is = inl (ap history_of (is ∙ append-nil es))
grows es fs (Some e) is = inr (numbers_of e, ap history_of is ∙ history-append es (e ∷ []))

pub begins_after : (es fs : List JournalEntry) (o : Option JournalEntry) → fs ≡ es ++ (entry_in o ++ []) → IsPrefix (history_of es) (history_of fs)
begins_after es fs o is = (history_of (entry_in o ++ []), sym (history-append es (entry_in o ++ [])) ∙ ap history_of (sym is))

longer_by_one : (a b : ℕ) → a ≡ b + 1 → nat_le a b ≡ false
longer_by_one a b is = grind (arith, nat_tests)

no_longer : (a b : ℕ) → a ≡ b → nat_le a b ≡ true
no_longer a b is = grind (arith, nat_tests)

-- the positions of a pass's entries grow by that of the turn's entry
pub mine_grows : (mine : List ℕ) (es fs : List JournalEntry) (o : Option JournalEntry) → fs ≡ es ++ (entry_in o ++ []) → mine_after mine (history_of es) (history_of fs) ≡ mine ++ positions_of o (length es)
mine_grows mine es fs None is =
    ap (λ b. if b then mine else mine ++ length (history_of es) ∷ []) (no_longer (length (history_of fs)) (length (history_of es)) (ap (λ (l : List JournalEntry). length (history_of l)) (is ∙ append-nil es)))
    ∙ sym (append-nil mine)
mine_grows mine es fs (Some e) is =
    let more : length (history_of fs) ≡ length (history_of es) + 1 = omega (arith, history-length fs, history-length es, ap length is, length-append es (e ∷ [])) in
    ap (λ b. if b then mine else mine ++ length (history_of es) ∷ []) (longer_by_one (length (history_of fs)) (length (history_of es)) more)
    ∙ ap (λ n. mine ++ n ∷ []) (history-length es)
