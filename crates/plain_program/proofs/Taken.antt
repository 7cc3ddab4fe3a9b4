-- A session's transaction is taken out of the state, changed, and put back.
use Rattle.std.proofs.Common.{◌≡◌, ℕ, ◌-◌, List, [], ◌∷◌, ◌++◌, refl, ap, ◌∙◌, zero, suc}
use Rattle.std.specs.Prelude.{slice_set, map as mapped}
use Rattle.list_facts.proofs.Changed.{set_twice}
use Rattle.command_set.specs.declared.state.Change.{Change}
use Rattle.command_set.specs.declared.state.Plain.{Plain}
use Rattle.command_set.specs.declared.state.Session.{Session}
use Rattle.command_set.specs.declared.state.Session.TheVariants.{Outside, Open}
use Rattle.command_set.specs.declared.state.Transaction.{Transaction}
use Rattle.command_set.specs.Plain.{session_of, with_session}
use Rattle.command_set.specs.Replies.{transaction_of}
use Rattle.command_set.specs.Answers.{committed, told_by, with_change, with_copy, with_transaction, with_use}
use Rattle.command_set.specs.Changes.{fold_changes}
use Rattle.command_set.specs.Logs.{Handles}
use Rattle.tuple_layout.specs.Places.{Rows}

-- a session that was taken out is put back as another
pub put_back : (m taken put : Plain) (s : ℕ) (x : Session) → taken ≡ with_session m s Outside → put ≡ with_session taken s x → put ≡ with_session m s x
put_back m taken put s x e f = f ∙ ap (λ n. with_session n s x) e ∙ ap (λ (sessions : List Session). record m { sessions = sessions }) (set_twice m.sessions (s - 1) Outside x)

-- telling all and then putting one outside is as telling all where one is outside
pub told_outside : (changes : List Change) (sessions : List Session) (i : ℕ) → mapped (told_by changes) (slice_set sessions i Outside) ≡ slice_set (mapped (told_by changes) sessions) i Outside
told_outside changes [] i = refl
told_outside changes (x ∷ xs) zero = refl
told_outside changes (x ∷ xs) (suc i) = ap (λ rest. told_by changes x ∷ rest) (told_outside changes xs i)

-- a transaction is put back with one change more
pub changed_back : (m taken put : Plain) (s : ℕ) (t : Transaction) (changes : List Change) (change : Change) → taken ≡ with_session m s Outside → t ≡ transaction_of (session_of m s) → changes ≡ t.changes ++ change ∷ [] → put ≡ with_session taken s (Open (record t { changes = changes })) → put ≡ with_transaction m s (with_change (transaction_of (session_of m s)) change)
changed_back m taken put s t changes change after was more e =
    put_back m taken put s (Open (record t { changes = changes })) after e
    ∙ ap (λ (cs : List Change). with_session m s (Open (record t { changes = cs }))) more
    ∙ ap (λ (u : Transaction). with_session m s (Open (record u { changes = u.changes ++ change ∷ [] }))) was

-- a transaction is put back with other values kept under names
pub handled_back : (m taken put : Plain) (s : ℕ) (t : Transaction) (handles : Handles) (f : Handles → Handles) → taken ≡ with_session m s Outside → t ≡ transaction_of (session_of m s) → handles ≡ f t.handles → put ≡ with_session taken s (Open (record t { handles = handles })) → put ≡ with_transaction m s (record (transaction_of (session_of m s)) { handles = f (transaction_of (session_of m s)).handles })
handled_back m taken put s t handles f after was more e =
    put_back m taken put s (Open (record t { handles = handles })) after e
    ∙ ap (λ (hs : Handles). with_session m s (Open (record t { handles = hs }))) more
    ∙ ap (λ (u : Transaction). with_session m s (Open (record u { handles = f u.handles }))) was

-- a transaction is put back with its copy taken and one table more that it has used
pub used_back : (m taken put : Plain) (s : ℕ) (t copied : Transaction) (tables : List ℕ) (table : ℕ) → taken ≡ with_session m s Outside → t ≡ transaction_of (session_of m s) → copied ≡ with_copy taken.latest t t.level t.base → tables ≡ copied.used ++ table ∷ [] → put ≡ with_session taken s (Open (record copied { used = tables })) → put ≡ with_transaction m s (with_use m (transaction_of (session_of m s)) table)
used_back m taken put s t copied tables table after was copy more e =
    put_back m taken put s (Open (record copied { used = tables })) after e
    ∙ ap (λ (ts : List ℕ). with_session m s (Open (record copied { used = ts }))) more
    ∙ ap (λ (u : Transaction). with_session m s (Open (record u { used = u.used ++ table ∷ [] }))) (copy ∙ ap (λ (n : Plain). with_copy n.latest t t.level t.base) after)
    ∙ ap (λ (u : Transaction). with_session m s (Open (with_use m u table))) was

-- the state with a transaction's changes made, and all told
abbrev made_and_told : Transaction → Plain → Plain
made_and_told t m = record { latest = fold_changes t.changes m.latest; sessions = mapped (told_by t.changes) m.sessions; upkeep = m.upkeep }

-- a transaction that was taken out is committed
pub committed_back : (m taken : Plain) (s : ℕ) (t : Transaction) (latest : Rows) (sessions : List Session) → taken ≡ with_session m s Outside → t ≡ transaction_of (session_of m s) → latest ≡ fold_changes t.changes taken.latest → sessions ≡ mapped (told_by t.changes) taken.sessions → record { latest = latest; sessions = sessions; upkeep = taken.upkeep } ≡ committed m s
committed_back m taken s t latest sessions after was l e =
    let first : record { latest = latest; sessions = sessions; upkeep = taken.upkeep } ≡ made_and_told t taken = λ i. record { latest = l i; sessions = e i; upkeep = taken.upkeep } in
    let changes = (transaction_of (session_of m s)).changes in
    first ∙ ap (made_and_told t) after
    ∙ ap (λ (u : Transaction). made_and_told u (with_session m s Outside)) was
    ∙ ap (λ (ss : List Session). record { latest = fold_changes changes m.latest; sessions = ss; upkeep = m.upkeep }) (told_outside changes m.sessions (s - 1))
