-- The kept lines beside the printed ones.
use Rattle.std.proofs.Common.{◌≡◌, ◌≢◌, ℕ, zero, suc, Bool, true, false, List, [], ◌∷◌, ◌++◌, Option, Some, None, length, slice_get, refl, ap, ◌∙◌, arith, eq-eqb}
use Rattle.std.specs.Prelude.{◌&&◌, ◌==◌, if◌then◌else◌}
use Rattle.std.specs.Option.{option_map, option_map_or}
use Rattle.std.proofs.lemmas.Bool.Decides.{nat_tests}
use Rattle.command_set.specs.declared.journal.Line.{Line}
use Rattle.command_set.specs.declared.Script.{Script}
use Rattle.command_set.specs.declared.Command.{Command}
use Rattle.command_set.specs.Journals.{command_at}
use Rattle.core_state.specs.declared.seat.Job.{Job}
use Rattle.core_state.specs.declared.seat.Job.TheVariants as jobs
use Rattle.core_state.specs.State.{is_past_moment}
use Rattle.session_shell.specs.declared.hub.KeptLine.{KeptLine}
use Rattle.session_shell.specs.Hubs.{is_read}
use Rattle.session_shell.proofs.Runs.{and_none}

-- a kept line, by how many commands of its session have begun, and by the session's job
abbrev pub kept_by : Script → ℕ → Job → Line → KeptLine
kept_by script begun job line = record {
  session = line.session;
  number = line.number;
  reply = if (line.number == begun) && (is_past_moment job && option_map_or is_read (command_at script line.session line.number) false) then None else Some line.reply;
}

-- a line with its reply
abbrev pub said_of : Line → KeptLine
said_of line = record { session = line.session; number = line.number; reply = Some line.reply }

-- no command of the session is under way
pub said_idle : (script : Script) (begun : ℕ) (job : Job) (line : Line) → job ≡ jobs.Idle → kept_by script begun job line ≡ said_of line
said_idle script begun job line idle =
    ap (λ (j : Job). kept_by script begun j line) idle
    ∙ ap (λ (b : Bool). record { session = line.session; number = line.number; reply = if b then None else Some line.reply }) (and_none (line.number == begun) false refl)

-- the line is not that of the session's last command
pub said_before : (script : Script) (begun : ℕ) (job : Job) (line : Line) → line.number ≢ begun → kept_by script begun job line ≡ said_of line
said_before script begun job line other =
    let no : (line.number == begun) ≡ false = grind (arith, nat_tests) in
    ap (λ (b : Bool). record { session = line.session; number = line.number; reply = if b && (is_past_moment job && option_map_or is_read (command_at script line.session line.number) false) then None else Some line.reply }) no

-- the line of a command that goes on
pub kept_going : (script : Script) (begun : ℕ) (job : Job) (line : Line) (command : Command) → line.number ≡ begun → is_past_moment job ≡ true → command_at script line.session line.number ≡ Some command → (kept_by script begun job line).reply ≡ (if is_read command then None else Some line.reply)
kept_going script begun job line command same past there =
    ap (λ (b : Bool). if b && (is_past_moment job && option_map_or is_read (command_at script line.session line.number) false) then None else Some line.reply) (eq-eqb line.number begun same)
    ∙ ap (λ (b : Bool). if b && option_map_or is_read (command_at script line.session line.number) false then None else Some line.reply) past
    ∙ ap (λ (o : Option Command). if option_map_or is_read o false then None else Some line.reply) there

-- lines are kept as another view of them says
abbrev pub KeptAs : List KeptLine → (Line → KeptLine) → List Line → Type 0
KeptAs kept view lines = (k : ℕ) → slice_get kept k ≡ option_map view (slice_get lines k)

refit_by : (view view' : Line → KeptLine) (o : Option Line) → ((line : Line) → o ≡ Some line → view line ≡ view' line) → option_map view o ≡ option_map view' o
refit_by view view' None same = refl
refit_by view view' (Some line) same = ap Some (same line refl)

-- the view has changed at no line that is there
pub refit : (kept : List KeptLine) (view view' : Line → KeptLine) (lines : List Line) → KeptAs kept view lines → ((k : ℕ) (line : Line) → slice_get lines k ≡ Some line → view line ≡ view' line) → KeptAs kept view' lines
refit kept view view' lines seen same k = seen k ∙ refit_by view view' (slice_get lines k) (λ line e. same k line e)

-- one line more
pub push_both : (kept : List KeptLine) (view : Line → KeptLine) (lines : List Line) (x : KeptLine) (line : Line) → KeptAs kept view lines → x ≡ view line → KeptAs (kept ++ x ∷ []) view (lines ++ line ∷ [])
push_both [] view [] x line seen e zero = ap Some e
push_both [] view [] x line seen e (suc k) = refl
push_both [] view (l ∷ lines) x line seen e k = absurd (let n = seen 0 in cc)
push_both (y ∷ kept) view [] x line seen e k = absurd (let n = seen 0 in cc)
push_both (y ∷ kept) view (l ∷ lines) x line seen e zero = seen 0
push_both (y ∷ kept) view (l ∷ lines) x line seen e (suc k) = push_both kept view lines x line (λ i. seen (suc i)) e k

-- there are as many kept lines as printed ones
pub same_count : (kept : List KeptLine) (view : Line → KeptLine) (lines : List Line) → KeptAs kept view lines → length kept ≡ length lines
same_count [] view [] seen = refl
same_count [] view (l ∷ lines) seen = absurd (let n = seen 0 in cc)
same_count (y ∷ kept) view [] seen = absurd (let n = seen 0 in cc)
same_count (y ∷ kept) view (l ∷ lines) seen = ap (λ n. suc n) (same_count kept view lines (λ i. seen (suc i)))
