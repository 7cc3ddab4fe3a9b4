-- A command that is read from a line in its place has a session.
use Rattle.std.proofs.Common.{◌≡◌, ◌<◌, ◌&&◌, ℕ, Bool, true, false, not, List, [], ◌∷◌, length, Result, Ok, Err, subst, arith}
use Rattle.command_set.specs.declared.Script.{Script}
use Rattle.script_words.specs.Reading.{◌>>=◌}
use Rattle.script_text.specs.Scripts.{Read, is_placed, is_none_of, line_in}
use Rattle.script_text.specs.Drafts.{HasRoom}
use Rattle.script_words.specs.declared.fault.LineFault.{LineFault}
use Rattle.script_text.specs.declared.forms.Form.{Form}
use Rattle.script_text.specs.declared.forms.Form.TheVariants as forms
use Rattle.script_text.specs.declared.forms.Line.{Line}
use Rattle.script_text.specs.declared.forms.Line.TheVariants as line

-- a line that is made of what was read has room if each that may be made has it
made_room : {A : Type 0} (script : Script) (make : A → Line) (read : Result A LineFault) (l : Line) → ((x : A) → HasRoom script (make x)) → (read >>= λ x. Ok (make x)) ≡ Ok l → HasRoom script l
made_room script make (Ok x) l room e = let same : make x ≡ l = cc in subst (λ (k : Line). HasRoom script k) same (room x)
made_room script make (Err fault) l room e = absurd (cc)

some_session : {A : Type 0} (xs : List A) (b : Bool) → (b && not (is_none_of xs)) ≡ true → 0 < length xs
some_session [] true h = absurd (cc)
some_session [] false h = absurd (cc)
some_session (x ∷ xs) b h = omega arith

pub placed_room : (read : Read) (form : Form) (words : List (List ℕ)) (l : Line) → is_placed read form ≡ true → line_in read.script form words ≡ Ok l → HasRoom read.script l
unfolding line_in
placed_room read forms.Ids words l h e = made_room read.script (λ x. line.Ids x.0 x.1) _ l (λ x. tt) e
placed_room read forms.Table words l h e = made_room read.script line.Table _ l (λ x. tt) e
placed_room read forms.Session words l h e = made_room read.script (λ x. line.Session) _ l (λ x. tt) e
placed_room read (forms.Command form) words l h e = made_room read.script line.Command _ l (λ x. some_session read.script.sessions _ h) e
placed_room read forms.Go words l h e = made_room read.script line.Passage _ l (λ x. tt) e
placed_room read forms.Loop words l h e = made_room read.script line.Passage _ l (λ x. tt) e
