-- A hub before its first turn, and what a session has under way.
use Rattle.std.proofs.Common.{◌≡◌, ◌-◌, ℕ, zero, suc, true, false, List, [], ◌∷◌, Option, None, length, get_or, slice_get, replicate, refl, sym, ap, ◌∙◌, subst, arith}
use Rattle.std.specs.Prelude.{map as mapped}
use Rattle.std.specs.Option.{unwrap_or}
use Rattle.std.proofs.lemmas.List.{length-replicate}
use Rattle.tuple_layout.specs.Schemas.{TableSchema}
use Rattle.command_set.proofs.Numbered.{nth_is}
use Rattle.command_set.specs.declared.journal.Told.{Told}
use Rattle.command_set.specs.declared.Script.{Script}
use Rattle.command_set.specs.declared.Reply.{Reply}
use Rattle.command_set.specs.Plain.{first_state}
use Rattle.command_set.specs.Journals.{first_run, untold, told_of, run_of}
use Rattle.core_parts.specs.First.{first_core}
use Rattle.core_state.specs.declared.advance.Under.TheVariants as under
use Rattle.core_state.specs.declared.seat.Job.{Job}
use Rattle.core_state.specs.declared.seat.Job.TheVariants as jobs
use Rattle.core_state.specs.declared.seat.Seat.{Seat}
use Rattle.core_state.specs.Moves.{under_of}
use Rattle.core_state.specs.Stands.{Stands}
use Rattle.core_state.specs.State.{CoreState, is_past_moment, nobody, schemas_of, seat_of}
use Rattle.session_shell.specs.declared.hub.Progress.{Progress}
use Rattle.command_set.specs.declared.JournalEntry.{JournalEntry}
use Rattle.session_shell.specs.declared.hub.KeptLine.{KeptLine}
use Rattle.session_shell.specs.Hubs.{HubState, IsHub, Keeps, SessionIs, IsScript, IsBusyBy, at_start, progress_of}
use Rattle.session_shell.specs.Owed.{AreEnough, first_owed}
use Rattle.session_shell.proofs.Owing.{enough_first}
use Rattle.session_shell.specs.Turns.{AreTurns, HasTurned, Place, first_hub, places_by}
use Rattle.session_shell.specs.Follows.{IsOfTurns}
use Rattle.session_shell.proofs.Firsts.{session_at}
use Rattle.session_shell.proofs.Laters.{hub_of}

replies_none : (n : ℕ) → mapped (λ (told : Told). told.reply) (replicate n untold) ≡ replicate n None
replies_none zero = refl
replies_none (suc n) = ap (λ (rest : List (Option Reply)). None ∷ rest) (replies_none n)

get_replicate : {X : Type 0} (n i : ℕ) (x : X) → unwrap_or (slice_get (replicate n x) i) x ≡ x
get_replicate zero i x = refl
get_replicate (suc n) zero x = refl
get_replicate (suc n) (suc i) x = get_replicate n i x

at_replicate : {X : Type 0} (n i : ℕ) (x : X) → get_or (replicate n x) i x ≡ x
at_replicate zero i x = refl
at_replicate (suc n) zero x = refl
at_replicate (suc n) (suc i) x = at_replicate n i x

-- before the first turn each session is at its start
pub places_first : (n : ℕ) → places_by (replicate n untold) (replicate n nobody) ≡ replicate n (record { begun = 0; under_way = false })
places_first zero = refl
places_first (suc n) = ap (λ (rest : List Place). (record { begun = 0; under_way = false }) ∷ rest) (places_first n)

session_first : (script : Script) (s : ℕ) → SessionIs script [] [] s untold jobs.Idle at_start
session_first script s = record {
  begun = refl;
  within = omega arith;
  busy = tt;
  quiet = refl;
  below = λ k l there session. absurd (cc);
  line = λ one. absurd (omega (arith, one));
  entry = λ one. absurd (omega (arith, one));
  kind = λ kind last. absurd (cc);
}

-- a new hub
pub keeps_new : (script : Script) (core : CoreState) (ps : List Progress) → IsScript script → schemas_of core.tables ≡ script.schemas → core.seats ≡ replicate (length script.sessions) nobody → ps ≡ replicate (length script.sessions) at_start →
    Stands core (first_state (length script.sessions)) (replicate (length script.sessions) None) → Keeps script core [] [] ps (first_run script)
keeps_new script core ps rules schemas seats places stands =
    let n = length script.sessions in
    record {
      rules = rules;
      schemas = schemas;
      seats = ap length seats ∙ length-replicate n nobody;
      told = length-replicate n untold;
      places = ap length places ∙ length-replicate n at_start;
      stands = subst (Stands core (first_state n)) (sym (replies_none n)) stands;
      legal = refl;
      lines = λ k. refl;
      from_one = λ k l there. absurd (cc);
      each = λ s one within. session_at script [] [] s untold (told_of (first_run script) s) jobs.Idle (seat_of core s).job at_start (progress_of ps s)
          (ap (λ (o : Option Told). unwrap_or o untold) (nth_is (replicate n untold) s one) ∙ get_replicate n (s - 1) untold)
          (ap (λ (xs : List Seat). (get_or xs (s - 1) nobody).job) seats ∙ ap (λ (x : Seat). x.job) (at_replicate n (s - 1) nobody))
          (ap (λ (xs : List Progress). get_or xs (s - 1) at_start) places ∙ at_replicate n (s - 1) at_start)
          (session_first script s);
      entries = omega arith;
      fewer = omega arith;
    }

-- nothing is under way
pub idle_of : (job : Job) → under_of job ≡ under.Nothing → job ≡ jobs.Idle
idle_of jobs.Idle e = refl
idle_of (jobs.Submitted command) e = absurd (cc)
idle_of (jobs.Reading table snapshot read) e = absurd (cc)
idle_of (jobs.Writing table write) e = absurd (cc)

-- something is under way, and has passed its moment
pub past_of : (script : Script) (s : ℕ) (told : Told) (job : Job) → (under_of job ≡ under.Nothing → ⊥) → IsBusyBy script s told job → is_past_moment job ≡ true
past_of script s told jobs.Idle other busy = absurd (other refl)
past_of script s told (jobs.Submitted command) other busy = absurd busy
past_of script s told (jobs.Reading table snapshot read) other busy = refl
past_of script s told (jobs.Writing table write) other busy = refl

pub idle_not_past : (job : Job) → under_of job ≡ under.Nothing → is_past_moment job ≡ true → ⊥
idle_not_past jobs.Idle e past = cc
idle_not_past (jobs.Submitted command) e past = cc
idle_not_past (jobs.Reading table snapshot read) e past = cc
idle_not_past (jobs.Writing table write) e past = cc

-- a new hub, as it was made
pub new_is : (script : Script) (core : CoreState) (journal : List JournalEntry) (kept : List KeptLine) (ps : List Progress) (n count : ℕ) → IsScript script → journal ≡ [] → kept ≡ [] → n ≡ length script.sessions → count ≡ length script.sessions → schemas_of core.tables ≡ script.schemas → core.seats ≡ replicate n nobody → ps ≡ replicate count at_start →
    Stands core (first_state n) (replicate n None) → IsHub (record { script = script; core = core; journal = journal; kept = kept }) ps
new_is script core journal kept ps n count rules j k n_is count_is schemas seats places stands =
    subst (λ (js : List JournalEntry). IsHub (record { script = script; core = core; journal = js; kept = kept }) ps) (sym j)
    (subst (λ (ks : List KeptLine). IsHub (record { script = script; core = core; journal = []; kept = ks }) ps) (sym k)
    (keeps_new script core ps rules schemas (seats ∙ ap (λ (m : ℕ). replicate m nobody) n_is) (places ∙ ap (λ (m : ℕ). replicate m at_start) count_is)
    (subst (λ (m : ℕ). Stands core (first_state m) (replicate m None)) n_is stands)))

-- it is the hub before the first turn
pub first_is : (script : Script) (core : CoreState) (journal : List JournalEntry) (kept : List KeptLine) (schemas : List TableSchema) (n : ℕ) → journal ≡ [] → kept ≡ [] → schemas ≡ script.schemas → n ≡ length script.sessions → core ≡ first_core schemas script.low script.high n → hub_of script core journal kept ≡ first_hub script
first_is script core journal kept schemas n j k schemas_is n_is core_is =
    ap (λ (js : List JournalEntry). hub_of script core js kept) j
    ∙ ap (hub_of script core []) k
    ∙ ap (λ (c : CoreState). hub_of script c [] []) (core_is ∙ ap (λ (xs : List TableSchema). first_core xs script.low script.high n) schemas_is ∙ ap (first_core script.schemas script.low script.high) n_is)

-- the turns that made a hub give its journal
pub of_turns : (hub : HubState) → HasTurned hub → IsOfTurns hub.script hub.journal
of_turns hub h = record {
  turns = h.turns;
  entries = sym h.ran.journal;
  each = subst (λ (ps : List Place). AreTurns hub.script (first_run hub.script) ps h.turns) (places_first (length hub.script.sessions)) h.ran.each;
  enough = subst (λ (ps : List Place). AreEnough hub.script (first_run hub.script) ps (first_owed hub.script) h.turns) (places_first (length hub.script.sessions)) (enough_first hub.script hub h.turns h.ran.chain);
}

-- where its sessions are
pub new_places : (script : Script) (core : CoreState) (journal : List JournalEntry) (n : ℕ) → journal ≡ [] → n ≡ length script.sessions → core.seats ≡ replicate n nobody → places_by (run_of script journal).told core.seats ≡ replicate (length script.sessions) (record { begun = 0; under_way = false })
new_places script core journal n j n_is seats =
    ap (λ (js : List JournalEntry). places_by (run_of script js).told core.seats) j
    ∙ ap (places_by (replicate (length script.sessions) untold)) (seats ∙ ap (λ (m : ℕ). replicate m nobody) n_is)
    ∙ places_first (length script.sessions)
