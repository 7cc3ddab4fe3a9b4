-- Each call leaves a core.
use Rattle.std.proofs.Common.{ap, refl, subst, sym, ◌∙◌}
use Rattle.std.proofs.lemmas.List.{length-set}
use Rattle.std.specs.Prelude.{List, [], length, ℕ, ◌+◌, ◌-◌, ◌∷◌, ◌≡◌, ◌≤◌}
use Rattle.list_facts.proofs.Changed.{get_set_other}
use Rattle.tuple_layout.specs.Schemas.{TableSchema}
use Rattle.command_set.specs.declared.Command.{Command}
use Rattle.core_state.proofs.Ended.{job_there}
use Rattle.core_state.proofs.Proved.{ends_keep, submit_keeps}
use Rattle.core_state.specs.Commands.{IsFitting}
use Rattle.core_state.specs.Lines.{after_failing, after_submit}
use Rattle.core_state.specs.Moves.{OthersStay}
use Rattle.core_state.specs.State.{CoreState, IsSession, schemas_of, seat_of}
use Rattle.core_state.specs.declared.advance.Advance.{Advance}
use Rattle.core_parts.proofs.First.{first_pool, first_sound}
use Rattle.core_parts.specs.Ends.{CanEnd}
use Rattle.core_parts.specs.First.{AreTablesMade, first_core, tables_from}
use Rattle.core_events.proofs.Proved.{advances_keep, failures_keep}
use Rattle.core_events.specs.Advanced.{IsAdvanced}
use Rattle.core_events.specs.Laws.{IsSoundAt}
use Rattle.toast_core.proofs.Cut.{cut_ends, cut_fails, cut_parts}
use Rattle.toast_core.proofs.Parts.{parts_advanced, parts_ended}
use Rattle.toast_core.specs.Cores.{IsCore}
use Rattle.toast_core.specs.Taken.{IsCut}
use Rattle.core_state.specs.declared.seat.Job.TheVariants as jobs

-- one of a core's sessions
pub sound_at : (c : CoreState) (s : ℕ) → IsSession c.seats s → IsCore c → IsSoundAt c s
sound_at c s there core = record { there = there; sound = core.sound; parts = core.parts }

-- ---- a new core

pub first_kept : (schemas : List TableSchema) (low high n : ℕ) (new : CoreState) → low ≤ high → length schemas ≤ 16 → n ≤ 64 → new ≡ first_core schemas low high n → AreTablesMade new.tables → IsCore new
first_kept schemas low high n new ordered tables sessions is made = subst IsCore (sym is) (record {
  sound = first_sound schemas low high n tables sessions;
  parts = record { ids = first_pool low high ordered; tables = (subst (λ (v : CoreState). AreTablesMade v.tables) is made).each };
})

schemas_from : (number : ℕ) (schemas : List TableSchema) → schemas_of (tables_from number schemas) ≡ schemas
schemas_from number [] = refl
schemas_from number (schema ∷ schemas) = ap (λ (rest : List TableSchema). schema ∷ rest) (schemas_from (number + 1) schemas)

pub first_schemas : (schemas : List TableSchema) (low high n : ℕ) (new : CoreState) → new ≡ first_core schemas low high n → schemas_of new.tables ≡ schemas
first_schemas schemas low high n new is = ap (λ (v : CoreState). schemas_of v.tables) is ∙ schemas_from 1 schemas

-- ---- a command that is submitted, which leaves the other sessions, or that fails for want of memory

pub submit_kept : (c : CoreState) (s : ℕ) (command : Command) (new : CoreState) → IsSoundAt c s → (seat_of c s).job ≡ jobs.Idle → IsFitting (schemas_of c.tables) command → new ≡ after_submit c s command → IsCore new
submit_kept c s command new at idle fits is = subst IsCore (sym is) (record {
  sound = submit_keeps.sound c s command at.there idle fits at.sound;
  parts = record { ids = at.parts.ids; tables = at.parts.tables };
})

pub submit_others : (c : CoreState) (s : ℕ) (command : Command) → OthersStay c s (after_submit c s command)
submit_others c s command = record {
  schemas = refl;
  count = length-set c.seats (s - 1) (record (seat_of c s) { job = jobs.Submitted command });
  each = λ i differ. get_set_other c.seats (s - 1) i (record (seat_of c s) { job = jobs.Submitted command }) differ;
}

pub fail_kept : (c : CoreState) (s : ℕ) (new : CoreState) → IsSoundAt c s → new ≡ after_failing c s → IsCore new
fail_kept c s new at is = subst IsCore (sym is) (record {
  sound = ends_keep.failed c s at.there at.sound;
  parts = parts_ended c s _ _ _ (job_there c s at.there at.sound) at.parts;
})

-- ---- an event

pub advance_kept : (c : CoreState) (s : ℕ) (new : CoreState) (advance : Advance) → IsSoundAt c s → IsAdvanced c s new advance → IsCore new
advance_kept c s new advance at made = record {
  sound = advances_keep.sound c s new advance at made;
  parts = parts_advanced c s new advance (job_there c s at.there at.sound) at.parts made;
}

pub cut_kept : (c : CoreState) (s : ℕ) (left new : CoreState) → IsSoundAt c s → IsCut c s left → new ≡ after_failing left s → IsCore new
cut_kept c s left new at cut is =
    let can : CanEnd left s = cut_ends c s left at cut in
    subst IsCore (sym is) (record {
      sound = failures_keep.sound c s (after_failing left s) at (cut_fails c s left at.there cut);
      parts = parts_ended left s _ _ _ can.leaves.table (cut_parts c s left cut at.parts);
    })
