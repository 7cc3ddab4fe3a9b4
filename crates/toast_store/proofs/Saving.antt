-- The steps of a save: what it relies on holds after each, and at its end the value is whole.
use Rattle.std.proofs.Common.{ℕ, ◌≡◌, ◌≤◌, ◌+◌, Bool, true, false, cond, ◌||◌, Some, List, [], ◌∷◌, ◌++◌, length, Contains, refl, sym, ap, ◌∙◌, subst, arith}
use Rattle.std.specs.Option.{unwrap_or}
use Rattle.std.proofs.lemmas.List.Elements.{Contains-append_right}
use Rattle.list_facts.proofs.Members.{first_in}
use Rattle.external_pointer.specs.Spelling.{IsInRange}
use Rattle.value_ids.specs.declared.pool.InHand.{InHand}
use Rattle.value_ids.specs.Ids.{Pool, first_free_id, id_after, is_held}
use Rattle.value_ids.specs.Faults.{IsCause}
use Rattle.value_ids.specs.declared.fault.DrawFault.{DrawFault}
use Rattle.value_ids.specs.declared.fault.DrawFault.TheVariants.{NoValueId, Memory}
use Rattle.value_ids.proofs.Drawn.{drawn_free}
use Rattle.toast_store.specs.Stores.{Store, is_used}
use Rattle.toast_store.specs.Values.{piece_count}
use Rattle.toast_store.specs.declared.piece_job.PieceStage.TheVariants.{Over}
use Rattle.toast_store.specs.PieceJobs as pieces
use Rattle.toast_store.specs.PieceJobs.{Piecing, IsLaying, IsPieceJob, PiecesStand, PiecesStandAt, PiecesStep, is_laid, new_pieces, pointer_to, steps_at}
use Rattle.toast_store.specs.declared.save.SaveStage.TheVariants as stages
use Rattle.toast_store.specs.declared.save.SaveStep.TheVariants.{More, Done}
use Rattle.toast_store.specs.Saves.{Saving, Drawing, Laying, IsSaveCause, IsSaveLeft, IsSaveProgress, Parts, SaveFails, SaveStands, SaveSteps, answer_at, logged_by, saving_of, toast_rel_of}
use Rattle.toast_store.proofs.Laying.{laid_over, laying_left, stands_begun, still_laying, whole_laid}

clash : {X : Type 0} → true ≡ false → X
clash e = absurd (cc)

-- a draw that is refused tells why, and leaves all as before
pub draw_fails : (old new : Parts) (found before : Saving) (fault : DrawFault) → found ≡ before → found.stage ≡ Drawing → IsCause (is_used old.store) old.ids found.table fault → new ≡ old → SaveFails old before new found fault
draw_fails old new found before fault same at cause parts = subst (λ s. SaveFails old s new found fault) same (record {
  cause = by_fault fault cause;
  save = refl;
  store = ap (λ (p : Parts). p.store) parts;
  ids = ap (λ (p : Parts). p.ids) parts;
  log = ap (λ (p : Parts). p.log) parts;
})
  where
    by_fault : (f : DrawFault) → IsCause (is_used old.store) old.ids found.table f → IsSaveCause old.store old.ids found f
    by_fault (NoValueId in_use) c = (at, c)
    by_fault Memory c = tt

-- the draw
pub draw_steps : (old new : Parts) (table session xid value_id : ℕ) (value : List ℕ) → 21 ≤ length value → first_free_id (is_used old.store) old.ids table ≡ Some value_id
    → new.ids ≡ record old.ids { next = id_after old.ids value_id; in_hand = old.ids.in_hand ++ (record { table = table; session = session; id = value_id }) ∷ [] } → new.store ≡ old.store → new.log ≡ old.log
    → SaveSteps old (saving_of table session (stages.Drawing xid value)) new (saving_of table session (stages.Laying (new_pieces xid value_id value))) More
draw_steps old new table session xid value_id value least drawn taken store log = record {
  answer = refl;
  save = ap (λ id. saving_of table session (stages.Laying (new_pieces xid id value))) id_is;
  drawn = drawn;
  ids = taken ∙ ap (λ id. record old.ids { next = id_after old.ids id; in_hand = old.ids.in_hand ++ (record { table = table; session = session; id = id }) ∷ [] }) id_is;
  rel = ap (λ (s : Store). s.rel) store;
  index = ap (λ (s : Store). s.index) store;
  log = log;
  stands = record {
    in_hand = subst (λ (p : Pool). Contains p.in_hand mine) (sym taken) (Contains-append_right old.ids.in_hand (mine ∷ []) mine (first_in mine [] mine refl));
    pieces = subst (λ s. PiecesStand s (new_pieces xid value_id value)) (sym store) (stands_begun old.store xid value_id value (free (is_used old.store value_id) (is_held old.ids.in_hand table value_id) (drawn_free (is_used old.store) old.ids table value_id drawn)));
  };
  left = tt;
  fewer = (omega (arith, least), omega arith);
}
  where
    mine : InHand
    mine = record { table = table; session = session; id = value_id }

    id_is : value_id ≡ unwrap_or (first_free_id (is_used old.store) old.ids table) 0
    id_is = sym (ap (λ o. unwrap_or o 0) drawn)

    free : (used held : Bool) → (used || held) ≡ false → used ≡ false
    free true held h = clash h
    free false held h = refl

-- the job of the pieces under a save
abbrev saves : ℕ → ℕ → Piecing → Saving
saves table session job = saving_of table session (stages.Laying job)

-- what a step of the pieces leaves, by whether they are at their end
left_by : (store : Store) (ids : Pool) (table session : ℕ) (job : Piecing) (over : Bool) → 21 ≤ length job.value → IsPieceJob job → PiecesStand store job → Contains ids.in_hand (record { table = table; session = session; id = job.value_id }) → is_laid job.stage ≡ over → (over ≡ true → IsInRange (pointer_to job (toast_rel_of table)))
    → IsSaveLeft store ids (saves table session job) (cond over (Done (pointer_to job (toast_rel_of table))) More)
left_by store ids table session job true least is stands held over in_range = record {
  in_range = in_range refl;
  of_table = record { least = least; most = is.most; toast_rel = refl };
  whole = whole_laid store job (toast_rel_of table) at_end;
  chunks = at_end;
  in_hand = held;
}
  where
    at_end : PiecesStandAt store job Over
    at_end = subst (PiecesStandAt store job) (laid_over job.stage over) stands
left_by store ids table session job false least is stands held over in_range = still_laying job.stage over

fewer_by : (before job : Piecing) (toast_rel : ℕ) (over : Bool) → pieces.steps_left before ≡ pieces.steps_left job + 1 → IsPieceJob job → is_laid job.stage ≡ over → IsSaveProgress (pieces.steps_left before) (pieces.steps_left job) (cond over (Done (pointer_to job toast_rel)) More)
fewer_by before job toast_rel true falls is over = ap (steps_at (piece_count (length job.value))) (laid_over job.stage over)
fewer_by before job toast_rel false falls is over = (laying_left job.value job.stage is.stage over, omega (arith, falls))

-- a step of the pieces
pub lay_steps : (old new : Parts) (table session : ℕ) (before after : Piecing) (over : Bool) → 21 ≤ length before.value → IsPieceJob after → PiecesStep old.store before new.store after → new.ids ≡ old.ids → new.log ≡ logged_by old.log table before → SaveStands old.store old.ids (saves table session before)
    → is_laid after.stage ≡ over → (over ≡ true → IsInRange (pointer_to after (toast_rel_of table))) → SaveSteps old (saves table session before) new (saves table session after) (cond over (Done (pointer_to after (toast_rel_of table))) More)
lay_steps old new table session before after over least is step ids log stands laid in_range = record {
  answer = sym (ap (λ b. cond b (Done (pointer_to after (toast_rel_of table))) More) laid) ∙ ap (λ (v : List ℕ). answer_at (saves table session (record before { value = v })) (Laying after.value_id after.stage)) value_is;
  save = ap (saves table session) step.job;
  drawn = tt;
  ids = ids;
  rel = step.rel;
  index = step.index;
  log = log;
  stands = record { in_hand = held; pieces = step.stands };
  left = left_by new.store new.ids table session after over (subst (λ (v : List ℕ). 21 ≤ length v) (sym value_is) least) is step.stands held laid in_range;
  fewer = fewer_by before after (toast_rel_of table) over step.left is laid;
}
  where
    value_is : after.value ≡ before.value
    value_is = ap (λ (j : Piecing). j.value) step.job

    held : Contains new.ids.in_hand (record { table = table; session = session; id = after.value_id })
    held = subst (λ (p : Pool). Contains p.in_hand (record { table = table; session = session; id = after.value_id })) (sym ids) (subst (λ (id : ℕ). Contains old.ids.in_hand (record { table = table; session = session; id = id })) (sym (ap (λ (j : Piecing). j.value_id) step.job)) stands.in_hand)
