-- `has_places` meets its contract, for every type of value. Assumes `Logic`.
use mathlib.Core.Path.{◌≡◌, refl, sym, subst}
use Prim.Native.Nat.{ℕ}
use mathlib.Core.List.{List, [], ◌∷◌}
use seplogic.Ra.Ura.{Ura}
use mir.Syntax.{Fn, named}
use mir.Val.{Val, vptr}
use base.Logic.{SProp, ent, sep, emp, via, fst∗}
use base.Fml.{Lft, GName, Share, ftrue, flft, fobs, fbor}
use prog.Wp.{Calls, Loops, WpFn, Tables}
use types.Logic.{Logic}
use sound.WpLaws.{WpFn-mono}
use types.Kit.{‵, ◌⊛◌, ◌$◌, ◌∵◌, !, qed, by, move, keep, drop, split, join, fsplit, fsplit3, fjoin, fjoin3, feq_i, suffices, frame, done}
use types.Run.{of_opd, returns, enter}
use types.ByLocal.{alloc_all, pass_all, free_all, look_at, sets}
use types.SemTy.{Body as Borrowed}
use denote.RattleType.{owns}
use denote.Memory.{mem}
use denote.RawPtr.{block_ptr}
use denote.Ref.{MutRef, mut_vals, mut_Tells}
use denote.Signature.{plain}
use denote.Steps.{nothing}
use denote.Triple.Clauses.{closing}
use denote.Triple.Entry.{on_entry}
use denote.Triple.Spec.{Meets}
use denote.Triple.Walked.{Stays, stay_ref, walk_of, ends_at, walked, Goes-ref, walk_Meets}
use Rattle.std_alloc.proofs.VecSteps.El.{El, args, el_x, el_d, el_len, el_cap, el_items, Vr}
use Rattle.std_alloc.proofs.VecSteps.Opens.{vec_opens⁰, vec_closes⁰}
use denote.Exit.{yes}
use denote.Builtin.{RefMutOf, unit}
use mir.Val.{vunit}
use types.Run.{unit_lit}
use denote.RawPtr.{InBlock}
use denote.Triple.Walked.{says}
use denote.Triple.Clauses.{Clauses, Ended}
use contract.Monad.{fact}
use mir.MapTy.{inst_fn}
use contract.Running.{tables, tables_of}
use denote.Triple.Spec.{triple_of}
use denote.Triple.Table.{entered}
use Rattle.cell_arena.specs.contracts.reach.has_places.Key.{name as #self}
use Rattle.cell_arena.proofs.reach.has_places.Statement as stated
use Rattle.cell_arena.proofs.reach.has_places.Code as code
use denote.Triple.Table.{run_framed}
use denote.Triple.Carry.{spared}
use Rattle.core.proofs.mem.Timeless.{timeless, timeless_laws}

module _ (E : El) where
  abbrev fn' : Fn
  fn' = inst_fn (args E) code.function

abbrev ended : El → Ended
ended E = record { signature = record { lifetimes = 1; outlives = []; params = RefMutOf (0 ∷ []) tt (plain (λ _. Vr E)) (λ _. tt) ∷ []; result = plain (λ _. unit) }; kept = (yes, tt) }

abbrev spec : (E : El) {M : Type 1} (𝓤 : Ura M) → Clauses 𝓤 (ended E)
spec E 𝓤 κs a = record { ghost = Unit {0}; requires = λ _. emp 𝓤; ensures = λ _ r w. fact 𝓤 (InBlock a.0.now.ptr × (w.0.now ≡ a.0.now)) }

abbrev stayed : (E : El) → Stays (ended E).signature.params (ended E).kept
stayed E = (stay_ref (0 ∷ []) tt (plain (λ _. Vr E)), tt)

module _ (E : El) {M : Type 1} {𝓤 : Ura M} (𝓛 : Logic 𝓤) (κ : Lft) (q : Share) (rb ro : ℕ) (γ : GName) (h : el_d E) where
  open 𝓛 use {H, A}

  abbrev Post : Val → SProp 𝓤
  Post = (walk_of 𝓛 (ended E) (stayed E) (spec E 𝓤)).post (((κ, tt), (q, tt), tt, (record { ref_ptr = (rb, ro); ghost_name = γ; now = h }, tt), (vptr rb ro ∷ [], tt)), tt)

  abbrev n : ℕ
  n = el_len E h

  abbrev c : ℕ
  c = el_cap E h

  abbrev xs : List (el_x E)
  xs = el_items E h

  exits : (b o : ℕ) → h.ptr ≡ block_ptr b o → ent 𝓤 (sep 𝓤 (A.obs γ ((Vr E).coded.code h)) (sep 𝓤 (A.bor κ (Borrowed (mem (Vr E)) rb ro γ)) (A.lft κ q))) (Post vunit)
  exits b o e =
      qed 𝓛 (‵ (fobs γ ((Vr E).coded.code h)) ∷ ‵ (fbor κ (Borrowed (mem (Vr E)) rb ro γ)) ∷ ‵ (flft κ q) ∷ []) ∵
      suffices ! _ (ends_at 𝓛 (ended E) (stayed E) (spec E 𝓤) (((κ, tt), (q, tt), tt, (record { ref_ptr = (rb, ro); ghost_name = γ; now = h }, tt), (vptr rb ro ∷ [], tt)), tt) vunit tt (h, tt) (tt, tt)) $ says ! (subst InBlock (sym e) tt, refl) $
      nothing ! $ move ! (3 ∷ 0 ∷ []) $ join ! $ frame ! $ feq_i ! (List Val) (vptr rb ro ∷ []) (vptr rb ro ∷ []) refl $ fjoin3 ! $ nothing ! $ move ! (1 ∷ 0 ∷ []) $ fjoin ! $
      feq_i ! (List Val) (vunit ∷ []) (vunit ∷ []) refl $ move ! (1 ∷ 0 ∷ []) $ done !

  module _ (C : Calls 𝓤 H) (Λ : Loops 𝓤 H) where
    walk : ent 𝓤 (on_entry 𝓛 (ended E).signature (κ, tt) (q, tt) (record { ref_ptr = (rb, ro); ghost_name = γ; now = h }, tt) (vptr rb ro ∷ [], tt)) (WpFn 𝓤 H C Λ (fn' E) (vptr rb ro ∷ []) Post)
    walk =
        qed 𝓛 ((‵ (flft κ q) ⊛ ‵ ftrue) ∷ ‵ (owns (MutRef (named 0) κ (Vr E) ∷ []) (record { ref_ptr = (rb, ro); ghost_name = γ; now = h }, tt) (vptr rb ro ∷ [], tt)) ∷ []) ∵ enter ! C Λ (fn' E) (vptr rb ro ∷ []) _ $
        alloc_all ! (λ l. pass_all ! refl ((tt, tt), tt) $
        move ! (1 ∷ []) $ fsplit ! $ fsplit3 ! $ drop ! $ move ! (3 ∷ []) $ split ! $ move ! (2 ∷ 3 ∷ 0 ∷ []) $
        vec_opens⁰ E ! tt h rb ro (λ b o hv at_b fl fc fit.
        sets ! (of_opd ! (unit_lit !)) refl (tt, tt) $
        vec_closes⁰ E ! tt h b o n c xs rb ro (at_b, refl, refl, refl) fl fc fit $
        returns ! (look_at ! 0 refl) $ free_all ! refl $
        keep ! (0 ∷ 1 ∷ 2 ∷ []) $
        by ! (exits b o at_b)))

meets : (E : El) {M : Type 1} {𝓤 : Ura M} (𝓛 : Logic 𝓤) (𝓣 : Tables 𝓤 𝓛.H)
    → Meets 𝓛 (ended E).signature (WpFn 𝓤 𝓛.H 𝓣.C 𝓣.Λ (fn' E)) (closing 𝓛 (ended E) (spec E 𝓤))
meets E {𝓤 = 𝓤} 𝓛 𝓣 =
    walk_Meets 𝓛 (ended E) (stayed E) (Goes-ref 𝓛 1 0 tt (plain (λ _. Vr E)), tt) (spec E 𝓤) (WpFn 𝓤 𝓛.H 𝓣.C 𝓣.Λ (fn' E)) (WpFn-mono 𝓤 𝓛.H 𝓛.laws 𝓣 (fn' E))
    (walked 𝓛 (ended E) (stayed E) (spec E 𝓤) (WpFn 𝓤 𝓛.H 𝓣.C 𝓣.Λ (fn' E)) (λ κs. (mut_vals, tt)) (λ κs. (mut_Tells (named 0) κs.0 (Vr E), tt))
    (λ κs qs bounds a g are. via 𝓤 _ (fst∗ 𝓤 _ (emp 𝓤)) (walk E 𝓛 κs.0 qs.0 a.0.ref_ptr.0 a.0.ref_ptr.1 a.0.ghost_name a.0.now 𝓣.C 𝓣.Λ)))

pub has_places_spec : {M : Type 1} → stated.statement M
unfolding tables_of
has_places_spec 𝓤 𝓛 𝓜 𝓡 wired X Z L LZ g d dd met md y =
    let E : El = record { row = timeless X; laws = timeless_laws X L; al = record { row = Z; laws = LZ; g = g; d = d; drops = dd } } in
    let A = 𝓛.A in
    let 𝓣 : Tables 𝓤 𝓛.H = tables_of 𝓤 𝓛.H 𝓜 (tables 𝓤 𝓛.H 𝓜 𝓡 𝓡.env) in
    spared 𝓛 (ended E).signature (𝓡.run (𝓡.env (#self (args E)))) (run_framed 𝓤 𝓛.H 𝓜 𝓡 (𝓡.env (#self (args E)))) 2 (X.lives, (Z.lives, tt)) (closing 𝓛 (ended E) (spec E 𝓤))
    (entered 𝓤 𝓛.H (triple_of 𝓛 (ended E).signature (closing 𝓛 (ended E) (spec E 𝓤))) 𝓣.C 𝓣.Λ (#self (args E)) (inst_fn (args E) code.function) (code.unfolded 𝓤 𝓛.H 𝓜 𝓡 wired (E.row, (Z, tt)) d dd)
    (meets E 𝓛 𝓣))
    ((y.0.0, y.0.1, tt, y.0.3, y.0.4), y.1)
