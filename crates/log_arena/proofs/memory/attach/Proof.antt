-- `attach`: the bytes go where they are waited for. Assumes `Logic`.
use Rattle.std.proofs.Common.{◌≡◌, ℕ, List, [], ◌∷◌, ◌++◌, length, refl, ap, ◌∙◌, subst}
use Rattle.std.proofs.raw_atomic.Walks.{proved_at}
use Rattle.std.proofs.alloc.Calls.{Goes-blank}
use mir.Val.{Val}
use base.Logic.{SProp, apply∗, all_e}
use Rattle.log_arena.specs.declared.memory.Deed.TheInside.{Inside}
use base.Fml.{fex, fsep, feq, fwand}
use prog.Wp.{WpFn}
use contract.Monad.{fact}
use contract.Running.{tables}
use types.Logic.{sem}
use types.Kit.{‵, raw, ◌⊛◌, prop, ◌$◌, ◌∵◌, !, qed, move, drop, use1, use2, split, fsplit, fjoin, fpick, feq_l, feq_i, rewrite, regoal, suffices, done}
use types.Part.{sub, whole}
use types.Run.{enter, returns, of_opd, fld, stop}
use types.ByLocal.{alloc_all, pass_all, free_all, look_at, get, get_in, sets}
use denote.Exit.{yes}
use denote.Laws.{Typed}
use denote.RattleType.{owns}
use denote.Memory.{lone}
use denote.RawPtr.{Ptr}
use denote.Signature.{plain, types_at}
use denote.Steps.{nothing, heard}
use denote.Struct.Struct.{Struct}
use denote.Triple.Entry.{alive}
use denote.Triple.Walked.{says, Stays, stay_dropped, walk_of, ends_at}
use Rattle.log_arena.specs.Ownership.{run_owns}
use Rattle.log_arena.specs.contracts.memory.Run as run
use Rattle.log_arena.specs.contracts.memory.Deed as deed
use Rattle.log_arena.specs.contracts.memory.attach as f
use Rattle.log_arena.proofs.memory.attach.Statement.{statement}
use Rattle.log_arena.proofs.memory.attach.Code as code
use Rattle.log_arena.proofs.Steps.{empty, packed, unpacks, unnamed, run_opens, tells}
use Rattle.log_arena.proofs.Deeds.{Held, held-laws}

abbrev stayed : Stays f.ended.signature.params f.ended.kept
stayed = (stay_dropped (plain (λ _. run.the_row)) yes, (stay_dropped (plain (λ _. deed.the_row)) yes, tt))

pub attach_spec : {M : Type 1} → statement M
attach_spec 𝓤 𝓛 𝓜 𝓡 wired =
    let 𝓣 = tables 𝓤 𝓛.H 𝓜 𝓡 𝓡.env in let c = f.clauses 𝓛 𝓜.mem 𝓡.returns in
    proved_at 𝓛 f.ended stayed c 𝓜 𝓡
    (Goes-blank 𝓛 0 (plain (λ _. run.the_row)) yes (λ κs x w. tt), (Goes-blank 𝓛 0 (plain (λ _. deed.the_row)) yes (λ κs x w. tt), tt))
    f.Key.name code.function (code.unfolded 𝓤 𝓛.H 𝓜 𝓡 wired) (λ z are.
    let Post : Val → SProp 𝓤 = (walk_of 𝓛 f.ended stayed c).post z in
    let runs : List Val → SProp 𝓤 = λ vs. WpFn 𝓤 𝓛.H 𝓣.C 𝓣.Λ code.function vs Post in
    let vss = z.0.4 in
    let r = z.0.3.0 in let e = z.0.3.1.0 in let xs = r.items in
    let Asked = (r.ptr ≡ e.ptr) × (length xs ≡ e.len) in
    qed 𝓛 ((raw (alive 𝓛 f.signature z.0.0 z.0.1) ⊛ ‵ (owns (types_at f.signature.params z.0.0) z.0.3 vss)) ∷ raw (fact 𝓤 Asked) ∷ []) ∵
    move ! (1 ∷ []) $ heard ! Asked (λ asked. split ! $ move ! (1 ∷ []) $
    fsplit ! $ run_opens ! r vss.0 (λ is₀. move ! (1 ∷ []) $ fsplit ! $ fsplit ! $ fpick ! (λ typed. drop ! $
    let Back = λ (ys : List ℕ). fsep (feq ℕ (length ys) e.len) (run_owns e.ptr ys) in
    let Filled = λ (ys : List ℕ). fex Inside (λ d. fsep (feq (List ℕ) d.vec.items ys) ((Struct (unnamed (Held ∷ []))).own_val (d.vec, tt) vss.1.0)) in
    -- [the way back; nothing; the bytes; the tokens]
    use1 𝓛 (‵ (fwand (Back xs) (Filled xs))) (all_e 𝓤 (λ ys. sem 𝓛 (fwand (Back ys) (Filled ys))) xs) $ move ! (2 ∷ []) $
    rewrite ! 0 (λ (p : Ptr). ‵ (run_owns p xs)) asked.0 refl $ feq_i ! ℕ (length xs) e.len asked.1 $ fjoin ! $
    use2 𝓛 (‵ (Filled xs)) (apply∗ 𝓤 (sem 𝓛 (Back xs)) (sem 𝓛 (Filled xs))) $
    fpick ! (λ d. fsplit ! $ feq_l ! (λ held. let w = d.vec in
    unpacks ! (Held ∷ []) (w, tt) vss.1.0 (λ us is₁. fsplit ! $ tells ! Held held-laws (lone Held.mir) refl w us.0 (λ u is good. move ! (1 ∷ 2 ∷ []) $ drop ! $ drop ! $
    let whole_is : vss.1.0 ≡ packed (u ∷ []) ∷ [] = is₁ ∙ ap (λ (ws : List Val). packed (ws ++ []) ∷ []) is in
    regoal ! (λ (ws : List Val). prop (runs (ws ++ (vss.1.0 ++ [])))) is₀ refl $
    regoal ! (λ (ws : List Val). prop (runs ((empty ∷ []) ++ (ws ++ [])))) whole_is refl $
    enter ! 𝓣.C 𝓣.Λ code.function (empty ∷ packed (u ∷ []) ∷ []) Post $
    alloc_all ! (λ l. pass_all ! refl ((tt, tt), ((subst (Typed (deed.the_row).mir) whole_is typed).0, tt)) $
    sets ! (of_opd ! (get_in ! (fld ! refl (stop !)) (sub ! 0 refl (whole !)))) refl good $
    sets ! (of_opd ! (get ! refl)) refl good $
    returns ! (look_at ! 0 refl) $ free_all ! refl $
    suffices ! _ (ends_at 𝓛 f.ended stayed c z u w (tt, (tt, tt)) (tt, (tt, tt))) $ says ! held $
    nothing ! $ nothing ! $ fjoin ! $ nothing ! $ fjoin ! $ move ! (2 ∷ 0 ∷ 1 ∷ []) $ done !)))))))))
