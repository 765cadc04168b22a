-- `house`: the run is handed to `lodge`. Assumes `Logic`.
use Rattle.std.proofs.Common.{◌≡◌, ℕ, ◌^◌, ◌<◌, List, [], ◌∷◌, ◌++◌, length, refl, sym, ap, ◌∙◌, subst, Vec}
use Rattle.std.proofs.raw_atomic.Walks.{proved_at}
use Rattle.std.proofs.alloc.Calls.{Goes-blank}
use Rattle.std.proofs.VecSteps.Shapes.{after}
use mir.Syntax.{w64}
use mir.Val.{Val, vint, vptr}
use base.Logic.{SProp, never, id⊢}
use prog.Wp.{WpFn}
use contract.Monad.{fact}
use contract.Running.{tables}
use types.Kit.{‵, raw, ◌⊛◌, prop, some, given, later, at_ret, ◌$◌, ◌∵◌, !, qed, move, drop, use1, split, fsplit, fjoin, flt_l, feq_l, pick, learn, await, rewrite, regoal, suffices, done}
use types.Run.{enter, returns, and_then, no_more, of_opd, first, blocks, exec}
use types.ByLocal.{alloc_all, pass_all, free_all, look_at, get, sets, lands_last, env}
use denote.Exit.{yes}
use denote.RattleType.{owns}
use denote.Builtin.{RawPtr, u8, usize}
use denote.Memory.{lone}
use denote.RawPtr.{Ptr, ptr_val, in_a_block}
use denote.Signature.{plain, types_at}
use denote.Steps.{nothing, heard, only}
use denote.Triple.Call.{calls_at_last}
use denote.Triple.Entry.{alive}
use denote.Triple.Table.{framed}
use denote.Triple.Walked.{says, Stays, stay_dropped, walk_of, ends_at}
use Rattle.std_alloc.specs.declared.vec.lodged.Lodged.{Lodged}
use Rattle.std_alloc.proofs.vec.lodge.Met.{met as lodge_met}
use Rattle.log_arena.specs.Ownership.{run_owns}
use Rattle.log_arena.specs.contracts.memory.Run as run
use Rattle.log_arena.specs.contracts.memory.house as f
use Rattle.log_arena.proofs.memory.house.Statement.{statement}
use Rattle.log_arena.proofs.memory.house.Code as code
use Rattle.log_arena.proofs.Steps.{empty, run_opens, tells, Suits}
use Rattle.log_arena.proofs.Deeds.{byte_laws}
use Rattle.log_arena.proofs.Lodgings.{Housed, housed-laws, Lodges, lodging, LiesThere, lodge_takes, lodge_gives}

abbrev stayed : Stays f.ended.signature.params f.ended.kept
stayed = (stay_dropped (plain (λ _. RawPtr)) yes, (stay_dropped (plain (λ _. usize)) yes, (stay_dropped (plain (λ _. run.the_row)) yes, tt)))

pub house_spec : {M : Type 1} → statement M
house_spec 𝓤 𝓛 𝓜 𝓡 wired =
    let 𝓣 = tables 𝓤 𝓛.H 𝓜 𝓡 𝓡.env in let c = f.clauses 𝓛 𝓜.mem 𝓡.returns in
    proved_at 𝓛 f.ended stayed c 𝓜 𝓡
    (Goes-blank 𝓛 0 (plain (λ _. RawPtr)) yes (λ κs x w. tt), (Goes-blank 𝓛 0 (plain (λ _. usize)) yes (λ κs x w. tt), (Goes-blank 𝓛 0 (plain (λ _. run.the_row)) yes (λ κs x w. tt), tt)))
    f.Key.name code.function (code.unfolded 𝓤 𝓛.H 𝓜 𝓡 wired) (λ z are.
    let Post : Val → SProp 𝓤 = (walk_of 𝓛 f.ended stayed c).post z in
    let runs : List Val → SProp 𝓤 = λ vs. WpFn 𝓤 𝓛.H 𝓣.C 𝓣.Λ code.function vs Post in
    let vss = z.0.4 in
    let p = z.0.3.0 in let n = z.0.3.1.0 in let xs = z.0.3.1.1.0.items in
    let Asked = (z.0.3.1.1.0.ptr ≡ p) × (length xs ≡ n) × (0 < n) × (n < 2 ^ 63) in
    let G = Lodges 𝓛 𝓜.mem 𝓡.returns in
    qed 𝓛 ((raw (alive 𝓛 f.signature z.0.0 z.0.1) ⊛ ‵ (owns (types_at f.signature.params z.0.0) z.0.3 vss)) ∷ raw (fact 𝓤 Asked) ∷ []) ∵
    move ! (1 ∷ []) $ heard ! Asked (λ asked. split ! $ move ! (1 ∷ []) $
    fsplit ! $ feq_l ! (λ is₀. fsplit ! $ fsplit ! $ feq_l ! (λ is₁. flt_l ! (λ fits. fsplit ! $
    run_opens ! z.0.3.1.1.0 vss.1.1.0 (λ is₂. move ! (1 ∷ []) $ drop ! $
    rewrite ! 0 (λ (q : Ptr). ‵ (run_owns q xs)) asked.0 refl $ in_a_block ! p (λ q. run_owns q xs) (id⊢ 𝓤 (never 𝓤)) (λ b o at.
    let call = lodging 𝓛 𝓜.mem 𝓡.returns b o n xs in
    regoal ! (λ (us : List Val). prop (runs (us ++ (vss.1.0 ++ (vss.1.1.0 ++ []))))) (is₀ ∙ ap (λ (q : Ptr). ptr_val q ∷ []) at) refl $
    regoal ! (λ (us : List Val). prop (runs ((vptr b o ∷ []) ++ (us ++ (vss.1.1.0 ++ []))))) is₁ refl $
    regoal ! (λ (us : List Val). prop (runs ((vptr b o ∷ []) ++ ((vint w64 n ∷ []) ++ (us ++ []))))) is₂ refl $
    enter ! 𝓣.C 𝓣.Λ code.function (vptr b o ∷ vint w64 n ∷ empty ∷ []) Post $
    alloc_all ! (λ l. pass_all ! refl ((tt, tt), ((tt, record { fits = fits }), ((tt, tt), tt))) $
    use1 𝓛 (raw (G.pre call)) (lodge_takes 𝓛 𝓜.mem 𝓡.returns b o n xs (sym asked.1) asked.2 asked.3) $ first ! $ blocks ! $
    calls_at_last ! (framed 𝓤 𝓛.H 𝓜 (tables 𝓤 𝓛.H 𝓜 𝓡 𝓡.env)) G (lodge_met 𝓤 𝓛 𝓜 𝓡 (code.calls-std_alloc::vec::lodge 𝓡.env wired) u8 byte_laws) call
    (and_then ! (get ! refl) (and_then ! (get ! refl) (and_then ! (get ! refl) (no_more !)))) (λ v.
    use1 𝓛 (later (some (λ (r : Vec ℕ Lodged). given (LiesThere 𝓛 𝓜.mem 𝓡.returns b o n xs r) (‵ (Housed.own_val r (v ∷ [])))))) (lodge_gives 𝓛 𝓜.mem 𝓡.returns b o n xs v) $
    await ! tt $ pick ! (λ r. learn ! (λ lies. tells ! Housed housed-laws (lone Housed.mir) refl r (v ∷ []) (λ u same good.
    let fine : Suits (lone Housed.mir) v = subst (Suits (lone Housed.mir)) (sym (ap only same)) good in
    rewrite ! 0 (λ (w : Val). ‵ (Housed.own_val r (w ∷ []))) (sym (ap only same)) refl $ lands_last ! refl fine $
    exec ! 𝓣.C 𝓣.Λ (env code.Mir.locals l) (after 1 (code.function).body) (at_ret _ Post) $
    sets ! (of_opd ! (get ! refl)) refl fine $
    returns ! (look_at ! 0 refl) $ free_all ! refl $
    suffices ! _ (ends_at 𝓛 f.ended stayed c z v r (tt, (tt, (tt, tt))) (tt, (tt, (tt, tt)))) $ says ! (lies.0, lies.1, lies.2, lies.3 ∙ sym at) $
    nothing ! $ nothing ! $ fjoin ! $ nothing ! $ fjoin ! $ nothing ! $ fjoin ! $ move ! (2 ∷ 0 ∷ 1 ∷ []) $ done !))))))))))))
