-- `cut`: the bytes before the place and those from it on. Assumes `Logic`.
use Rattle.std.proofs.Common.{◌≤◌, List, [], ◌∷◌, ◌++◌, length, take, drop as dropped, refl}
use Rattle.std.proofs.raw_atomic.Walks.{proved_at}
use Rattle.std.proofs.alloc.Calls.{Goes-blank}
use Rattle.std.proofs.lemmas.List.{length-take-le}
use mir.Syntax.{w64}
use mir.Val.{Val, vint}
use base.Logic.{SProp}
use prog.Wp.{WpFn}
use contract.Monad.{fact}
use contract.Running.{tables}
use types.Kit.{‵, raw, ◌⊛◌, prop, ◌$◌, ◌∵◌, !, qed, move, drop, use1, split, fsplit, fjoin, flt_l, feq_l, regoal, suffices, done}
use types.Part.{agg}
use types.Run.{enter, returns, and_then, no_more}
use types.ByLocal.{alloc_all, pass_all, free_all, look_at, get, sets}
use denote.Exit.{yes}
use denote.RattleType.{owns}
use denote.Builtin.{usize}
use denote.RawPtr.{◌+ₚ◌}
use denote.Signature.{plain, types_at}
use denote.Steps.{nothing, heard}
use denote.Triple.Entry.{alive}
use denote.Triple.Walked.{says, Stays, stay_dropped, walk_of, ends_at}
use Rattle.log_arena.specs.Ownership.{run_owns}
use Rattle.log_arena.specs.contracts.memory.Run as run
use Rattle.log_arena.specs.contracts.memory.cut as f
use Rattle.log_arena.proofs.memory.cut.Statement.{statement}
use Rattle.log_arena.proofs.memory.cut.Code as code
use Rattle.log_arena.proofs.Steps.{empty, packed, packs, run_opens, run_closes}
use Rattle.log_arena.proofs.Runs.{run_cut}

abbrev stayed : Stays f.ended.signature.params f.ended.kept
stayed = (stay_dropped (plain (λ _. run.the_row)) yes, (stay_dropped (plain (λ _. usize)) yes, tt))

pub cut_spec : {M : Type 1} → statement M
cut_spec 𝓤 𝓛 𝓜 𝓡 wired =
    let 𝓣 = tables 𝓤 𝓛.H 𝓜 𝓡 𝓡.env in let c = f.clauses 𝓛 𝓜.mem 𝓡.returns in
    proved_at 𝓛 f.ended stayed c 𝓜 𝓡
    (Goes-blank 𝓛 0 (plain (λ _. run.the_row)) yes (λ κs x w. tt), (Goes-blank 𝓛 0 (plain (λ _. usize)) yes (λ κs x w. tt), tt))
    f.Key.name code.function (code.unfolded 𝓤 𝓛.H 𝓜 𝓡 wired) (λ z are.
    let Post : Val → SProp 𝓤 = (walk_of 𝓛 f.ended stayed c).post z in
    let runs : List Val → SProp 𝓤 = λ vs. WpFn 𝓤 𝓛.H 𝓣.C 𝓣.Λ code.function vs Post in
    let vss = z.0.4 in
    let r = z.0.3.0 in let n = z.0.3.1.0 in
    let front : (run.the_row).Denot = record { ptr = r.ptr; items = take n r.items } in
    let back : (run.the_row).Denot = record { ptr = r.ptr +ₚ n; items = dropped n r.items } in
    let Asked = n ≤ length r.items in
    qed 𝓛 ((raw (alive 𝓛 f.signature z.0.0 z.0.1) ⊛ ‵ (owns (types_at f.signature.params z.0.0) z.0.3 vss)) ∷ raw (fact 𝓤 Asked) ∷ []) ∵
    move ! (1 ∷ []) $ heard ! Asked (λ asked. split ! $ move ! (1 ∷ []) $
    fsplit ! $ run_opens ! r vss.0 (λ is₀. move ! (1 ∷ []) $ fsplit ! $ fsplit ! $ feq_l ! (λ is₁. flt_l ! (λ fits. drop ! $
    regoal ! (λ (us : List Val). prop (runs (us ++ (vss.1.0 ++ [])))) is₀ refl $
    regoal ! (λ (us : List Val). prop (runs ((empty ∷ []) ++ (us ++ [])))) is₁ refl $
    enter ! 𝓣.C 𝓣.Λ code.function (empty ∷ vint w64 n ∷ []) Post $ alloc_all ! (λ l. pass_all ! refl ((tt, tt), ((tt, record { fits = fits }), tt)) $
    use1 𝓛 (‵ (run_owns front.ptr front.items) ⊛ ‵ (run_owns back.ptr back.items)) (run_cut 𝓛 r.ptr n r.items (length-take-le n r.items asked)) $ split ! $
    sets ! (agg ! (no_more !)) refl (tt, tt) $ sets ! (agg ! (no_more !)) refl (tt, tt) $
    sets ! (agg ! (and_then ! (get ! refl) (and_then ! (get ! refl) (no_more !)))) refl (tt, (tt, (tt, tt))) $
    move ! (1 ∷ []) $ run_closes ! back $ nothing ! $ move ! (1 ∷ 0 ∷ []) $ fjoin ! $
    move ! (1 ∷ []) $ run_closes ! front $ fjoin ! $ packs ! (run.the_row ∷ run.the_row ∷ []) (front, (back, tt)) (empty ∷ [], (empty ∷ [], tt)) $
    returns ! (look_at ! 0 refl) $ free_all ! refl $
    suffices ! _ (ends_at 𝓛 f.ended stayed c z (packed (empty ∷ empty ∷ [])) (front, back) (tt, (tt, tt)) (tt, (tt, tt))) $ says ! (refl, refl, refl, refl) $
    nothing ! $ nothing ! $ fjoin ! $ nothing ! $ fjoin ! $ move ! (2 ∷ 0 ∷ 1 ∷ []) $ done !))))))
