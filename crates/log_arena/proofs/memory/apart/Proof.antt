-- `apart`: bytes that two own are nobody's. Assumes `Logic`.
use Rattle.std.proofs.Common.{◌<◌, List, [], ◌∷◌, ◌++◌, length, refl}
use Rattle.std.proofs.raw_atomic.Walks.{proved_at}
use Rattle.std.proofs.alloc.Calls.{Goes-blank}
use mir.Val.{Val}
use base.Logic.{SProp}
use prog.Wp.{WpFn}
use contract.Monad.{fact}
use contract.Running.{tables}
use types.Kit.{‵, raw, ◌⊛◌, prop, ◌$◌, ◌∵◌, !, qed, move, drop, split, fsplit, fjoin, regoal, suffices, done}
use types.Part.{agg}
use types.Run.{enter, returns, and_then, no_more}
use types.ByLocal.{alloc_all, pass_all, free_all, look_at, get, sets}
use denote.Exit.{yes}
use denote.RattleType.{owns}
use denote.RawPtr.{InBlock}
use denote.Signature.{plain, types_at}
use denote.Steps.{nothing, heard}
use denote.Triple.Entry.{alive}
use denote.Triple.Walked.{says, Stays, stay_dropped, walk_of, ends_at}
use Rattle.log_arena.specs.Ownership.{Apart}
use Rattle.log_arena.specs.contracts.memory.Run as run
use Rattle.log_arena.specs.contracts.memory.apart as f
use Rattle.log_arena.proofs.memory.apart.Statement.{statement}
use Rattle.log_arena.proofs.memory.apart.Code as code
use Rattle.log_arena.proofs.Steps.{empty, packed, packs, run_opens, run_closes, learns}
use Rattle.log_arena.proofs.Runs.{run_apart}

abbrev stayed : Stays f.ended.signature.params f.ended.kept
stayed = (stay_dropped (plain (λ _. run.the_row)) yes, (stay_dropped (plain (λ _. run.the_row)) yes, tt))

pub apart_spec : {M : Type 1} → statement M
apart_spec 𝓤 𝓛 𝓜 𝓡 wired =
    let 𝓣 = tables 𝓤 𝓛.H 𝓜 𝓡 𝓡.env in let c = f.clauses 𝓛 𝓜.mem 𝓡.returns in
    proved_at 𝓛 f.ended stayed c 𝓜 𝓡
    (Goes-blank 𝓛 0 (plain (λ _. run.the_row)) yes (λ κs x w. tt), (Goes-blank 𝓛 0 (plain (λ _. run.the_row)) yes (λ κs x w. tt), tt))
    f.Key.name code.function (code.unfolded 𝓤 𝓛.H 𝓜 𝓡 wired) (λ z are.
    let Post : Val → SProp 𝓤 = (walk_of 𝓛 f.ended stayed c).post z in
    let runs : List Val → SProp 𝓤 = λ vs. WpFn 𝓤 𝓛.H 𝓣.C 𝓣.Λ code.function vs Post in
    let vss = z.0.4 in
    let r = z.0.3.0 in let s = z.0.3.1.0 in
    let Asked = (0 < length r.items) × (0 < length s.items) in
    let Φ = InBlock r.ptr × Apart r.ptr (length r.items) s.ptr (length s.items) in
    qed 𝓛 ((raw (alive 𝓛 f.signature z.0.0 z.0.1) ⊛ ‵ (owns (types_at f.signature.params z.0.0) z.0.3 vss)) ∷ raw (fact 𝓤 Asked) ∷ []) ∵
    move ! (1 ∷ []) $ heard ! Asked (λ asked. split ! $ move ! (1 ∷ []) $
    fsplit ! $ run_opens ! r vss.0 (λ is₀. move ! (1 ∷ []) $ fsplit ! $ run_opens ! s vss.1.0 (λ is₁. move ! (1 ∷ []) $ drop ! $ move ! (1 ∷ []) $
    learns ! 2 Φ (run_apart 𝓛 𝓜 r.ptr s.ptr r.items s.items asked.0 asked.1) (λ told.
    regoal ! (λ (us : List Val). prop (runs (us ++ (vss.1.0 ++ [])))) is₀ refl $
    regoal ! (λ (us : List Val). prop (runs ((empty ∷ []) ++ (us ++ [])))) is₁ refl $
    enter ! 𝓣.C 𝓣.Λ code.function (empty ∷ empty ∷ []) Post $ alloc_all ! (λ l. pass_all ! refl ((tt, tt), ((tt, tt), tt)) $
    sets ! (agg ! (and_then ! (get ! refl) (and_then ! (get ! refl) (no_more !)))) refl (tt, (tt, (tt, tt))) $
    move ! (1 ∷ []) $ run_closes ! s $ nothing ! $ move ! (1 ∷ 0 ∷ []) $ fjoin ! $ move ! (1 ∷ []) $ run_closes ! r $ fjoin ! $
    packs ! (run.the_row ∷ run.the_row ∷ []) (r, (s, tt)) (empty ∷ [], (empty ∷ [], tt)) $
    returns ! (look_at ! 0 refl) $ free_all ! refl $
    suffices ! _ (ends_at 𝓛 f.ended stayed c z (packed (empty ∷ empty ∷ [])) (r, s) (tt, (tt, tt)) (tt, (tt, tt))) $ says ! (refl, refl, told.0, told.1) $
    nothing ! $ nothing ! $ fjoin ! $ nothing ! $ fjoin ! $ move ! (2 ∷ 0 ∷ 1 ∷ []) $ done !))))))
