-- `vacate`: `dislodge` hands the bytes back. Assumes `Logic`.
use Rattle.std.proofs.Common.{◌≡◌, ◌^◌, ◌<◌, List, [], ◌∷◌, ◌++◌, refl}
use Rattle.std.proofs.raw_atomic.Walks.{proved_at}
use Rattle.std.proofs.alloc.Calls.{Goes-blank}
use mir.Syntax.{w64}
use mir.Val.{Val, vint}
use base.Logic.{SProp}
use prog.Wp.{WpFn}
use contract.Monad.{fact}
use contract.Running.{tables}
use types.Kit.{‵, raw, ◌⊛◌, prop, given, later, ◌$◌, ◌∵◌, !, qed, move, drop, use1, split, fsplit, fjoin, learn, await, regoal, suffices, done}
use types.Part.{agg}
use types.Run.{enter, returns, and_then, no_more, of_opd}
use types.ByLocal.{alloc_all, pass_all, free_all, look_at, get, sets, lands_as}
use denote.Exit.{yes}
use denote.RattleType.{owns}
use denote.Builtin.{u8}
use denote.Memory.{lone}
use denote.Signature.{plain, types_at}
use denote.Steps.{nothing, heard}
use denote.Triple.Call.{calls_at}
use denote.Triple.Entry.{alive}
use denote.Triple.Table.{framed}
use denote.Triple.Walked.{says, Stays, stay_dropped, walk_of, ends_at}
use Rattle.std_alloc.proofs.vec.lodged.Vec+T+Lodged.dislodge.Met.{met as dislodge_met}
use Rattle.log_arena.specs.Ownership.{run_owns}
use Rattle.log_arena.specs.contracts.memory.Run as run
use Rattle.log_arena.specs.contracts.memory.vacate as f
use Rattle.log_arena.proofs.memory.vacate.Statement.{statement}
use Rattle.log_arena.proofs.memory.vacate.Code as code
use Rattle.log_arena.proofs.Steps.{empty, run_closes, tells}
use Rattle.log_arena.proofs.Deeds.{byte_laws}
use Rattle.log_arena.proofs.Lodgings.{Housed, housed-laws, Dislodges, dislodging, dislodge_takes, dislodge_gives}

abbrev stayed : Stays f.ended.signature.params f.ended.kept
stayed = (stay_dropped (plain (λ _. Housed)) yes, tt)

pub vacate_spec : {M : Type 1} → statement M
vacate_spec 𝓤 𝓛 𝓜 𝓡 wired =
    let 𝓣 = tables 𝓤 𝓛.H 𝓜 𝓡 𝓡.env in let c = f.clauses 𝓛 𝓜.mem 𝓡.returns in
    proved_at 𝓛 f.ended stayed c 𝓜 𝓡
    (Goes-blank 𝓛 0 (plain (λ _. Housed)) yes (λ κs x w. tt), tt)
    f.Key.name code.function (code.unfolded 𝓤 𝓛.H 𝓜 𝓡 wired) (λ z are.
    let Post : Val → SProp 𝓤 = (walk_of 𝓛 f.ended stayed c).post z in
    let runs : List Val → SProp 𝓤 = λ vs. WpFn 𝓤 𝓛.H 𝓣.C 𝓣.Λ code.function vs Post in
    let vss = z.0.4 in
    let v = z.0.3.0 in
    let r : (run.the_row).Denot = record { ptr = v.ptr; items = v.items } in
    let Asked = 0 < v.len in
    let G = Dislodges 𝓛 𝓜.mem 𝓡.returns in
    qed 𝓛 ((raw (alive 𝓛 f.signature z.0.0 z.0.1) ⊛ ‵ (owns (types_at f.signature.params z.0.0) z.0.3 vss)) ∷ raw (fact 𝓤 Asked) ∷ []) ∵
    move ! (1 ∷ []) $ heard ! Asked (λ asked. split ! $ move ! (1 ∷ []) $
    fsplit ! $ tells ! Housed housed-laws (lone Housed.mir) refl v vss.0 (λ u is good. move ! (1 ∷ []) $ drop ! $
    let call = dislodging 𝓛 𝓜.mem 𝓡.returns v u in
    regoal ! (λ (us : List Val). prop (runs (us ++ []))) is refl $
    enter ! 𝓣.C 𝓣.Λ code.function (u ∷ []) Post $ alloc_all ! (λ l. pass_all ! refl (good, tt) $
    sets ! (of_opd ! (get ! refl)) refl good $ use1 𝓛 (raw (G.pre call)) (dislodge_takes 𝓛 𝓜.mem 𝓡.returns v u) $
    calls_at ! (framed 𝓤 𝓛.H 𝓜 (tables 𝓤 𝓛.H 𝓜 𝓡 𝓡.env)) G (dislodge_met 𝓤 𝓛 𝓜 𝓡 (code.calls-std_alloc::vec::lodged::Vec+T+Lodged::dislodge 𝓡.env wired) u8 byte_laws) call
    (and_then ! (get ! refl) (no_more !)) (λ w.
    use1 𝓛 (later (given ((w ≡ vint w64 v.len) × (v.len < 2 ^ 64)) (‵ (run_owns v.ptr v.items)))) (dislodge_gives 𝓛 𝓜.mem 𝓡.returns v u asked w) $ await ! tt $ learn ! (λ got.
    lands_as ! got.0 refl (tt, record { fits = got.1 }) $
    sets ! (agg ! (no_more !)) refl (tt, tt) $ run_closes ! r $
    returns ! (look_at ! 0 refl) $ free_all ! refl $
    suffices ! _ (ends_at 𝓛 f.ended stayed c z empty r (tt, tt) (tt, tt)) $ says ! (refl, refl) $
    nothing ! $ nothing ! $ fjoin ! $ move ! (2 ∷ 0 ∷ 1 ∷ []) $ done !))))))
