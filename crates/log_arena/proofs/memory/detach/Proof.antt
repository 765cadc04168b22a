-- `detach`: the bytes go, and the way back is left. Assumes `Logic`.
use Rattle.std.proofs.Common.{◌<◌, List, [], ◌∷◌, ◌++◌, length, refl}
use Rattle.std.proofs.raw_atomic.Walks.{proved_at}
use Rattle.std.proofs.alloc.Calls.{Goes-blank}
use mir.Val.{Val}
use base.Logic.{SProp}
use base.Fml.{ftrue}
use prog.Wp.{WpFn}
use contract.Monad.{fact}
use contract.Running.{tables}
use types.Kit.{‵, raw, ◌⊛◌, prop, ◌$◌, ◌∵◌, !, qed, move, drop, use1, split, fsplit, fjoin, fpack, regoal, suffices, done}
use types.Part.{agg}
use types.Run.{enter, returns, and_then, no_more, of_opd}
use types.ByLocal.{alloc_all, pass_all, free_all, look_at, get, sets}
use denote.Exit.{yes}
use denote.Laws.{Typed}
use denote.RattleType.{owns}
use denote.Builtin.{u8}
use denote.Memory.{lone}
use base.Fraction.{full_share}
use denote.Array.{Array}
use denote.RawPtr.{InBlock, lies_in_block}
use denote.Signature.{plain, types_at}
use denote.Steps.{nothing, heard}
use denote.Struct.Struct.{as_fields}
use denote.Triple.Entry.{alive}
use denote.Triple.Walked.{says, Stays, stay_dropped, walk_of, ends_at}
use Rattle.log_arena.specs.Ownership.{run_owns}
use Rattle.log_arena.specs.contracts.memory.Run as run
use Rattle.log_arena.specs.contracts.memory.Deed as deed
use Rattle.log_arena.specs.contracts.memory.detach as f
use Rattle.log_arena.proofs.memory.detach.Statement.{statement}
use Rattle.log_arena.proofs.memory.detach.Code as code
use Rattle.log_arena.proofs.Steps.{empty, packed, packs, run_closes, tells, learns}
use Rattle.log_arena.proofs.Deeds.{Held, held-laws, taken_out}

abbrev stayed : Stays f.ended.signature.params f.ended.kept
stayed = (stay_dropped (plain (λ _. Held)) yes, tt)

pub detach_spec : {M : Type 1} → statement M
detach_spec 𝓤 𝓛 𝓜 𝓡 wired =
    let 𝓣 = tables 𝓤 𝓛.H 𝓜 𝓡 𝓡.env in let c = f.clauses 𝓛 𝓜.mem 𝓡.returns in
    proved_at 𝓛 f.ended stayed c 𝓜 𝓡
    (Goes-blank 𝓛 0 (plain (λ _. Held)) yes (λ κs x w. tt), tt)
    f.Key.name code.function (code.unfolded 𝓤 𝓛.H 𝓜 𝓡 wired) (λ z are.
    let Post : Val → SProp 𝓤 = (walk_of 𝓛 f.ended stayed c).post z in
    let runs : List Val → SProp 𝓤 = λ vs. WpFn 𝓤 𝓛.H 𝓣.C 𝓣.Λ code.function vs Post in
    let vss = z.0.4 in
    let v = z.0.3.0 in
    let r : (run.the_row).Denot = record { ptr = v.ptr; items = v.items } in
    let e : (deed.the_row).Denot = record { ptr = v.ptr; len = v.len } in
    let Asked = 0 < v.len in
    qed 𝓛 ((raw (alive 𝓛 f.signature z.0.0 z.0.1) ⊛ ‵ (owns (types_at f.signature.params z.0.0) z.0.3 vss)) ∷ raw (fact 𝓤 Asked) ∷ []) ∵
    move ! (1 ∷ []) $ heard ! Asked (λ asked. split ! $ move ! (1 ∷ []) $
    fsplit ! $ tells ! Held held-laws (lone Held.mir) refl v vss.0 (λ u is good. move ! (1 ∷ []) $ drop ! $
    let inside = as_fields (lone Held.mir ∷ []) (u ∷ []) (good, tt) in
    use1 𝓛 (‵ (run_owns v.ptr v.items) ⊛ ‵ (deed.the_own e (packed (u ∷ []) ∷ []))) (taken_out 𝓛 v u asked) $ split ! $
    learns ! 1 (InBlock v.ptr) (lies_in_block 𝓛 (Array u8 (length v.items)) full_share v.ptr v.items) (λ placed.
    regoal ! (λ (us : List Val). prop (runs (us ++ []))) is refl $
    enter ! 𝓣.C 𝓣.Λ code.function (u ∷ []) Post $ alloc_all ! (λ l. pass_all ! refl (good, tt) $
    sets ! (agg ! (no_more !)) refl (tt, tt) $ sets ! (of_opd ! (get ! refl)) refl good $
    sets ! (agg ! (and_then ! (get ! refl) (no_more !))) refl inside $
    sets ! (agg ! (and_then ! (get ! refl) (and_then ! (get ! refl) (no_more !)))) refl
    (as_fields (lone (run.the_row).mir ∷ lone (deed.the_row).mir ∷ []) (empty ∷ packed (u ∷ []) ∷ []) ((tt, tt), (inside, tt))) $
    -- [the bytes; the way back; the tokens]
    run_closes ! r $ move ! (1 ∷ []) $ nothing ! $ fpack ! (Typed (deed.the_row).mir (packed (u ∷ []) ∷ [])) (λ _. ftrue) (inside, tt) $ fjoin ! $
    nothing ! $ move ! (1 ∷ 0 ∷ []) $ fjoin ! $ move ! (1 ∷ 0 ∷ []) $ fjoin ! $
    packs ! (run.the_row ∷ deed.the_row ∷ []) (r, (e, tt)) (empty ∷ [], (packed (u ∷ []) ∷ [], tt)) $
    returns ! (look_at ! 0 refl) $ free_all ! refl $
    suffices ! _ (ends_at 𝓛 f.ended stayed c z (packed (empty ∷ packed (u ∷ []) ∷ [])) (r, e) (tt, tt) (tt, tt)) $ says ! (refl, refl, refl, refl, placed) $
    nothing ! $ nothing ! $ fjoin ! $ move ! (2 ∷ 0 ∷ 1 ∷ []) $ done !)))))
