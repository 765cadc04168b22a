-- A run as a `Vec` that lies in it, and back: what `lodge` and `dislodge` are handed and hand back. Assumes `Logic`.
use Rattle.std.proofs.Common.{◌≡◌, ℕ, ◌+◌, ◌-◌, ◌*◌, ◌^◌, ◌<◌, ◌≤◌, List, [], ◌∷◌, length, refl, ap, ◌∙◌, arith, Vec}
use seplogic.Ra.Ura.{Ura}
use mir.Syntax.{Ty, w64, ty_int, ty_array, w8}
use mir.Val.{Val, vint, vptr}
use base.Fraction.{full_share}
use base.Logic.{SProp, ent, emp, ex, guard, via, fst∗, id⊢}
use base.Fml.{ftrue, fsep, flft, froom}
use prog.Memory.{Memory}
use prog.Routine.{Routine}
use contract.Monad.{Fun, fact, fact_i}
use contract.BorrowLft.{◌⊑◌, ⊑_refl}
use types.Logic.{Logic, sem}
use types.Kit.{‵, raw, ◌⊛◌, some, later, ◌$◌, ◌∵◌, !, qed, move, drop, use0, use1, use2, split, split3, join, pick, fsplit, fjoin, feq_l, feq_i, flt_l, flt_i, rewrite, check, show, await, updating, now, done}
use denote.Exit.{no, left}
use denote.RattleType.{RattleType}
use denote.Builtin.{u8, usize}
use denote.Param.{param}
use denote.Param.Laws.{Laws}
use denote.RawPtr.{Ptr, block_ptr}
use denote.Steps.{nothing, heard, only}
use denote.Triple.Spec.{triple_of}
use denote.Triple.Statement.{Contract}
use Rattle.std_alloc.specs.Vec.Ownership.{lodged}
use Rattle.std_alloc.specs.declared.vec.lodged.Lodged.{Lodged}
use Rattle.std_alloc.specs.contracts.vec.Vec as vec
use Rattle.std_alloc.specs.contracts.vec.lodged.Lodged as guest
use Rattle.std_alloc.specs.contracts.vec.lodged.LodgedAllocator.TheImpl.{ghosts}
use Rattle.std_alloc.specs.contracts.vec.lodge as lodge
use Rattle.std_alloc.specs.contracts.vec.lodged.Vec+T+Lodged.dislodge as dislodge
use Rattle.std_alloc.proofs.vec.Vec.TheLaws as vec_laws
use Rattle.std_alloc.proofs.vec.lodged.Lodged.TheLaws as guest_laws
use Rattle.log_arena.specs.Ownership.{run_owns}
use Rattle.log_arena.proofs.Deeds.{byte_laws, has-block, spare, heap_in, heap_out}

-- a `Vec<u8>` that lies in a run
abbrev pub Housed : RattleType
Housed = vec.the_row u8 guest.the_row ghosts

abbrev pub housed-laws : Laws Housed
housed-laws = vec_laws.the_row_laws u8 guest.the_row ghosts byte_laws guest_laws.the_row_laws

module _ {M : Type 1} {𝓤 : Ura M} (𝓛 : Logic 𝓤) where
  -- a run is what a lodged `Vec` that fills it owns
  pub run_lodges : (b o n : ℕ) (xs : List ℕ) → n ≡ length xs → 0 < n → n < 2 ^ 63 → ent 𝓤 (sem 𝓛 (run_owns (block_ptr b o) xs)) (sem 𝓛 (lodged u8 (block_ptr b o) n n xs))
  run_lodges b o n xs long filled small =
      let t = λ (τ : Ty) (p : Ptr). ftrue in let p = block_ptr b o in let end = o + n * 1 in
      qed 𝓛 (‵ (run_owns p xs) ∷ []) ∵
      nothing ! $ use0 𝓛 (‵ (froom (ty_array (ty_int w8) 0) b end)) (𝓛.laws.room_nil (ty_int w8) b end) $
      rewrite ! 0 (λ (k : ℕ). ‵ (froom (ty_array (ty_int w8) k) b end)) (let e : 0 ≡ n - n = omega arith in e) refl $
      fjoin ! $ flt_i ! (n * 1) (2 ^ 63) (omega arith) $ fjoin ! $
      move ! (1 ∷ 0 ∷ []) $ use2 𝓛 (‵ (lodged u8 p n n xs)) (heap_in 𝓛 t p n n xs (has-block n filled) long) $ done !

  -- and back
  pub lodged_runs : (p : Ptr) (n c : ℕ) (xs : List ℕ) → n ≡ length xs → 0 < c → ent 𝓤 (sem 𝓛 (lodged u8 p n c xs)) (sem 𝓛 (run_owns p xs))
  lodged_runs p n c xs long filled =
      let t = λ (τ : Ty) (q : Ptr). ftrue in
      via 𝓤 _ (heap_out 𝓛 t p n c xs (has-block c filled) long) (fst∗ 𝓤 (sem 𝓛 (run_owns p xs)) (sem 𝓛 (spare t p n c)))

  module _ (at_mem : Memory → SProp 𝓤) (run : Routine → Fun 𝓤) where
    open 𝓛 use {H}

    abbrev pub Lodges : Contract 𝓤
    Lodges = triple_of 𝓛 (lodge.signature u8) (lodge.spec u8 𝓛 at_mem run)

    abbrev pub Dislodges : Contract 𝓤
    Dislodges = triple_of 𝓛 (dislodge.signature u8) (dislodge.spec u8 𝓛 at_mem run)

    module _ (b o n : ℕ) (xs : List ℕ) where
      -- the call `lodge(p, n, n)`, p being at b and o
      abbrev pub lodging : Lodges.Ghost
      lodging = ((([], tt), (full_share, tt), tt, (block_ptr b o, (n, (n, tt))), (vptr b o ∷ [], (vint w64 n ∷ [], (vint w64 n ∷ [], tt)))), xs)

      -- what it gives
      abbrev pub LiesThere : Vec ℕ Lodged → Type 0
      LiesThere r = (r.items ≡ xs) × (r.len ≡ n) × (r.cap ≡ n) × (r.ptr ≡ block_ptr b o)

      pub lodge_takes : n ≡ length xs → 0 < n → n < 2 ^ 63 → ent 𝓤 (sem 𝓛 (run_owns (block_ptr b o) xs)) (Lodges.pre lodging)
      lodge_takes long filled small =
          let p = block_ptr b o in let Asked : Type 0 = (n ≡ length xs) × (n ≤ n) × (n < 2 ^ 63) in
          qed 𝓛 (‵ (run_owns p xs) ∷ []) ∵ use1 𝓛 (‵ (lodged u8 p n n xs)) (run_lodges b o n xs long filled small) $
          use0 𝓛 (raw (fact 𝓤 Asked)) (fact_i 𝓤 Asked (emp 𝓤) (long, omega arith, small)) $ join ! $
          use0 𝓛 (raw (fact 𝓤 ([] ⊑ []))) (fact_i 𝓤 ([] ⊑ []) (emp 𝓤) (⊑_refl [])) $ join ! $
          -- the arguments, the last first
          nothing ! $ flt_i ! n (2 ^ 64) (omega arith) $ feq_i ! (List Val) (vint w64 n ∷ []) (vint w64 n ∷ []) refl $ fjoin ! $ fjoin ! $
          flt_i ! n (2 ^ 64) (omega arith) $ feq_i ! (List Val) (vint w64 n ∷ []) (vint w64 n ∷ []) refl $ fjoin ! $ fjoin ! $
          feq_i ! (List Val) (vptr b o ∷ []) (vptr b o ∷ []) refl $ fjoin ! $
          nothing ! $ use0 𝓛 (‵ (flft [] full_share)) (𝓛.lfts.lft-nil full_share) $ join ! $ join ! $ done !

      pub lodge_gives : (v : Val) → ent 𝓤 (Lodges.post lodging v) (H.⇛ (ex 𝓤 (λ (r : Vec ℕ Lodged). guard 𝓤 (LiesThere r) (sem 𝓛 (Housed.own_val r (v ∷ []))))))
      lodge_gives v =
          qed 𝓛 (raw (Lodges.post lodging v) ∷ []) ∵ updating ! $
          use1 𝓛 (later (some (λ (r : Vec ℕ Lodged). ((‵ (flft [] full_share) ⊛ ‵ ftrue) ⊛ ‵ (Housed.own_val r (v ∷ [])))
          ⊛ some (λ (ws : Unit {0} × (Unit {0} × (Unit {0} × Unit {0}))). ‵ (fsep ftrue (fsep ftrue (fsep ftrue ftrue))) ⊛ raw (fact 𝓤 (LiesThere r)))))) (id⊢ 𝓤 _) $
          await ! tt $ pick ! (λ r. split ! $ split ! $ move ! (2 ∷ []) $ pick ! (λ ws. split ! $ drop ! $ heard ! (LiesThere r) (λ is. drop ! $ now ! $
          show ! (λ (x : Vec ℕ Lodged). guard 𝓤 (LiesThere x) (sem 𝓛 (Housed.own_val x (v ∷ [])))) r $ check ! is $ done !)))

    module _ (d : Vec ℕ Lodged) (u : Val) where
      -- the call `d.dislodge()`
      abbrev pub dislodging : Dislodges.Ghost
      dislodging = ((([], tt), (full_share, tt), tt, (d, tt), (u ∷ [], tt)), tt)

      pub dislodge_takes : ent 𝓤 (sem 𝓛 (Housed.own_val d (u ∷ []))) (Dislodges.pre dislodging)
      dislodge_takes =
          qed 𝓛 (‵ (Housed.own_val d (u ∷ [])) ∷ []) ∵ nothing ! $ move ! (1 ∷ 0 ∷ []) $ fjoin ! $
          nothing ! $ use0 𝓛 (‵ (flft [] full_share)) (𝓛.lfts.lft-nil full_share) $ join ! $ join ! $
          use0 𝓛 (raw (fact 𝓤 ([] ⊑ []))) (fact_i 𝓤 ([] ⊑ []) (emp 𝓤) (⊑_refl [])) $ nothing ! $ move ! (1 ∷ 0 ∷ []) $ join ! $ move ! (1 ∷ 0 ∷ []) $ join ! $ done !

      pub dislodge_gives : 0 < d.len → (v : Val) → ent 𝓤 (Dislodges.post dislodging v) (H.⇛ (guard 𝓤 ((v ≡ vint w64 d.len) × (d.len < 2 ^ 64)) (sem 𝓛 (run_owns d.ptr d.items))))
      dislodge_gives filled v =
          qed 𝓛 (raw (Dislodges.post dislodging v) ∷ []) ∵ updating ! $
          use1 𝓛 (later (some (λ (r : ℕ). ((‵ (flft [] full_share) ⊛ ‵ ftrue) ⊛ ‵ (usize.own_val r (v ∷ [])))
          ⊛ some (λ (ws : Unit {0} × Unit {0}). ‵ (fsep (left ((vec.the_row (param 0 u8) guest.the_row ghosts).exit no) d ws.0) ftrue) ⊛ raw (fact 𝓤 (r ≡ d.len)) ⊛ ‵ (lodged u8 d.ptr d.len d.cap d.items))))) (id⊢ 𝓤 _) $
          await ! tt $ pick ! (λ r. split ! $ split ! $ drop ! $ fsplit ! $ feq_l ! (λ e. flt_l ! (λ f. pick ! (λ ws. split3 ! $ drop ! $ heard ! (r ≡ d.len) (λ is. now ! $
          check ! (ap only e ∙ ap (vint w64) is, omega arith) $ use1 𝓛 (‵ (run_owns d.ptr d.items)) (lodged_runs d.ptr d.len d.cap d.items d.ok.0 (omega (arith, d.ok.1))) $ done !)))))
