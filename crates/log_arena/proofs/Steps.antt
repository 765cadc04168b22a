-- The steps that the walks of this crate share. Assumes `Logic`.
use Rattle.std.proofs.Common.{◌≡◌, ℕ, List, [], ◌∷◌, take, drop as dropped, take-append-drop, refl, subst}
use lib.Dec.{T}
use seplogic.Ra.Ura.{Ura}
use mir.Syntax.{Ty}
use mir.Val.{Val, vstruct, of_list, has_ty, WT}
use types.Logic.{Logic}
use base.Logic.{ent, sep, via, fst∗}
use contract.Monad.{fact, fact_use}
use types.Kit.{⋆, ⊢++, Goal, Seq, Step, step, Item, ‵, ◌$◌, drop, rewrite, fsplit, fjoin, fpick, fpack, feq_l, feq_i}
use denote.RattleType.{RattleType, Denots, Valss, flat, owns}
use denote.Laws.{Typed, Is, shows}
use denote.Param.Laws.{Laws}
use denote.Steps.{nothing, peeks}
use denote.Struct.Struct.{Shape, Struct, within}
use Rattle.log_arena.specs.declared.memory.Run.{Run}
use Rattle.log_arena.specs.contracts.memory.Run as run
use Rattle.log_arena.specs.Ownership.{run_owns}

-- a struct with these fields: what it owns does not depend on its name
abbrev pub unnamed : List RattleType → Shape
unnamed Rs = record { name = []; args = []; types = []; fields = Rs }

-- its machine value, from those of its fields
abbrev pub packed : List Val → Val
packed us = vstruct (of_list us)

-- the machine value of a run
abbrev pub empty : Val
empty = packed []

-- v is a value of the machine's type τ
abbrev pub Suits : Ty → Val → Type 0
Suits τ v = T (has_ty τ v) × WT v

lone_value : (τ : Ty) (vs : List Val) → Typed (τ ∷ []) vs → (v : Val) × ((vs ≡ v ∷ []) × Suits τ v)
lone_value τ [] t = absurd t
lone_value τ (v ∷ []) t = (v, (refl, t.0))
lone_value τ (v ∷ w ∷ vs) t = absurd t.1

module _ {M : Type 1} {𝓤 : Ura M} {𝓛 : Logic 𝓤} {K : Type 0} {Γ : List (Item 𝓤)} {G : Goal 𝓤 𝓛.H} where
  -- a struct is taken apart
  pub unpacks : K → (Rs : List RattleType) (d : Denots Rs) (vs : List Val)
      → ((us : Valss Rs) → vs ≡ packed (flat Rs us) ∷ [] → Seq K 𝓛 (‵ (owns Rs d us) ∷ Γ) G) → Seq K 𝓛 (‵ ((Struct (unnamed Rs)).own_val d vs) ∷ Γ) G
  unpacks t Rs d vs next = fpick t (λ us. fsplit t $ feq_l t (λ e. next us e))

  -- a struct is put together
  pub packs : K → (Rs : List RattleType) (d : Denots Rs) (us : Valss Rs)
      → Step K 𝓛 (‵ ((Struct (unnamed Rs)).own_val d (packed (flat Rs us) ∷ [])) ∷ Γ) G (‵ (owns Rs d us) ∷ Γ) G
  packs t Rs d us = step (λ s.
      let v = packed (flat Rs us) ∷ [] in
      feq_i t (List Val) v v refl $ fjoin t $ fpack t (Valss Rs) (within (unnamed Rs) d v) us $ s)

module _ {M : Type 1} {𝓤 : Ura M} {𝓛 : Logic 𝓤} {K : Type 0} {Γ : List (Item 𝓤)} {G : Goal 𝓤 𝓛.H} where
  -- a run is its bytes, and takes no memory of its own
  pub run_opens : K → (r : Run) (vs : List Val) → (vs ≡ empty ∷ [] → Seq K 𝓛 (‵ (run_owns r.ptr r.items) ∷ Γ) G) → Seq K 𝓛 (‵ (run.the_row.own_val r vs) ∷ Γ) G
  run_opens t r vs next = fsplit t $ unpacks t [] tt vs (λ us e. drop t $ next e)

  pub run_closes : K → (r : Run) → Step K 𝓛 (‵ (run.the_row.own_val r (empty ∷ [])) ∷ Γ) G (‵ (run_owns r.ptr r.items) ∷ Γ) G
  run_closes t r = step (λ s. nothing t $ packs t [] tt tt $ fjoin t $ s)

  -- what is owned is one machine value, of its type
  pub tells : K → (R : RattleType) → Laws R → (τ : Ty) → R.mir ≡ τ ∷ [] → (x : R.Denot) (vs : List Val)
      → ((v : Val) → vs ≡ v ∷ [] → Suits τ v → Seq K 𝓛 (‵ (R.own_val x (v ∷ [])) ∷ Γ) G) → Seq K 𝓛 (‵ (R.own_val x vs) ∷ Γ) G
  tells t R L τ same x vs next =
      peeks t R (Is R) (shows 𝓛 R) x vs (λ is.
      let one = lone_value τ vs (subst (λ (τs : List Ty). Typed τs vs) same ((L.lawful 𝓛).typed x vs is)) in
      rewrite t 0 (λ (us : List Val). ‵ (R.own_val x us)) one.1.0 refl $ next one.0 one.1.0 one.1.1)

  -- a fact that the first n entries show, which stay
  pub learns : K → (n : ℕ) (φ : Type 0) → ent 𝓤 (⋆ 𝓛 (take n Γ)) (fact 𝓤 φ) → (φ → Seq K 𝓛 Γ G) → Seq K 𝓛 Γ G
  learns t n φ shown next =
      let front = ⋆ 𝓛 (take n Γ) in let back = ⋆ 𝓛 (dropped n Γ) in
      let parts : ent 𝓤 (⋆ 𝓛 Γ) (sep 𝓤 front back) =
      subst (λ (Δ : List (Item 𝓤)). ent 𝓤 (⋆ 𝓛 Δ) (sep 𝓤 front back)) (take-append-drop n Γ) (⊢++ 𝓛 (take n Γ) (dropped n Γ)) in
      record { prf = fact_use 𝓤 φ (via 𝓤 front (via 𝓤 (sep 𝓤 front back) parts (fst∗ 𝓤 front back)) shown) (λ x. (next x).prf) }
