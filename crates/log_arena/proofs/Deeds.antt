-- A `Vec` of bytes is a run and a deed. Assumes `Logic`.
use Rattle.std.proofs.Common.{◌≡◌, ℕ, ◌*◌, ◌-◌, ◌^◌, ◌<◌, List, [], ◌∷◌, length, Bool, true, refl, sym, arith, Vec, Global}
use Rattle.std.proofs.lemmas.Bool.{ne_eqb, not_from_false}
use Rattle.std.proofs.lemmas.List.{with_items_is}
use seplogic.Ra.Ura.{Ura}
use mir.Syntax.{Ty}
use mir.Val.{Val}
use prog.Memory.{size}
use base.Fraction.{full_share}
use base.Logic.{ent, sep, never, never_e, via, fst∗, snd∗}
use base.Fml.{fex, Fml, fsep, feq, flt, fwand}
use types.Logic.{Logic, sem}
use types.Kit.{‵, ◌⊛◌, ◌$◌, ◌∵◌, !, qed, move, frame, each, assume, fpack, use1, use2, split, fsplit, fjoin, feq_l, feq_i, rewrite, done}
use denote.RattleType.{RattleType}
use denote.Steps.{nothing}
use denote.Builtin.{u8}
use denote.Array.{Array}
use denote.Memory.{lone}
use denote.Param.Laws.{Laws, of_field}
use denote.Param.Shared.{copy_shared}
use denote.RawPtr.{Ptr, block_ptr, null_ptr, lies_at, room_for, ◌+ₚ◌}
use denote.Struct.Field.{u8-field}
use denote.Struct.Laws.{u8-laws, u8-copy}
use denote.Struct.Struct.{Struct}
use Rattle.std.specs.Allocator.{array_of, block_with_items}
use Rattle.std.specs.Vec.{with_items}
use Rattle.std.specs.contracts.alloc.Global as heap
use Rattle.std.proofs.alloc.Global.TheLaws as heap_laws
use Rattle.std.specs.contracts.impls.GlobalAllocator.TheImpl.{ghosts}
use Rattle.std_alloc.specs.Vec.Ownership.{vec_owns, has_block, owns_if}
use Rattle.std_alloc.specs.contracts.vec.Vec as vec
use Rattle.std_alloc.proofs.vec.Vec.TheLaws as vec_laws
use Rattle.log_arena.specs.Ownership.{run_owns}
use Rattle.log_arena.specs.contracts.memory.Deed as deed
use Rattle.log_arena.specs.declared.memory.Deed.TheInside.{Inside}
use Rattle.log_arena.proofs.Steps.{packed, packs, unnamed}

abbrev pub byte_laws : Laws u8
byte_laws = of_field u8-field u8-laws refl (copy_shared u8-field u8-copy)

-- a `Vec<u8>` of the program's heap
abbrev pub Held : RattleType
Held = vec.the_row u8 heap.the_row ghosts

abbrev pub held-laws : Laws Held
held-laws = vec_laws.the_row_laws u8 heap.the_row ghosts byte_laws heap_laws.the_row_laws

pub has-block : (c : ℕ) → 0 < c → has_block c ≡ true
has-block c some = not_from_false _ (ne_eqb c 0 (λ e. omega arith))

-- what a `Vec` of n bytes at p, of capacity c, owns beside these bytes and its fields
abbrev pub spare : (Ty → Ptr → Fml) → Ptr → ℕ → ℕ → Fml
spare t p n c = fsep (flt (c * 1) (2 ^ 63)) (fsep (room_for (array_of u8 (c - n)) (p +ₚ n * size (lone u8.mir))) (t (array_of u8 c) p))

module _ {M : Type 1} {𝓤 : Ura M} (𝓛 : Logic 𝓤) where
  pub heap_out : (t : Ty → Ptr → Fml) (p : Ptr) (n c : ℕ) (xs : List ℕ) → has_block c ≡ true → n ≡ length xs
      → ent 𝓤 (sem 𝓛 (vec_owns t u8 p n c xs)) (sep 𝓤 (sem 𝓛 (run_owns p xs)) (sem 𝓛 (spare t p n c)))
  heap_out t null_ptr n c xs some long = via 𝓤 (never 𝓤) (snd∗ 𝓤 (sem 𝓛 (flt (c * 1) (2 ^ 63))) (never 𝓤)) (never_e 𝓤 _)
  heap_out t (block_ptr b o) n c xs some long =
      let p = block_ptr b o in
      let filled : Bool → Fml = λ y. owns_if y (block_with_items t u8 p n c xs) in
      qed 𝓛 (‵ (vec_owns t u8 p n c xs) ∷ []) ∵ fsplit ! $ move ! (1 ∷ []) $
      rewrite ! 0 (λ y. ‵ (filled y)) some refl $ fsplit ! $ rewrite ! 0 (λ k. ‵ (lies_at (Array u8 k) full_share p xs)) long refl $
      frame ! $ move ! (1 ∷ 0 ∷ []) $ fjoin ! $ done !

  pub heap_in : (t : Ty → Ptr → Fml) (p : Ptr) (n c : ℕ) (xs : List ℕ) → has_block c ≡ true → n ≡ length xs
      → ent 𝓤 (sep 𝓤 (sem 𝓛 (run_owns p xs)) (sem 𝓛 (spare t p n c))) (sem 𝓛 (vec_owns t u8 p n c xs))
  heap_in t null_ptr n c xs some long = via 𝓤 (never 𝓤) (fst∗ 𝓤 (never 𝓤) (sem 𝓛 (spare t null_ptr n c))) (never_e 𝓤 _)
  heap_in t (block_ptr b o) n c xs some long =
      let p = block_ptr b o in
      let filled : Bool → Fml = λ y. owns_if y (block_with_items t u8 p n c xs) in
      qed 𝓛 (‵ (run_owns p xs) ∷ ‵ (spare t p n c) ∷ []) ∵ rewrite ! 0 (λ k. ‵ (lies_at (Array u8 k) full_share p xs)) (sym long) refl $
      move ! (1 ∷ []) $ fsplit ! $ move ! (2 ∷ 1 ∷ []) $ fjoin ! $ rewrite ! 0 (λ y. ‵ (filled y)) (sym some) refl $
      move ! (1 ∷ 0 ∷ []) $ fjoin ! $ done !

  module _ (v : Vec ℕ Global) (u : Val) where
    -- what the deed makes of the bytes ys: some `Vec` that holds them
    abbrev Filled : List ℕ → Inside → Fml
    Filled ys d = fsep (feq (List ℕ) d.vec.items ys) ((Struct (unnamed (Held ∷ []))).own_val (d.vec, tt) (packed (u ∷ []) ∷ []))

    abbrev Returns : List ℕ → Fml
    Returns ys = fsep (feq ℕ (length ys) v.len) (run_owns v.ptr ys)

    pub taken_out : 0 < v.len → ent 𝓤 (sem 𝓛 (Held.own_val v (u ∷ []))) (sep 𝓤 (sem 𝓛 (run_owns v.ptr v.items)) (sem 𝓛 (deed.the_own (record { ptr = v.ptr; len = v.len }) (packed (u ∷ []) ∷ []))))
    taken_out some =
        let t = ghosts.dealloc_token v.alloc in
        let block : has_block v.cap ≡ true = has-block v.cap (omega (arith, v.ok.1)) in
        let Left : Fml = spare t v.ptr v.len v.cap in
        qed 𝓛 (‵ (Held.own_val v (u ∷ [])) ∷ []) ∵ fsplit ! $ move ! (1 ∷ []) $
        use1 𝓛 (‵ (run_owns v.ptr v.items) ⊛ ‵ Left) (heap_out t v.ptr v.len v.cap v.items block v.ok.0) $ split ! $ frame ! $
        -- [what is left; the fields]
        each ! (λ ys. sem 𝓛 (fwand (Returns ys) (fex Inside (Filled ys)))) (λ ys. assume ! (‵ (Returns ys)) $ fsplit ! $ feq_l ! (λ long.
        let w = with_items v ys in
        let same : w.items ≡ ys = with_items_is v ys long in
        rewrite ! 0 (λ ws. ‵ (run_owns v.ptr ws)) (sym same) refl $
        use2 𝓛 (‵ (vec_owns t u8 v.ptr v.len v.cap w.items)) (heap_in t v.ptr v.len v.cap w.items block w.ok.0) $
        move ! (1 ∷ 0 ∷ []) $ fjoin ! $ nothing ! $ move ! (1 ∷ 0 ∷ []) $ fjoin ! $ packs ! (Held ∷ []) (w, tt) (u ∷ [], tt) $
        feq_i ! (List ℕ) w.items ys same $ fjoin ! $ fpack ! Inside (Filled ys) (record { vec = w }) $ done !))
