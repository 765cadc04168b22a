-- Runs of bytes in memory: cutting one in two, joining two, and that two which are owned share no byte. Assumes `Logic`.
use Rattle.std.proofs.Common.{◌≡◌, ℕ, ◌+◌, ◌<◌, ◌≤◌, ◌⊎◌, inl, inr, List, [], ◌∷◌, ◌++◌, length, take, drop, refl, subst, arith, take-append-drop}
use Rattle.std.proofs.lemmas.Bool.{cases_order}
use seplogic.Ra.Ura.{Ura}
use mir.Syntax.{Ty, w8, ty_int, ty_array}
use base.Fraction.{full_share}
use base.Fml.{fsep, feq}
use base.Logic.{SProp, ent, sep, never, never_e, via, id⊢, fst∗, snd∗, mono∗}
use contract.Monad.{fact, fact_i, fact_use}
use prog.Model.{Model}
use types.Logic.{Logic, sem}
use types.Kit.{‵, ◌$◌, ◌∵◌, !, qed, use1, fsplit, fjoin, feq_l, feq_i, done}
use denote.RawPtr.{InBlock, Ptr, block_ptr, null_ptr, ◌+ₚ◌}
use denote.RawPtr.Bytes.{bytes, bytes_cut, bytes_glue, bytes_apart, bytes_whole, bytes-room}
use Rattle.log_arena.specs.Ownership.{Apart, run_owns}

-- the type of n bytes as the machine writes it
abbrev row_of : ℕ → Ty
row_of n = ty_array (ty_int w8) n

le_or : (a b : ℕ) → (a ≤ b) ⊎ (b < a)
le_or a b = elim (cases_order a b) [ inl e ↦ inl (omega arith) | inr h ↦ elim h [ inl l ↦ inl (omega arith) | inr g ↦ inr g ] ]

module _ {M : Type 1} {𝓤 : Ura M} (𝓛 : Logic 𝓤) where
  open 𝓛 use {H}

  opened : (xs : List ℕ) (b o : ℕ) → ent 𝓤 (sem 𝓛 (run_owns (block_ptr b o) xs)) (sem 𝓛 (bytes full_share xs b o))
  opened xs b o =
      qed 𝓛 (‵ (run_owns (block_ptr b o) xs) ∷ []) ∵
      use1 𝓛 (‵ (fsep (feq ℕ (length xs) (length xs)) (bytes full_share xs b o))) (bytes_apart 𝓛 full_share (length xs) xs b o) $
      fsplit ! $ feq_l ! (λ long. done !)

  closed : (xs : List ℕ) (b o : ℕ) → ent 𝓤 (sem 𝓛 (bytes full_share xs b o)) (sem 𝓛 (run_owns (block_ptr b o) xs))
  closed xs b o =
      qed 𝓛 (‵ (bytes full_share xs b o) ∷ []) ∵ feq_i ! ℕ (length xs) (length xs) refl $ fjoin ! $
      use1 𝓛 (‵ (run_owns (block_ptr b o) xs)) (bytes_whole 𝓛 full_share (length xs) xs b o) $ done !

  -- one run is its front and its back
  pub run_parts : (p : Ptr) (xs ys : List ℕ) → ent 𝓤 (sem 𝓛 (run_owns p (xs ++ ys))) (sep 𝓤 (sem 𝓛 (run_owns p xs)) (sem 𝓛 (run_owns (p +ₚ length xs) ys)))
  run_parts null_ptr xs ys = never_e 𝓤 _
  run_parts (block_ptr b o) xs ys =
      via 𝓤 _ (opened (xs ++ ys) b o) (via 𝓤 _ (bytes_cut 𝓛 full_share xs ys b o) (mono∗ 𝓤 (closed xs b o) (closed ys b (o + length xs))))

  -- two runs side by side are one
  pub run_joins : (p : Ptr) (xs ys : List ℕ) → ent 𝓤 (sep 𝓤 (sem 𝓛 (run_owns p xs)) (sem 𝓛 (run_owns (p +ₚ length xs) ys))) (sem 𝓛 (run_owns p (xs ++ ys)))
  run_joins null_ptr xs ys = via 𝓤 _ (fst∗ 𝓤 (never 𝓤) (never 𝓤)) (never_e 𝓤 _)
  run_joins (block_ptr b o) xs ys =
      via 𝓤 _ (mono∗ 𝓤 (opened xs b o) (opened ys b (o + length xs))) (via 𝓤 _ (bytes_glue 𝓛 full_share xs ys b o) (closed (xs ++ ys) b o))

  -- the same, the place of the cut given as a number
  pub run_cut : (p : Ptr) (n : ℕ) (xs : List ℕ) → length (take n xs) ≡ n → ent 𝓤 (sem 𝓛 (run_owns p xs)) (sep 𝓤 (sem 𝓛 (run_owns p (take n xs))) (sem 𝓛 (run_owns (p +ₚ n) (drop n xs))))
  run_cut p n xs long =
      subst (λ (zs : List ℕ). ent 𝓤 (sem 𝓛 (run_owns p zs)) (sep 𝓤 (sem 𝓛 (run_owns p (take n xs))) (sem 𝓛 (run_owns (p +ₚ n) (drop n xs))))) (take-append-drop n xs)
      (subst (λ (k : ℕ). ent 𝓤 (sem 𝓛 (run_owns p (take n xs ++ drop n xs))) (sep 𝓤 (sem 𝓛 (run_owns p (take n xs))) (sem 𝓛 (run_owns (p +ₚ k) (drop n xs))))) long
      (run_parts p (take n xs) (drop n xs)))

  module _ (𝓜 : Model 𝓤 H) where
    overlap : (b o o' at : ℕ) (xs ys : List ℕ) → o ≤ at → at < o + length xs → o' ≤ at → at < o' + length ys
        → ent 𝓤 (sep 𝓤 (sem 𝓛 (run_owns (block_ptr b o) xs)) (sem 𝓛 (run_owns (block_ptr b o') ys))) (never 𝓤)
    overlap b o o' at xs ys from to from' to' =
        via 𝓤 _ (mono∗ 𝓤 (via 𝓤 _ (opened xs b o) (bytes-room 𝓛 xs b o)) (via 𝓤 _ (opened ys b o') (bytes-room 𝓛 ys b o')))
        (𝓜.room-room (row_of (length xs)) (row_of (length ys)) b o o' at (from, omega arith) (from', omega arith))

    same_block : (b o o' : ℕ) (xs ys : List ℕ) → 0 < length xs → 0 < length ys
        → ent 𝓤 (sep 𝓤 (sem 𝓛 (run_owns (block_ptr b o) xs)) (sem 𝓛 (run_owns (block_ptr b o') ys))) (fact 𝓤 ((o + length xs ≤ o') ⊎ (o' + length ys ≤ o)))
    same_block b o o' xs ys some some' =
        let Both = sep 𝓤 (sem 𝓛 (run_owns (block_ptr b o) xs)) (sem 𝓛 (run_owns (block_ptr b o') ys)) in
        let Φ = (o + length xs ≤ o') ⊎ (o' + length ys ≤ o) in
        elim (le_or (o + length xs) o') [
          | inl before ↦ fact_i 𝓤 Φ Both (inl before)
          | inr under ↦ elim (le_or (o' + length ys) o) [
            | inl after ↦ fact_i 𝓤 Φ Both (inr after)
            | inr above ↦ via 𝓤 (never 𝓤)
                (elim (le_or o o') [
                  | inl low ↦ overlap b o o' o' xs ys (omega arith) (omega arith) (omega arith) (omega arith)
                  | inr high ↦ overlap b o o' o xs ys (omega arith) (omega arith) (omega arith) (omega arith)
                ])
                (never_e 𝓤 (fact 𝓤 Φ))
          ]
        ]

    -- two runs that are owned share no byte
    pub run_apart : (p q : Ptr) (xs ys : List ℕ) → 0 < length xs → 0 < length ys
        → ent 𝓤 (sep 𝓤 (sem 𝓛 (run_owns p xs)) (sem 𝓛 (run_owns q ys))) (fact 𝓤 (InBlock p × Apart p (length xs) q (length ys)))
    run_apart null_ptr q xs ys some some' = via 𝓤 _ (fst∗ 𝓤 (never 𝓤) (sem 𝓛 (run_owns q ys))) (never_e 𝓤 _)
    run_apart (block_ptr b o) null_ptr xs ys some some' = via 𝓤 _ (snd∗ 𝓤 (sem 𝓛 (run_owns (block_ptr b o) xs)) (never 𝓤)) (never_e 𝓤 _)
    run_apart (block_ptr b o) (block_ptr b' o') xs ys some some' =
        let Both : ℕ → SProp 𝓤 = λ k. sep 𝓤 (sem 𝓛 (run_owns (block_ptr b o) xs)) (sem 𝓛 (run_owns (block_ptr k o') ys)) in
        let Φ = (o + length xs ≤ o') ⊎ (o' + length ys ≤ o) in
        elim (cases_order b b') [
          | inl e ↦ via 𝓤 (fact 𝓤 Φ) (subst (λ (k : ℕ). ent 𝓤 (Both k) (fact 𝓤 Φ)) e (same_block b o o' xs ys some some'))
              (fact_use 𝓤 Φ (id⊢ 𝓤 (fact 𝓤 Φ)) (λ told. fact_i 𝓤 _ (fact 𝓤 Φ) (tt, λ _. told)))
          | inr other ↦ fact_i 𝓤 _ (Both b') (tt, λ same. absurd (elim other [ inl l ↦ omega arith | inr g ↦ omega arith ]))
        ]
