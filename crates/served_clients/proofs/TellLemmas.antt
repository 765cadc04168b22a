-- What is told of nothing.
use Rattle.std.proofs.Common.{arith, ◌≡◌, ℕ, List, [], ◌∷◌, ap, sym, ◌∙◌, refl, inl, inr, Result, Ok, Err}
use Rattle.std.specs.List.{flat_map}
use Rattle.driver_service.specs.declared.reason.Refusal.{Refusal}
use Rattle.log_pairs.specs.Polling.{Fetched}
use Rattle.media_driver.specs.declared.faults.PollFault.{PollFault}
use Rattle.served_clients.specs.Telling.{TellsPoll, TellsRows, few, fragment_bytes}

-- none were counted, so there are none
pub few_none : {T : Type 0} (rows : List T) → few rows ≡ 0 → rows ≡ []
few_none [] e = refl
few_none (x ∷ xs) e = let no : ⊥ = omega (arith, e) in elim no [ ]

pub ok_is : (m n : ℕ) → ◌≡◌ {A = Result ℕ Refusal} (Ok m) (Ok n) → m ≡ n
ok_is m n e = ap (λ (r : Result ℕ Refusal). elim r [ Ok x ↦ x | Err r ↦ n ]) e

pub no_rows : {T : Type 0} (row_bytes : T → List ℕ) (rows : List T) (written : List ℕ) (told : Result ℕ Refusal) → TellsRows row_bytes rows written told → told ≡ Ok 0 → written ≡ []
no_rows row_bytes rows written told tells none =
    elim tells [
      | inl all ↦ all.1 ∙ ap (λ rows. flat_map row_bytes rows) (few_none rows (ok_is (few rows) 0 (sym all.0 ∙ none)))
      | inr lack ↦ lack.1
    ]

pub no_fragments : (gave : Result (List Fetched) PollFault) (written : List ℕ) (told : Result ℕ Refusal) → TellsPoll gave written told → told ≡ Ok 0 → written ≡ []
no_fragments (Ok fragments) written told tells none = no_rows fragment_bytes fragments written told tells none
no_fragments (Err fault) written told tells none = tells.1
