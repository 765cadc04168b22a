-- What is kept last, and who hears of it.
use Rattle.std.proofs.Common.{◌≡◌, List, [], ◌∷◌, ◌++◌, Option, Some, None, option_map, ap, sym, ◌∙◌, refl, subst}
use Rattle.std.specs.List.{last_or}
use Rattle.media_agents.specs.declared.journal.Dated.{Dated}
use Rattle.policy_core.specs.declared.decision.Decision.{Decision}
use Rattle.served_clients.specs.Denying.{Heard, Hears, IsTold, last_of}

last_behind : {A : Type 0} (front : List A) (before : Option A) (one : A) → last_or before (front ++ one ∷ []) ≡ Some one
last_behind [] before one = refl
last_behind (first ∷ front) before one = last_behind front (Some first) one

pub last_is : (kept front : List Dated) (one : Dated) → kept ≡ front ++ one ∷ [] → Some one.decision ≡ last_of kept
last_is kept front one is =
    sym (ap (λ (all : List Dated). last_of all) is ∙ ap (λ (found : Option Dated). option_map (λ (dated : Dated). dated.decision) found) (last_behind front None one))

-- of what a call gave they hear
pub heard_of : {K : Type 0} (hears : Hears K) (before after : K) (denial was : Option Decision) → denial ≡ was → IsTold hears before denial after →
    Heard hears was after
heard_of hears before after denial was same told = (before, subst (λ (one : Option Decision). IsTold hears before one after) same told)
