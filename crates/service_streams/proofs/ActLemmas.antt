-- Records, one after another.
use Rattle.std.proofs.Common.{ℕ, List, [], ◌∷◌, ◌++◌, refl, subst}
use Rattle.driver_service.specs.Calls.{Does}
use Rattle.driver_service.specs.Requests.{DoesRecord}
use Rattle.service_streams.specs.Acting.{Acts, ActsOn}

acts_then : {S : Type 0} (does : Does S) (xs ys : List (List ℕ)) (a b c : S) → ActsOn does xs a b → ActsOn does ys b c → ActsOn does (xs ++ ys) a c
acts_then does [] ys a b c first rest = subst (λ s. ActsOn does ys s c) first rest
acts_then does (x ∷ xs) ys a b c first rest = (first.0, first.1, acts_then does xs ys first.0 b c first.2 rest)

pub no_acts : {S : Type 0} (does : Does S) (s : S) → Acts does s s
no_acts does s = record { records = []; run = refl }

pub one_act : {S : Type 0} (does : Does S) (bytes : List ℕ) (a b : S) → DoesRecord does bytes a b → Acts does a b
one_act does bytes a b act = record { records = bytes ∷ []; run = (b, act, refl) }

pub then_acts : {S : Type 0} (does : Does S) (a b c : S) → Acts does a b → Acts does b c → Acts does a c
then_acts does a b c first rest = record { records = first.records ++ rest.records; run = acts_then does first.records rest.records a b c first.run rest.run }
