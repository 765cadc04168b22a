-- A fault that is put before the others.
use Rattle.std.proofs.Common.{◌≡◌, List, [], ◌∷◌, Some, ap, sym, subst}
use Rattle.std.specs.List.{insert}
use Rattle.policy_text.specs.declared.fault.PolicyFault.{PolicyFault}
use Rattle.policy_faults.specs.Fault.{IsFirst, refusal_of}
use Rattle.policy_faults.specs.declared.fault.Fault.{Fault}

put_first : (refusal : PolicyFault) (fault : Fault) (old : List Fault) → refusal_of fault ≡ refusal → IsFirst refusal (insert old 0 fault)
put_first refusal fault [] is = ap Some is
put_first refusal fault (other ∷ old) is = ap Some is

pub first_put : (refusal : PolicyFault) (fault : Fault) (old new : List Fault) → refusal_of fault ≡ refusal → new ≡ insert old 0 fault → IsFirst refusal new
first_put refusal fault old new is put = subst (λ (faults : List Fault). IsFirst refusal faults) (sym put) (put_first refusal fault old is)
