-- The first of what is new of an audit is a page of it.
use Rattle.std.proofs.Common.{◌≡◌, ◌++◌, ◌∙◌, ap, arith, drop, length, min, sym, take, List, ℕ}
use Rattle.std.proofs.lemmas.List.{length-take, take-append-drop}
use Rattle.aeron_policyd.specs.Decided.{IsPage}
use Rattle.denial_notes.specs.Looks.{IsNew}

pub paged : {D : Type 0} (before kept came told : List D) (from count : ℕ)
    → IsNew before kept from came count → told ≡ take (min (length came) 256) came → IsPage before kept from told count
paged before kept came told from count new front =
    let many = min (length came) 256 in (
      new.0,
      drop many came,
      new.1 ∙ ap (λ rest. new.0 ++ rest) (sym (take-append-drop many came) ∙ ap (λ first. first ++ drop many came) (sym front)),
      new.2,
      omega (arith, ap length front, length-take many came),
    )
