use Rattle.std.proofs.Common.{subst}
use Rattle.std.specs.Int.{w32}
use Rattle.std.specs.Prelude.{FitsSigned}
use Rattle.term_log.specs.declared.ident.Ident.{Ident}
use Rattle.term_log.specs.Layout.{HasLayout}
use Rattle.term_log.specs.Log.{Log}
use Rattle.term_log.proofs.Layouts.{has_layout}
use Rattle.term_log.proofs.term_log.TermLog.holds.Goals as goal

pub returns : goal.returns
returns c =
    let l : Log = record { kept = c.self.inside.appender; pairs = c.self.inside.pairs; sender = c.self.inside.sender } in
    let session = subst (λ (i : Ident). FitsSigned w32 i.session) c.ident.ensures.value c.is_of_32_bits.ensures.session in
    let stream = subst (λ (i : Ident). FitsSigned w32 i.stream) c.ident.ensures.value c.is_of_32_bits.ensures.stream in
    subst HasLayout c.self.view_is (has_layout l c.self.invariant session stream)
