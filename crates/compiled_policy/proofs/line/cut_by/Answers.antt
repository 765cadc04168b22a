use Rattle.std.proofs.Common.{ℕ, length, refl, subst, arith}
use Rattle.std.proofs.lemmas.Option.{slice_get_read}
use Rattle.compiled_policy.specs.Line.{Starts}
use Rattle.compiled_policy.proofs.LineLemmas.{starts_more}
use Rattle.compiled_policy.proofs.line.cut_by.Goals as goal

pub loop-place-preserved : goal.loop-place-preserved
loop-place-preserved c =
    let rules = c.args.rules.now in
    let place = c.loop-place.place in
    let rule = c.index-rules-place.result in
    let first = c.cut-in-loop-place.ensures in
    let second = c.cut-in-loop-place-2.ensures in
    let new = c.cut-in-loop-place-2.new.starts.items in
    let stands = slice_get_read rules (length rules) place rule refl (omega (arith, c.loop-place-test.true)) c.index-rules-place.is in
    let low = subst (λ (n : ℕ). Starts new n) c.start_of.ensures (second.kept c.start_of.result first.here) in
    let high = subst (λ (n : ℕ). Starts new n) c.end_of.ensures second.here in (
      starts_more rules place c.loop-place.starts.items new rule c.loop-place.invariant.0 stands second.ascend
          (let a = first.few in let b = second.few in omega arith) (λ other was. second.kept other (first.kept other was)) low high,
      omega (arith, c.loop-place.invariant.1, first.room, second.room),
    )
