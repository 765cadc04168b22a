-- A frame more was read, or one is refused.
use Rattle.std.proofs.Common.{◌<◌, length, sym, ap, ◌∙◌, arith, rules}
use Rattle.std.proofs.lemmas.Bool.Decides.{nat_tests}
use Rattle.frame_codec.specs.Frame.{sent}
use Rattle.frame_codec.specs.Frames.{all_later}
use Rattle.frame_codec.specs.Steps.{fault_of}
use Rattle.frame_codec.proofs.FramesLemmas.{later_turn, later_refused}
use Rattle.frame_codec.proofs.frames.check_later.Goals as goal

pub returns-in_err-frame : goal.returns-in_err-frame
returns-in_err-frame c =
    let some : 0 < length c.loop-rest.rest.now = grind (arith, nat_tests, c.is_empty.ensures, c.loop-rest-test.true) in
    let refused = sym (later_refused c.loop-rest.before c.loop-rest.rest.now _ some c.in_err-frame.ensures.exact) ∙ c.loop-rest.invariant in
    search rules

pub loop-rest-preserved : goal.loop-rest-preserved
loop-rest-preserved c =
    let some : 0 < length c.loop-rest.rest.now = grind (arith, nat_tests, c.is_empty.ensures, c.loop-rest-test.true) in
    ap (λ bytes. fault_of (all_later c.in_ok-frame.frame.header bytes)) c.behind-rest.ensures
    ∙ later_turn c.loop-rest.before c.loop-rest.rest.now (sent c.in_ok-frame.frame) some c.in_ok-frame.ensures.exact
    ∙ c.loop-rest.invariant
