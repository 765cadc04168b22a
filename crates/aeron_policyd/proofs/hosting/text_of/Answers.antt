use Rattle.std.proofs.Common.{refl}
use Rattle.std.proofs.lemmas.Str.{is_utf8-from_IsUtf8}
use Rattle.policy_query.specs.Document.{text_in}
use Rattle.policy_query.proofs.DecidingLemmas.{is_utf8-not}
use Rattle.aeron_policyd.proofs.hosting.text_of.Goals as goal

pub returns-in-Ok : goal.returns-in-Ok
unfolding text_in
returns-in-Ok c =
    rw (is_utf8-from_IsUtf8 c.args.bytes.now c.in-Ok.ensures.cases.1, c.in-Ok.ensures.cases.0) refl

pub returns-in-Err : goal.returns-in-Err
unfolding text_in
returns-in-Err c = rw (is_utf8-not c.args.bytes.now c.in-Err.ensures.cases.0) refl
