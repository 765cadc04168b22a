use Rattle.std.proofs.Common.{◌≡◌, Some}
use Rattle.driver_core.specs.declared.state.outcome.Response.TheVariants.{Attached}
use Rattle.media_driver.proofs.AttachLemmas.{attaches}
use Rattle.media_driver.proofs.driver.Driver.client.Goals as goal

pub returns-in-Some-Attached-clause-done : goal.returns-in-Some-Attached-clause-done
returns-in-Some-Attached-clause-done g c =
    let some = c.in-Some-Attached.is in
    let inner = c.in-Some-Attached.field-0-is in
    let same = c.in-Some-Attached.number-is in
    let responded : c.response.result ≡ Some (Attached c.in-Some-Attached.number) = cc in
    attaches c.args.principal c.in-Some-Attached.number c.now-now.result c.args.self.now
    (record { out = c.self.inside.out; counted = c.self.inside.kept.ledger.counted.number; queue = c.self.inside.kept.queue; elicited = c.self.inside.kept.elicitations })
    c.ask-answered.new.queue c.admit.new.self c.ask-answered.result.question c.response.result c.ask-answered.result.receipt c.receipt.result.now
    c.admit.result c.self.view_is c.ask-answered.ensures.pushed c.admit.ensures.out c.ask-answered.ensures.question responded
    c.response.ensures.answer c.receipt.ensures.receipt c.admit.ensures.client.0 c.admit.ensures.learned
