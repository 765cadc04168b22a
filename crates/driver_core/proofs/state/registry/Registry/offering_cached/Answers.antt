use Rattle.std.proofs.Common.{rules, ◌≡◌, Some}
use Rattle.driver_core.specs.LogRequests.{registration_at}
use Rattle.driver_core.specs.Renewal.{source_at}
use Rattle.driver_core.proofs.CacheLemmas.{found_in, found_log}
use Rattle.driver_core.proofs.state.registry.Registry.offering_cached.Goals as goal

pub offer_verdict-requires-clause-registered : goal.offer_verdict-requires-clause-registered
offer_verdict-requires-clause-registered c =
    let rows = c.args.self.now.streams.registrations in
    let row = c.in_ok-registration.registration.now in
    let found : registration_at rows c.args.client c.args.registration ≡ Some row = search rules in
    (found_in _ rows row found).stands

pub offer_verdict-requires-clause-live : goal.offer_verdict-requires-clause-live
offer_verdict-requires-clause-live c =
    let logs = c.args.self.now.streams.sources in
    let log = c.in_ok-log.log.now in
    let source = c.in_ok-registration.registration.now.source in
    let found : source_at logs source ≡ Some log = search rules in
    (found_log logs source log found).0

pub offer_verdict-requires-clause-with : goal.offer_verdict-requires-clause-with
offer_verdict-requires-clause-with c =
    let logs = c.args.self.now.streams.sources in
    let log = c.in_ok-log.log.now in
    let source = c.in_ok-registration.registration.now.source in
    let found : source_at logs source ≡ Some log = search rules in
    (found_log logs source log found).1
