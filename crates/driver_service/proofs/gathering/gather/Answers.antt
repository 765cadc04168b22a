use Rattle.std.proofs.Common.{arith, rules, ◌≡◌, ◌<◌, ◌∙◌, ◌*◌, ◌-◌, ◌++◌, false, true, length, min, sym, subst, ap}
use Rattle.driver_service.specs.Gathering.{Gathered, IsOver, all_polled}
use Rattle.driver_service.specs.Requests.{fragments}
use Rattle.driver_service.proofs.GatherLemmas.{all_appended, last_call, none_so_far, not_all, nothing_written, one_more_call}
use Rattle.driver_service.proofs.gathering.gather.Goals as goal

pub loop-count-init : goal.loop-count-init
loop-count-init g c = none_so_far g.S.Seat.does c.args.subscription c.args.source c.args.limit (length c.args.out.now.items) c.args.seat.now c.args.out.now.items

pub loop-count-preserved : goal.loop-count-preserved
loop-count-preserved g c =
    let w = c.poll-told.ensures in
    let going : c.goes_on.result ≡ true = search rules in
    let yes = c.goes_on.ensures.yes going in
    let long : c.len.result ≡ length c.poll-told.new.out.items = c.len.ensures ∙ c.poll-told.new.out.ok.0 in
    let short = subst (λ m. m < 65536) long yes.2 in
    let few : c.few-limit.result ≡ fragments c.args.limit = c.few-limit.ensures in
    let left_is : c.saturating_sub-left.result ≡ fragments c.args.limit - 16 * c.loop-count.count = omega (arith, few, c.saturating_sub-left.ensures) in
    one_more_call g.S.Seat.does c.args.subscription c.args.source c.args.limit c.args.seat.now c.loop-count.seat c.poll-told.new.self c.args.out.now.items c.loop-count.out.items c.poll-told.new.out.items w.bytes c.loop-count.count c.saturating_sub-left.result c.min-wants.result c.poll-told.result c.loop-count.invariant left_is c.min-wants.ensures w.appended w.holds.0 yes.0 yes.1 short

pub returns-then-not-goes_on-clause-gathered : goal.returns-then-not-goes_on-clause-gathered
returns-then-not-goes_on-clause-gathered g c =
    let w = c.poll-told.ensures in
    let so = c.loop-count.invariant in
    let over : c.goes_on.result ≡ false = search rules in
    let few : c.few-limit.result ≡ fragments c.args.limit = c.few-limit.ensures in
    let given_is : c.loop-count.count * 16 ≡ 16 * c.loop-count.count = omega arith in
    let left_is : c.saturating_sub-left.result ≡ fragments c.args.limit - 16 * c.loop-count.count = omega (arith, few, c.saturating_sub-left.ensures) in
    let long : c.len.result ≡ length c.poll-told.new.out.items = c.len.ensures ∙ c.poll-told.new.out.ok.0 in
    let gathered = last_call g.S.Seat.does c.args.subscription c.args.source c.args.limit c.args.seat.now c.loop-count.seat c.poll-told.new.self c.args.out.now.items c.loop-count.out.items c.poll-told.new.out.items w.bytes c.loop-count.count (c.loop-count.count * 16) c.saturating_sub-left.result c.min-wants.result c.poll-told.result so given_is left_is c.min-wants.ensures w.appended w.holds.0 (subst (λ m. IsOver c.saturating_sub-left.result m c.poll-told.result) long (c.goes_on.ensures.no over)) in
    record {
      bytes = all_polled so.before ++ w.bytes;
      appended = all_appended g.S.Seat.does c.args.subscription c.args.source c.args.limit (length c.args.out.now.items) c.args.seat.now c.loop-count.seat c.args.out.now.items c.loop-count.out.items c.poll-told.new.out.items w.bytes c.loop-count.count so w.appended;
      holds = subst (λ r. Gathered g.S.Seat.does c.args.subscription c.args.source c.args.limit (length c.args.out.now.items) c.args.seat.now c.poll-told.new.self (all_polled so.before ++ w.bytes) r) (sym c.add_last.ensures) gathered;
    }

pub returns-then-not-goes_on-clause-nothing : goal.returns-then-not-goes_on-clause-nothing
returns-then-not-goes_on-clause-nothing g c = λ none.
    let w = c.poll-told.ensures in
    let given_is : c.loop-count.count * 16 ≡ 16 * c.loop-count.count = omega arith in
    nothing_written g.S.Seat.does c.args.subscription c.args.source c.args.limit (length c.args.out.now.items) c.args.seat.now c.loop-count.seat c.args.out.now.items c.loop-count.out.items c.poll-told.new.out.items w.bytes c.loop-count.count (c.loop-count.count * 16) c.poll-told.result c.loop-count.invariant given_is w.appended w.holds.1 (sym c.add_last.ensures ∙ none)

pub unreachable-requires : goal.unreachable-requires
unreachable-requires g c =
    let so = c.loop-count.invariant in
    let all : c.loop-count.count ≡ 256 = omega (arith, c.loop-count-test.false, c.loop-count.auto.count-end) in
    not_all c.args.limit (length c.args.out.now.items) so.before so.goes_on (so.long ∙ all)
