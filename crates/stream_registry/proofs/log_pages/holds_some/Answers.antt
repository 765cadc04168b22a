use Rattle.std.proofs.Common.{arith}
use Rattle.std.specs.Prelude.{nat_lt, ◌-◌}
use Rattle.std.proofs.lemmas.Bool.{ltb-true, ltb-false}
use Rattle.stream_registry.proofs.PageLemmas.{tells_some}
use Rattle.stream_registry.proofs.log_pages.holds_some.Goals as goal

pub returns-then-log-place : goal.returns-then-log-place
returns-then-log-place c =
    tells_some (nat_lt 0 c.log_pages-held.result) c.args.pages c.args.place c.args.log.now
    (λ h. let any = ltb-true 0 c.log_pages-held.result h in record {
      some = omega (arith, c.if-log-place.true);
      any = omega (arith, any, c.log_pages-held.ensures);
      front = omega (arith, any, c.log_pages-held.ensures, c.if-place-log.true);
      back = omega (arith, c.if-log-place.true, c.if-place-log.true);
    })
    (λ h m. let none = ltb-false 0 c.log_pages-held.result h in omega (arith, none, c.log_pages-held.ensures, m.any))

pub returns-else-log-place : goal.returns-else-log-place
returns-else-log-place c =
    tells_some (nat_lt (c.args.log.now.place - c.args.place) c.args.pages) c.args.pages c.args.place c.args.log.now
    (λ h. let below = ltb-true (c.args.log.now.place - c.args.place) c.args.pages h in absurd (omega (arith, below, c.if-log-place.false)))
    (λ h m. omega (arith, m.back, c.if-log-place.false, c.if-place-log.true))

pub returns-then-place-log-2 : goal.returns-then-place-log-2
returns-then-place-log-2 c =
    tells_some (nat_lt 0 c.args.pages) c.args.pages c.args.place c.args.log.now
    (λ h. let some = ltb-true 0 c.args.pages h in record {
      some = some;
      any = omega (arith, c.if-place-log-2.true, c.log_pages-held.ensures);
      front = omega (arith, c.if-place-log-2.true, c.log_pages-held.ensures, c.if-place-log.false);
      back = omega (arith, some, c.if-place-log.false);
    })
    (λ h m. let none = ltb-false 0 c.args.pages h in omega (arith, none, m.some))

pub returns-else-place-log-2 : goal.returns-else-place-log-2
returns-else-place-log-2 c =
    tells_some (nat_lt (c.args.place - c.args.log.now.place) c.log_pages-held.result) c.args.pages c.args.place c.args.log.now
    (λ h. let below = ltb-true (c.args.place - c.args.log.now.place) c.log_pages-held.result h in absurd (omega (arith, below, c.if-place-log-2.false)))
    (λ h m. omega (arith, m.front, c.if-place-log-2.false, c.log_pages-held.ensures, c.if-place-log.false))
