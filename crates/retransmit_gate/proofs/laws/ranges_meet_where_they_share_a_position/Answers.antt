-- The greater of the two starts is in both ranges, where any position is.
use Rattle.std.proofs.Common.{◌<◌, max, min, arith}
use Rattle.std.proofs.lemmas.Bool.Decides.{nat_tests}
use Rattle.retransmit_gate.proofs.laws.ranges_meet_where_they_share_a_position.Goals as goal

pub returns : goal.returns
returns c start end resent = (
  λ meet.
      let below : max start resent.start < min end resent.end = grind (arith, nat_tests) in
      (max start resent.start, omega arith, omega arith, omega arith, omega arith),
  λ shared.
      let below : max start resent.start < min end resent.end = omega (arith, shared.1, shared.2, shared.3, shared.4) in
      grind (arith, nat_tests),
)
