use Rattle.std.proofs.Common.{◌<◌, arith, length, refl}
use Rattle.std.proofs.lemmas.Int.{ints}
use Rattle.std.proofs.lemmas.Option.{slice_get_read}
use Rattle.policy_lint.proofs.hiding.next_left_at.Goals as goal

pub returns-then-place-len : goal.returns-then-place-len
returns-then-place-len c = λ stream low high. absurd (omega (arith, ints))

pub returns : goal.returns
returns c = λ stream low high.
    let within : c.args.place < length c.args.rules.now = omega arith in
    record {
      rule = c.index-rules-place.result;
      stands = slice_get_read c.args.rules.now (length c.args.rules.now) c.args.place c.index-rules-place.result refl within c.index-rules-place.is;
      held = c.next_left.ensures stream (omega (arith, ints)) (omega (arith, ints));
    }
