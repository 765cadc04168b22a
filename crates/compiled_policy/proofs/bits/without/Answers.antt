use Rattle.std.proofs.Common.{◌≡◌, ◌%◌, ◌*◌, ◌^◌, ℕ, ap, ⊎_elim, arith, w64}
use Rattle.std.proofs.lemmas.Bool.{cases_eq}
use Rattle.std.proofs.lemmas.Nat.{and_le_l}
use Rattle.std.proofs.lemmas.Nat.Bits.{bit_at_clear_other, bit_at_clear_same}
use Rattle.std.specs.Int.{bit_at, bit_not}
use Rattle.std.specs.Prelude.{bit_and}
use Rattle.compiled_policy.proofs.bits.without.Goals as goal

pub returns-clause-less : goal.returns-clause-less
returns-clause-less c =
    let word : ℕ = c.args.word in
    let left : ℕ = bit_and word (bit_not w64 (1 * 2 ^ c.args.bit % 2 ^ 64)) in
    let gone : bit_at left c.args.bit ≡ 0 = bit_at_clear_same w64 word c.args.bit c.requires.small in
    ⊎_elim
    (λ same. absurd (let both : bit_at left c.args.bit ≡ bit_at word c.args.bit = ap (λ x. bit_at x c.args.bit) same in omega (arith, both, gone, c.requires.set)))
    (λ other. omega (arith, and_le_l word (bit_not w64 (1 * 2 ^ c.args.bit % 2 ^ 64))))
    (cases_eq left word)

pub returns-clause-gone : goal.returns-clause-gone
returns-clause-gone c = bit_at_clear_same w64 c.args.word c.args.bit c.requires.small

pub returns-clause-others : goal.returns-clause-others
returns-clause-others c = λ other small apart. bit_at_clear_other w64 c.args.word c.args.bit c.requires.small other small apart
