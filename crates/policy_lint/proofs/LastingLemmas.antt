-- A rule that begins no later and ends no earlier than another one stands whenever that one does.
use Rattle.std.proofs.Common.{◌≡◌, ◌&&◌, ℕ, Bool, true, false, Option, Some, None, refl, arith}
use Rattle.std.proofs.lemmas.Bool.{and_from, and_parts, false≢true}
use Rattle.std.proofs.lemmas.Bool.Decides.{nat_tests}
use Rattle.std.specs.Prelude.{nat_le, nat_lt}
use Rattle.policy_core.specs.declared.rule.Rule.{Rule}
use Rattle.policy_core.specs.Moments.{has_begun, is_not_over, stands_at}
use Rattle.policy_lint.specs.Lasting.{begins_first, ends_last}

le_le : (a b c : ℕ) → nat_le a b ≡ true → nat_le b c ≡ true → nat_le a c ≡ true
le_le a b c first second = grind (arith, nat_tests)

lt_le : (a b c : ℕ) → nat_lt a b ≡ true → nat_le b c ≡ true → nat_lt a c ≡ true
lt_le a b c first second = grind (arith, nat_tests)

begun : (wide narrow : Option ℕ) (moment : ℕ) → begins_first wide narrow ≡ true → has_begun narrow moment ≡ true → has_begun wide moment ≡ true
begun None narrow moment first stands = refl
begun (Some from) None moment first stands = absurd (false≢true first)
begun (Some from) (Some other) moment first stands = le_le from other moment first stands

not_over : (wide narrow : Option ℕ) (moment : ℕ) → ends_last wide narrow ≡ true → is_not_over narrow moment ≡ true → is_not_over wide moment ≡ true
not_over None narrow moment last stands = refl
not_over (Some until) None moment last stands = absurd (false≢true last)
not_over (Some until) (Some other) moment last stands = lt_le moment other until stands last

pub lasts : (wide narrow : Rule) (both : Bool) → both ≡ (begins_first wide.from narrow.from && ends_last wide.until narrow.until) → both ≡ true →
    (moment : ℕ) → stands_at narrow moment ≡ true → stands_at wide moment ≡ true
lasts wide narrow both is holds moment stands =
    let found = and_parts (begins_first wide.from narrow.from) (ends_last wide.until narrow.until) (rw (← is) holds) in
    let parts = and_parts (has_begun narrow.from moment) (is_not_over narrow.until moment) stands in
    and_from _ _ (begun wide.from narrow.from moment found.0 parts.0) (not_over wide.until narrow.until moment found.1 parts.1)
