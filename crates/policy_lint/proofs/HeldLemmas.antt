-- The streams that rules hold, place by place.
use Rattle.std.proofs.Common.{◌≡◌, ℕ, ◌<◌, List, ℤ, ◌≤ℤ◌, ◌<ℤ◌, true, false, arith, get_or, length, ⊎_elim}
use Rattle.std.specs.Prelude.{int_le}
use Rattle.std.proofs.lemmas.Bool.{cases_Bool}
use Rattle.std.proofs.lemmas.Int.{ints}
use Rattle.std.proofs.lemmas.Option.{slice_get-get_or}
use Rattle.policy_core.specs.declared.act.Act.{Act}
use Rattle.policy_core.specs.declared.rule.Rule.{Rule}
use Rattle.policy_lint.specs.Held.{HeldAt}
use Rattle.policy_lint.specs.Hiding.{IsHeld}

at_least : (a b : ℤ) → int_le a b ≡ true → a ≤ℤ b
at_least a b h = grind (arith, ints)

below : (a b : ℤ) → int_le a b ≡ false → b <ℤ a
below a b h = grind (arith, ints)

listed : (rules : List Rule) (places : List ℕ) (act : Act) (stream : ℤ) (index : ℕ) → index < length places →
    HeldAt rules (get_or places index 0) act stream → IsHeld rules places act stream
listed rules places act stream index within held = record {
  index = index;
  place = get_or places index 0;
  rule = held.rule;
  listed = slice_get-get_or places index 0 within;
  stands = held.stands;
  held = held.held;
}

-- a stream below `from` is held by what is known, and one from there on by the next place
pub held_more : (rules : List Rule) (places : List ℕ) (act : Act) (stream from : ℤ) (index : ℕ) → index < length places →
    (stream <ℤ from → IsHeld rules places act stream) → (from ≤ℤ stream → HeldAt rules (get_or places index 0) act stream) →
    IsHeld rules places act stream
held_more rules places act stream from index within known next =
    ⊎_elim
    (λ more. listed rules places act stream index within (next (at_least from stream more)))
    (λ less. known (below from stream less))
    (cases_Bool (int_le from stream))
