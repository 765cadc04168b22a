use Rattle.std.proofs.Common.{◌≡◌, drop, is_some}
use Rattle.policy_text.specs.Members.{all_items}
use Rattle.toml.specs.Data.{as_str}
use Rattle.toml.specs.View.{items_view}
use Rattle.policy_text.proofs.members.all_texts.Given as goal

-- the items that are left decide
abbrev pub invariant-loop-value : goal.invariant-loop-value
invariant-loop-value l =
    all_items (λ value. is_some (as_str value)) (items_view (drop l.value-index l.items.items))
    ≡ all_items (λ value. is_some (as_str value)) (items_view l.items.items)
