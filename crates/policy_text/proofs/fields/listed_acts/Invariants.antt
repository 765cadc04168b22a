use Rattle.std.proofs.Common.{◌≡◌, drop}
use Rattle.toml.specs.View.{items_view}
use Rattle.policy_core.specs.Acts.{no_act_held}
use Rattle.policy_text.specs.Fields.{acts_with}
use Rattle.policy_text.proofs.fields.listed_acts.Given as goal

-- with the items that are left, the acts so far make those of all items
abbrev pub invariant-loop-value : goal.invariant-loop-value
invariant-loop-value l =
    acts_with l.number l.acts (items_view (drop l.value-index l.items.items))
    ≡ acts_with l.number no_act_held (items_view l.items.items)
