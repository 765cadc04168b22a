use Rattle.policy_tools.specs.WrittenPolicy.{words_of}
use Rattle.policy_tools.proofs.written_policy.words_of.Given as goal
use Rattle.std.proofs.Common.{◌≡◌, ◌++◌, drop}
use Rattle.toml.specs.View.{items_view}

-- the words so far, with those of the items that are left, are the words of all items
abbrev pub invariant-loop-value : goal.invariant-loop-value
invariant-loop-value l =
    l.words.items ++ words_of (items_view (drop l.value-index l.items.items)) ≡ words_of (items_view l.items.items)
