use Rattle.std.proofs.Common.{◌≡◌, ◌+◌, drop, length}
use Rattle.toml.specs.View.{items_view}
use Rattle.policy_text.specs.Document.{rules_from}
use Rattle.policy_text.proofs.RulesLemmas.{after_rules}
use Rattle.policy_text.proofs.document.rules_from.Given as goal

-- the rules so far, with those of the items that are left, are the rules of all items
abbrev pub invariant-loop-value : goal.invariant-loop-value
invariant-loop-value l = record {
  so_far :
      after_rules l.rules.items (rules_from l.names l.version l.number (items_view (drop l.value-index l.items.items)))
      ≡ rules_from l.names l.version 1 (items_view l.items.items);
  number_is : l.number ≡ l.value-index + 1;
  count : length l.rules.items ≡ l.value-index;
}
