use Rattle.std.proofs.Common.{◌≡◌}
use Rattle.std.specs.List.{list_any}
use Rattle.std.specs.Str.{bytes_eq}
use Rattle.policy_text.specs.Members.{all_keys}
use Rattle.toml.specs.View.{members_view, table_view}
use Rattle.policy_text.proofs.members.all_known.Given as goal

-- the keys that are left decide
abbrev pub invariant-loop-key : goal.invariant-loop-key
invariant-loop-key l =
    (goal.iterator-loop-key).can_next l.key-iterator × (goal.iterator-loop-key).is_finite l.key-iterator
    × (all_keys (λ key. list_any (λ word. bytes_eq key word.now) l.words) (members_view l.key-iterator)
    ≡ all_keys (λ key. list_any (λ word. bytes_eq key word.now) l.words) (table_view l.table))
